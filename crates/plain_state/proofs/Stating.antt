-- The state after each of the code's steps. Assumes nothing.
use Rattle.std.specs.Prelude.{if◌then◌else◌}
use mathlib.Core.Path.{◌≡◌, refl, sym, ap, ◌∙◌, subst}
use mathlib.Core.Bool.{Bool, true, false, ◌||◌}
use mathlib.Core.List.{List, [], ◌∷◌, ◌++◌, map}
use lib.Dec.{ltb}
use Rattle.columns.specs.Common.{keep, All}
use Rattle.columns.proofs.Keep.{all_keep}
use Rattle.columns.proofs.Tests.{never}
use Prim.Native.Nat.{ℕ}
use lib.ListN.{length, take, set, length-set, length-map}
use Rattle.context.specs.declared.Context.{Context}
use Rattle.entries.specs.declared.Entry.{Entry}
use Rattle.entries.specs.declared.Timer.{Timer}
use Rattle.entries.specs.Order.{before, entry_before, sooner}
use Rattle.entries.specs.Queue.{without_superseded}
use Rattle.percpu.specs.With.{cpu_timers}
use Rattle.model.specs.State as model
use Rattle.model.specs.State.{put_context, too_many}
use Rattle.plain_model.specs.Rank.{other_key, leave_out, put_in}
use Rattle.plain_model.specs.State.{insert_timer, insert_newest_timer}
use Rattle.plain_lists.specs.Lists.{Queue}
use Rattle.plain_lists.specs.Lists.{entries_of, Stands}
use Rattle.plain_lists.proofs.Arrays.{take_set}
use Rattle.plain_state.specs.declared.State.{State}
use Rattle.plain_state.specs.States.{timer_of, stands_beside, cpu_in, state_in, timers_put, Sound, Became, Tracks}

module _ (n : ℕ) (s : State) (o : Sound n s) where
  pub context_put : (x : ℕ) (q : Context) → Became n (record { contexts = set s.contexts x q; cpu = s.cpu; no_room = s.no_room }) (put_context x q (state_in n s))
  context_put x q =
      record {
        sound = record {
          few = o.few;
          contexts = length-set s.contexts x q ∙ o.contexts;
          queue = o.queue;
          timers = o.timers;
          local = o.local;
          ipi = o.ipi;
          flat = o.flat;
        };
        is = rw (take_set s.contexts n x q);
      }
  -- another queue
  -- the queue by the list that it stands for

or_true : (a b : Bool) → b ≡ true → (a || b) ≡ true
or_true true b e = refl
or_true false b e = e

-- an insertion that leaves too many
pub full : (n : ℕ) (a b : Bool) {r : State} (S : model.State) → Sound n r × (r.no_room ≡ true) → b ≡ true → S.no_room ≡ (a || b) → Tracks n r S
full n a b {r} S o e h =
    let m : S.no_room ≡ true = h ∙ or_true a b e in
    record { sound = o.0; room = o.1 ∙ sym m; is = λ z. never (sym m ∙ z) }

-- a timer's order is that of its entry
module _ where
  pub sooner_is : (a b : Entry) → a.key.rem_slice ≡ 0 → b.key.rem_slice ≡ 0 → entry_before a b ≡ sooner (timer_of a) (timer_of b)
  unfolding before sooner
  sooner_is a b p q = rw (p, q)

  keep_timers : (e : Entry) (l : List Entry) → e.key.rem_slice ≡ 0 → All (λ (f : Entry). f.key.rem_slice ≡ 0) l
      → map timer_of (keep (other_key entry_before e) l) ≡ keep (other_key sooner (timer_of e)) (map timer_of l)
  keep_timers e [] p a = refl
  keep_timers e (f ∷ l) p a =
      rw (sooner_is e f p a.0, sooner_is f e a.0 p)
      (go (other_key sooner (timer_of e) (timer_of f)) (keep (other_key entry_before e) l) (keep (other_key sooner (timer_of e)) (map timer_of l)) (keep_timers e l p a.1))
    where
      go : (b : Bool) (x : List Entry) (y : List Timer) → map timer_of x ≡ y → map timer_of (if b then f ∷ x else x) ≡ (if b then timer_of f ∷ y else y)
      go true x y h = ap (λ (z : List Timer). timer_of f ∷ z) h
      go false x y h = h

  pub put_in_timers : (e : Entry) (l : List Entry) → e.key.rem_slice ≡ 0 → All (λ (f : Entry). f.key.rem_slice ≡ 0) l
      → map timer_of (put_in entry_before e l) ≡ put_in sooner (timer_of e) (map timer_of l)
  unfolding put_in leave_out
  put_in_timers e l p a = map_behind (keep (other_key entry_before e) l) ∙ ap (λ (z : List Timer). z ++ (timer_of e ∷ [])) (keep_timers e l p a)
    where
      map_behind : (x : List Entry) → map timer_of (x ++ (e ∷ [])) ≡ map timer_of x ++ (timer_of e ∷ [])
      map_behind [] = refl
      map_behind (f ∷ x) = ap (λ (z : List Timer). timer_of f ∷ z) (map_behind x)

  pub put_in_flat : (e : Entry) (l : List Entry) → e.key.rem_slice ≡ 0 → All (λ (f : Entry). f.key.rem_slice ≡ 0) l → All (λ (f : Entry). f.key.rem_slice ≡ 0) (put_in entry_before e l)
  unfolding put_in leave_out
  put_in_flat e l p a = go (keep (other_key entry_before e) l) (all_keep (other_key entry_before e) (λ (f : Entry). f.key.rem_slice ≡ 0) l a)
    where
      go : (x : List Entry) → All (λ (f : Entry). f.key.rem_slice ≡ 0) x → All (λ (f : Entry). f.key.rem_slice ≡ 0) (x ++ (e ∷ []))
      go [] h = (p, tt)
      go (f ∷ x) h = (h.0, go x h.1)

module _ (n : ℕ) (s : State) (o : Sound n s) where
  abbrev ts : List Entry
  ts = entries_of s.cpu.timers

  -- as many timers as entries
  many_is : (e : Entry) (t : Timer) → timer_of e ≡ t → e.key.rem_slice ≡ 0 → too_many (put_in entry_before e ts) ≡ too_many (put_in sooner t (map timer_of ts))
  many_is e t k p =
      ap (λ (m : ℕ). ltb 64 m) (sym (length-map (put_in entry_before e ts) timer_of) ∙ ap length (put_in_timers e ts p o.flat ∙ ap (λ (z : Timer). put_in sooner z (map timer_of ts)) k))

  pub timer_full : (e : Entry) (t : Timer) {r : State} → timer_of e ≡ t → e.key.rem_slice ≡ 0 → true ≡ too_many (put_in entry_before e ts)
      → Sound n r × (r.no_room ≡ true) → Tracks n r (insert_timer t (state_in n s))
  timer_full e t {r} k p f b =
      full n s.no_room (too_many (put_in sooner t (map timer_of ts))) (insert_timer t (state_in n s)) b (sym (many_is e t k p) ∙ sym f) refl

  pub timer_put : (e : Entry) (t : Timer) {q : Queue} {r : State} → timer_of e ≡ t → e.key.rem_slice ≡ 0 → false ≡ too_many (put_in entry_before e ts)
      → Stands q (put_in entry_before e ts) → Became n r (timers_put (map timer_of (entries_of q)) false (state_in n s)) → Tracks n r (insert_timer t (state_in n s))
  timer_put e t {q} {r} k p f u b =
      let m : too_many (put_in sooner t (map timer_of ts)) ≡ false = sym (many_is e t k p) ∙ sym f in
      let l : map timer_of (entries_of q) ≡ put_in sooner t (map timer_of ts) = ap (map timer_of) u.is ∙ put_in_timers e ts p o.flat ∙ ap (λ (z : Timer). put_in sooner z (map timer_of ts)) k in
      let w : state_in n r ≡ insert_timer t (state_in n s) = b.is ∙ (let z : false ≡ too_many (put_in sooner t (map timer_of ts)) = sym m in λ i. timers_put (l i) (z i) (state_in n s)) in
      record { sound = b.sound; room = ap (λ (z : model.State). z.no_room) w; is = λ z. w }
  -- the local list

pub still_flat : (n : ℕ) (s : State) → Sound n s → (e : Entry) {q : Queue} → e.key.rem_slice ≡ 0 → Stands q (put_in entry_before e (entries_of s.cpu.timers))
    → All (λ (f : Entry). f.key.rem_slice ≡ 0) (entries_of q)
still_flat n s o e p t = subst (λ (l : List Entry). All (λ (f : Entry). f.key.rem_slice ≡ 0) l) (sym t.is) (put_in_flat e (entries_of s.cpu.timers) p o.flat)

-- the newest timer of its context
beside_is : (t : Timer) (l : List Entry) → map timer_of (keep (stands_beside t) l) ≡ without_superseded t (map timer_of l)
beside_is t [] = refl
beside_is t (e ∷ l) = go (stands_beside t e) (keep (stands_beside t) l) (without_superseded t (map timer_of l)) (beside_is t l)
  where
    go : (b : Bool) (x : List Entry) (y : List Timer) → map timer_of x ≡ y → map timer_of (if b then e ∷ x else x) ≡ (if b then timer_of e ∷ y else y)
    go true x y h = ap (λ (z : List Timer). timer_of e ∷ z) h
    go false x y h = h

module _ (n : ℕ) (s : State) (o : Sound n s) (t : Timer) {q : Queue} (k : Stands q (keep (stands_beside t) (entries_of s.cpu.timers))) where
  pub beside_flat : All (λ (f : Entry). f.key.rem_slice ≡ 0) (entries_of q)
  beside_flat =
      subst (λ (l : List Entry). All (λ (f : Entry). f.key.rem_slice ≡ 0) l) (sym k.is)
      (all_keep (stands_beside t) (λ (f : Entry). f.key.rem_slice ≡ 0) (entries_of s.cpu.timers) o.flat)

  pub newest : {u r : State} → Became n u (timers_put (map timer_of (entries_of q)) false (state_in n s)) → Tracks n r (insert_timer t (state_in n u)) → Tracks n r (insert_newest_timer t (state_in n s))
  newest {u} {r} b w =
      subst (λ (z : model.State). Tracks n r (insert_timer t z))
      (b.is
      ∙ ap (λ (l : List Timer). timers_put l false (state_in n s)) (ap (map timer_of) k.is ∙ beside_is t (entries_of s.cpu.timers))
      ∙ (λ i.
      record {
        contexts = take n s.contexts;
        cpu = cpu_timers (without_superseded t (map timer_of (entries_of s.cpu.timers))) (cpu_in s.cpu);
        no_room = or_none s.no_room i;
      }))
      w
    where
      or_none : (a : Bool) → (a || false) ≡ a
      or_none true = refl
      or_none false = refl

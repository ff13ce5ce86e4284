-- Going through a list of wake-ups, one after the other: at most a weight is added each time. Assumes nothing.
use mathlib.Core.Path.{◌≡◌, refl, sym, ap, ◌∙◌, subst}
use mathlib.Core.Bool.{false}
use mathlib.Core.List.{List, [], ◌∷◌, map}
use Prim.Native.Nat.{ℕ, zero, suc, ◌+◌, ◌*◌, ◌<◌, ◌≤◌}
use native.Mathlib.Numerals.{add-one}
use native.Mathlib.Omega.{arith}
use lib.ListN.{length, get_or, take, length-map}
use lib.Seq.{take-suc, take_all}
use Rattle.columns.specs.Common.{fold, All}
use Rattle.numbers.specs.Limits.{max_number}
use Rattle.weights.specs.Weights.{max_weight}
use Rattle.entries.specs.declared.Entry.{Entry}
use Rattle.entries.specs.declared.Timer.{Timer}
use Rattle.entries.specs.Order.{entry_before, sooner}
use Rattle.entries.proofs.Ordered.{timers_ordered}
use Rattle.model.specs.State as model
use Rattle.model.specs.Wakeup.{local_wakeup}
use Rattle.model.proofs.Cases.{by_test, never}
use Rattle.stages.specs.Bounds.{b_waking}
use Rattle.stages.proofs.Fitting.{of_all}
use Rattle.wakeup.proofs.Pacing.{slow_more}
use Rattle.plain_model.specs.Rank.{by_rank}
use Rattle.plain_lists.specs.Lists.{Queue}
use Rattle.plain_lists.specs.Lists.{entries_of, Stands}
use Rattle.plain_lists.proofs.Folds.{fold_behind}
use Rattle.plain_lists.proofs.Listing.{length_items}
use Rattle.plain_state.specs.declared.State.{State}
use Rattle.plain_state.specs.States.{timer_of, state_in, Sound, Tracks}
use Rattle.plain_state.specs.Fits.{StateFits}
use Rattle.plain_state.proofs.Fitting.{all_placed}
use Rattle.plain_state.proofs.Tracking.{Stays, tracks_then}
use Rattle.plain_wakeup.specs.Wakeups.{b_timers, timer_step, name_step, Wakeable, Served}
use Rattle.plain_wakeup.proofs.Turns.{by_rank_timers}
use Rattle.plain_wakeup.proofs.Serving.{same_tracks}
use Rattle.plain_wakeup.proofs.Ready.{serve_stays, timer_stays, serve_ready, timer_ready}

pub ready_more : {n b : ℕ} (c : ℕ) {S : model.State} → b ≤ c → Wakeable n b S → Wakeable n c S
ready_more c h a = record { fits = a.fits; slow = slow_more c h a.slow }

-- f: a step, of items that are such; b bounds the total weight before them
module _ {A : Type 0} (n : ℕ) (f : model.State → A → model.State) (P : A → Type 0) where
  pub record Going (b : ℕ) (start : model.State) (l : List A) (s : State) (i : ℕ) : Type 0 where
    pub most : i ≤ length l
    pub few : length l ≤ 64
    pub such : All P l
    pub tracks : Tracks n s (fold f start (take i l))
    pub ready : s.no_room ≡ false → Wakeable n (b + max_weight * i) (state_in n s)

  pub going_start : {b : ℕ} (l : List A) (s : State) → length l ≤ 64 → All P l → Sound n s → (s.no_room ≡ false → Wakeable n b (state_in n s)) → Going b (state_in n s) l s 0
  going_start {b} l s h a o r = record { most = omega arith; few = h; such = a; tracks = same_tracks o refl; ready = λ z. ready_more (b + max_weight * 0) (omega arith) (r z) }

  module _ {b : ℕ} {start : model.State} {l : List A} {s : State} {i : ℕ} (g : Going b start l s i) where
    pub going_ready : (c : ℕ) → b + max_weight * 64 ≤ c → s.no_room ≡ false → Wakeable n c (state_in n s)
    going_ready c h z =
        let m : i ≤ length l = g.most in
        let k : length l ≤ 64 = g.few in
        ready_more c (omega arith) (g.ready z)

    module _ (h : i < length l) (x d : A) (e : get_or l i d ≡ x) (stay : Stays (λ (S : model.State). f S x))
        (keeps : (w : ℕ) (S : model.State) → Wakeable n w S → Wakeable n (w + max_weight) (f S x)) where
      pub going_next : {r : State} → Tracks n r (f (state_in n s) x) → Going b start l r (i + 1)
      going_next {r} t =
          record {
            most = omega arith;
            few = g.few;
            such = g.such;
            tracks = rw (add-one i, take-suc l i d h, e, fold_behind f start (take i l) x) (tracks_then (λ (S : model.State). f S x) stay g.tracks t);
            ready = λ z.
                by_test s.no_room (λ y. never (t.room ∙ stay (state_in n s) y) z)
                (λ y.
                let u : Wakeable n (b + max_weight * i + max_weight) (f (state_in n s) x) = keeps (b + max_weight * i) (state_in n s) (g.ready y) in
                subst (Wakeable n (b + max_weight * (i + 1))) (sym (t.is (sym t.room ∙ z))) (ready_more (b + max_weight * (i + 1)) (omega arith) u));
          }

    pub going_end : length l ≤ i → Served n (b + max_weight * 64) s (fold f start l)
    going_end h = record { tracks = subst (λ (z : List A). Tracks n s (fold f start z)) (take_all i l h) g.tracks; ready = λ z. going_ready (b + max_weight * 64) (omega arith) z }

-- the timers in their turns
map_at : (l : List Entry) (i : ℕ) (d : Entry) → get_or (map timer_of l) i (timer_of d) ≡ timer_of (get_or l i d)
map_at [] i d = refl
map_at (x ∷ l) zero d = refl
map_at (x ∷ l) (suc i) d = map_at l i d

abbrev Named : ℕ → Timer → Type 0
Named n t = t.context_ref < n

-- xs: the entries in their turns; s: the state after the first i of them
module _ (n time : ℕ) (before : State) (xs : List Entry) where
  pub record Timers (start s : State) (i : ℕ) : Type 0 where
    pub going : Going n (timer_step (state_in n before) time) (Named n) max_number (state_in n start) (map timer_of xs) s i

  as_many : length (map timer_of xs) ≡ length xs
  as_many = length-map xs timer_of

  module _ (turns : Queue) (o : Sound n before) (t : Stands turns (by_rank entry_before (entries_of before.cpu.timers))) (e : xs ≡ entries_of turns) where
    turns_are : map timer_of xs ≡ by_rank sooner (state_in n before).cpu.timers
    turns_are = ap (map timer_of) (e ∙ t.is) ∙ by_rank_timers (entries_of before.cpu.timers) o.flat

    pub timers_start : (s : State) → Sound n s → StateFits n (state_in n before) → (s.no_room ≡ false → Wakeable n max_number (state_in n s)) → Timers s s 0
    timers_start s p f r =
        let u : turns.len ≤ 64 = t.sized.used in
        let l : length xs ≡ turns.len = ap length e ∙ length_items turns t.sized in
        record {
          going = going_start n (timer_step (state_in n before) time) (Named n) (map timer_of xs) s (rw as_many (omega arith))
              (subst (λ (l : List Timer). All (Named n) l) (sym turns_are) (all_placed (Named n) timers_ordered (state_in n before).cpu.timers f.cpu.timers)) p r;
        }

    pub timers_end : {start s : State} {i : ℕ} → Timers start s i → length xs ≤ i
        → Served n b_timers s (fold (timer_step (state_in n before) time) (state_in n start) (by_rank sooner (state_in n before).cpu.timers))
    timers_end {start} {s} {i} g h =
        subst (λ (l : List Timer). Served n b_timers s (fold (timer_step (state_in n before) time) (state_in n start) l)) turns_are
        (going_end n (timer_step (state_in n before) time) (Named n) g.going (rw as_many h))

  module _ {start s : State} {i : ℕ} (g : Timers start s i) where
    pub timer_asks : s.no_room ≡ false → Wakeable n b_waking (state_in n s)
    timer_asks z = going_ready n (timer_step (state_in n before) time) (Named n) g.going b_waking (omega arith) z

    module _ (h : i < length xs) (d : Entry) where
      inside : i < length (map timer_of xs)
      inside = rw as_many h

      pub timer_named : (get_or xs i d).key.ctxt_id < n
      timer_named = subst (Named n) (map_at xs i d) (of_all (Named n) (timer_of d) (map timer_of xs) g.going.such i inside)

      pub timers_next : {t : Timer} {r : State} → t ≡ timer_of (get_or xs i d) → Tracks n r (timer_step (state_in n before) time (state_in n s) t) → Timers start r (i + 1)
      timers_next {t} {r} e k =
          let x : Timer = timer_of (get_or xs i d) in
          record {
            going = going_next n (timer_step (state_in n before) time) (Named n) g.going inside x (timer_of d) (map_at xs i d) (timer_stays (state_in n before) time x)
                (λ w S a. timer_ready S a (state_in n before) time x timer_named) (rw e at k);
          }

-- xs: the names of the local list
module _ (n : ℕ) (xs : List ℕ) where
  pub record Locals (start s : State) (i : ℕ) : Type 0 where
    pub going : Going n name_step (λ (x : ℕ). x < n) b_timers (state_in n start) xs s i

  module _ {start s : State} {i : ℕ} (g : Locals start s i) where
    pub names_end : length xs ≤ i → Served n b_waking s (fold name_step (state_in n start) xs)
    names_end h =
        let z : Served n (b_timers + max_weight * 64) s (fold name_step (state_in n start) xs) = going_end n name_step (λ (x : ℕ). x < n) g.going h in
        record { tracks = z.tracks; ready = λ y. ready_more b_waking (omega arith) (z.ready y) }

    module _ (h : i < length xs) (d : ℕ) where
      pub name_below : get_or xs i d < n
      name_below = of_all (λ (x : ℕ). x < n) d xs g.going.such i h

      pub names_next : {r : State} → Tracks n r (name_step (state_in n s) (get_or xs i d)) → Locals start r (i + 1)
      names_next {r} t =
          record {
            going = going_next n name_step (λ (x : ℕ). x < n) g.going h (get_or xs i d) d refl (serve_stays (local_wakeup (get_or xs i d)))
                (λ w S a. serve_ready S a (local_wakeup (get_or xs i d)) name_below) t;
          }

-- The candidates gathered, entry by entry; and what a victim is judged by. Assumes nothing.
use Rattle.std.specs.Prelude.{if◌then◌else◌, Option}
use mathlib.Core.Path.{◌≡◌, refl, sym, ap, ◌∙◌, subst}
use mathlib.Core.Bool.{Bool, true, false, not, ◌&&◌}
use mathlib.Core.List.{List, [], ◌∷◌, ◌++◌}
use Prim.Native.Nat.{ℕ, ◌+◌, ◌-◌, ◌/◌, ◌<◌, ◌≤◌, min, max}
use native.Mathlib.Omega.{arith}
use lib.Dec.{leb, ltb}
use lib.ListN.{length, take, length-append}
use lib.Seq.{take_all}
use borrow.Author.Tests.{ltb-true}
use Rattle.columns.specs.Common.{fold, All}
use Rattle.context.specs.declared.Context.{Context}
use Rattle.entries.specs.declared.Entry.{Entry}
use Rattle.entries.specs.Order.{entry_before}
use Rattle.entries.proofs.Ordered.{entries_ordered}
use Rattle.machine.specs.Machine.{context_at}
use Rattle.machine.specs.Shape.{EntryFits}
use Rattle.model.specs.Steal.{my_load, can_steal_from, want, max_steal}
use Rattle.model.proofs.Cases.{by_test, pick}
use Rattle.steal_judge.specs.Judged.{has_enough}
use Rattle.plain_model.specs.Rank.{by_rank}
use Rattle.plain_model.specs.Steal.{can_be_stolen, take_candidate, candidates}
use Rattle.plain_lists.specs.Lists.{Queue}
use Rattle.plain_lists.specs.Lists.{entries_of, Sized, Stands}
use Rattle.plain_lists.proofs.Listing.{length_items}
use Rattle.plain_state.specs.declared.Cpu.{Cpu}
use Rattle.plain_state.specs.declared.State.{State}
use Rattle.plain_state.specs.States.{cpu_in, state_in, Sound}
use Rattle.plain_state.proofs.Fitting.{all_behind, all_placed}
use Rattle.plain_candidates.specs.Stolen.{stolen_record}
use Rattle.plain_candidates.proofs.Judging.{stolen_is}

-- one entry
pub candidate_taken : (k : ℕ) (locked : List ℕ) (cs : List Context) (w : Option ℕ) (wanted : ℕ) (got : Queue) (e : Entry) {x : ℕ} {q : Context} {b d : Bool} {r : Queue} → Sized got → x ≡ e.context_ref
    → q ≡ context_at cs x → b ≡ stolen_record k locked w (entries_of got) x q → d ≡ (ltb got.len wanted && b)
    → Stands r (if d then entries_of got ++ (e ∷ []) else entries_of got) → Stands r (take_candidate k locked cs w wanted (entries_of got) e)
candidate_taken k locked cs w wanted got e {x} {q} {b} {d} {r} s hx hq hb hd t =
    let y : b ≡ can_be_stolen k locked cs w (entries_of got) e
    = hb ∙ ap (stolen_record k locked w (entries_of got) x) (hq ∙ ap (context_at cs) hx) ∙ ap (λ (z : ℕ). stolen_record k locked w (entries_of got) z (context_at cs e.context_ref)) hx
    ∙ stolen_is k locked cs w (entries_of got) e
    in let z : d ≡ (ltb (length (entries_of got)) wanted && can_be_stolen k locked cs w (entries_of got) e)
    = hd ∙ ap (λ (a : Bool). ltb got.len wanted && a) y ∙ ap (λ (a : ℕ). ltb a wanted && can_be_stolen k locked cs w (entries_of got) e) (sym (length_items got s))
    in subst (λ (a : Bool). Stands r (if a then entries_of got ++ (e ∷ []) else entries_of got)) z t

-- all entries, in their turns
module _ (k : ℕ) (locked : List ℕ) (cs : List Context) (w : Option ℕ) (wanted : ℕ) where
  -- xs: the entries in their turns; got: those taken of the first i
  pub record Gathering (n : ℕ) (xs : List Entry) (got : Queue) (i : ℕ) : Type 0 where
    pub fit : All (EntryFits n) xs
    pub many : length xs ≤ 64
    pub few : got.len ≤ i
    pub stands : Stands got (fold (take_candidate k locked cs w wanted) [] (take i xs))

  pub gathering : (n : ℕ) (q turns got : Queue) (xs : List Entry) → All (EntryFits n) (entries_of q) → Stands turns (by_rank entry_before (entries_of q)) → xs ≡ entries_of turns → Stands got [] → got.len ≡ 0 → Gathering n xs got 0
  gathering n q turns got xs a t same g e =
      let u : turns.len ≤ 64 = t.sized.used in
      let l : length xs ≡ turns.len = ap length same ∙ length_items turns t.sized in
      record {
        fit = subst (All (EntryFits n)) (sym (same ∙ t.is)) (all_placed (EntryFits n) entries_ordered (entries_of q) a);
        many = omega arith;
        few = omega arith;
        stands = g;
      }

  pub gathered : (n : ℕ) (q turns got : Queue) (xs : List Entry) (i : ℕ) → Gathering n xs got i → length xs ≤ i → Stands turns (by_rank entry_before (entries_of q)) → xs ≡ entries_of turns
      → Stands got (candidates k locked cs w wanted (entries_of q))
  unfolding candidates
  gathered n q turns got xs i c h t same =
      record { sized = c.stands.sized; is = c.stands.is ∙ ap (fold (take_candidate k locked cs w wanted) []) (take_all i xs h ∙ same ∙ t.is) }

  -- no more than are wanted, all of them entries of the queue
  step_few : (got : List Entry) (e : Entry) → length got ≤ wanted → length (take_candidate k locked cs w wanted got e) ≤ wanted
  step_few got e h =
      by_test (ltb (length got) wanted) (λ t. let l : length got < wanted = ltb-true (length got) wanted t in by_test (can_be_stolen k locked cs w got e) (λ u. rw (t, u, length-append got (e ∷ [])) (omega arith)) (λ u. rw (t, u) h))
      (λ t. rw t h)

  fold_few : (got q : List Entry) → length got ≤ wanted → length (fold (take_candidate k locked cs w wanted) got q) ≤ wanted
  fold_few got [] h = h
  fold_few got (e ∷ q) h = fold_few (take_candidate k locked cs w wanted got e) q (step_few got e h)

  pub candidates_few : (q : List Entry) → length (candidates k locked cs w wanted q) ≤ wanted
  unfolding candidates
  candidates_few q = fold_few [] (by_rank entry_before q) (omega arith)

  module _ (P : Entry → Type 0) where
    fold_each : (got q : List Entry) → All P got → All P q → All P (fold (take_candidate k locked cs w wanted) got q)
    fold_each got [] h a = h
    fold_each got (e ∷ q) h a =
        fold_each (take_candidate k locked cs w wanted got e) q (pick (All P) (ltb (length got) wanted && can_be_stolen k locked cs w got e) (λ t. all_behind P got e h a.0) (λ t. h)) a.1

    pub candidates_each : (q : List Entry) → All P q → All P (candidates k locked cs w wanted q)
    unfolding candidates
    candidates_each q a = fold_each [] (by_rank entry_before q) tt (all_placed P entries_ordered q a)

-- the victim
module _ (n : ℕ) (s : State) (o : Sound n s) where
  here : length (entries_of s.cpu.queue) ≡ s.cpu.queue.len
  here = length_items s.cpu.queue o.queue

  module _ (v : Cpu) (z : Sized v.queue) where
    pub can_steal : {load published : ℕ} {a b : Bool} → load ≡ my_load (state_in n s) → published ≡ v.block.queue_len → a ≡ has_enough v.block.stealable published v.block.queue_locked v.queue.len load
        → b ≡ (v.block.present && a) → b ≡ can_steal_from (state_in n s) (cpu_in v)
    unfolding can_steal_from has_enough
    can_steal {load} {published} {a} {b} hl hp ha hb =
        hb
        ∙ ap (λ (y : Bool). v.block.present && y) (ha ∙ (let y : v.queue.len ≡ length (entries_of v.queue) = sym (length_items v.queue z) in λ i. has_enough v.block.stealable (hp i) v.block.queue_locked (y i) (hl i)))
        ∙ apart v.block.present v.block.stealable (leb (my_load (state_in n s) + 2) (v.block.queue_len + 1)) (not v.block.queue_locked) (leb (my_load (state_in n s) + 2) (length (entries_of v.queue) + 1))
      where
        apart : (p a b c d : Bool) → (p && (a && b && c && d)) ≡ (p && a && b && c && d)
        apart true a b c d = refl
        apart false a b c d = refl

    pub wanted_is : {r : ℕ} → r ≡ max 1 (min max_steal ((v.queue.len - s.cpu.queue.len) / 2)) → r ≡ want (state_in n s) (cpu_in v)
    unfolding want
    wanted_is e = rw (here, length_items v.queue z) e

-- The candidates: entries of the victim's queue, of contexts that differ. Assumes nothing.
use Rattle.std.specs.Prelude.{Option}
use mathlib.Core.Path.{◌≡◌}
use mathlib.Core.Bool.{Bool, true, false, not, ◌&&◌}
use mathlib.Core.List.{List, [], ◌∷◌, ◌++◌}
use mathlib.Core.Logic.{◌≢◌}
use Prim.Native.Nat.{ℕ, ◌+◌, ◌≤◌}
use native.Mathlib.Omega.{arith}
use lib.Dec.{ltb, eqb}
use lib.ListN.{length, length-append}
use borrow.Author.Tests.{eqb-false}
use Rattle.columns.specs.Common.{fold, All}
use Rattle.model.proofs.Cases.{by_test, and_both, or_neither, not_is_true}
use Rattle.context.specs.declared.Context.{Context}
use Rattle.context.specs.Status.{is_runnable}
use Rattle.cpu_set.specs.Set.{contains}
use Rattle.entries.specs.declared.Entry.{Entry}
use Rattle.machine.specs.Machine.{context_at}
use Rattle.model.specs.Steal.{member, wins, contexts_of, can_be_stolen, take_candidate, candidates}

abbrev pub Apart : List Entry → Type 0
Apart [] = Unit {0}
Apart (x ∷ xs) = All (λ (f : Entry). f.context_ref ≢ x.context_ref) xs × Apart xs

pub all_more : (P : Entry → Type 0) (l : List Entry) (e : Entry) → All P l → P e → All P (l ++ (e ∷ []))
all_more P [] e a p = (p, tt)
all_more P (x ∷ xs) e a p = (a.0, all_more P xs e a.1 p)

apart_more : (l : List Entry) (e : Entry) → Apart l → member e.context_ref (contexts_of l) ≡ false → Apart (l ++ (e ∷ []))
apart_more [] e a h = (tt, tt)
apart_more (x ∷ xs) e a h =
    let p = or_neither (eqb e.context_ref x.context_ref) _ h in
    (all_more (λ (f : Entry). f.context_ref ≢ x.context_ref) xs e a.0 (eqb-false _ _ p.0), apart_more xs e a.1 p.1)

fifth : (a b c d e f g h i j : Bool) → (a && b && c && d && e && f && g && h && i && j) ≡ true → e ≡ true
fifth a b c d e f g h i j z =
    let p = and_both (a && b && c && d && e && f && g && h && i) j z in
    let q = and_both (a && b && c && d && e && f && g && h) i p.0 in
    let r = and_both (a && b && c && d && e && f && g) h q.0 in
    let s = and_both (a && b && c && d && e && f) g r.0 in
    let t = and_both (a && b && c && d && e) f s.0 in
    (and_both (a && b && c && d) e t.0).1

module _ (k : ℕ) (locked : List ℕ) (cs : List Context) (w : Option ℕ) (n : ℕ) where
  not_taken : (got : List Entry) (e : Entry) → can_be_stolen k locked cs w got e ≡ true → member e.context_ref (contexts_of got) ≡ false
  unfolding can_be_stolen
  not_taken got e h =
      let q : Context = context_at cs e.context_ref in
      not_is_true _
      (fifth (not q.gone) (eqb q.lock 0) (not (member e.context_ref locked)) (not (wins w e.context_ref)) (not (member e.context_ref (contexts_of got)))
      (contains q.sched_affinity k) (is_runnable q.status) (not q.running) (not q.currently_scheduled) (not (eqb q.addr_space 2)) h)

  -- what holds of the entries of the queue holds of those taken; they are apart, and no more than the queue has
  pub record Taken (P : Entry → Type 0) (bound : ℕ) (got : List Entry) : Type 0 where
    pub each : All P got
    pub apart : Apart got
    pub few : length got ≤ bound

  taken_step : (P : Entry → Type 0) (bound : ℕ) (got : List Entry) (e : Entry) → Taken P bound got → P e → Taken P (bound + 1) (take_candidate k locked cs w n got e)
  taken_step P bound got e a p =
      by_test (ltb (length got) n && can_be_stolen k locked cs w got e)
      (λ t. rw t
      (record {
        each = all_more P got e a.each p;
        apart = apart_more got e a.apart (not_taken got e (and_both (ltb (length got) n) _ t).1);
        few = rw (length-append) (omega (arith, a.few));
      }))
      (λ t. rw t (record { each = a.each; apart = a.apart; few = omega (arith, a.few) }))

  taken_all : (P : Entry → Type 0) (bound : ℕ) (got q : List Entry) → Taken P bound got → All P q → Taken P (bound + length q) (fold (take_candidate k locked cs w n) got q)
  taken_all P bound got [] a h = record { each = a.each; apart = a.apart; few = omega (arith, a.few) }
  taken_all P bound got (e ∷ es) a h =
      let z = taken_all P (bound + 1) (take_candidate k locked cs w n got e) es (taken_step P bound got e a h.0) h.1 in
      record { each = z.each; apart = z.apart; few = omega (arith, z.few) }

  pub candidates_taken : (P : Entry → Type 0) (q : List Entry) → All P q → Taken P (length q) (candidates k locked cs w n q)
  unfolding candidates
  candidates_taken P q h =
      let z = taken_all P 0 [] q (record { each = tt; apart = tt; few = omega arith }) h in
      record { each = z.each; apart = z.apart; few = omega (arith, z.few) }

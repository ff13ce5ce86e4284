-- Document 02, No. 14: each condition is needed. Assumes nothing.
use Rattle.std.specs.Prelude.{◌≡◌, Bool, true, false, not, ◌&&◌, List, ℕ, eqb, length}
use Rattle.columns.specs.Common.{every}
use Rattle.machine.specs.Machine.{Machine, cpu_at}
use Rattle.machine.specs.Encode.{decode}
use Rattle.model.specs.Steal.{member, contexts_of}
use Rattle.model_local.specs.Names.{Names, names, timed_contexts}
use Rattle.model_local.specs.Apart.{Apart, falls_on_stealing_turn}
use Rattle.calls.specs.Call.{switch_call}
use Rattle.call_order.specs.Order.{Accepted, image_of, AllAccepted, SameEitherWay}

-- no number below n is in both lists
abbrev pub disjoint : ℕ → List ℕ → List ℕ → Bool
disjoint n l m = every (λ (x : ℕ). not (member x l && member x m)) n

-- no context has the same role on both: too weak a condition
abbrev pub are_apart_by_role : ℕ → Names → Names → Bool
are_apart_by_role n l m =
    not (eqb l.current m.current) && not (eqb l.in_charge m.in_charge) && not (eqb l.idle m.idle)
    && disjoint n (contexts_of l.queued) (contexts_of m.queued) && disjoint n (timed_contexts l.timed) (timed_contexts m.timed)
    && disjoint n l.listed_here m.listed_here && disjoint n l.listed_by_interrupt m.listed_by_interrupt

abbrev pub ApartByRole : Machine → (one other : ℕ) → Type 0
ApartByRole M one other = are_apart_by_role (length M.contexts) (names (cpu_at M one)) (names (cpu_at M other)) ≡ true

-- an image of which one, at time s, and other, at time t, do not give the same either way
pub record RoleByRoleFails : Type 0 where
  pub m : List ℕ
  pub one : ℕ
  pub s : ℕ
  pub other : ℕ
  pub t : ℕ
  pub by_role : ApartByRole (decode m) one other
  pub quiet : falls_on_stealing_turn one s (decode m) ≡ false
  pub quiet' : falls_on_stealing_turn other t (decode m) ≡ false
  pub accepted : AllAccepted m one s other t
  pub differs : SameEitherWay m one s other t → ⊥

-- one of them falls on a stealing turn
pub record StealingFails : Type 0 where
  pub m : List ℕ
  pub one : ℕ
  pub s : ℕ
  pub other : ℕ
  pub t : ℕ
  pub apart : Apart (decode m) one other
  pub quiet' : falls_on_stealing_turn other t (decode m) ≡ false
  pub accepted : AllAccepted m one s other t
  pub differs : SameEitherWay m one s other t → ⊥

-- three calls are accepted; the fourth finds a word that the first one raised over its range
pub record RefusalFails : Type 0 where
  pub m : List ℕ
  pub one : ℕ
  pub s : ℕ
  pub other : ℕ
  pub t : ℕ
  pub apart : Apart (decode m) one other
  pub quiet : falls_on_stealing_turn one s (decode m) ≡ false
  pub quiet' : falls_on_stealing_turn other t (decode m) ≡ false
  pub first : Accepted (switch_call m one s)
  pub other_first : Accepted (switch_call m other t)
  pub then_one : Accepted (switch_call (image_of m other t) one s)
  pub then_other : (switch_call (image_of m one s) other t).answer.refusal ≡ 3
  pub differs : SameEitherWay m one s other t → ⊥

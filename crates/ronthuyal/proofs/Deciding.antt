-- Demand 3 of a call, from its definition: what operations 1 to 3 leave is the outcome of the decision. Assumes nothing.
use Rattle.std.specs.Prelude.{if◌then◌else◌, None, Option, Some}
use mathlib.Core.Path.{◌≡◌, refl, ap, ◌∙◌, subst}
use mathlib.Core.Bool.{Bool, true, false}
use Prim.Native.Nat.{ℕ}
use native.Mathlib.Omega.{arith}
use mathlib.Core.List.{List}
use lib.Dec.{eqb}
use borrow.Author.Tests.{eqb-true, eqb-false}
use Rattle.columns.proofs.Tests.{by_test}
use Rattle.machine.specs.Machine.{Machine, cpu_at}
use Rattle.machine.specs.Encode.{decode}
use Rattle.machine.specs.LookUp.{look_up, get_percpu_block}
use Rattle.machine.specs.Outcome.{Outcome}
use Rattle.machine.proofs.Decoded.{decode_encode}
use Rattle.machine.proofs.LookUps.{IsPresent, present, live}
use Rattle.image.specs.Refusal.{size_c, size_n}
use Rattle.image.proofs.Admitted as admitted
use Rattle.model.specs.Accepted.{Call, by_tick, by_switch, by_direct_switch, outcome}
use Rattle.model_leaves.proofs.WellFormed.{WellFormed}
use Rattle.model_leaves.proofs.Deciding.{TargetFormed, decision_leaves}
use Rattle.model_leaves.proofs.Decoding.{well_formed}
use Rattle.answer.specs.declared.Answer.{Answer}
use Rattle.context_ops.specs.Reply.{Reply, reply}
use Rattle.switch_ops.specs.Reply.{refusal, decide_on, decide_by, decide, direct_switch_by, direct_switch}
use Rattle.calls.specs.Call.{checked, call}
use Rattle.calls.proofs.Accepts.{refused_not}
use Rattle.ronthuyal.specs.Demand as demand
use Rattle.ronthuyal.specs.Demand.{DemandMet}
use Rattle.ronthuyal.proofs.Demanded.{stands_tick, stands_switch, stands_direct, accepted_by, accepted_to, demanded, demand_tick, demand_switch, demand_direct, demand_none}
use Rattle.ronthuyal.proofs.Leaving.{StandsFor, after, here, is_present, live_name}
use Rattle.ronthuyal.proofs.Left.{through}
use Rattle.ronthuyal.proofs.Reached.{short}

-- a call on the image m, which passed, was answered a and left m'
module _ (a : Answer) (m m' : List ℕ) (cpu time : ℕ) (z : a.refusal ≡ 0) (p : admitted.Passed time m) where
  abbrev M : Machine
  M = decode m

  record Whole (o : Outcome) (N : Machine) : Type 0 where
    is : N ≡ o.machine
    formed : WellFormed (size_c m) (size_n m) N

  stood : (o : Outcome) → StandsFor (Whole o) m' → decode m' ≡ o.machine
  stood o s =
      let w = s.holds.formed in
      ap decode s.is ∙ decode_encode s.M (λ k h. short (cpu_at s.M k) (w.cpu k (omega (arith, w.cpus)))) ∙ s.holds.is

  module _ (c : Call) (t : TargetFormed (size_n m) M.contexts c) where
    on_cpu : (k : ℕ) → IsPresent M cpu k → reply a m' ≡ decide_on m M k time c → decode m' ≡ (outcome c k time M).machine
    unfolding decide_on
    on_cpu k i e =
        by_test (eqb (refusal c M k time) 0)
        (λ y. stood (outcome c k time M) (after a m m' time z p (Whole (outcome c k time M)) (outcome c k time M)
        (λ r. record { is = refl; formed = decision_leaves (size_c m) (size_n m) M (well_formed m p) k time (here a m m' time z p cpu k i) (is_present a m m' time z p cpu k i) p.words.time_most c t r }) (rw y at e)))
        (λ y. refused_not (refusal c M k time) m (eqb-false (refusal c M k time) 0 y) (rw y at e) z)

    by_cpu : (l : Option ℕ) → l ≡ get_percpu_block M cpu → reply a m' ≡ decide_by m M time c l → decode m' ≡ (outcome c cpu time M).machine
    unfolding decide_by
    by_cpu None h e = refused_not 5 m (λ w. omega arith) e z
    by_cpu (Some k) h e =
        let i = present M cpu k h in subst (λ (j : ℕ). decode m' ≡ (outcome c j time M).machine) i.is (on_cpu k i e)

    pub decided : reply a m' ≡ decide m M cpu time c → decode m' ≡ (outcome c cpu time M).machine
    decided e = by_cpu (get_percpu_block M cpu) refl e

  directed_by : (context : ℕ) (l : Option ℕ) → l ≡ look_up M context → reply a m' ≡ direct_switch_by m M cpu time l
      → decode m' ≡ (outcome (by_direct_switch context) cpu time M).machine
  unfolding direct_switch_by
  directed_by context None h e = refused_not 5 m (λ w. omega arith) e z
  directed_by context (Some x) h e =
      subst (λ (y : ℕ). decode m' ≡ (outcome (by_direct_switch y) cpu time M).machine) (live M context x h).is
      (decided (by_direct_switch x) (live_name a m m' time z p context x (live M context x h)) e)

  pub directed : (context : ℕ) → reply a m' ≡ direct_switch m M cpu time context → decode m' ≡ (outcome (by_direct_switch context) cpu time M).machine
  directed context e = directed_by context (look_up M context) refl e

module _ {a : Answer} {m' : List ℕ} (m : List ℕ) (cpu time : ℕ) where
  -- operations 1 and 2
  decide_demand : (operation : ℕ) (c : Call) → ((d : Call) → demand.StandsFor operation 0 d → d ≡ c) → TargetFormed (size_n m) (decode m).contexts c
      → reply a m' ≡ checked m time (λ (M : Machine). decide m M cpu time c) → DemandMet m m' operation cpu time 0 a.refusal
  decide_demand operation c only t e =
      record {
        met = λ d s z.
            through a m m' cpu time 0 z (λ (M : Machine). decide m M cpu time c)
            (λ p f.
            (demanded m p operation 0 cpu c only (λ y. accepted_by m (decode m) cpu time y c f) (λ y. decided a m m' cpu time y p c t f)).met d s z)
            e;
      }

  pub switch_demand : reply a m' ≡ checked m time (λ (M : Machine). decide m M cpu time by_switch) → DemandMet m m' 2 cpu time 0 a.refusal
  switch_demand = decide_demand 2 by_switch (stands_switch 0) tt

  direct_demand : (context : ℕ) → reply a m' ≡ checked m time (λ (M : Machine). direct_switch m M cpu time context) → DemandMet m m' 3 cpu time context a.refusal
  direct_demand context e =
      record {
        met = λ d s z.
            through a m m' cpu time context z (λ (M : Machine). direct_switch m M cpu time context)
            (λ p f.
            (demanded m p 3 context cpu (by_direct_switch context) (stands_direct context) (λ y. accepted_to m (decode m) cpu time y context f)
            (λ y. directed a m m' cpu time y p context f)).met d s z)
            e;
      }

  one_of : {A : Type 0} (b : Bool) (x y : Reply) → (b ≡ true → reply a m' ≡ x → A) → (b ≡ false → reply a m' ≡ y → A) → reply a m' ≡ (if b then x else y) → A
  one_of true x y f g e = f refl e
  one_of false x y f g e = g refl e

  -- any operation, by its number
  pub call_demand : (operation context : ℕ) → reply a m' ≡ call m operation cpu time context → DemandMet m m' operation cpu time context a.refusal
  unfolding call
  call_demand operation context =
      one_of (eqb operation 1) _ _ (λ t e. demand_tick operation context (eqb-true operation 1 t) (decide_demand 1 by_tick (stands_tick 0) tt e))
      (λ t. one_of (eqb operation 2) _ _ (λ u e. demand_switch operation context (eqb-true operation 2 u) (switch_demand e))
      (λ u. one_of (eqb operation 3) _ _ (λ v e. demand_direct operation context (eqb-true operation 3 v) (direct_demand context e))
      (λ v e. demand_none operation context (eqb-false operation 1 t) (eqb-false operation 2 u) (eqb-false operation 3 v))))

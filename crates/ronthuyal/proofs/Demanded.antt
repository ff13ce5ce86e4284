-- Demand 3 of a call, from what the decision said. Assumes nothing.
use Rattle.std.specs.Prelude.{None, Option, Some, Err, Ok, Result}
use mathlib.Core.Path.{◌≡◌, refl, sym, ap, ◌∙◌, subst}
use mathlib.Core.Bool.{true, false}
use Prim.Native.Nat.{ℕ}
use native.Mathlib.Omega.{arith}
use mathlib.Core.List.{List}
use lib.Dec.{eqb}
use borrow.Author.Tests.{eqb-false}
use Rattle.columns.proofs.Tests.{by_test}
use Rattle.machine.specs.Machine.{Machine, cpu_at}
use Rattle.machine.specs.Encode.{encode, decode}
use Rattle.machine.specs.Shape.{Fits}
use Rattle.machine.specs.LookUp.{look_up, get_percpu_block}
use Rattle.machine.specs.Outcome.{Outcome}
use Rattle.machine.proofs.LookUps.{live, present}
use Rattle.model.specs.Accepted.{Call, by_tick, by_switch, by_direct_switch, outcome, decides}
use Rattle.model.specs.Demand3.{Demand3}
use Rattle.model.proofs.Demand.{demand_3}
use Rattle.admission.proofs.Soundness.{sound}
use Rattle.answer.specs.declared.Answer.{Answer}
use Rattle.context_ops.specs.Reply.{reply, replied}
use Rattle.switch_ops.specs.Reply.{refusal, decide_on, decide_by, decide, direct_switch_by, direct_switch, Replies}
use Rattle.image.proofs.Admitted as admitted
use Rattle.calls.specs.Call.{check}
use Rattle.ronthuyal.specs.Demand.{StandsFor, DemandMet}
use Rattle.calls.proofs.Called.{is_refused, call_none, call_machine}
use Rattle.calls.proofs.Accepts.{refused_not}

-- what an accepted call says of the machine
pub record WasAccepted (M : Machine) (k time : ℕ) (call : Call) : Type 0 where
  pub present : (cpu_at M k).block.present ≡ true
  pub room : (outcome call k time M).no_room ≡ false

module _ {a : Answer} {m' : List ℕ} (m : List ℕ) (M : Machine) (cpu time : ℕ) (z : a.refusal ≡ 0) where
  room_of : (o : Outcome) → reply a m' ≡ replied m o → o.no_room ≡ false
  unfolding replied
  room_of o e = by_test o.no_room (λ t. refused_not 9 m (λ w. omega arith) (rw t at e) z) (λ t. t)

  on_of : (k : ℕ) (call : Call) → reply a m' ≡ decide_on m M k time call → (outcome call k time M).no_room ≡ false
  unfolding decide_on
  on_of k call e =
      by_test (eqb (refusal call M k time) 0) (λ t. room_of (outcome call k time M) (rw t at e))
      (λ t. refused_not (refusal call M k time) m (eqb-false (refusal call M k time) 0 t) (rw t at e) z)

  by_of : (call : Call) (p : Option ℕ) → p ≡ get_percpu_block M cpu → reply a m' ≡ decide_by m M time call p → WasAccepted M cpu time call
  unfolding decide_by
  by_of call None h e = refused_not 5 m (λ w. omega arith) e z
  by_of call (Some k) h e =
      let i = present M cpu k h
      in record { present = i.present; room = subst (λ (j : ℕ). (outcome call j time M).no_room ≡ false) i.is (on_of k call e) }

  pub accepted_by : (call : Call) → reply a m' ≡ decide m M cpu time call → WasAccepted M cpu time call
  accepted_by call e = by_of call (get_percpu_block M cpu) refl e

  to_of : (context : ℕ) (l : Option ℕ) → l ≡ look_up M context → reply a m' ≡ direct_switch_by m M cpu time l → WasAccepted M cpu time (by_direct_switch context)
  unfolding direct_switch_by
  to_of context None h e = refused_not 5 m (λ w. omega arith) e z
  to_of context (Some x) h e =
      subst (λ (y : ℕ). WasAccepted M cpu time (by_direct_switch y)) (live M context x h).is (accepted_by (by_direct_switch x) e)

  pub accepted_to : (context : ℕ) → reply a m' ≡ direct_switch m M cpu time context → WasAccepted M cpu time (by_direct_switch context)
  accepted_to context e = to_of context (look_up M context) refl e

-- which call an operation's number stands for
pub stands_tick : (context : ℕ) (call : Call) → StandsFor 1 context call → call ≡ by_tick
stands_tick context by_tick s = refl
stands_tick context by_switch s = absurd (omega arith)
stands_tick context (by_direct_switch x) s = let w = s.0 in absurd (omega arith)

pub stands_switch : (context : ℕ) (call : Call) → StandsFor 2 context call → call ≡ by_switch
stands_switch context by_tick s = absurd (omega arith)
stands_switch context by_switch s = refl
stands_switch context (by_direct_switch x) s = let w = s.0 in absurd (omega arith)

pub stands_direct : (context : ℕ) (call : Call) → StandsFor 3 context call → call ≡ by_direct_switch context
stands_direct context by_tick s = absurd (omega arith)
stands_direct context by_switch s = absurd (omega arith)
stands_direct context (by_direct_switch x) s = ap by_direct_switch s.1

pub stands_none : (operation context : ℕ) → (operation ≡ 1 → ⊥) → (operation ≡ 2 → ⊥) → (operation ≡ 3 → ⊥) → (call : Call) → StandsFor operation context call → ⊥
stands_none operation context a b c by_tick s = a s
stands_none operation context a b c by_switch s = b s
stands_none operation context a b c (by_direct_switch x) s = c s.0

-- p: the image passed
module _ {time : ℕ} (m : List ℕ) (p : admitted.Passed time m) where
  pub demanded : {r : ℕ} {m' : List ℕ} (operation context cpu : ℕ) (call : Call) → ((d : Call) → StandsFor operation context d → d ≡ call)
      → (r ≡ 0 → WasAccepted (decode m) cpu time call) → (r ≡ 0 → decode m' ≡ (outcome call cpu time (decode m)).machine)
      → DemandMet m m' operation cpu time context r
  demanded {r} {m'} operation context cpu call only was after =
      record {
        met = λ d s z tidy decision own.
            subst (Demand3 cpu time (decode m)) (sym (after z))
            (demand_3 call cpu time (decode m) (sound m p) tidy
            (record { present = (was z).present; decision = subst (λ (d : Call). decides cpu time (decode m) d ≡ true) (only d s) decision; room = (was z).room })
            own);
      }

-- w: what the code's check gave
module _ {a : Answer} {m' : List ℕ} (m : List ℕ) (time : ℕ) (w : Result (ℕ × ℕ) ℕ) (e : w ≡ check m time) where
  pub demand_refused : (operation cpu context r : ℕ) → w ≡ Err r → a ≡ record { refusal = r; result = 0; interrupt = 0; rule = 0 }
      → DemandMet m m' operation cpu time context a.refusal
  demand_refused operation cpu context r g h =
      record { met = λ d s z. absurd (is_refused m time r (sym g ∙ e) (sym (ap (λ (b : Answer). b.refusal) h) ∙ z)) }

  pub demand_decided : (operation cpu context : ℕ) (call : Call) → ((d : Call) → StandsFor operation context d → d ≡ call) → (c n : ℕ) → w ≡ Ok (c, n)
      → ((M : Machine) → m ≡ encode M → Fits c n M → Replies m' a (decide m M cpu time call) (outcome call cpu time M).machine)
      → DemandMet m m' operation cpu time context a.refusal
  demand_decided operation cpu context call only c n g h =
      let r = call_machine m time w e {A = λ M. Replies m' a (decide m M cpu time call) (outcome call cpu time M).machine} c n g h
      in demanded m (admitted.passed time m (call_none m time w e c n g)) operation context cpu call only (λ z. accepted_by m (decode m) cpu time z call r.replies) r.leaves

  pub demand_directed : (cpu context c n : ℕ) → w ≡ Ok (c, n)
      → ((M : Machine) → m ≡ encode M → Fits c n M → Replies m' a (direct_switch m M cpu time context) (outcome (by_direct_switch context) cpu time M).machine)
      → DemandMet m m' 3 cpu time context a.refusal
  demand_directed cpu context c n g h =
      let r = call_machine m time w e {A = λ M. Replies m' a (direct_switch m M cpu time context) (outcome (by_direct_switch context) cpu time M).machine} c n g h
      in demanded m (admitted.passed time m (call_none m time w e c n g)) 3 context cpu (by_direct_switch context) (stands_direct context) (λ z. accepted_to m (decode m) cpu time z context r.replies) r.leaves

-- a call by its operation's number
module _ {m m' : List ℕ} {cpu time r : ℕ} (operation context : ℕ) where
  pub demand_tick : operation ≡ 1 → DemandMet m m' 1 cpu time 0 r → DemandMet m m' operation cpu time context r
  demand_tick e h = record { met = λ d s. h.met d (rw (stands_tick context d (rw e at s))) }

  pub demand_switch : operation ≡ 2 → DemandMet m m' 2 cpu time 0 r → DemandMet m m' operation cpu time context r
  demand_switch e h = record { met = λ d s. h.met d (rw (stands_switch context d (rw e at s))) }

  pub demand_direct : operation ≡ 3 → DemandMet m m' 3 cpu time context r → DemandMet m m' operation cpu time context r
  demand_direct e h = rw e h

  pub demand_none : (operation ≡ 1 → ⊥) → (operation ≡ 2 → ⊥) → (operation ≡ 3 → ⊥) → DemandMet m m' operation cpu time context r
  demand_none a b c = record { met = λ d s. absurd (stands_none operation context a b c d s) }

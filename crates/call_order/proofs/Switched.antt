-- An accepted switch: its answer, the image it leaves, and the machine that this stands for. Assumes nothing.
use Rattle.std.specs.Prelude.{None, Option, Some}
use mathlib.Core.Path.{◌≡◌, refl, sym, ap, ◌∙◌, subst}
use mathlib.Core.Bool.{false}
use mathlib.Core.List.{List}
use Prim.Native.Nat.{ℕ, ◌<◌}
use native.Mathlib.Omega.{arith}
use lib.Dec.{eqb}
use lib.ListN.{length}
use borrow.Author.Tests.{eqb-false}
use Rattle.columns.specs.Common.{mark}
use Rattle.columns.proofs.Tests.{by_test}
use Rattle.answer.specs.declared.Answer.{Answer}
use Rattle.percpu.specs.Cpu.{Cpu}
use Rattle.machine.specs.Machine.{Machine}
use Rattle.machine.specs.Encode.{encode, decode}
use Rattle.machine.specs.LookUp.{get_percpu_block}
use Rattle.machine.specs.Outcome.{Outcome}
use Rattle.machine.proofs.LookUps.{present}
use Rattle.model.specs.State.{State, state_of}
use Rattle.model.specs.SwitchTo.{try_direct_switch_back}
use Rattle.model.specs.Schedule.{switch_as, after_schedule, schedule, switch_inner_by, switch_inner, switch}
use Rattle.model.specs.Accepted.{by_switch}
use Rattle.context_ops.specs.Reply.{Reply, reply, replied}
use Rattle.switch_ops.specs.Reply.{refusal, decide_on, decide_by}
use Rattle.calls.specs.Call.{switch_call}
use Rattle.calls.proofs.Accepts.{refused_not}
use Rattle.ronthuyal.proofs.Left.{through}
use Rattle.call_weights.proofs.Runs as calls

abbrev pub answer_of : Outcome → Answer
answer_of o = record { refusal = 0; result = o.result; interrupt = mark o.interrupt; rule = o.rule }

pub record Switched (m : List ℕ) (k time : ℕ) : Type 0 where
  pub below : k < length (decode m).cpus
  pub answer : (switch_call m k time).answer ≡ answer_of (switch k time (decode m))
  pub image : (switch_call m k time).image ≡ encode (switch k time (decode m)).machine
  pub machine : decode (switch_call m k time).image ≡ (switch k time (decode m)).machine

-- what is said of a reply that was accepted
record Replied (a : Answer) (m' : List ℕ) (k time : ℕ) (M : Machine) : Type 0 where
  below : k < length M.cpus
  answer : a ≡ answer_of (switch k time M)
  image : m' ≡ encode (switch k time M).machine

module _ (a : Answer) (m m' : List ℕ) (cpu time : ℕ) (z : a.refusal ≡ 0) where
  abbrev M : Machine
  M = decode m

  there_was_room : (k : ℕ) → k < length M.cpus → reply a m' ≡ replied m (switch k time M) → Replied a m' k time M
  unfolding replied
  there_was_room k b e =
      by_test (switch k time M).no_room (λ t. refused_not 9 m (λ w. omega arith) (rw t at e) z)
      (λ t. let f = rw t at e in record { below = b; answer = ap (λ (y : Reply). y.answer) f; image = ap (λ (y : Reply). y.image) f })

  on : (k : ℕ) → k < length M.cpus → reply a m' ≡ decide_on m M k time by_switch → Replied a m' k time M
  unfolding decide_on
  on k b e =
      by_test (eqb (refusal by_switch M k time) 0) (λ y. there_was_room k b (rw y at e))
      (λ y. refused_not (refusal by_switch M k time) m (eqb-false (refusal by_switch M k time) 0 y) (rw y at e) z)

  by : (l : Option ℕ) → l ≡ get_percpu_block M cpu → reply a m' ≡ decide_by m M time by_switch l → Replied a m' cpu time M
  unfolding decide_by
  by None h e = refused_not 5 m (λ w. omega arith) e z
  by (Some k) h e =
      let i = present M cpu k h in
      subst (λ (j : ℕ). Replied a m' j time M) i.is (on k (subst (λ (j : ℕ). j < length M.cpus) (sym i.is) i.below) e)

  replied_so : reply a m' ≡ switch_call m cpu time → Replied a m' cpu time M
  replied_so = through a m m' cpu time 0 z _ (λ p. by (get_percpu_block M cpu) refl)

pub switched : (m : List ℕ) (k time : ℕ) → (switch_call m k time).answer.refusal ≡ 0 → Switched m k time
switched m k time z =
    let y = switch_call m k time in
    let r = replied_so y.answer m y.image k time z refl in
    record { below = r.below; answer = r.answer; image = r.image; machine = (calls.switches y.answer m y.image k time 0 z refl).is }

-- a switch sets no interrupt mark
module _ (k time : ℕ) where
  as_marks_none : (rule : ℕ) (s : State) (cpus : List Cpu) (o : Option ℕ) → (switch_as k time rule s cpus o).interrupt ≡ false
  unfolding switch_as
  as_marks_none rule s cpus None = refl
  as_marks_none rule s cpus (Some x) = refl

  by_marks_none : (cpus : List Cpu) (s : State) (o : Option State) → (switch_inner_by k time cpus s o).interrupt ≡ false
  unfolding switch_inner_by after_schedule
  by_marks_none cpus s None = let d = schedule k time cpus s in as_marks_none _ d.state d.cpus d.picked
  by_marks_none cpus s (Some s') = refl

  pub switch_marks_none : (M : Machine) → (switch k time M).interrupt ≡ false
  unfolding switch switch_inner
  switch_marks_none M = by_marks_none M.cpus (state_of k M) (try_direct_switch_back k time (state_of k M))

pub no_interrupt : (m : List ℕ) (k time : ℕ) → (switch_call m k time).answer.refusal ≡ 0 → (switch_call m k time).answer.interrupt ≡ 0
no_interrupt m k time z = ap (λ (a : Answer). a.interrupt) (switched m k time z).answer ∙ ap mark (switch_marks_none k time (decode m))

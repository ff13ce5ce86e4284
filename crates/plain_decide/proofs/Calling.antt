-- The calls, in the code's words. Assumes nothing.
use mathlib.Core.Path.{◌≡◌, sym, ◌∙◌, subst}
use mathlib.Core.Bool.{false}
use Prim.Native.Nat.{ℕ}
use lib.Dec.{eqb}
use borrow.Author.Tests.{ne_eqb}
use Rattle.runnable.specs.Runnable.{update_runnable}
use Rattle.answer.specs.declared.SwitchResult.TheVariants.{Switched}
use Rattle.answer.specs.Number.{result_number}
use Rattle.model.specs.State as model
use Rattle.model.specs.State.{at}
use Rattle.model.specs.SwitchTo.{direct_switch_by}
use Rattle.model.proofs.Cases.{never}
use Rattle.plain_model.specs.Schedule.{switch_inner, direct_switch_or}
use Rattle.plain_state.specs.declared.State.{State}
use Rattle.plain_state.specs.States.{state_in}
use Rattle.std.specs.Prelude as std
use Rattle.std.proofs.Common.{refl}
use Rattle.std.specs.Prelude.{None, Some, Option}
use Rattle.plain_switch.specs.Direct.{Switches}
use Rattle.plain_steal.specs.declared.cpus.Cpus.{Cpus}
use Rattle.plain_steal.specs.Stealing.{cpus_in, CpusSound}
use Rattle.plain_decide.specs.declared.switching.Decided.{Decided}
use Rattle.plain_decide.specs.Decided.{DecidedTracks, direct_switch_of}
use Rattle.plain_decide.proofs.Ending.{directly}

-- w: the number of x
module _ (n c k time x : ℕ) (s : State) (cpus : Cpus) {w : ℕ} (e : w ≡ x) where
  abbrev after : Option model.State
  after = direct_switch_by k time x (state_in n s) (update_runnable k time (eqb s.cpu.block.sched_ctxt x) false (at (state_in n s) x))

  module _ (b : std.Option State) (hw : Switches n b (state_in n s) (direct_switch_by k time x (state_in n s) (update_runnable k time (eqb s.cpu.block.sched_ctxt w) false (at (state_in n s) x)))) where
    switches : Switches n b (state_in n s) after
    switches =
        subst (λ (z : ℕ). Switches n b (state_in n s) (direct_switch_by k time x (state_in n s) (update_runnable k time (eqb s.cpu.block.sched_ctxt z) false (at (state_in n s) x)))) e hw

    by_made : {u : State} {r : Decided} (o : Option model.State) → CpusSound c cpus → Switches n (Some u) (state_in n s) o
        → r ≡ record { state = u; cpus = cpus; result = result_number Switched; rule = 0 } → DecidedTracks n c k r (direct_switch_or k time (cpus_in c cpus) (state_in n s) o)
    unfolding direct_switch_or
    by_made None a y f = never y.0 refl
    by_made (Some S) a y f = directly k a y.1 f

    pub made : {u : State} {r : Decided} → CpusSound c cpus → (s.cpu.block.current_ctxt ≡ w → ⊥) → b ≡ Some u
        → r ≡ record { state = u; cpus = cpus; result = result_number Switched; rule = 0 } → DecidedTracks n c k r (direct_switch_of k time x (cpus_in c cpus) (state_in n s))
    made a d h f = rw (ne_eqb s.cpu.block.current_ctxt x (λ z. d (z ∙ sym e))) (by_made after a (rw h at switches) f)

    not_by : {r : Decided} (o : Option model.State) → Switches n None (state_in n s) o → DecidedTracks n c k r (switch_inner k time (cpus_in c cpus) (state_in n s))
        → DecidedTracks n c k r (direct_switch_or k time (cpus_in c cpus) (state_in n s) o)
    unfolding direct_switch_or
    not_by None y t = t
    not_by (Some S) y t = never refl y

    pub not_made : {r : Decided} → (s.cpu.block.current_ctxt ≡ w → ⊥) → b ≡ None → DecidedTracks n c k r (switch_inner k time (cpus_in c cpus) (state_in n s))
        → DecidedTracks n c k r (direct_switch_of k time x (cpus_in c cpus) (state_in n s))
    not_made d h t = rw (ne_eqb s.cpu.block.current_ctxt x (λ z. d (z ∙ sym e))) (not_by after (rw h at switches) t)

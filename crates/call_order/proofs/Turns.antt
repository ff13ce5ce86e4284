-- The stealing turn of a switch goes by the counter, in charge and idle of the machine before it, and by whether somebody won. Assumes nothing.
use Rattle.std.specs.Prelude.{if◌then◌else◌, Option, is_some}
use mathlib.Core.Path.{◌≡◌, refl, ap, ◌∙◌}
use mathlib.Core.Logic.{◌≢◌}
use mathlib.Core.Bool.{Bool, true, false, not, ◌&&◌}
use Prim.Native.Nat.{ℕ, ◌%◌}
use native.Mathlib.Omega.{arith}
use lib.Dec.{eqb}
use borrow.Author.Tests.{ne_eqb}
use Rattle.machine.specs.Machine.{Machine}
use Rattle.model.specs.State.{State, state_of, is_idle}
use Rattle.model.specs.Turn.{spent, charge_holder, before_selection, before_choice}
use Rattle.model.specs.Choice.{choice, chosen}
use Rattle.model.specs.Steal.{idle_steal_interval, steal_interval, should_steal}
use Rattle.model.specs.Schedule.{scanned}
use Rattle.model.specs.Accepted.{by_switch, decides}
use Rattle.model.proofs.Cases.{pick}
use Rattle.growth.proofs.Watched.{Watched, watched, selection_same, charge_same, chosen_same}
use Rattle.model_local.specs.Apart.{finds_stealing_turn}
use Rattle.call_order.specs.Turns.{block_at, Quiet}

-- who won, on the state before the choice
abbrev won : (k time : ℕ) → State → Option ℕ
won k time s = let b = before_choice time s in (choice b (scanned k time b)).winner

pub turn_is : (k time : ℕ) (s : State) → finds_stealing_turn k time s ≡ should_steal s (won k time s)
unfolding finds_stealing_turn before_choice
turn_is k time s =
    let b = charge_holder (spent time s.cpu) (before_selection time s) in
    let f = scanned k time b in
    let w = choice b f in
    let e : watched (chosen w f b) ≡ watched s = chosen_same (watched s) w f b (charge_same (watched s) (spent time s.cpu) (before_selection time s) (selection_same (watched s) time s refl)) in
    ap (λ (v : Watched). eqb (v.counter % (if eqb v.in_charge v.idle && not (is_some w.winner) then idle_steal_interval else steal_interval)) 0) e

no_turn : (d b : Bool) → b ≡ false → (d && b) ≡ false
no_turn true b e = e
no_turn false b e = refl

pub quiet : (k : ℕ) (M : Machine) → Quiet k M
quiet k M =
    record {
      odd = λ h time. let n = (block_at M k).steal_counter in
          let g : n % 16 ≢ 0 = λ e. h (omega (arith, e)) in
          no_turn (decides k time M by_switch) _
          (turn_is k time (state_of k M)
          ∙ pick (λ (i : ℕ). eqb (n % i) 0 ≡ false) (is_idle (state_of k M) && not (is_some (won k time (state_of k M)))) (λ t. ne_eqb (n % 2) 0 h) (λ t. ne_eqb (n % 16) 0 g));
      not_idle = λ d h time. let n = (block_at M k).steal_counter in
          no_turn (decides k time M by_switch) _
          (turn_is k time (state_of k M)
          ∙ rw (ne_eqb (block_at M k).sched_ctxt (block_at M k).idle_ctxt d) (ne_eqb (n % 16) 0 h));
    }

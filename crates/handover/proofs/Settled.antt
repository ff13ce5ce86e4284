-- Advance, way back and stealable word together, in the code's words. Assumes nothing.
use Rattle.std.specs.Prelude.{if◌then◌else◌, None, Option, is_some}
use mathlib.Core.Path.{◌≡◌, refl, sym, ap, ◌∙◌, subst}
use mathlib.Core.Bool.{Bool, true, false, not, ◌&&◌, ◌||◌}
use mathlib.Core.List.{List}
use Prim.Native.Nat.{ℕ, ◌+◌, ◌<◌, ◌≤◌}
use native.Mathlib.Omega.{arith}
use lib.Dec.{eqb}
use Rattle.machine.specs.Shape.{CpuFits, Image}
use Rattle.model.specs.State.{State, on_cpu}
use Rattle.model.specs.Steal.{Stealing, mark_stealable}
use Rattle.model.proofs.Cases.{pick}
use Rattle.stages.specs.Stage.{Staged, StateBelow}
use Rattle.stages.proofs.Compose.{stage_then, stage_full, stage_as}
use Rattle.stages.proofs.Reading.{unchanged}
use Rattle.handover.specs.Handed.{advance_by, sent_back_by, settled_by}
use Rattle.handover.proofs.Bounded.{advance_below, requeue_below, stealable_below}
use Rattle.stages.specs.Bounds.{max_gain}
use Rattle.model.specs.Handover.{advance, requeue, settled}

-- the definition's words
pub settled_is : (k time : ℕ) (runs : Bool) (ticks : ℕ) (l : Stealing) → settled_by (is_some l.winner) runs ticks l.state ≡ settled runs ticks l
unfolding settled advance
settled_is k time runs ticks l = refl

module _ {c n k : ℕ} {m : List ℕ} (won runs : Bool) where
  pub sent_back : {m' : List ℕ} {r : Bool} → won ≡ true → runs ≡ true → Staged c n k m m' r (λ (s : State). requeue s) → Staged c n k m m' r (λ (s : State). sent_back_by won runs s)
  sent_back e f t = stage_as t (λ M z o. (rw (e, f), λ a d. refl))

  pub stopped_before : won ≡ true → runs ≡ false → Image c n m → Staged c n k m m false (λ (s : State). sent_back_by won runs s)
  stopped_before e f i = unchanged k (λ (s : State). sent_back_by won runs s) i (λ M z o. rw (e, f))

  pub nobody_won : won ≡ false → Image c n m → Staged c n k m m false (λ (s : State). sent_back_by won runs s)
  nobody_won e i = unchanged k (λ (s : State). sent_back_by won runs s) i (λ M z o. rw e)

module _ {c n k : ℕ} {m m' m'' : List ℕ} (won runs : Bool) (ticks : ℕ) {somebody r : Bool} (h : k < c) (e : somebody ≡ (won || runs))
    (t : Staged c n k m m' false (λ (s : State). advance_by somebody ticks s)) (u : Staged c n k m' m'' r (λ (s : State). sent_back_by won runs s)) where
  first : Staged c n k m m'' r (λ (s : State). sent_back_by won runs (advance_by (won || runs) ticks s))
  first = stage_as (stage_then h t u) (λ M z o. (rw e, λ a d. refl))

  pub settled_full : r ≡ true → Staged c n k m m'' true (λ (s : State). settled_by won runs ticks s)
  settled_full f =
      stage_full (λ (s : State). on_cpu mark_stealable s) (λ (s : State). 0)
      (subst (λ (x : Bool). Staged c n k m m'' x (λ (s : State). sent_back_by won runs (advance_by (won || runs) ticks s))) f first) (λ s z. z)

  pub settled_room : {m''' : List ℕ} → r ≡ false → Staged c n k m'' m''' false (λ (s : State). on_cpu mark_stealable s) → Staged c n k m m''' false (λ (s : State). settled_by won runs ticks s)
  settled_room f w = stage_then h (subst (λ (x : Bool). Staged c n k m m'' x (λ (s : State). sent_back_by won runs (advance_by (won || runs) ticks s))) f first) w

-- what all of it adds
module _ {n t b : ℕ} (won runs : Bool) (ticks : ℕ) (s : State) (l : ticks ≤ max_gain) (f : CpuFits n s.cpu) (o : StateBelow n t b s) where
  abbrev moved : State
  moved = advance_by (won || runs) ticks s

  moved_fits : CpuFits n moved.cpu
  moved_fits =
      pick (λ (x : State). CpuFits n x.cpu) ((won || runs) && not (eqb s.cpu.block.total_weight 0))
      (λ e.
      record {
        current = f.current;
        sched = f.sched;
        idle = f.idle;
        queue = f.queue;
        timers = f.timers;
        local = f.local;
        ipi = f.ipi;
        entry = f.entry;
        timer = f.timer;
        local_name = f.local_name;
        ipi_name = f.ipi_name;
        keys_rise = f.keys_rise;
        timers_rise = f.timers_rise;
        remainder = f.remainder;
      })
      (λ e. f)

  moved_below : StateBelow n t (b + max_gain) moved
  unfolding advance
  moved_below = advance_below (won || runs) None ticks s l o

  pub settled_below : StateBelow n t (b + max_gain) (settled_by won runs ticks s)
  settled_below =
      stealable_below (sent_back_by won runs moved)
      (pick (StateBelow n t (b + max_gain)) (won && runs) (λ e. requeue_below moved moved_fits moved_below) (λ e. moved_below))

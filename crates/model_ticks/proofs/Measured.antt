-- Wake-ups do not touch what a turn is measured by. Assumes nothing.
use Rattle.std.specs.Prelude.{None, Option, Some}
use mathlib.Core.Path.{◌≡◌, refl, ◌∙◌}
use mathlib.Core.List.{List, [], ◌∷◌}
use Prim.Native.Nat.{ℕ}
use Rattle.columns.specs.Common.{fold}
use Rattle.percpu.specs.Cpu.{Cpu}
use Rattle.model.specs.State.{State}
use Rattle.model.specs.Wakeup.{Wakeup, WakeupResult, dropped, locked, woken_only, entered, wakeup_result, put_back, enter, wake_as, serve_wakeup}

-- a view of a CPU
pub record Measure : Type 0 where
  pub schedule_time : ℕ
  pub remainder : ℕ

abbrev pub measure : Cpu → Measure
measure p = record { schedule_time = p.block.schedule_time; remainder = p.remainder }

back_measured : (w : Option ℕ) (x : ℕ) (s : State) → measure (put_back w x s).cpu ≡ measure s.cpu
back_measured None x s = refl
back_measured (Some t) x s = refl

woken_measured : (s : State) (w : Wakeup) (v : WakeupResult) → measure (wake_as s w v).cpu ≡ measure s.cpu
unfolding wake_as enter
woken_measured s w dropped = refl
woken_measured s w locked = back_measured w.wake w.context_ref s
woken_measured s w (woken_only c) = refl
woken_measured s w (entered c) = refl

pub served_measured : (ws : List Wakeup) (s : State) → measure (fold serve_wakeup s ws).cpu ≡ measure s.cpu
unfolding serve_wakeup
served_measured [] s = refl
served_measured (w ∷ ws) s = served_measured ws (serve_wakeup s w) ∙ woken_measured s w (wakeup_result s w)

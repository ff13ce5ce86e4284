-- `ticks::convert` meets its contract. Assumes nothing.
use native.Mathlib.Omega.{arith}
use Rattle.ticks.proofs.Laws.{scaled, left_over}
use Rattle.ticks.specs.Ticks.{ticks, remainder, nanos_per_tick, scale}
use Rattle.ticks.proofs.convert.Goals as goal

pub returns : goal.returns
unfolding ticks remainder
returns c = (
  λ j. record { ticks = scaled c.args.elapsed scale nanos_per_tick c.args.carried (omega arith) j; remainder = left_over c.args.elapsed scale nanos_per_tick c.args.carried j },
  (omega arith, omega arith),
)

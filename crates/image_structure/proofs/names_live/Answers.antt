use Rattle.image_ranges.proofs.Named.{current_name, sched_name, idle_name}
use native.Mathlib.Omega.{arith}
use Rattle.image_structure.proofs.names_live.Goals as goal

pub is_live-requires : goal.is_live-requires
is_live-requires c = omega (arith, current_name _ _ c.requires.n_in_bounds.1 c.requires.b_value)

pub is_live-requires-then-is_live : goal.is_live-requires-then-is_live
is_live-requires-then-is_live c = omega (arith, sched_name _ _ c.requires.n_in_bounds.1 c.requires.b_value)

pub is_live-requires-then-is_live-2 : goal.is_live-requires-then-is_live-2
is_live-requires-then-is_live-2 c = omega (arith, idle_name _ _ c.requires.n_in_bounds.1 c.requires.b_value)

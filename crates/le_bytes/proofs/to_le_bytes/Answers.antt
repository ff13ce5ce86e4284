use mathlib.Core.Path.{◌∙◌}
use Rattle.std.proofs.Math.Nat.{div-div-eq-div-mul}
use Rattle.le_bytes.specs.LeBytes.{to_le_bytes}
use Rattle.le_bytes.proofs.to_le_bytes.Goals as goal

pub returns : goal.returns
unfolding to_le_bytes
returns c = simp div-div-eq-div-mul (c.copy_from_slice.ensures.after ∙ c.to_le_bytes.ensures)

-- `weights::weight_of` meets its contract. Assumes nothing.
use mathlib.Core.Path.{refl}
use Rattle.weights.proofs.Table.{weight_low, weight_high}
use Rattle.weights.specs.Weights.{weights, weight}
use Rattle.weights.proofs.weight_of.Goals as goal

pub returns : goal.returns
unfolding weight weights
returns c = (refl, weight_low _ c.requires, weight_high _ c.requires)

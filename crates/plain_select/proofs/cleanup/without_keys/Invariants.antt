use Rattle.std.proofs.Common.{take}
use Rattle.plain_model.specs.Choice.{without_keys}
use Rattle.plain_lists.specs.Lists.{entries_of, Stands}
use Rattle.plain_select.proofs.Leaving.{keys_of}
use Rattle.plain_select.proofs.cleanup.without_keys.Given as goal

abbrev pub invariant-loop-e : goal.invariant-loop-e
invariant-loop-e l = Stands l.out (without_keys (entries_of l.fn.q) (keys_of (take l.e-index l.e-items)))

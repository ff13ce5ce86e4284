use Rattle.steal.proofs.Blocks.{given_up}
use Rattle.steal.proofs.block.give_up.Goals as goal

pub returns : goal.returns
returns c = λ p e l s. given_up _ c.args.e p (c.remove.ensures p e l s).1 c.saturating_sub.ensures

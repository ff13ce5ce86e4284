use Rattle.plain_state.specs.States.{state_in}
use Rattle.model.specs.State.{at}
use mathlib.Core.Path.{refl, ap, ◌∙◌}
use Rattle.plain_select.proofs.holder.Goals as goal

pub returns : goal.returns
returns c = c.holder_in.ensures (state_in c.args.n c.args.s) refl (c.context.ensures ∙ ap (at (state_in c.args.n c.args.s)) c.index-x.ensures)

use Rattle.plain_select.proofs.Leaving.{chosen_all}
use Rattle.plain_select.proofs.cleanup.chosen.Goals as goal

pub returns : goal.returns
returns c = chosen_all c.args.n c.args.s c.args.f c.args.w c.cleaned_up.ensures c.with_v-t.ensures c.taken_out.ensures

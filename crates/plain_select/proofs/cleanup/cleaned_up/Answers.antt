use Rattle.plain_select.proofs.Leaving.{cleaned}
use Rattle.plain_select.proofs.cleanup.cleaned_up.Goals as goal

pub returns : goal.returns
returns c = cleaned c.args.n c.args.s c.args.f c.requires.0 c.requires.1 c.without_keys-q.ensures c.word-s.ensures c.saturating_sub-total.ensures

-- `schedule::switching::switch_unless_current` meets its contract. Assumes nothing.
use mathlib.Core.Path.{sym, ◌∙◌}
use Rattle.schedule.proofs.Inner.{stays_current, leaves_current}
use Rattle.schedule.proofs.switching.switch_unless_current.Goals as goal

pub returns-then-b-word : goal.returns-then-b-word
returns-then-b-word c = stays_current c.args.cpu.k c.args.time c.args.x _ c.load_block-b.ensures (c.if-b-word.true ∙ c.word.ensures) c.requires.image

pub returns : goal.returns
returns c = leaves_current c.args.cpu.k c.args.time c.args.x _ c.load_block-b.ensures (λ z. c.if-b-word.false (z ∙ sym c.word.ensures)) c.switch_to.ensures

use Rattle.std.proofs.Common.{ℕ, ◌+◌}
use Rattle.decide.specs.Input.{word_at}
use Rattle.decide.proofs.Loaded.{all_of_them}
use Rattle.decide.proofs.input.load_image.Goals as goal

pub returns : goal.returns
returns c = all_of_them (λ (j : ℕ). word_at c.args.s.now (j + 4)) c.loop-i.image _ c.loop-i.i c.loop-i.invariant.0 c.loop-i-test.false c.loop-i.invariant.1

use Rattle.std.proofs.Common.{◌≡◌, ℕ, ◌+◌, ◌<◌, length, get_or}
use Rattle.decide.specs.Input.{word_at}
use Rattle.decide.proofs.input.load_image.Given as goal

abbrev pub invariant-loop-i : goal.invariant-loop-i
invariant-loop-i l = (length l.image ≡ length l.initial.image) × ((j : ℕ) → j < l.i → get_or l.image j 0 ≡ word_at l.s (j + 4))

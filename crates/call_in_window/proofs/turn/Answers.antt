use Rattle.call_in_window.proofs.Windowed.{turn_is}
use Rattle.machine.specs.Encode.{cpu_place}
use mathlib.Core.Path.{ap, ◌∙◌}
use native.Mathlib.Omega.{arith}
use Rattle.call_in_window.proofs.turn.Goals.{then-n-gt64-via-then-n-gt64, then-n-gt64-via-else-n-gt64+then-cpu-gt3}
use Rattle.call_in_window.proofs.turn.Goals as goal

pub returns-then-n-gt64 : goal.returns-then-n-gt64
returns-then-n-gt64 c = λ i.
    elim c.then-n-gt64.branch [
      | then-n-gt64-via-then-n-gt64 w ↦ absurd (omega (arith, i.contexts, w.if-n-gt64.true))
      | then-n-gt64-via-else-n-gt64+then-cpu-gt3 w ↦ absurd (omega (arith, i.cpus, w.if-cpu-gt3.true))
    ]

pub returns-then-image-at : goal.returns-then-image-at
returns-then-image-at c = λ i. absurd (omega (arith, i.inside, c.cpu_place-at.ensures, c.index.ensures, c.if-image-at.true))

pub returns : goal.returns
returns c = λ i. turn_is c.args.n c.args.cpu c.args.time c.cpu_place-at.result c.args.image.now _ (c.cpu_place-at.ensures ∙ ap (cpu_place c.args.n) c.index.ensures) c.saturating_sub.ensures

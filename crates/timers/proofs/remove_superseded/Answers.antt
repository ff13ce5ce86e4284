-- `timers::remove_superseded` meets its contract. Assumes nothing.
use mathlib.Core.Path.{refl, sym, ◌∙◌}
use Rattle.timers.proofs.Superseding.{superseding_start, superseding_out, superseding_stays, superseding_end}
use borrow.Author.Rules.{rules}
use native.Mathlib.Omega.{arith}
use Rattle.timers.proofs.remove_superseded.Goals as goal

pub loop-i-init : goal.loop-i-init
loop-i-init c = (refl, superseding_start _ _ _ refl c.requires.1)

pub loop-i-preserved-then-supersedes : goal.loop-i-preserved-then-supersedes
loop-i-preserved-then-supersedes c = (search rules, superseding_out _ c.loop-i.invariant.1 (omega arith) _ c.timer-u.ensures (sym c.supersedes.ensures ∙ c.if-supersedes.true) c.remove.ensures.timers_count_after c.remove.ensures.b_after)

pub loop-i-preserved : goal.loop-i-preserved
loop-i-preserved c = (search rules, superseding_stays _ c.loop-i.invariant.1 (omega arith) _ c.timer-u.ensures (sym c.supersedes.ensures ∙ c.if-supersedes.false))

pub returns : goal.returns
returns c = (c.loop-i.invariant.1.small, superseding_end _ c.loop-i.invariant.1 (omega arith))

use mathlib.Core.Path.{◌≡◌, ap, ◌∙◌}
use native.Mathlib.Omega.{arith}
use borrow.Author.Rules.{rules}
use lib.ListN.{replicate}
use Rattle.wakeup_lists.proofs.Drained.{lent_length, cleared_on}
use Rattle.wakeup_lists.proofs.clear.Goals as goal

pub returns : goal.returns
returns c = λ p e.
    let f : c.fill.new.self ≡ replicate 64 0 = c.fill.ensures.after (λ y k. search rules) ∙ ap (λ n. replicate n 0) (lent_length _ c.names-names.result (omega (arith, c.names-names.ensures.1, c.requires))) in
    cleared_on c.args.list p _ _ _ _ e c.names-names.ensures.0 c.count.ensures.0 f

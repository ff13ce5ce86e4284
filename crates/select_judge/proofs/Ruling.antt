-- The rule behind the choice, by what the scan found. Assumes nothing.
use Rattle.std.specs.Prelude.{None, Some}
use mathlib.Core.Path.{◌≡◌, sym, ap, ◌∙◌}
use mathlib.Core.Bool.{false}
use mathlib.Core.List.{List}
use Rattle.answer.specs.declared.Rule.{Rule}
use Rattle.context.specs.declared.Context.{Context}
use Rattle.entries.specs.declared.Entry.{Entry}
use Rattle.model.specs.State.{State}
use Rattle.model.specs.Scan.{Scan}
use Rattle.model.specs.Rule.{rule_against, rule_by, rule_of}
use Rattle.select_judge.specs.declared.Scanned.{Scanned}
use Rattle.select_judge.specs.Holding.{Chosen}

module _ {cs : List Context} {w : Scanned} (s : State) (f : Scan) (o : Chosen cs w f) where
  pub rule_none : {u : Rule} → w.eligible_best ≡ None → u ≡ rule_by s false f None → u ≡ rule_of s false f
  unfolding rule_of
  rule_none e z = z ∙ ap (rule_by s false f) (sym e ∙ o.best)

  pub rule_some : {u : Rule} {e : Entry} → w.eligible_best ≡ Some e → u ≡ rule_against s f e → u ≡ rule_of s false f
  unfolding rule_of
  rule_some e z = z ∙ ap (rule_by s false f) (sym e ∙ o.best)

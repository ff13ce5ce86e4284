-- The choice, by what the scan found. Assumes nothing.
use Rattle.std.specs.Prelude.{None, Option, Some}
use mathlib.Core.Path.{◌≡◌, sym, ap, ◌∙◌, subst}
use mathlib.Core.List.{List}
use Prim.Native.Nat.{ℕ}
use Rattle.context.specs.declared.Context.{Context}
use Rattle.entries.specs.declared.Entry.{Entry}
use Rattle.machine.specs.Machine.{context_at}
use Rattle.model.specs.State.{State}
use Rattle.model.specs.Scan.{Scan}
use Rattle.model.specs.Choice.{Choice, against, without_entry, choice_by, choice}
use Rattle.select_judge.specs.declared.Scanned.{Scanned}
use Rattle.select_judge.specs.Values.{BestBelow}
use Rattle.select_judge.specs.Holding.{Chosen}

pub best_at : (n : ℕ) {b b' : (Option Entry)} → b ≡ b' → BestBelow n b → BestBelow n b'
best_at n e h = subst (BestBelow n) e h

module _ {cs : List Context} {w : Scanned} (s : State) (f : Scan) (o : Chosen cs w f) where
  pub choice_none : {c : Choice} → w.eligible_best ≡ None → c ≡ without_entry s f → c ≡ choice s f
  unfolding choice
  choice_none e z = z ∙ ap (choice_by s f) (sym e ∙ o.best)

  pub choice_some : {c : Choice} {e : Entry} → w.eligible_best ≡ Some e → c ≡ against s f e → c ≡ choice s f
  unfolding choice
  choice_some e z = z ∙ ap (choice_by s f) (sym e ∙ o.best)

  -- the record that was loaded
  pub record_of : {x y : ℕ} {q : Context} → x ≡ y → q ≡ context_at cs x → q ≡ context_at f.contexts y
  record_of h e = e ∙ (λ j. context_at (o.contexts j) (h j))

use mathlib.Core.Path.{refl}
use Rattle.refusal.proofs.Numbered.{number_some}
use Rattle.call_in_window.proofs.Windowed.{refused_in_window, decided, undecided}
use Rattle.window.proofs.Checked.{passes}
use Rattle.window.specs.Window.{refusal}
use Prim.Native.Nat.{ℕ}
use mathlib.Core.Path.{sym, ap, ◌∙◌}
use Rattle.call_in_window.proofs.call.Goals as goal

pub returns-in-Err : goal.returns-in-Err
returns-in-Err c = refused_in_window _ _ _ _ _ _ _ _ c.contexts-n.ensures (c.in-Err.ensures ∙ ap (λ (k : ℕ). refusal k c.args.window.now) c.word.ensures) (number_some _) c.refuse.ensures

pub add-requires : goal.add-requires
add-requires c = let p = passes c.word.result c.args.window.now (sym c.in_default.ensures ∙ refl) in (p.size, p.count)

pub returns-then-a-ne0 : goal.returns-then-a-ne0
returns-then-a-ne0 c = decided _ _ _ _ _ c.call-a.ensures _ _ _ c.contexts-n.ensures (c.in_default.ensures ∙ ap (λ (k : ℕ). refusal k c.args.window.now) c.word.ensures) _ c.turn-holder.ensures c.if-a-ne0.true refl c.add.ensures

pub returns-else-a-ne0 : goal.returns-else-a-ne0
returns-else-a-ne0 c = undecided _ _ _ _ _ c.call-a.ensures _ _ _ c.contexts-n.ensures (c.in_default.ensures ∙ ap (λ (k : ℕ). refusal k c.args.window.now) c.word.ensures) c.if-a-ne0.false refl

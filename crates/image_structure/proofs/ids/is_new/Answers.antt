use Rattle.image_structure.specs.Structure.{is_new}
use Rattle.columns.proofs.Tests.{every_none, every_next, every_no, every_end}
use borrow.Author.Tests.{eq-eqb, ne_eqb}
use mathlib.Core.Path.{sym, ◌∙◌}
use Rattle.image_structure.proofs.ids.is_new.Goals as goal

pub loop-x-init : goal.loop-x-init
loop-x-init c = every_none _

pub returns-then-id_of-id : goal.returns-then-id_of-id
unfolding is_new
returns-then-id_of-id c = sym (every_no _ _ _ c.loop-x-test.true (rw (eq-eqb _ _ (sym c.id_of.ensures ∙ c.if-id_of-id.true ∙ c.id_of-id.ensures))))

pub loop-x-preserved : goal.loop-x-preserved
loop-x-preserved c = every_next _ _ c.loop-x.invariant (rw (ne_eqb _ _ (λ z. c.if-id_of-id.false (c.id_of.ensures ∙ z ∙ sym c.id_of-id.ensures))))

pub returns : goal.returns
unfolding is_new
returns c = every_end _ _ _ c.loop-x-test.false c.loop-x.auto.x-end c.loop-x.invariant

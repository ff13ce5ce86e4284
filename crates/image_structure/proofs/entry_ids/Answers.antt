use Rattle.image_ranges.proofs.Named.{queue_count, entry_name}
use Rattle.image_structure.specs.Structure.{id_of, entry_ids}
use Rattle.columns.proofs.Tests.{every_none, every_next, every_no, every_end}
use borrow.Author.Tests.{eq-eqb, ne_eqb}
use mathlib.Core.Path.{sym, ap, ◌∙◌}
use native.Mathlib.Omega.{arith}
use Rattle.image_structure.proofs.entry_ids.Goals as goal

pub loop-i-init : goal.loop-i-init
loop-i-init c = (c.index-k.ensures, omega (arith, queue_count _ _ c.requires.n_in_bounds.1 c.requires.b_value), every_none _)

pub id_of-requires : goal.id_of-requires
id_of-requires c = let h = entry_name _ _ c.requires.n_in_bounds.1 c.requires.b_value c.loop-i.i (omega arith) in omega (arith, h)

pub returns-then-b-i : goal.returns-then-b-i
unfolding entry_ids
returns-then-b-i c = sym (every_no _ _ _ (omega (arith, c.loop-i.invariant.0)) (ne_eqb _ _ (λ z. c.if-b-i.true (z ∙ sym (c.id_of.ensures ∙ ap (id_of _) c.index-x.ensures)))))

pub loop-i-preserved : goal.loop-i-preserved
loop-i-preserved c = (c.loop-i.invariant.0, omega arith, every_next _ _ c.loop-i.invariant.2 (eq-eqb _ _ (c.if-b-i.false ∙ c.id_of.ensures ∙ ap (id_of _) c.index-x.ensures)))

pub returns : goal.returns
unfolding entry_ids
returns c = every_end _ _ _ (omega (arith, c.loop-i.invariant.0)) (omega (arith, c.loop-i.invariant.0)) c.loop-i.invariant.2

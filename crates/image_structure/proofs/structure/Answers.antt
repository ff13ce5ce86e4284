use Rattle.image_structure.proofs.Structured.{lent_in_range, lent_structure}
use Rattle.image_structure.specs.Structure.{structure}
use Rattle.columns.proofs.Tests.{every_none, every_next, every_no, every_end}
use mathlib.Core.Path.{sym, ◌∙◌}
use borrow.Author.Rules.{rules}
use native.Mathlib.Omega.{arith}
use Rattle.image_structure.proofs.structure.Goals as goal

pub returns-then-not-ids_differ : goal.returns-then-not-ids_differ
unfolding structure
returns-then-not-ids_differ c = rw (sym c.ids_differ.ensures ∙ c.if-not-ids_differ.true)

pub loop-k-init : goal.loop-k-init
loop-k-init c = every_none _

pub block_structure-requires : goal.block_structure-requires
block_structure-requires c = record { n_in_bounds = (omega (arith, c.word-names.ensures), omega (arith, c.word-names.ensures), omega (arith, c.word-names.ensures), search rules); b_value = lent_in_range _ _ _ _ _ c.cpu_place-at.ensures c.word-names.ensures c.loop-k-test.true c.requires.m_value }

pub returns-then-not-block_structure : goal.returns-then-not-block_structure
unfolding structure
returns-then-not-block_structure c = rw (sym c.ids_differ.ensures ∙ c.if-not-ids_differ.false) (sym (every_no _ _ _ c.loop-k-test.true (sym (lent_structure c.args.c _ _ _ _ c.cpu_place-at.ensures c.word-names.ensures c.block_structure.ensures) ∙ c.if-not-block_structure.true)))

pub loop-k-preserved : goal.loop-k-preserved
loop-k-preserved c = every_next _ _ c.loop-k.invariant (sym (lent_structure c.args.c _ _ _ _ c.cpu_place-at.ensures c.word-names.ensures c.block_structure.ensures) ∙ c.if-not-block_structure.false)

pub returns : goal.returns
unfolding structure
returns c = rw (sym c.ids_differ.ensures ∙ c.if-not-ids_differ.false) (every_end _ _ _ c.loop-k-test.false c.loop-k.auto.k-end c.loop-k.invariant)

use Rattle.image_structure.proofs.Structured.{unseen, seen_more}
use Rattle.image_structure.specs.Structure.{ids_differ}
use lib.ListN.{length-set}
use Rattle.columns.proofs.Tests.{every_none, every_next, every_no, every_end}
use mathlib.Core.Path.{refl, sym, ◌∙◌}
use native.Mathlib.Omega.{arith}
use Rattle.image_structure.proofs.ids.ids_differ.Goals as goal

pub loop-y-init : goal.loop-y-init
loop-y-init c = (refl, (λ x h. absurd (omega arith)), every_none _)

pub is_new_if-requires : goal.is_new_if-requires
is_new_if-requires c = record { record_size_in_bounds = (omega arith, omega arith); true_value = (λ e. unseen c.args.m.now c.loop-y.seen _ _ _ c.id_of-id.ensures c.index-h.ensures c.loop-y.invariant.1 e) }

pub returns-then-not-is_new_if : goal.returns-then-not-is_new_if
unfolding ids_differ
returns-then-not-is_new_if c = sym (every_no _ _ _ c.loop-y-test.true (sym c.is_new_if.ensures ∙ c.if-not-is_new_if.true))

pub loop-y-preserved : goal.loop-y-preserved
loop-y-preserved c = ((rw (length-set) c.loop-y.invariant.0), seen_more c.args.m.now c.loop-y.seen c.loop-y.y _ _ c.id_of-id.ensures c.index-h.ensures (omega arith) c.loop-y.invariant.1, every_next _ _ c.loop-y.invariant.2 (sym c.is_new_if.ensures ∙ c.if-not-is_new_if.false))

pub returns : goal.returns
unfolding ids_differ
returns c = every_end _ _ _ c.loop-y-test.false c.loop-y.auto.y-end c.loop-y.invariant.2

-- What the code leaves of the four that call one another. Assumes nothing.
use Rattle.std.proofs.Common.{sym, ◌∙◌}
use borrow.Author.Tests.{ne_eqb}
use Rattle.rival.specs.Game.{forces_after}
use Rattle.rival.proofs.Choices.{first_is, first_none, all_of}
use Rattle.rival.proofs.Telling.{own_told}
use Rattle.rival.proofs.Turning.{told_end, told_writer, told_rival}
use Rattle.rival.proofs.turns.+forces.Goals as goal

pub forces-returns-then-rounds-eq0 : goal.forces-returns-then-rounds-eq0
forces-returns-then-rounds-eq0 t c =
    told_end c.args.p c.args.time c.args.m.now c.args.rounds (own_told c.args.p c.args.m.now _ _ c.in_charge.ensures c.word.ensures) c.if-rounds-eq0.true

pub forces-returns-then-own : goal.forces-returns-then-own
forces-returns-then-own t c =
    c.is_some.ensures ∙ told_writer c.args.p c.args.time c.args.m.now c.args.rounds _ c.if-rounds-eq0.false (sym c.in_charge.ensures ∙ c.if-own.true ∙ c.word.ensures) c.writer_turn.ensures

pub forces-returns : goal.forces-returns
forces-returns t c =
    told_rival c.args.p c.args.time c.args.m.now c.args.rounds c.if-rounds-eq0.false
    (own_told c.args.p c.args.m.now _ _ c.in_charge.ensures c.word.ensures ∙ ne_eqb _ _ c.if-own.false) c.rival_turn.ensures

pub writer_turn-returns-then-forces_after : goal.writer_turn-returns-then-forces_after
writer_turn-returns-then-forces_after t c =
    sym (first_is (forces_after c.args.p c.args.rounds c.args.time c.args.m.now c.args.p.writer) _ c.loop-choice-test.true c.loop-choice.invariant (sym c.forces_after.ensures ∙ c.if-forces_after.true))

pub writer_turn-returns : goal.writer_turn-returns
writer_turn-returns t c = sym (first_none (forces_after c.args.p c.args.rounds c.args.time c.args.m.now c.args.p.writer) _ c.loop-choice-test.false c.loop-choice.invariant)

pub rival_turn-returns : goal.rival_turn-returns
rival_turn-returns t c =
    all_of (forces_after c.args.p c.args.rounds c.args.time c.args.m.now c.args.p.rival) _ _ (rw c.choices-choice-items.ensures at c.loop-choice-test.false) c.loop-choice.invariant

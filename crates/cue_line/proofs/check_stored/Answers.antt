use Rattle.cue_line.proofs.Passed.{pass_stops, fit_none, fit_next, rise_none, last_none, pass_rises, pass_falls}
use Rattle.cue_line.proofs.Lined.{rise_next, last_next}
use Rattle.std.proofs.Common.{◌≡◌, ◌∙◌, eqb, ltb, ◌&&◌, ◌||◌}
use borrow.Author.Tests.{eq-eqb, ne_eqb}
use Rattle.cue_line.proofs.check_stored.Goals as goal
use Rattle.cue_line.proofs.check_stored.Goals.{then-rise+then-i-eq0, then-rise+else-i-eq0, else-rise}

pub loop-i-init : goal.loop-i-init
loop-i-init c = (fit_none _, rise_none _, last_none _)

pub returns-then-not-rows_fit : goal.returns-then-not-rows_fit
returns-then-not-rows_fit c = pass_stops _ _ _ _ c.loop-i-test.true c.rows_fit.ensures c.if-not-rows_fit.true

pub loop-i-preserved : goal.loop-i-preserved
loop-i-preserved c =
    let later : c.if-rise.rise ≡ (c.loop-i.rise && (eqb c.loop-i.i 0 || ltb c.loop-i.last c.start_at-start.result)) =
    elim c.if-rise.branch [ then-rise+then-i-eq0 w ↦ let z = eq-eqb _ 0 w.if-i-eq0.true in rw (w.if-rise.true, z) (w.rise-is ∙ z) | then-rise+else-i-eq0 w ↦ rw (w.if-rise.true, ne_eqb _ 0 w.if-i-eq0.false) w.rise-is | else-rise w ↦ rw w.if-rise.false (w.rise-is ∙ w.if-rise.false) ] in
    (fit_next _ _ _ c.loop-i.invariant.0 c.rows_fit.ensures c.if-not-rows_fit.false, rise_next _ _ _ _ _ _ c.loop-i.invariant.1 c.loop-i.invariant.2 c.start_at-start.ensures later, last_next _ _ _ c.start_at-start.ensures)

pub returns-then-rise-2 : goal.returns-then-rise-2
returns-then-rise-2 c = pass_rises _ _ _ _ c.loop-i.auto.i-end c.loop-i-test.false c.loop-i.invariant.0 c.loop-i.invariant.1 c.if-rise-2.true

pub returns : goal.returns
returns c = pass_falls _ _ _ _ c.loop-i.auto.i-end c.loop-i-test.false c.loop-i.invariant.0 c.loop-i.invariant.1 c.if-rise-2.false

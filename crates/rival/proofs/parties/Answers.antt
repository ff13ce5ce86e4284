use mathlib.Core.Path.{◌∙◌, sym}
use Rattle.std.proofs.lemmas.Result.{err_from_is_err_and}
use Rattle.rival.specs.Game.{parties}
use Rattle.rival.proofs.Entering.{missed, met}
use Rattle.rival.proofs.parties.Goals as goal

pub returns-in_err-ok_or : goal.returns-in_err-ok_or
unfolding parties
returns-in_err-ok_or c = λ M e f.
    let p = err_from_is_err_and c.from_residual.result c.from_residual.ensures.1 in
    let w = missed _ _ (sym c.ok_or.ensures.value ∙ c.in_err-ok_or.was) in
    rw (p.1, p.2, w.1, ← c.get_percpu_block.ensures M e f, w.0)

pub returns-in_err-ok_or-2 : goal.returns-in_err-ok_or-2
unfolding parties
returns-in_err-ok_or-2 c = λ M e f.
    let p = err_from_is_err_and c.from_residual-in_err-ok_or-2.result c.from_residual-in_err-ok_or-2.ensures.1 in
    let k = met _ _ (sym c.ok_or.ensures.value ∙ c.in_ok-ok_or.was) in
    let w = missed _ _ (sym c.ok_or-2.ensures.value ∙ c.in_err-ok_or-2.was) in
    rw (p.1, p.2, w.1, ← c.get_percpu_block.ensures M e f, k, ← c.look_up.ensures M e f, w.0)

pub returns-in_err-ok_or-3 : goal.returns-in_err-ok_or-3
unfolding parties
returns-in_err-ok_or-3 c = λ M e f.
    let p = err_from_is_err_and c.from_residual-in_err-ok_or-3.result c.from_residual-in_err-ok_or-3.ensures.1 in
    let k = met _ _ (sym c.ok_or.ensures.value ∙ c.in_ok-ok_or.was) in
    let x = met _ _ (sym c.ok_or-2.ensures.value ∙ c.in_ok-ok_or-2.was) in
    let w = missed _ _ (sym c.ok_or-3.ensures.value ∙ c.in_err-ok_or-3.was) in
    rw (p.1, p.2, w.1, ← c.get_percpu_block.ensures M e f, k, ← c.look_up.ensures M e f, x, ← c.look_up-2.ensures M e f, w.0)

pub returns : goal.returns
unfolding parties
returns c = λ M e f.
    let k = met _ _ (sym c.ok_or.ensures.value ∙ c.in_ok-ok_or.was) in
    let x = met _ _ (sym c.ok_or-2.ensures.value ∙ c.in_ok-ok_or-2.was) in
    let y = met _ _ (sym c.ok_or-3.ensures.value ∙ c.in_ok-ok_or-3.was) in
    rw (← c.get_percpu_block.ensures M e f, k, ← c.look_up.ensures M e f, x, ← c.look_up-2.ensures M e f, y)

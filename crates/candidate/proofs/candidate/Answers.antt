use mathlib.Core.Path.{◌∙◌, sym}
use Rattle.std.proofs.lemmas.Result.{err_from_is_err_and}
use Rattle.candidate.proofs.Apart.{missed, met, absent_cpu, gone_context, off_context, on_context}
use Rattle.candidate.proofs.candidate.Goals as goal

pub returns-in_err-k : goal.returns-in_err-k
returns-in_err-k c = λ M e o.
    let p = err_from_is_err_and c.from_residual.result c.from_residual.ensures.1 in
    let w = missed _ _ (sym c.ok_or.ensures.value ∙ c.in_err-k.was) in
    rw (p.1, p.2, w.1) (absent_cpu M _ _ _ (c.get_percpu_block.ensures M e o) w.0)

pub returns-in_err-x : goal.returns-in_err-x
returns-in_err-x c = λ M e o.
    let p = err_from_is_err_and c.from_residual-in_err-x.result c.from_residual-in_err-x.ensures.1 in
    let k = met _ _ (sym c.ok_or.ensures.value ∙ c.in_ok-k.was) in
    let w = missed _ _ (sym c.ok_or-2.ensures.value ∙ c.in_err-x.was) in
    rw (p.1, p.2, w.1) (gone_context M _ _ _ (c.get_percpu_block.ensures M e o) _ k _ (c.look_up.ensures M e o) w.0)

pub returns-then-on_none : goal.returns-then-on_none
returns-then-on_none c = λ M e o.
    let k = met _ _ (sym c.ok_or.ensures.value ∙ c.in_ok-k.was) in
    let x = met _ _ (sym c.ok_or-2.ensures.value ∙ c.in_ok-x.was) in
    off_context M _ _ _ (c.get_percpu_block.ensures M e o) _ k _ (c.look_up.ensures M e o) _ x _ (c.on_none.ensures M e o) c.if-on_none.true

pub returns : goal.returns
returns c = λ M e o.
    let k = met _ _ (sym c.ok_or.ensures.value ∙ c.in_ok-k.was) in
    let x = met _ _ (sym c.ok_or-2.ensures.value ∙ c.in_ok-x.was) in
    on_context M _ _ _ (c.get_percpu_block.ensures M e o) _ k _ (c.look_up.ensures M e o) _ x _ (c.on_none.ensures M e o) c.if-on_none.false

use mathlib.Core.Path.{refl, sym, ◌∙◌}
use Rattle.steal.proofs.Round.{found, not_found, passed_next, passed_none, round_is, not_empty, is_empty_list}
use Rattle.steal.proofs.Offered.{inner_first, inner_next, inner_enough, inner_all}
use native.Mathlib.Omega.{arith}
use Rattle.steal.proofs.search.search.Goals as goal

pub loop-i-init : goal.loop-i-init
loop-i-init c = passed_none

pub offered-len-requires : goal.offered-len-requires
offered-len-requires c = record { image = c.requires.image; bounded = ((round_is _ _ _ c.args.cpu.present c.loop-i-test.true).0) }

pub wanted-want-requires : goal.wanted-want-requires
wanted-want-requires c = record { image = c.requires.image; bounded = ((round_is _ _ _ c.args.cpu.present c.loop-i-test.true).0) }

pub loop-j-init : goal.loop-j-init
loop-j-init c = inner_first refl c.wanted-want.ensures.0

pub entry-e-requires : goal.entry-e-requires
entry-e-requires c = record { image = c.requires.image; bounded = omega (arith, c.offered-len.ensures.0, c.loop-j-test.true) }

pub take_candidate-got-requires : goal.take_candidate-got-requires
take_candidate-got-requires c = record { image = c.requires.image; bounded = (c.entry-e.ensures.fits); want_bound = (c.wanted-want.ensures.1, c.loop-j.invariant.few, c.loop-j.invariant.entries) }

pub loop-j-preserved : goal.loop-j-preserved
loop-j-preserved c = inner_next c.take_candidate-got.result c.loop-j.invariant c.loop-j-test.true c.offered-len.ensures.1 c.entry-e.ensures c.take_candidate-got.ensures.all c.take_candidate-got.ensures.result_value (omega (arith, c.len.ensures, c.if-want-len.false))

pub loop-i-preserved : goal.loop-i-preserved
loop-i-preserved c = passed_next c.loop-i.invariant (λ M e o. sym (is_empty_list _ (omega (arith, c.len-in-loop-i.ensures, c.if-len-gt0.false))) ∙ inner_all c.loop-j.invariant c.loop-j.auto.j-end c.loop-j-test.false c.offered-len.ensures.1 c.wanted-want.ensures.2 M e o)

pub returns : goal.returns
returns c = not_found c.loop-i.invariant c.args.cpu.present c.loop-i-test.false

pub returns-then-want-len : goal.returns-then-want-len
returns-then-want-len c = found c.args.cpu.present c.loop-i.invariant c.loop-i-test.true refl (inner_enough c.take_candidate-got.result c.loop-j.invariant c.loop-j-test.true c.offered-len.ensures.1 c.entry-e.ensures c.take_candidate-got.ensures.result_value c.wanted-want.ensures.2 (omega (arith, c.len.ensures, c.if-want-len.true))) (not_empty _ (omega (arith, c.len.ensures, c.if-want-len.true, c.wanted-want.ensures.0))) c.take_candidate-got.ensures.all

pub returns-then-len-gt0 : goal.returns-then-len-gt0
returns-then-len-gt0 c = found c.args.cpu.present c.loop-i.invariant c.loop-i-test.true refl (inner_all c.loop-j.invariant c.loop-j.auto.j-end c.loop-j-test.false c.offered-len.ensures.1 c.wanted-want.ensures.2) (not_empty _ (omega (arith, c.len-in-loop-i.ensures, c.if-len-gt0.true))) c.loop-j.invariant.entries

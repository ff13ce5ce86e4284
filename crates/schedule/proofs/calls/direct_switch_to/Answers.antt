-- `schedule::calls::direct_switch_to` meets its contract. Assumes nothing.
use mathlib.Core.Path.{refl, sym, ap, ◌∙◌}
use Prim.Native.Nat.{ℕ}
use native.Mathlib.Omega.{arith}
use lib.Dec.{eqb}
use Rattle.stages.proofs.Kept.{ranged_more}
use Rattle.std.proofs.lemmas.Result.{err_from_is_err_and}
use Rattle.schedule.proofs.Inner.{direct_is, begin_again}
use Rattle.schedule.proofs.Called.{can_begin, direct, direct_current, directly, directly_full, not_directly}
use Rattle.schedule.proofs.calls.direct_switch_to.Goals as goal
use Rattle.schedule.proofs.calls.direct_switch_to.Goals.{then-b-name-via-then-b-name, then-b-name-via-else-b-name+in_ok-direct_switch_by+then-branch}

pub returns-then-b-name : goal.returns-then-b-name
returns-then-b-name c =
    elim c.then-b-name.branch [
      | then-b-name-via-then-b-name w ↦ rw w.m-is (direct_current c.args.cpu.k c.args.time c.args.x _ c.load_block-b.ensures (w.if-b-name.true ∙ c.word-name.ensures) c.requires.image)
      | then-b-name-via-else-b-name+in_ok-direct_switch_by+then-branch w ↦ rw w.m-is (directly c.args.cpu.k c.args.time c.args.x _ c.load_block-b.ensures _ (ap (λ (y : ℕ). eqb c.load_block-b.result.sched_ctxt y) c.word-name.ensures) (λ z. w.if-b-name.false (z ∙ sym c.word-name.ensures)) (direct_is w.if-branch.true w.in_ok-direct_switch_by.ensures))
    ]

pub direct_switch_by-requires : goal.direct_switch_by-requires
direct_switch_by-requires c = record { image = c.requires.image; bounded = c.requires.bounded; ranged = ranged_more (omega arith) (omega arith) c.requires.ranged }

pub switch_inner-requires : goal.switch_inner-requires
switch_inner-requires c = let t = direct_is c.if-branch.false c.in_ok-direct_switch_by.ensures in record { image = t.image refl; bounded = (c.requires.bounded.1); can_begin = begin_again c.args.time (direct c.args.cpu.k c.args.time c.args.x (eqb c.load_block-b.result.sched_ctxt c.word-name.result)) t c.requires.image (can_begin c.args.time c.args.cpu.present c.requires.ranged c.requires.k_bound) }

pub returns-in_err-direct_switch_by : goal.returns-in_err-direct_switch_by
returns-in_err-direct_switch_by c = let p = err_from_is_err_and c.from_residual.result c.from_residual.ensures.1 in rw p.1 (directly_full c.args.cpu.k c.args.time c.args.x _ c.load_block-b.ensures _ (ap (λ (y : ℕ). eqb c.load_block-b.result.sched_ctxt y) c.word-name.ensures) (λ z. c.if-b-name.false (z ∙ sym c.word-name.ensures)) c.in_err-direct_switch_by.ensures)

pub returns : goal.returns
returns c = not_directly c.args.cpu.k c.args.time c.args.x _ c.load_block-b.ensures _ (ap (λ (y : ℕ). eqb c.load_block-b.result.sched_ctxt y) c.word-name.ensures) (λ z. c.if-b-name.false (z ∙ sym c.word-name.ensures)) (direct_is c.if-branch.false c.in_ok-direct_switch_by.ensures) c.requires.image c.switch_inner.ensures

use mathlib.Core.Path.{◌≡◌, refl, subst, sym}
use Prim.Native.Nat.{ℕ, ◌<◌}
use native.Mathlib.Omega.{arith}
use borrow.Author.Rules.{rules}
use Rattle.group_ops.proofs.Reaching.{Left, left_start, image_here, name_here, left_full, left_result, left_next, reached_end}
use Rattle.group_ops.proofs.unblock_each.Goals as goal

pub loop-x-init : goal.loop-x-init
loop-x-init c =
    let e : c.into_iter-x-iterator.result.rest ≡ c.args.mask = cc (c.into_iter-x-iterator.ensures.into_iter_gives, c.iter-x-items.ensures)
    in subst (λ (r : ℕ). Left c.args.cpu.c c.args.cpu.n c.args.cpu.k c.args.mask c.args.m.now c.args.m.now 0 0 r) (sym e) (left_start c.requires.all)

pub unblock-a-requires : goal.unblock-a-requires
unblock-a-requires c = record { image = image_here c.requires.image c.loop-x.invariant; bounded = (subst (λ (y : ℕ). y < c.args.cpu.n) (sym c.index.ensures) (name_here c.requires.image c.loop-x.invariant _ _ c.in-Some.ensures.steps)) }

pub returns-then-a-ne0 : goal.returns-then-a-ne0
returns-then-a-ne0 c = left_full c.requires.image c.loop-x.invariant _ _ c.in-Some.ensures.steps c.args.cpu.present (rw c.index.ensures at c.unblock-a.ensures) c.if-a-ne0.true

pub overflow_add-count : goal.overflow_add-count
overflow_add-count c = omega (arith, left_result c.requires.image c.loop-x.invariant _ _ c.in-Some.ensures.steps c.args.cpu.present (rw c.index.ensures at c.unblock-a.ensures) c.if-a-ne0.false, c.loop-x.invariant.few)

pub loop-x-preserved : goal.loop-x-preserved
loop-x-preserved c = left_next c.requires.image c.loop-x.invariant _ _ c.in-Some.ensures.steps c.args.cpu.present (rw c.index.ensures at c.unblock-a.ensures) _ _ c.if-a-ne0.false (search rules) refl c.max-interrupt.ensures

pub shape_of-m : goal.shape_of-m
shape_of-m c = c.loop-x.invariant.long

pub returns : goal.returns
returns c = λ M e o. reached_end _ c.in-None.ensures.steps.0 (c.loop-x.invariant.reached M e o)

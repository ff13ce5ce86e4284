-- The holder back in the queue, and the slice handed over, in the code's words. Assumes nothing.
use mathlib.Core.Path.{◌≡◌, refl, ap, ◌∙◌}
use mathlib.Core.Bool.{Bool}
use Prim.Native.Nat.{ℕ}
use Rattle.context.specs.declared.Context.{Context}
use Rattle.percpu.specs.With.{block_sched_ctxt, cpu_block}
use Rattle.model.specs.State as model
use Rattle.model.specs.State.{at, put_context, on_cpu, holder}
use Rattle.model.specs.Handover.{hand_over}
use Rattle.handover.specs.Handed.{given_up, taken}
use Rattle.plain_model.specs.Handover.{requeue}
use Rattle.plain_state.specs.declared.State.{State}
use Rattle.plain_state.specs.States.{state_in, Became, Tracks}
use Rattle.plain_handover.specs.Settled.{requeued_by, taken_over}
use Rattle.plain_state.proofs.Tracking.{tracks_as}
use Rattle.plain_handover.proofs.Settling.{became_as}

at_holder : (s : model.State) → requeued_by s.cpu.block.sched_ctxt (holder s) s ≡ requeue s
unfolding requeue
at_holder s = refl

pub requeued_holder : (n : ℕ) (s : State) {x : ℕ} {q : Context} {r : State} → x ≡ s.cpu.block.sched_ctxt → q ≡ at (state_in n s) x → Tracks n r (requeued_by x q (state_in n s)) → Tracks n r (requeue (state_in n s))
requeued_holder n s {x} {q} {r} e f t =
    tracks_as t (ap (λ (z : Context). requeued_by x z (state_in n s)) f ∙ ap (λ (y : ℕ). requeued_by y (at (state_in n s) y) (state_in n s)) e ∙ at_holder (state_in n s))

pub took_over : (n : ℕ) (s : State) (time x : ℕ) {q q' : Context} {t r : State} {w : ℕ} → q ≡ at (state_in n s) x → q' ≡ taken time q → Became n t (put_context x q' (state_in n s)) → w ≡ x
    → Became n r (on_cpu (cpu_block (block_sched_ctxt w s.cpu.block)) (state_in n t)) → Became n r (taken_over time x (state_in n s))
unfolding taken_over
took_over n s time x {q} {q'} {t} {r} {w} e f a g b =
    became_as
    (ap (λ (y : ℕ). on_cpu (cpu_block (block_sched_ctxt y s.cpu.block)) (state_in n t)) g
    ∙ ap (on_cpu (cpu_block (block_sched_ctxt x s.cpu.block))) (a.is ∙ ap (λ (z : Context). put_context x z (state_in n s)) (f ∙ ap (taken time) e))) b

hand_over_at : (time : ℕ) (was_idle : Bool) (x : ℕ) (s : model.State) → taken_over time x (put_context s.cpu.block.sched_ctxt (given_up time was_idle (holder s)) s) ≡ hand_over time was_idle x s
unfolding taken_over hand_over
hand_over_at time was_idle x s = refl

pub handed : (n : ℕ) (s : State) (time : ℕ) (was_idle : Bool) (x : ℕ) {y : ℕ} {q q' : Context} {t r : State} → y ≡ s.cpu.block.sched_ctxt → q ≡ at (state_in n s) y → q' ≡ given_up time was_idle q
    → Became n t (put_context y q' (state_in n s)) → Became n r (taken_over time x (state_in n t)) → Became n r (hand_over time was_idle x (state_in n s))
handed n s time was_idle x {y} {q} {q'} {t} {r} e f g a b =
    became_as
    (ap (taken_over time x) (a.is ∙ ap (λ (z : Context). put_context y z (state_in n s)) (g ∙ ap (given_up time was_idle) f))
    ∙ ap (λ (z : ℕ). taken_over time x (put_context z (given_up time was_idle (at (state_in n s) z)) (state_in n s))) e
    ∙ hand_over_at time was_idle x (state_in n s)) b

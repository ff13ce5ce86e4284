-- The slice handed over, in the code's words. Assumes nothing.
use Rattle.std.specs.Prelude.{if◌then◌else◌}
use mathlib.Core.Path.{◌≡◌, refl, sym, ap, ◌∙◌, subst}
use mathlib.Core.Bool.{Bool, true, false, not, ◌&&◌, ◌||◌}
use mathlib.Core.List.{List, [], ◌∷◌}
use Prim.Native.Nat.{ℕ, ◌+◌, ◌-◌, ◌/◌, ◌<◌, ◌≤◌}
use native.Mathlib.Omega.{arith}
use Rattle.columns.proofs.Tests.{by_test}
use Rattle.context.specs.declared.Context.{Context}
use Rattle.context.specs.With.{with_currently_scheduled, with_schedule_time, with_sched_cpu_time}
use Rattle.percpu.specs.declared.PercpuBlock.{PercpuBlock}
use Rattle.percpu.specs.Cpu.{Cpu}
use Rattle.percpu.specs.With.{block_sched_ctxt, cpu_block}
use Rattle.machine.specs.Machine.{Machine, context_at, cpu_at}
use Rattle.machine.specs.Encode.{encode}
use Rattle.machine.specs.Shape.{ContextFits, Fits, Image}
use Rattle.model.specs.State.{State, at, state_of, put_context, on_cpu}
use Rattle.stages.specs.Stage.{Staged, Ranged}
use Rattle.stages.specs.Read.{BlockFits}
use Rattle.stages.proofs.Compose.{stage_then, stage_as}
use Rattle.handover.specs.Handed.{given_up, taken, taken_over, handed_by}
use Rattle.stages.specs.Bounds.{t_timed}
use Rattle.model.specs.Handover.{hand_over}

module _ (q : Context) (time : ℕ) (was_idle : Bool) where
  pub given_idle : was_idle ≡ true → with_currently_scheduled false q ≡ given_up time was_idle q
  given_idle e = rw e

  pub given_other : (d : ℕ) → was_idle ≡ false → d ≡ time - q.schedule_time → with_sched_cpu_time (q.sched_cpu_time + d) (with_currently_scheduled false q) ≡ given_up time was_idle q
  given_other d e f = rw (e, f)

  pub given_fits : {c : ℕ} {q' : Context} → q' ≡ given_up time was_idle q → ContextFits c q → ContextFits c q'
  given_fits e o = rw e (record { cpu_id = o.cpu_id; prio = o.prio; rem_slice = o.rem_slice })

pub taken_fits : {c : ℕ} {q' : Context} (q : Context) (time : ℕ) → q' ≡ taken time q → ContextFits c q → ContextFits c q'
taken_fits q time e o = rw e (record { cpu_id = o.cpu_id; prio = o.prio; rem_slice = o.rem_slice })

pub sched_fits : {n : ℕ} (b : PercpuBlock) (x w : ℕ) → w ≡ x → x < n → BlockFits n b → BlockFits n (block_sched_ctxt w b)
sched_fits b x w e l o = rw e (record { current = o.current; sched = l; idle = o.idle })

pub taken_over_as : {c n k : ℕ} {m m' m'' : List ℕ} (time x w : ℕ) (b : PercpuBlock) (q : Context) {q' : Context} → k < c → w ≡ x
    → ((M : Machine) → m ≡ encode M → Fits c n M → q ≡ context_at M.contexts x) → q' ≡ taken time q
    → Staged c n k m m' false (λ (s : State). put_context x q' s) → Staged c n k m' m'' false (λ (s : State). on_cpu (λ (p : Cpu). cpu_block (block_sched_ctxt w b) p) s)
    → Staged c n k m m'' false (λ (s : State). taken_over time x b s)
unfolding taken_over
taken_over_as time x w b q h f hq e t u = stage_as (stage_then h t u) (λ M z o. (rw (f, e, hq M z o), λ a d. refl))

pub handed_from : {c n k : ℕ} {m m' m'' : List ℕ} (time : ℕ) (was_idle : Bool) (x y : ℕ) (b : PercpuBlock) (q : Context) {q' : Context} → k < c → q' ≡ given_up time was_idle q
    → Staged c n k m m' false (λ (s : State). put_context y q' s) → Staged c n k m' m'' false (λ (s : State). taken_over time x b s)
    → Staged c n k m m'' false (λ (s : State). handed_by time was_idle x y b q s)
unfolding handed_by
handed_from time was_idle x y b q h e t u = stage_as (stage_then h t u) (λ M z o. (rw e, λ a d. refl))

at_values : (time : ℕ) (was_idle : Bool) (x : ℕ) (s : State)
    → handed_by time was_idle x s.cpu.block.sched_ctxt s.cpu.block (at s s.cpu.block.sched_ctxt) s ≡ hand_over time was_idle x s
unfolding handed_by taken_over hand_over
at_values time was_idle x s = refl

module _ {c n : ℕ} {m : List ℕ} (k : ℕ) (b : PercpuBlock) (hb : (M : Machine) → m ≡ encode M → Fits c n M → b ≡ (cpu_at M k).block) (y : ℕ) (hy : y ≡ b.sched_ctxt)
    (q : Context) (hq : (M : Machine) → m ≡ encode M → Fits c n M → q ≡ context_at M.contexts y) where
  pub time_below : {u : ℕ} → Ranged c n t_timed u m → y < n → q.sched_cpu_time ≤ t_timed
  time_below r l = rw (hq r.M r.eq r.fits) (r.below.context y l).sched_cpu_time

  pub handed_as : (time : ℕ) (was_idle : Bool) (x : ℕ) {m' : List ℕ} → Staged c n k m m' false (λ (s : State). handed_by time was_idle x y b q s) → Staged c n k m m' false (λ (s : State). hand_over time was_idle x s)
  handed_as time was_idle x t = stage_as t (λ M z o. (rw (hq M z o, hy, hb M z o) (at_values time was_idle x (state_of k M)), λ a d. refl))

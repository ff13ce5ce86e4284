-- The holder back in the queue, in the code's words. Assumes nothing.
use Rattle.std.specs.Prelude.{if◌then◌else◌}
use mathlib.Core.Path.{◌≡◌, refl, sym, ap, ◌∙◌, subst}
use mathlib.Core.Bool.{Bool, true, false, not, ◌&&◌, ◌||◌}
use mathlib.Core.List.{List, [], ◌∷◌}
use Prim.Native.Nat.{ℕ, ◌+◌, ◌-◌, ◌/◌, ◌<◌, ◌≤◌}
use native.Mathlib.Omega.{arith}
use Rattle.columns.proofs.Tests.{by_test}
use Rattle.context.specs.declared.Context.{Context}
use Rattle.weights.specs.Weights.{weight}
use Rattle.weights.proofs.Table.{weight_low, weight_high}
use Rattle.entries.specs.declared.Entry.{Entry}
use Rattle.entries.specs.declared.Key.{Key}
use Rattle.percpu.specs.declared.PercpuBlock.{PercpuBlock}
use Rattle.machine.specs.Machine.{Machine, context_at, cpu_at}
use Rattle.machine.specs.Encode.{encode}
use Rattle.machine.specs.Shape.{ContextFits, EntryFits, Fits, Image}
use Rattle.model.specs.State.{State, at, state_of, put_context, insert_entry, remove_key}
use Rattle.stages.specs.Stage.{Staged}
use Rattle.stages.proofs.Compose.{stage_then, stage_as}
use Rattle.stages.proofs.Reading.{unchanged}
use Rattle.handover.specs.Handed.{taken_out_by, requeued_by}
use Rattle.context.specs.Key.{queue_key, with_new_key, entry_of}
use Rattle.model.specs.Handover.{requeue}

pub entry_as : (q : Context) (x w y : ℕ) → w ≡ weight q.prio → y ≡ x
    → entry_of y w q ≡ entry_of x (weight q.prio) q
entry_as q x w y e f = rw (e, f)

pub entry_fits : {c n : ℕ} {e : Entry} (q : Context) (x : ℕ) → e ≡ entry_of x (weight q.prio) q → x < n → ContextFits c q → EntryFits n e
entry_fits q x z l o =
    let h : q.prio < 40 = omega (arith, o.prio)
    in rw z (record { name = l; light = weight_high q.prio h; heavy = weight_low q.prio h })

pub keyed_fits : {c : ℕ} {q' : Context} (q : Context) → q' ≡ with_new_key q → ContextFits c q → ContextFits c q'
keyed_fits q e o = rw e (record { cpu_id = o.cpu_id; prio = o.prio; rem_slice = o.rem_slice })

pub taken_out : {c n k : ℕ} {m m' : List ℕ} {key : Key} (q : Context) → q.has_queue_key ≡ true → key ≡ queue_key q → Staged c n k m m' false (λ (s : State). remove_key key s)
    → Staged c n k m m' false (λ (s : State). taken_out_by q s)
taken_out q e f t = stage_as t (λ M z o. (rw (e, f), λ a d. refl))

pub taken_not : {c n k : ℕ} {m : List ℕ} (q : Context) → q.has_queue_key ≡ false → Image c n m → Staged c n k m m false (λ (s : State). taken_out_by q s)
taken_not {k = k} q e i = unchanged k (λ (s : State). taken_out_by q s) i (λ M z o. rw e)

pub requeued : {c n k : ℕ} {m m' m'' m''' : List ℕ} {r : Bool} {q' : Context} {e : Entry} (x : ℕ) (q : Context) → k < c → q' ≡ with_new_key q → e ≡ entry_of x (weight q.prio) q
    → Staged c n k m m' false (λ (s : State). taken_out_by q s) → Staged c n k m' m'' false (λ (s : State). put_context x q' s) → Staged c n k m'' m''' r (λ (s : State). insert_entry e s)
    → Staged c n k m m''' r (λ (s : State). requeued_by x q s)
requeued x q h f g t u w = stage_as (stage_then h (stage_then h t u) w) (λ M z o. (rw (f, g), λ a d. refl))

at_values : (s : State) → requeued_by s.cpu.block.sched_ctxt (at s s.cpu.block.sched_ctxt) s ≡ requeue s
unfolding requeue
at_values s = refl

pub requeued_as : {c n k : ℕ} {m m' : List ℕ} {r : Bool} (x : ℕ) (b : PercpuBlock) (q : Context) → ((M : Machine) → m ≡ encode M → Fits c n M → b ≡ (cpu_at M k).block) → x ≡ b.sched_ctxt
    → ((M : Machine) → m ≡ encode M → Fits c n M → q ≡ context_at M.contexts x) → Staged c n k m m' r (λ (s : State). requeued_by x q s) → Staged c n k m m' r (λ (s : State). requeue s)
requeued_as {k = k} x b q hb hx hq t = stage_as t (λ M z o. (rw (hq M z o, hx, hb M z o) (at_values (state_of k M)), λ a d. refl))

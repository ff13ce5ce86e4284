-- Virtual time, the stealable word and who comes next, in the code's words. Assumes nothing.
use Rattle.std.specs.Prelude.{None, Option, Some, is_some}
use mathlib.Core.Path.{◌≡◌, refl, subst}
use mathlib.Core.Bool.{Bool, true, false, not, ◌&&◌, ◌||◌}
use mathlib.Core.List.{List, [], ◌∷◌}
use Prim.Native.Nat.{ℕ, ◌+◌, ◌/◌, ◌<◌, ◌≤◌}
use native.Mathlib.Omega.{arith}
use lib.Dec.{eqb, ltb}
use lib.ListN.{length}
use borrow.Author.Tests.{eq-eqb, ne_eqb, lt-ltb}
use Rattle.columns.specs.Common.{is_empty}
use Rattle.columns.proofs.Tests.{by_test}
use Rattle.entries.specs.declared.Entry.{Entry}
use Rattle.percpu.specs.declared.PercpuBlock.{PercpuBlock}
use Rattle.percpu.specs.Cpu.{Cpu}
use Rattle.percpu.specs.With.{block_v, block_stealable, cpu_block}
use Rattle.machine.specs.Machine.{Machine, cpu_at}
use Rattle.machine.specs.Encode.{encode}
use Rattle.machine.specs.Shape.{Fits}
use Rattle.model.specs.State.{State, state_of, on_cpu}
use Rattle.model.specs.Steal.{mark_stealable}
use Rattle.stages.specs.Stage.{Staged, Ranged}
use Rattle.stages.specs.Read.{BlockFits}
use Rattle.stages.proofs.Compose.{stage_as}
use Rattle.handover.specs.Handed.{advance_by, advanced_by}
use Rattle.model.specs.Handover.{advance, next_context}

-- the definition's words for `somebody`
pub advance_is : (runs : Bool) (w : Option ℕ) (ticks : ℕ) (s : State) → advance_by (is_some w || runs) ticks s ≡ advance runs w ticks s
unfolding advance
advance_is runs w ticks s = refl

module _ (b : PercpuBlock) (somebody : Bool) (ticks : ℕ) where
  pub advanced_nobody : somebody ≡ false → b ≡ advanced_by somebody ticks b
  advanced_nobody e = rw e

  pub advanced_weightless : somebody ≡ true → b.total_weight ≡ 0 → b ≡ advanced_by somebody ticks b
  advanced_weightless e z = rw (e, eq-eqb b.total_weight 0 z)

  pub advanced_as : somebody ≡ true → (b.total_weight ≡ 0 → ⊥) → block_v (b.v + ticks / b.total_weight) b ≡ advanced_by somebody ticks b
  advanced_as e z = rw (e, ne_eqb b.total_weight 0 z)

  pub advanced_fits : {n : ℕ} {b' : PercpuBlock} → b' ≡ advanced_by somebody ticks b → BlockFits n b → BlockFits n b'
  advanced_fits e o = rw e (by_test (somebody && not (eqb b.total_weight 0)) (λ t. rw t (record { current = o.current; sched = o.sched; idle = o.idle })) (λ t. rw t o))

at_block : (somebody : Bool) (ticks : ℕ) (s : State) → on_cpu (λ (p : Cpu). cpu_block (advanced_by somebody ticks s.cpu.block) p) s ≡ advance_by somebody ticks s
at_block somebody ticks s = by_test (somebody && not (eqb s.cpu.block.total_weight 0)) (λ t. rw t) (λ t. rw t)

module _ {c n : ℕ} {m : List ℕ} (k : ℕ) (b : PercpuBlock) (hb : (M : Machine) → m ≡ encode M → Fits c n M → b ≡ (cpu_at M k).block) where
  pub v_below : {t u : ℕ} → Ranged c n t u m → k < c → b.v ≤ u
  v_below r h = rw (hb r.M r.eq r.fits) (r.below.cpu k h).v

  pub advanced_stored : {m' : List ℕ} {b' : PercpuBlock} (somebody : Bool) (ticks : ℕ) → b' ≡ advanced_by somebody ticks b → Staged c n k m m' false (λ (s : State). on_cpu (λ (p : Cpu). cpu_block b' p) s)
      → Staged c n k m m' false (λ (s : State). advance_by somebody ticks s)
  advanced_stored somebody ticks e t = stage_as t (λ M z o. (rw (e, hb M z o) (at_block somebody ticks (state_of k M)), λ a d. refl))

  -- the holder keeps the slice, or the idle context gets it
  pub next_idle : (M : Machine) → m ≡ encode M → Fits c n M → (runs : Bool) → runs ≡ false → b.sched_ctxt ≡ b.idle_ctxt → None ≡ next_context runs None (state_of k M)
  unfolding next_context
  next_idle M z o runs e d =
      let y : eqb (cpu_at M k).block.sched_ctxt (cpu_at M k).block.idle_ctxt ≡ true = eq-eqb _ _ (rw (hb M z o) at d)
      in rw (e, y)

  pub next_from : (x : ℕ) (M : Machine) → m ≡ encode M → Fits c n M → (runs : Bool) → runs ≡ false → (b.sched_ctxt ≡ b.idle_ctxt → ⊥) → x ≡ b.idle_ctxt → Some x ≡ next_context runs None (state_of k M)
  unfolding next_context
  next_from x M z o runs e d f =
      let y : eqb (cpu_at M k).block.sched_ctxt (cpu_at M k).block.idle_ctxt ≡ false = ne_eqb _ _ (rw (hb M z o) at d)
      in let w : x ≡ (cpu_at M k).block.idle_ctxt = rw (hb M z o) at f
      in rw (e, y, w)

pub next_runs : (runs : Bool) (s : State) → runs ≡ true → None ≡ next_context runs None s
unfolding next_context
next_runs runs s e = rw e

pub next_won : (runs : Bool) (x : ℕ) (s : State) → Some x ≡ next_context runs (Some x) s
unfolding next_context
next_won runs x s = refl

-- x is below n if the winner is
pub next_below : {c n : ℕ} (M : Machine) (k : ℕ) → Fits c n M → k < c → (runs : Bool) (w : Option ℕ) → ((y : ℕ) → w ≡ Some y → y < n) → (x : ℕ) → next_context runs w (state_of k M) ≡ Some x → x < n
unfolding next_context
next_below M k o h runs (Some y) f x e = f x e
next_below {n = n} M k o h runs None f x e =
    by_test (runs || eqb (cpu_at M k).block.sched_ctxt (cpu_at M k).block.idle_ctxt) (λ t. f x (rw t at e))
    (λ t. subst (λ (j : ℕ). j < n) (same (rw t at e)) (o.cpu k h).idle)
  where
    same : ◌≡◌ {A = Option ℕ} (Some (cpu_at M k).block.idle_ctxt) (Some x) → (cpu_at M k).block.idle_ctxt ≡ x
    same z = cc

-- another CPU may steal where the queue has an entry
some_queued : (q : List Entry) → ltb 0 (length q) ≡ not (is_empty q)
some_queued [] = refl
some_queued (e ∷ es) = lt-ltb 0 (length (e ∷ es)) (omega arith)

pub stealable_as : (p : Cpu) (b : PercpuBlock) (len : ℕ) → b ≡ p.block → len ≡ length p.queue → cpu_block (block_stealable (ltb 0 len) b) p ≡ mark_stealable p
stealable_as p b len e f = rw (e, f, some_queued p.queue)

pub stealable_fits : {n : ℕ} (b : PercpuBlock) (t : Bool) → BlockFits n b → BlockFits n (block_stealable t b)
stealable_fits b t o = record { current = o.current; sched = o.sched; idle = o.idle }

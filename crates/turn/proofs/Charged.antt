-- Charging the holder, in the code's words. Assumes nothing.
use Rattle.std.specs.Prelude.{if◌then◌else◌}
use mathlib.Core.Path.{◌≡◌, refl, sym, ap, ◌∙◌}
use mathlib.Core.Bool.{Bool, true, false}
use Prim.Native.Nat.{ℕ, ◌+◌, ◌-◌, ◌/◌, ◌<◌, ◌≤◌}
use native.Mathlib.Omega.{arith}
use mathlib.Core.List.{List}
use lib.Dec.{eqb}
use borrow.Author.Tests.{eq-eqb, ne_eqb}
use Rattle.context.specs.declared.Context.{Context}
use Rattle.context.specs.Status.{is_runnable}
use Rattle.ticks.specs.declared.Spent.{Spent}
use Rattle.ticks.specs.Ticks.{max_ticks}
use Rattle.weights.specs.Weights.{weight}
use Rattle.entries.specs.declared.Timer.{Timer}
use Rattle.charging.specs.Charge.{charged, stopped, Chargeable}
use Rattle.charging.proofs.Bounds.{charged_frame, charged_slice}
use Rattle.percpu.specs.declared.PercpuBlock.{PercpuBlock}
use Rattle.percpu.specs.Cpu.{Cpu}
use Rattle.percpu.specs.With.{block_total_weight, cpu_block}
use Rattle.machine.specs.Machine.{Machine, context_at, cpu_at}
use Rattle.machine.specs.Encode.{encode}
use Rattle.machine.specs.Shape.{ContextFits, CpuFits, Fits, Image}
use Rattle.model.specs.State.{State, state_of, put_context, on_cpu, insert_newest_timer}
use Rattle.model.specs.Turn.{holder_stopped, charge_holder}
use Rattle.stages.specs.Stage.{Stage, Staged, Ranged}
use Rattle.stages.specs.Read.{BlockFits}
use Rattle.stages.proofs.Compose.{stage_then, stage_as}
use Rattle.turn.specs.Charged.{weight_left, left, stopped_by, charged_by}
use Rattle.stages.proofs.Reading.{unchanged}
use Rattle.stages.specs.Bounds.{b_woken}

-- the total weight, where the context that stops has one in it and where it has not
module _ (b : PercpuBlock) (q : Context) where
  pub weight_out : (w d : ℕ) → q.is_active ≡ true → w ≡ weight q.prio → d ≡ b.total_weight - w → block_total_weight d b ≡ weight_left b q
  weight_out w d t e f = rw (t, f, e)

  pub weight_kept : q.is_active ≡ false → b ≡ weight_left b q
  weight_kept t = rw t

  pub weight_left_fits : {n : ℕ} → BlockFits n b → BlockFits n (weight_left b q)
  weight_left_fits o = record { current = o.current; sched = o.sched; idle = o.idle }

pub stopped_fits : {c : ℕ} (q : Context) → ContextFits c q → ContextFits c (stopped q)
stopped_fits q o = record { cpu_id = o.cpu_id; prio = o.prio; rem_slice = omega arith }

pub charged_fits : {c : ℕ} (v : ℕ) (e : Spent) (q : Context) → ContextFits c q → ContextFits c (charged v e q)
charged_fits v e q o =
    rw (charged_frame v e q) (record { cpu_id = o.cpu_id; prio = o.prio; rem_slice = (charged_slice v e q o.rem_slice).1 })

module _ {c n k : ℕ} {m m' : List ℕ} (x : ℕ) (b : PercpuBlock) (q : Context) where
  pub deactivated : {m'' : List ℕ} {b' : PercpuBlock} {q' : Context} → k < c → b' ≡ weight_left b q → q' ≡ stopped q → Staged c n k m m' false (λ (s : State). on_cpu (λ (p : Cpu). cpu_block b' p) s)
      → Staged c n k m' m'' false (λ (s : State). put_context x q' s) → Staged c n k m m'' false (λ (s : State). left x b q s)
  deactivated h e f t u = stage_as (stage_then h t u) (λ M z o. (rw (e, f), λ a d. refl))

  -- the timer of a holder that stopped
  pub stopped_timer : {m'' : List ℕ} {r : Bool} (y : ℕ) → k < c → q.has_wake ≡ true → y ≡ x → Staged c n k m m' false (λ (s : State). left x b q s)
      → Staged c n k m' m'' r (λ (s : State). insert_newest_timer (record { wake = q.wake; context_ref = y }) s) → Staged c n k m m'' r (λ (s : State). stopped_by x b q s)
  unfolding stopped_by
  stopped_timer y h w e t u = stage_as (stage_then h t u) (λ M z o. (rw (w, e), λ a d. refl))

  pub stopped_untimed : q.has_wake ≡ false → Staged c n k m m' false (λ (s : State). left x b q s) → Staged c n k m m' false (λ (s : State). stopped_by x b q s)
  unfolding stopped_by
  stopped_untimed w t = stage_as t (λ M z o. (rw w, λ a d. refl))

  pub charged_runnable : {q' : Context} (spent : Spent) → is_runnable q.status ≡ true → q' ≡ charged b.v spent q
      → Staged c n k m m' false (λ (s : State). put_context x q' s) → Staged c n k m m' false (λ (s : State). charged_by spent x b q s)
  unfolding charged_by
  charged_runnable spent w e t = stage_as t (λ M z o. (rw (w, e), λ a d. refl))

  pub charged_stopped : {r : Bool} (spent : Spent) → is_runnable q.status ≡ false
      → Staged c n k m m' r (λ (s : State). stopped_by x b q s) → Staged c n k m m' r (λ (s : State). charged_by spent x b q s)
  unfolding charged_by
  charged_stopped spent w t = stage_as t (λ M z o. (rw w, λ a d. refl))

-- b is the block and q the record of context x that were read
module _ {c n : ℕ} {m : List ℕ} (k : ℕ) (spent : Spent) (b : PercpuBlock) (hb : (M : Machine) → m ≡ encode M → Fits c n M → b ≡ (cpu_at M k).block) where
  pub charged_idle : Image c n m → b.sched_ctxt ≡ b.idle_ctxt → Staged c n k m m false (λ (s : State). charge_holder spent s)
  unfolding charge_holder
  charged_idle i e =
      unchanged k (λ (s : State). charge_holder spent s) i
      (λ M z o. let t : (cpu_at M k).block.sched_ctxt ≡ (cpu_at M k).block.idle_ctxt = rw (hb M z o) at e in rw (eq-eqb _ _ t))

  module _ (x : ℕ) (hx : x ≡ b.sched_ctxt) where
    module _ (q : Context) (hq : (M : Machine) → m ≡ encode M → Fits c n M → q ≡ context_at M.contexts x) where
      pub chargeable : {t : ℕ} → spent.ticks ≤ max_ticks → Ranged c n t b_woken m → k < c → x < n → Chargeable b.v spent q
      chargeable l r h g =
          let o = r.fits.context x g
          in let u = r.below.context x g
          in let w = r.below.cpu k h
          in
          rw (hb r.M r.eq r.fits, hq r.M r.eq r.fits)
          (record {
            prio = omega (arith, o.prio);
            vtime = omega (arith, u.vtime);
            rem_slice = o.rem_slice;
            virtual = omega (arith, w.v);
            ticks = omega arith;
          })

      by_values : (M : Machine) → m ≡ encode M → Fits c n M → (b.sched_ctxt ≡ b.idle_ctxt → ⊥) → charged_by spent x b q (state_of k M) ≡ charge_holder spent (state_of k M)
      unfolding charge_holder holder_stopped charged_by stopped_by
      by_values M z o d =
          let e : b ≡ (cpu_at M k).block = hb M z o
          in let f : eqb (cpu_at M k).block.sched_ctxt (cpu_at M k).block.idle_ctxt ≡ false = ne_eqb _ _ (rw e at d)
          in rw (f, hq M z o, hx, e)

      pub charged_held : {m' : List ℕ} {r : Bool} → (b.sched_ctxt ≡ b.idle_ctxt → ⊥) → Staged c n k m m' r (λ (s : State). charged_by spent x b q s)
          → Staged c n k m m' r (λ (s : State). charge_holder spent s)
      charged_held d t = stage_as t (λ M z o. (by_values M z o d, λ a g. refl))

-- What was read of the image is in its ranges; a stage that stores a block, and one that changes nothing. Assumes nothing.
use mathlib.Core.Path.{◌≡◌, refl, sym, ap, ◌∙◌, subst}
use mathlib.Core.Bool.{Bool, true, false}
use Prim.Native.Nat.{ℕ, zero, suc, ◌<◌, ◌≤◌}
use native.Mathlib.Omega.{arith}
use mathlib.Core.List.{List, [], ◌∷◌}
use lib.ListN.{length, get_or, set}
use lib.Seq.{set-get_or}
use Rattle.context.specs.declared.Context.{Context}
use Rattle.cpu_stats.specs.Counted.{CountersBelow}
use Rattle.percpu.specs.declared.PercpuBlock.{PercpuBlock}
use Rattle.percpu.specs.Cpu.{Cpu}
use Rattle.percpu.specs.With.{cpu_block}
use Rattle.machine.specs.Machine.{Machine, context_at, cpu_at, no_cpu}
use Rattle.machine.specs.Encode.{encode}
use Rattle.machine.specs.Shape.{ContextFits, CpuFits, Fits, Image}
use Rattle.model.specs.State.{State, state_of, on_cpu}
use Rattle.stages.specs.Stage.{put_state, StageAt, Stage, Staged, CpuBelow, Ranged}
use Rattle.stages.specs.Read.{BlockFits}
use Rattle.stages.proofs.Compose.{staged, stage_as}

module _ {c n : ℕ} {m : List ℕ} where
  pub block_fits : {b : PercpuBlock} → Image c n m → (k : ℕ) → k < c → ((M : Machine) → m ≡ encode M → Fits c n M → b ≡ (cpu_at M k).block) → BlockFits n b
  block_fits i k h f =
      let o = i.fits.cpu k h
      in rw (f i.M i.eq i.fits) (record { current = o.current; sched = o.sched; idle = o.idle })

  -- the name of the context in charge
  pub sched_named : (k : ℕ) (b : PercpuBlock) → ((M : Machine) → m ≡ encode M → Fits c n M → b ≡ (cpu_at M k).block) → (x : ℕ) → x ≡ b.sched_ctxt → Image c n m → k < c → x < n
  sched_named k b hb x hx i h = let e = hb i.M i.eq i.fits in rw (hx, e) (i.fits.cpu k h).sched

  pub context_fits : {q : Context} → Image c n m → (x : ℕ) → x < n → ((M : Machine) → m ≡ encode M → Fits c n M → q ≡ context_at M.contexts x) → ContextFits c q
  context_fits i x h f = rw (f i.M i.eq i.fits) (i.fits.context x h)

  pub counters_below : {t u : ℕ} {b : PercpuBlock} (k bound : ℕ) → t < bound → Ranged c n t u m → k < c → ((M : Machine) → m ≡ encode M → Fits c n M → b ≡ (cpu_at M k).block) → CountersBelow bound b.stats
  counters_below k bound l r h f =
      let o = r.below.cpu k h
      in
      rw (f r.M r.eq r.fits)
      (record {
        user = omega (arith, o.user);
        kernel = omega (arith, o.kernel);
        idle = omega (arith, o.idle);
        context_switches = omega (arith, o.context_switches);
        syscall_switches = omega (arith, o.syscall_switches);
      })

  -- a block stored, and what was returned
  pub stored_with : {R : Type 0} {k : ℕ} {m' : List ℕ} {b : PercpuBlock} {r : R} {g : State → R} (f : Cpu → Cpu) → Staged c n k m m' false (λ (s : State). on_cpu (λ (p : Cpu). cpu_block b p) s)
      → ((M : Machine) → m ≡ encode M → Fits c n M → (cpu_block b (cpu_at M k) ≡ f (cpu_at M k)) × (r ≡ g (state_of k M))) → Stage c n k m m' false r (λ (s : State). on_cpu f s) g
  stored_with {k = k} f t h =
      stage_as t
      (λ M e o.
      let a = h M e o
      in (ap (λ (p : Cpu). record { contexts = M.contexts; cpu = p; no_room = false }) a.0, λ y z. a.1))

  pub stored_as : {k : ℕ} {m' : List ℕ} {b : PercpuBlock} (f : Cpu → Cpu) → Staged c n k m m' false (λ (s : State). on_cpu (λ (p : Cpu). cpu_block b p) s)
      → ((M : Machine) → m ≡ encode M → Fits c n M → cpu_block b (cpu_at M k) ≡ f (cpu_at M k)) → Staged c n k m m' false (λ (s : State). on_cpu f s)
  stored_as f t h = stored_with f t (λ M e o. (h M e o, refl))

pub put_same : (k : ℕ) (M : Machine) → put_state k (state_of k M) M ≡ M
unfolding cpu_at
put_same k M = λ j. record { contexts = M.contexts; cpus = set-get_or M.cpus k no_cpu j }

-- nothing was stored, where the definition changes nothing
pub unchanged_with : {R : Type 0} {c n : ℕ} {m : List ℕ} {r : R} {g : State → R} (k : ℕ) (f : State → State) → Image c n m
    → ((M : Machine) → m ≡ encode M → Fits c n M → (f (state_of k M) ≡ state_of k M) × (r ≡ g (state_of k M))) → Stage c n k m m false r f g
unchanged_with {c = c} {n = n} k f i h =
    staged i
    (λ M e o.
    let a = h M e o
    in let z : put_state k (f (state_of k M)) M ≡ M = ap (λ (s : State). put_state k s M) a.0 ∙ put_same k M
    in record {
      room = sym (ap (λ (s : State). s.no_room) a.0);
      after = λ y. e ∙ ap encode (sym z);
      fits = λ y. subst (Fits c n) (sym z) o;
      answer = λ y. a.1;
    })

pub unchanged : {c n : ℕ} {m : List ℕ} (k : ℕ) (f : State → State) → Image c n m → ((M : Machine) → m ≡ encode M → Fits c n M → f (state_of k M) ≡ state_of k M) → Staged c n k m m false f
unchanged k f i h = unchanged_with k f i (λ M e o. (h M e o, refl))

-- a stage that does nothing
pub stage_none : {c n k : ℕ} {m : List ℕ} → Image c n m → Staged c n k m m false (λ (s : State). s)
stage_none {k = k} i = unchanged k (λ (s : State). s) i (λ M e o. refl)

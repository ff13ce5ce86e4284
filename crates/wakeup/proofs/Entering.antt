-- A woken context enters the queue: one lemma for each need. Assumes nothing.
use Rattle.std.specs.Prelude.{if◌then◌else◌}
use mathlib.Core.Path.{◌≡◌, refl, sym, ap, ◌∙◌, subst}
use mathlib.Core.Bool.{Bool, false}
use mathlib.Core.List.{List}
use Prim.Native.Nat.{ℕ, ◌+◌, ◌-◌, ◌<◌, ◌≤◌}
use native.Mathlib.Omega.{arith}
use lib.ListN.{length, take, drop}
use borrow.Rule.Slice.PartMut.{put_mid}
use Rattle.context.specs.declared.Context.{Context}
use Rattle.weights.specs.Weights.{weight, min_weight, max_weight}
use Rattle.entries.specs.declared.Entry.{Entry}
use Rattle.entries.specs.declared.Key.{Key}
use Rattle.entries.specs.Order.{entry_before}
use Rattle.entries.specs.Queue.{queue_remove}
use Rattle.entries.specs.Found.{has_key}
use Rattle.entries.specs.Sorted.{Sorted}
use Rattle.percpu.specs.declared.PercpuBlock.{PercpuBlock}
use Rattle.percpu.specs.Cpu.{Cpu}
use Rattle.percpu.specs.With.{cpu_block, cpu_queue}
use Rattle.percpu.specs.Layout.{cpu_words}
use Rattle.machine.specs.Machine.{Machine, cpu_at}
use Rattle.machine.specs.Encode.{encode, cpu_place}
use Rattle.machine.specs.Shape.{ContextFits, EntryFits, CpuFits, Fits, Image}
use Rattle.model.specs.State.{State, state_of, on_cpu, put_context, insert_entry}
use Rattle.model.specs.Wakeup.{activated, without_old_key, entering, enter}
use Rattle.stages.specs.Stage.{Staged}
use Rattle.stages.specs.Read.{BlockFits}
use Rattle.stages.proofs.Reading.{stage_none}
use Rattle.stages.proofs.Compose.{stage_then, stage_as}
use Rattle.stages.proofs.Fitting.{fits_removed}
use Rattle.stages.proofs.Lent.{staged_cpu}
use Rattle.wakeup_judge.specs.Judge.{activated_block, Enterable}
use Rattle.wakeup.specs.Paced.{Paced, RecordFits}
use Rattle.numbers.specs.Limits.{max_number, half_range}
use Rattle.percpu.specs.Places.{block_size}
use Rattle.stages.specs.Bounds.{b_waking}
use Rattle.context.specs.Key.{queue_key, entry_of}

-- b is the block of each machine that m stands for
abbrev pub Loaded : (c n k : ℕ) → List ℕ → PercpuBlock → Type 0
Loaded c n k m b = (M : Machine) → m ≡ encode M → Fits c n M → b ≡ (cpu_at M k).block

module _ {c n k : ℕ} {m : List ℕ} {q : Context} (b : PercpuBlock) (f : Loaded c n k m b) (r : RecordFits c q) (p : Paced c n k max_number b_waking m) where
  pub block_light : (q.prio < 40) × (b.total_weight < half_range)
  block_light =
      let e : b.total_weight ≡ (cpu_at p.M k).block.total_weight = ap (λ (y : PercpuBlock). y.total_weight) (f p.M p.eq p.fits)
      in (omega (arith, r.fits.prio), omega (arith, p.slow.total_weight))

  pub may_join : Enterable b.v q
  may_join =
      let e : b.v ≡ (cpu_at p.M k).block.v = ap (λ (y : PercpuBlock). y.v) (f p.M p.eq p.fits)
      in record { prio = omega (arith, r.fits.prio); vtime = r.vtime; least = omega (arith, p.slow.v) }

module _ {c n k : ℕ} {m : List ℕ} (q : Context) (b a : PercpuBlock) (f : Loaded c n k m b) (e : a ≡ activated_block q b) where
  pub block_fits : Image c n m → k < c → BlockFits n a
  block_fits i h =
      let o = i.fits.cpu k h
      in let z : activated_block q (cpu_at i.M k).block ≡ a = sym (e ∙ ap (activated_block q) (f i.M i.eq i.fits))
      in subst (BlockFits n) z (record { current = o.current; sched = o.sched; idle = o.idle })

  pub activated_staged : {m' : List ℕ} → Staged c n k m m' false (λ (s : State). on_cpu (λ (p : Cpu). cpu_block a p) s) → Staged c n k m m' false (λ (s : State). on_cpu (λ (p : Cpu). activated q p) s)
  activated_staged t =
      stage_as t (λ M z o. (ap (λ (y : PercpuBlock). on_cpu (λ (p : Cpu). cpu_block y p) (state_of k M)) (e ∙ ap (activated_block q) (f M z o)), λ y w. refl))

fits_taken : (n : ℕ) (key : Key) (p : Cpu) → CpuFits n p → CpuFits n (cpu_queue (queue_remove key p.queue) p)
fits_taken n key p o = fits_removed n p.block.queue_len key p o

pub taken_staged : {c n : ℕ} {m : List ℕ} (i : Image c n m) (k : ℕ) {at : ℕ} → at ≡ cpu_place n k → k < c → (l : List ℕ) (key : Key) {r : Bool}
    → ((p : Cpu) → take (at + block_size - at) (drop at m) ≡ cpu_words p → length p.queue ≤ 64 → Sorted entry_before p.queue
    → (r ≡ has_key key p.queue) × (l ≡ cpu_words (cpu_queue (queue_remove key p.queue) p)))
    → Staged c n k m (put_mid at (at + block_size - at) m l) false (λ (s : State). on_cpu (λ (p : Cpu). cpu_queue (queue_remove key p.queue) p) s)
taken_staged {n = n} i k z h l key f =
    staged_cpu i k z h l (λ (p : Cpu). cpu_queue (queue_remove key p.queue) p) (λ p o y. (f p y o.queue o.keys_rise).1) (λ p o. fits_taken n key p o)

abbrev without : Context → Bool → State → State
without q b s = on_cpu (λ (p : Cpu). cpu_queue (if b then queue_remove (queue_key q) p.queue else p.queue) p) s

module _ {c n : ℕ} {m : List ℕ} (k : ℕ) (q : Context) where
  pub no_old_key : Image c n m → q.has_queue_key ≡ false → Staged c n k m m false (λ (s : State). on_cpu (λ (p : Cpu). cpu_queue (without_old_key q p.queue) p) s)
  no_old_key i h = stage_as (stage_none i) (λ M z o. (ap (λ (y : Bool). without q y (state_of k M)) (sym h), λ y w. refl))

-- the entry of the record e, in the code's values
module _ (x name w : ℕ) (e : Context) (y : Entry) (hn : name ≡ x) (hw : (w ≡ weight e.prio) × (min_weight ≤ w) × (w ≤ max_weight)) (hy : y ≡ entry_of name w e) where
  entry_is : y ≡ entry_of x (weight e.prio) e
  entry_is = hy ∙ ap (λ (z : ℕ). entry_of z w e) hn ∙ ap (λ (z : ℕ). entry_of x z e) hw.0

  pub entry_fits : {n : ℕ} → x < n → EntryFits n y
  entry_fits {n} h = subst (EntryFits n) (sym hy) (record { name = rw hn h; light = hw.2; heavy = hw.1 })

  pub joined : {c n k : ℕ} {m m' m'' : List ℕ} {r : Bool} → k < c → Staged c n k m m' false (λ (s : State). put_context x e s)
      → Staged c n k m' m'' r (λ (s : State). insert_entry y s) → Staged c n k m m'' r (λ (s : State). insert_entry (entry_of x (weight e.prio) e) (put_context x e s))
  joined {k = k} h t u =
      stage_as (stage_then h t u) (λ M z o. (ap (λ (v : Entry). insert_entry v (put_context x e (state_of k M))) entry_is, λ v g. refl))

-- the record that enters is in its ranges
pub entering_fits : {c : ℕ} (v : ℕ) (q e : Context) → RecordFits c q → e ≡ entering v q → ContextFits c e
entering_fits {c} v q e r h =
    subst (ContextFits c) (sym h) (record { cpu_id = r.fits.cpu_id; prio = r.fits.prio; rem_slice = omega arith })

pub entered_staged : {c n k : ℕ} {m m' m'' m''' : List ℕ} {r : Bool} (x : ℕ) (q e : Context) (b : PercpuBlock) → k < c → Loaded c n k m b → e ≡ entering b.v q
    → Staged c n k m m' false (λ (s : State). on_cpu (λ (p : Cpu). activated q p) s)
    → Staged c n k m' m'' false (λ (s : State). on_cpu (λ (p : Cpu). cpu_queue (without_old_key q p.queue) p) s)
    → Staged c n k m'' m''' r (λ (s : State). insert_entry (entry_of x (weight e.prio) e) (put_context x e s))
    → Staged c n k m m''' r (λ (s : State). enter x q s)
unfolding enter
entered_staged {k = k} x q e b h f g t u v =
    stage_as (stage_then h (stage_then h t u) v)
    (λ M z o. (
      ap (λ (y : Context). insert_entry (entry_of x (weight y.prio) y) (put_context x y (on_cpu (λ (p : Cpu). cpu_queue (without_old_key q p.queue) (activated q p)) (state_of k M))))
          (g ∙ ap (λ (y : PercpuBlock). entering y.v q) (f M z o)),
      λ y w. refl,
    ))

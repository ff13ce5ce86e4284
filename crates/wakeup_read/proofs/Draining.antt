-- The due timers taken out from the last to the first, then the local list. Assumes nothing.
use mathlib.Core.Path.{◌≡◌, refl, sym, ap, ◌∙◌}
use mathlib.Core.Bool.{Bool, true, false}
use mathlib.Core.List.{List, []}
use Prim.Native.Nat.{ℕ, suc, ◌+◌, ◌-◌, ◌<◌, ◌≤◌}
use native.Mathlib.Omega.{arith}
use lib.ListN.{length, get_or, take, drop}
use borrow.Rule.Slice.PartMut.{put_mid}
use Rattle.columns.specs.Columns.{remove_at}
use Rattle.columns.proofs.Tests.{by_test}
use Rattle.entries.specs.declared.Timer.{Timer}
use Rattle.entries.specs.Order.{sooner, is_due}
use Rattle.percpu.specs.declared.PercpuBlock.{PercpuBlock}
use Rattle.percpu.specs.Cpu.{Cpu}
use Rattle.percpu.specs.With.{cpu_timers, cpu_local_wakeup_list}
use Rattle.percpu.specs.Layout.{cpu_words, no_timer}
use Rattle.percpu.specs.Places.{timers_count, block_size}
use Rattle.table.specs.First.{lead}
use Rattle.timers.proofs.Table.{due_kept}
use Rattle.machine.specs.Machine.{Machine, context_at, cpu_at}
use Rattle.machine.specs.Encode.{encode, cpu_place}
use Rattle.machine.specs.Shape.{Image, Fits}
use Rattle.model.specs.State.{State, state_of, on_cpu}
use Rattle.model.specs.Wakeup.{is_unreadable, stays, drained}
use Rattle.stages.specs.Stage.{put_state, Staged}
use Rattle.stages.proofs.Compose.{stage_then, stage_as, state_put}
use Rattle.stages.proofs.Fitting.{all_of, fits_timers}
use Rattle.stages.proofs.Lent.{staged_cpu, timers_counted}
use Rattle.stages.proofs.Reading.{unchanged}
use Rattle.wakeup_judge.specs.Judge.{unreadable_at}
use Rattle.wakeup_read.specs.Read.{TimerRead, timer_taken, timers_drained}
use Rattle.columns.proofs.Thinned.{length_out, all_out, thinned, thinned_long, thinned_item, thinned_stays, thinned_out}
use Rattle.wakeup_read.proofs.Thinned.{sorted_out, thinned_none, lead_passes}

-- a timer out of the block, as the code lends it from its place `at`
module _ {c n : ℕ} {m : List ℕ} (i : Image c n m) (k : ℕ) {at : ℕ} (z : at ≡ cpu_place n k) (h : k < c) (l : List ℕ) where
  pub removal_staged : (j : ℕ)
      → ((p : Cpu) → take (at + block_size - at) (drop at m) ≡ cpu_words p → length p.timers ≤ 64 → l ≡ cpu_words (cpu_timers (remove_at j p.timers) p))
      → Staged c n k m (put_mid at (at + block_size - at) m l) false (λ (s : State). on_cpu (λ (p : Cpu). cpu_timers (remove_at j p.timers) p) s)
  removal_staged j f =
      staged_cpu i k z h l (λ (p : Cpu). cpu_timers (remove_at j p.timers) p) (λ p o y. f p y o.timers)
      (λ p o.
      fits_timers n (remove_at j p.timers) p o (omega (arith, o.timers, length_out j p.timers))
      (all_out (λ (t : Timer). t.context_ref < n) j p.timers (all_of (λ (t : Timer). t.context_ref < n) no_timer p.timers o.timer))
      (sorted_out sooner j p.timers o.timers_rise))

  -- an empty local list
  pub clearing_staged : ((p : Cpu) → take (at + block_size - at) (drop at m) ≡ cpu_words p → l ≡ cpu_words (cpu_local_wakeup_list [] p))
      → Staged c n k m (put_mid at (at + block_size - at) m l) false (λ (s : State). on_cpu (λ (p : Cpu). cpu_local_wakeup_list [] p) s)
  clearing_staged f =
      staged_cpu i k z h l (λ (p : Cpu). cpu_local_wakeup_list [] p) (λ p o y. f p y)
      (λ p o.
      record {
        current = o.current;
        sched = o.sched;
        idle = o.idle;
        queue = o.queue;
        timers = o.timers;
        local = omega arith;
        ipi = o.ipi;
        entry = o.entry;
        timer = o.timer;
        local_name = λ i b. absurd (omega arith);
        ipi_name = o.ipi_name;
        keys_rise = o.keys_rise;
        timers_rise = o.timers_rise;
        remainder = o.remainder;
      })

-- timer j judged: r says that its context cannot be read
module _ {c n : ℕ} {m : List ℕ} (i : Image c n m) (k j : ℕ) (b : PercpuBlock) (t : Timer) (r : Bool)
    (hb : (M : Machine) → m ≡ encode M → Fits c n M → b ≡ (cpu_at M k).block) (ht : TimerRead c n k j m t)
    (hr : (M : Machine) → m ≡ encode M → Fits c n M → r ≡ unreadable_at b.sched_ctxt t (context_at M.contexts t.context_ref)) where
  unreadable_is : (M : Machine) → m ≡ encode M → Fits c n M → r ≡ is_unreadable (state_of k M) (get_or (cpu_at M k).timers j no_timer).context_ref
  unreadable_is M e o =
      hr M e o ∙ ap (λ (y : PercpuBlock). unreadable_at y.sched_ctxt t (context_at M.contexts t.context_ref)) (hb M e o)
      ∙ ap (λ (y : Timer). unreadable_at (cpu_at M k).block.sched_ctxt y (context_at M.contexts y.context_ref)) (ht.is M e o)

  pub timer_left : r ≡ true → Staged c n k m m false (λ (s : State). timer_taken j s)
  unfolding timer_taken
  timer_left y = unchanged k (λ (s : State). timer_taken j s) i (λ M e o. rw (sym (unreadable_is M e o) ∙ y))

  pub timer_out : {m' : List ℕ} → r ≡ false → Staged c n k m m' false (λ (s : State). on_cpu (λ (p : Cpu). cpu_timers (remove_at j p.timers) p) s)
      → Staged c n k m m' false (λ (s : State). timer_taken j s)
  unfolding timer_taken
  timer_out y u = stage_as u (λ M e o. (rw (sym (unreadable_is M e o) ∙ y), λ w z. refl))

-- the due timers from place i on taken out
abbrev drained_from : (time i : ℕ) → State → State
drained_from time i s = on_cpu (λ p. cpu_timers (thinned (stays time s) i p.timers) p) s

-- the loop over the due timers, from m₀ on
pub record Drains (c n k time : ℕ) (m₀ m : List ℕ) (i : ℕ) : Type 0 where
  pub staged : Staged c n k m₀ m false (λ (s : State). drained_from time i s)
  pub due : (M : Machine) → m₀ ≡ encode M → Fits c n M → i ≤ lead (is_due time) (cpu_at M k).timers

undue_stays : (time : ℕ) (s : State) (t : Timer) → is_due time t ≡ false → stays time s t ≡ true
undue_stays time s t e = rw e

pub drains_start : {c n k : ℕ} {m : List ℕ} (time r : ℕ) → k < c → Image c n m → ((M : Machine) → m ≡ encode M → Fits c n M → r ≡ lead (is_due time) (cpu_at M k).timers) → Drains c n k time m m r
drains_start {k = k} time r h i f =
    record {
      staged = unchanged k (λ (s : State). drained_from time r s) i
          (λ M e o.
          let s = state_of k M
          in let l = (cpu_at M k).timers
          in let z : thinned (stays time s) r l ≡ l
          = ap (λ (y : ℕ). thinned (stays time s) y l) (f M e o)
          ∙ thinned_none (stays time s) (is_due time) (undue_stays time s) l (due_kept time l (o.cpu k h).timers_rise).1
          in ap (λ (y : List Timer). on_cpu (λ p. cpu_timers y p) s) z);
      due = λ M e o. omega (arith, f M e o);
    }

module _ {c n k time : ℕ} {m₀ m : List ℕ} {i j : ℕ} (h : k < c) (l : Drains c n k time m₀ m i) (q : i ≡ suc j) where
  -- there is a timer j
  pub drains_long : Image c n m₀ → j < get_or m (cpu_place n k + timers_count) 0
  drains_long g =
      let M = g.M
      in let e = g.eq
      in let o = g.fits
      in let s = drained_from time i (state_of k M)
      in let u = l.staged.stage M e o
      in let d = l.due M e o
      in let w = lead_passes (is_due time) no_timer j (cpu_at M k).timers (omega arith)
      in let a = thinned_long (stays time (state_of k M)) i (cpu_at M k).timers (omega (arith, w.1))
      in let y : length (cpu_at (put_state k s M) k).timers ≡ length s.cpu.timers
      = ap (λ (x : State). length x.cpu.timers) (state_put k s M (omega (arith, o.cpus)) refl)
      in omega (arith, timers_counted m k h (put_state k s M) (u.after refl) (u.fits refl))

  pub drains_next : {m' : List ℕ} → Staged c n k m m' false (λ (s : State). timer_taken j s) → Drains c n k time m₀ m' j
  unfolding timer_taken
  drains_next u =
      record {
        staged = stage_as (stage_then h l.staged u) (λ M e o. (taken (state_of k M) (l.due M e o), λ w z. refl));
        due = λ M e o. omega (arith, l.due M e o);
      }
    where
      taken : (s : State) → i ≤ lead (is_due time) s.cpu.timers → timer_taken j (drained_from time i s) ≡ drained_from time j s
      taken s b =
          let L = s.cpu.timers
          in let T = get_or L j no_timer
          in let w = lead_passes (is_due time) no_timer j L (omega arith)
          in let x : get_or (thinned (stays time s) i L) j no_timer ≡ T
          = ap (λ (y : ℕ). get_or (thinned (stays time s) y L) j no_timer) q ∙ thinned_item (stays time s) no_timer j L w.1
          in by_test (is_unreadable s T.context_ref)
          (λ y.
          let v : is_unreadable s (get_or (thinned (stays time s) i L) j no_timer).context_ref ≡ true = ap (λ (t : Timer). is_unreadable s t.context_ref) x ∙ y
          in let p : stays time s T ≡ true = rw (w.0, y)
          in rw v (ap (λ (t : List Timer). on_cpu (λ p. cpu_timers t p) s) (ap (λ (n : ℕ). thinned (stays time s) n L) q ∙ thinned_stays (stays time s) no_timer j L w.1 p)))
          (λ y.
          let v : is_unreadable s (get_or (thinned (stays time s) i L) j no_timer).context_ref ≡ false = ap (λ (t : Timer). is_unreadable s t.context_ref) x ∙ y
          in let p : stays time s T ≡ false = rw (w.0, y)
          in rw v (ap (λ (t : List Timer). on_cpu (λ p. cpu_timers t p) s) (ap (λ (n : ℕ). remove_at j (thinned (stays time s) n L)) q ∙ thinned_out (stays time s) no_timer j L w.1 p)))

pub drains_end : {c n k time : ℕ} {m₀ m : List ℕ} {i : ℕ} → Drains c n k time m₀ m i → i ≡ 0 → Staged c n k m₀ m false (λ (s : State). timers_drained time s)
drains_end {k = k} {time = time} l q = stage_as l.staged (λ M e o. (ap (λ (y : ℕ). drained_from time y (state_of k M)) q, λ w z. refl))

pub all_drained : {c n k : ℕ} {m m' m'' : List ℕ} (time : ℕ) → k < c → Staged c n k m m' false (λ (s : State). timers_drained time s)
    → Staged c n k m' m'' false (λ (s : State). on_cpu (λ (p : Cpu). cpu_local_wakeup_list [] p) s) → Staged c n k m m'' false (λ (s : State). drained time s)
all_drained time h t u = stage_then h t u

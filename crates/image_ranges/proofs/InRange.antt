-- What words in their ranges say of the record or the CPU found in them. Assumes nothing.
use mathlib.Core.Path.{◌≡◌, refl, sym, ap, ◌∙◌, subst}
use mathlib.Core.Bool.{true, ◌&&◌}
use Prim.Native.Nat.{ℕ, suc, ◌+◌, ◌-◌, ◌*◌, ◌<◌, ◌≤◌}
use native.Mathlib.Omega.{arith}
use mathlib.Core.List.{List}
use lib.Dec.{leb, eqb}
use lib.ListN.{length, get_or}
use borrow.Author.Tests.{le-leb, leb-true, eqb-true, eqb-false}
use Rattle.columns.specs.Common.{every, tabulate}
use Rattle.columns.specs.Blocks.{part}
use Rattle.columns.proofs.Tests.{by_test, every_at, and_both}
use Rattle.columns.proofs.Tabulate.{part_get, length_tabulate, get_d_tabulate}
use Rattle.context.specs.Words.{context_of, record_size}
use Rattle.entries.specs.declared.Timer.{Timer}
use Rattle.entries.specs.Order.{entry_before, sooner}
use Rattle.entries.proofs.Orders.{before_trans, sooner_trans}
use Rattle.percpu.specs.Words.{block_of}
use Rattle.percpu.specs.Layout.{cpu_of, entry_at, timer_at, counter, no_entry, no_timer}
use Rattle.percpu.proofs.Whole.{Whole}
use Rattle.machine.specs.Shape.{ContextFits, EntryFits, CpuFits}
use Rattle.machine.proofs.Encoded.{WholeContext}
use Rattle.image_ranges.specs.Ranges.{within, zero_words, context_most, gone_most, context_in_range, block_most, array_least, array_most, used, unused, array_in_range, block_in_range, array_in_range_to, array_most_to, block_in_range_to, block_most_to, context_in_range_to, context_most_to}
use Rattle.image_ranges.proofs.Checked.{within_at, counter_small}
use Rattle.image_ranges.proofs.Risen.{sorted_tabulate}
use Rattle.percpu.specs.Places.{local_wakeup_list_column, ipi_context_wakeup_list_column, remainder_place, block_size}
use Rattle.ticks.specs.Ticks.{max_remainder}

-- a gone record's table is below a live one's
below : (c : ℕ) → every (λ (i : ℕ). leb (get_or gone_most i 0) (get_or (context_most c) i 0)) record_size ≡ true
unfolding every gone_most context_most_to
below c = let t : leb 0 c ≡ true = le-leb 0 c (omega arith) in rw t

pub context_at_most : (c : ℕ) (w : List ℕ) → context_in_range c w ≡ true → (i : ℕ) → i < record_size → get_or w i 0 ≤ get_or (context_most c) i 0
unfolding context_in_range_to
context_at_most c w e i h =
    by_test (eqb (get_or w 0 0) 1)
    (λ t.
    let g : get_or w i 0 ≤ get_or gone_most i 0 = within_at gone_most w record_size i (rw t at e) h
    in let f : get_or gone_most i 0 ≤ get_or (context_most c) i 0
    = leb-true _ _ (every_at (λ (i : ℕ). leb (get_or gone_most i 0) (get_or (context_most c) i 0)) record_size i (below c) h)
    in omega arith)
    (λ t. within_at (context_most c) w record_size i (and_both (within (context_most c) w record_size) _ (rw t at e)).0 h)

pub whole_context : (c : ℕ) (w : List ℕ) → context_in_range c w ≡ true → WholeContext w
unfolding context_most_to
whole_context c w e =
    let at = context_at_most c w e
    in record {
      gone = at 0 (omega arith);
      status = at 2 (omega arith);
      running = at 3 (omega arith);
      currently_scheduled = at 4 (omega arith);
      inside_syscall = at 11 (omega arith);
      has_wake = at 12 (omega arith);
      userspace = at 14 (omega arith);
      being_sigkilled = at 15 (omega arith);
      is_active = at 20 (omega arith);
      has_queue_key = at 21 (omega arith);
    }

pub context_fits : (c : ℕ) (w : List ℕ) → context_in_range c w ≡ true → ContextFits c (context_of w)
unfolding context_most_to context_of
context_fits c w e =
    let at = context_at_most c w e
    in record { cpu_id = at 5 (omega arith); prio = at 16 (omega arith); rem_slice = at 19 (omega arith) }

-- a block, absent or not, in its ranges
pub record BlockInRange (n : ℕ) (b : List ℕ) : Type 0 where
  pub scalar : (i : ℕ) → i < 25 → get_or b i 0 ≤ get_or (block_most n) i 0
  pub low : (j i : ℕ) → j < 10 → i < get_or b (get_or counter j 0) 0 → get_or array_least j 0 ≤ get_or b (25 + 64 * j + i) 0
  pub high : (j i : ℕ) → j < 10 → i < get_or b (get_or counter j 0) 0 → get_or b (25 + 64 * j + i) 0 ≤ get_or (array_most n) j 0
  pub rest : (j i : ℕ) → j < 10 → get_or b (get_or counter j 0) 0 ≤ i → i < 64 → get_or b (25 + 64 * j + i) 0 ≡ 0
  pub absent : get_or b 0 0 ≡ 0 → (i : ℕ) → i < block_size → get_or b i 0 ≡ 0
  pub remainder : get_or b remainder_place 0 ≤ max_remainder

tops : (n : ℕ) → every (λ (j : ℕ). eqb (get_or (block_most n) (get_or counter j 0) 0) 64) 10 ≡ true
unfolding every counter block_most_to
tops n = refl

absent : (n : ℕ) (b : List ℕ) → zero_words b block_size ≡ true → BlockInRange n b
unfolding zero_words
absent n b e =
    let at : (i : ℕ) → i < block_size → get_or b i 0 ≡ 0 = λ i h. eqb-true _ _ (every_at (λ (i : ℕ). eqb (get_or b i 0) 0) block_size i e h)
    in let none : (j : ℕ) → j < 10 → get_or b (get_or counter j 0) 0 ≡ 0 = λ j h. at (get_or counter j 0) (omega (arith, counter_small j h))
    in record {
      scalar = λ i h. omega (arith, at i (omega arith));
      low = λ j i h g. absurd (omega (arith, none j h));
      high = λ j i h g. absurd (omega (arith, none j h));
      rest = λ j i h g u. at (25 + 64 * j + i) (omega arith);
      absent = λ z. at;
      remainder = omega (arith, at remainder_place (omega arith));
    }

module _ (n : ℕ) (b : List ℕ) (e : within (block_most n) b 25 ≡ true) (u : get_or b remainder_place 0 ≤ max_remainder) (a : every (array_in_range n b) 10 ≡ true) where
  array : (j : ℕ) → j < 10
      → (used (part b (25 + 64 * j) 64) (get_or b (get_or counter j 0) 0) (get_or array_least j 0) (get_or (array_most n) j 0) ≡ true)
      × (unused (part b (25 + 64 * j) 64) (get_or b (get_or counter j 0) 0) ≡ true)
  unfolding array_in_range_to
  array j h = and_both _ _ (every_at (array_in_range n b) 10 j a h)

  few : (j : ℕ) → j < 10 → get_or b (get_or counter j 0) 0 ≤ 64
  few j h =
      let t : get_or (block_most n) (get_or counter j 0) 0 ≡ 64 = eqb-true _ _ (every_at (λ (j : ℕ). eqb (get_or (block_most n) (get_or counter j 0) 0) 64) 10 j (tops n) h)
      in rw t at (within_at (block_most n) b 25 (get_or counter j 0) e (counter_small j h))

  both : (j i : ℕ) (h : j < 10) → i < get_or b (get_or counter j 0) 0
      → (get_or array_least j 0 ≤ get_or b (25 + 64 * j + i) 0) × (get_or b (25 + 64 * j + i) 0 ≤ get_or (array_most n) j 0)
  unfolding used
  both j i h g =
      let a = part b (25 + 64 * j) 64
      in let t = and_both (leb (get_or array_least j 0) (get_or a i 0)) (leb (get_or a i 0) (get_or (array_most n) j 0))
      (every_at (λ (i : ℕ). leb (get_or array_least j 0) (get_or a i 0) && leb (get_or a i 0) (get_or (array_most n) j 0)) (get_or b (get_or counter j 0) 0) i (array j h).0 g)
      in let q : get_or a i 0 ≡ get_or b (25 + 64 * j + i) 0 = part_get b (25 + 64 * j) 64 i (omega (arith, few j h))
      in let u : get_or array_least j 0 ≤ get_or a i 0 = leb-true _ _ t.0
      in let v : get_or a i 0 ≤ get_or (array_most n) j 0 = leb-true _ _ t.1
      in (rw q at u, rw q at v)

  present : (get_or b 0 0 ≡ 0 → ⊥) → BlockInRange n b
  unfolding unused
  present not-absent =
      record {
        scalar = λ i h. within_at (block_most n) b 25 i e h;
        low = λ j i h g. (both j i h g).0;
        high = λ j i h g. (both j i h g).1;
        rest = λ j i h g u.
            let k = get_or b (get_or counter j 0) 0
            in let t = every_at (λ (x : ℕ). eqb (get_or (part b (25 + 64 * j) 64) (k + x) 0) 0) (64 - k) (i - k) (array j h).1 (omega arith)
            in let q : k + (i - k) ≡ i = omega arith
            in sym (part_get b (25 + 64 * j) 64 i u) ∙ ap (λ (y : ℕ). get_or (part b (25 + 64 * j) 64) y 0) (sym q) ∙ eqb-true _ 0 t;
        absent = λ z. absurd (not-absent z);
        remainder = u;
      }

pub in_range : (n : ℕ) (b : List ℕ) → block_in_range n b ≡ true → BlockInRange n b
unfolding block_in_range_to
in_range n b e =
    by_test (eqb (get_or b 0 0) 0) (λ t. absent n b (rw t at e))
    (λ t.
    let p = and_both (within (block_most n) b 25) _ (rw t at e)
    in let q = and_both (leb (get_or b remainder_place 0) max_remainder) _ p.1
    in present n b p.0 (leb-true _ _ q.0) q.1 (eqb-false (get_or b 0 0) 0 t))

pub whole_block : (n : ℕ) (b : List ℕ) → length b ≡ block_size → BlockInRange n b → Whole b
unfolding block_most_to
whole_block n b l k =
    let at = k.scalar
    in record {
      size = l;
      queue = at 21 (omega arith);
      timers = at 22 (omega arith);
      local = at 23 (omega arith);
      ipi = at 24 (omega arith);
      rest = k.rest;
      present = at 0 (omega arith);
      being_sigkilled = at 6 (omega arith);
      inside_syscall = at 7 (omega arith);
      stealable = at 8 (omega arith);
      state = at 12 (omega arith);
      queue_locked = at 18 (omega arith);
    }

-- item i of a list that is found item by item
found : {A : Type 0} (P : A → Type 0) (k i : ℕ) (f : ℕ → A) (d : A) → ((i < k) → P (f i)) → i < length (tabulate k f) → P (get_or (tabulate k f) i d)
found P k i f d p h = let g : i < k = rw (length_tabulate k f) at h in subst P (sym (get_d_tabulate k i f d g)) (p g)

-- rising, item by item
pub record Rising (b : List ℕ) : Type 0 where
  pub keys : (i : ℕ) → suc i < get_or b 21 0 → entry_before (entry_at b i) (entry_at b (suc i)) ≡ true
  pub timers : (i : ℕ) → suc i < get_or b 22 0 → sooner (timer_at b i) (timer_at b (suc i)) ≡ true

pub cpu_fits : (n : ℕ) (b : List ℕ) → 1 ≤ n → BlockInRange n b → Rising b → CpuFits n (cpu_of b)
unfolding cpu_of block_of block_most_to counter array_least array_most_to entry_at timer_at
cpu_fits n b p k r =
    let at = k.scalar
    in record {
      current = omega (arith, at 1 (omega arith));
      sched = omega (arith, at 2 (omega arith));
      idle = omega (arith, at 3 (omega arith));
      queue = rw (length_tabulate (get_or b 21 0) (entry_at b)) (at 21 (omega arith));
      timers = rw (length_tabulate (get_or b 22 0) (timer_at b)) (at 22 (omega arith));
      local = rw (length_tabulate (get_or b 23 0) (λ (i : ℕ). get_or b (local_wakeup_list_column + i) 0)) (at 23 (omega arith));
      ipi = rw (length_tabulate (get_or b 24 0) (λ (i : ℕ). get_or b (ipi_context_wakeup_list_column + i) 0)) (at 24 (omega arith));
      entry = λ i. found (EntryFits n) (get_or b 21 0) i (entry_at b) no_entry
          (λ g. record { name = omega (arith, k.high 5 i (omega arith) g); light = k.high 4 i (omega arith) g; heavy = k.low 4 i (omega arith) g });
      timer = λ i. found (λ (t : Timer). t.context_ref < n) (get_or b 22 0) i (timer_at b) no_timer (λ g. omega (arith, k.high 7 i (omega arith) g));
      local_name = λ i. found (λ (x : ℕ). x < n) (get_or b 23 0) i (λ (i : ℕ). get_or b (local_wakeup_list_column + i) 0) 0 (λ g. omega (arith, k.high 8 i (omega arith) g));
      ipi_name = λ i. found (λ (x : ℕ). x < n) (get_or b 24 0) i (λ (i : ℕ). get_or b (ipi_context_wakeup_list_column + i) 0) 0 (λ g. omega (arith, k.high 9 i (omega arith) g));
      keys_rise = sorted_tabulate entry_before (λ x y z. before_trans x.key y.key z.key) (get_or b 21 0) (entry_at b) r.keys;
      timers_rise = sorted_tabulate sooner sooner_trans (get_or b 22 0) (timer_at b) r.timers;
      remainder = k.remainder;
    }

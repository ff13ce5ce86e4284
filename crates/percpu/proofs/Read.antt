-- A CPU's lists and its remainder read from its block, and the CPU found from its words. Assumes nothing.
use mathlib.Core.Path.{◌≡◌, refl, sym, ap, ◌∙◌}
use Prim.Native.Nat.{ℕ, ◌+◌, ◌*◌, ◌<◌, ◌≤◌}
use native.Mathlib.Omega.{arith}
use mathlib.Core.List.{List, [], ◌∷◌, ◌++◌, append_assoc, map}
use lib.ListN.{length, get_or, set, length-append, length-map}
use lib.Seq.{get_or_at, set_at}
use Rattle.columns.specs.Common.{tabulate}
use Rattle.columns.specs.Blocks.{flat, length_flat, part, col_get}
use Rattle.columns.proofs.Tabulate.{tabulate_is, get_d_map}
use Rattle.cpu_stats.specs.Words.{stats_words}
use Rattle.entries.specs.declared.Entry.{Entry}
use Rattle.entries.specs.declared.Timer.{Timer}
use Rattle.percpu.specs.Cpu.{Cpu}
use Rattle.percpu.specs.Words.{block_words, block_of, block_of_words}
use Rattle.percpu.specs.Layout.{cpu_words, cpu_of, entry_at, timer_at, no_entry, no_timer, counts, columns, last_words, front_length}
use Rattle.percpu.specs.With.{cpu_remainder}
use Rattle.percpu.specs.Places.{local_wakeup_list_column, ipi_context_wakeup_list_column, remainder_place}

-- lists that fit into their arrays
pub record Short (c : Cpu) : Type 0 where
  pub queue : length c.queue ≤ 64
  pub timers : length c.timers ≤ 64
  pub local : length c.local_wakeup_list ≤ 64
  pub ipi : length c.ipi_context_wakeup_list ≤ 64

module _ (c : Cpu) where
  abbrev front : List ℕ
  front = block_words c.block ++ counts c

  -- column j is the projection f of a list
  pub column_get : {A : Type 0} (l : List A) (d : A) (f : A → ℕ) (j i : ℕ) → j < 10 → get_or (columns c) j [] ≡ map f l → i < length l → length l ≤ 64
      → get_or (cpu_words c) (25 + 64 * j + i) 0 ≡ f (get_or l i d)
  unfolding cpu_words columns
  column_get l d f j i b e h g =
      let n : length (get_or (columns c) j []) ≡ length l = rw e (length-map l f)
      in col_get front (last_words c) (columns c) 25 j (front_length c) b i (rw n h) (rw n g) ∙ ap (λ (x : List ℕ). get_or x i 0) e ∙ get_d_map f l i d h

  pub entry_is : (i : ℕ) → i < length c.queue → length c.queue ≤ 64 → entry_at (cpu_words c) i ≡ get_or c.queue i no_entry
  unfolding entry_at columns
  entry_is i h g =
      λ t. record {
        key = record {
          vd = column_get c.queue no_entry (λ (e : Entry). e.key.vd) 0 i (omega arith) refl h g t;
          rem_slice = column_get c.queue no_entry (λ (e : Entry). e.key.rem_slice) 1 i (omega arith) refl h g t;
          ctxt_id = column_get c.queue no_entry (λ (e : Entry). e.key.ctxt_id) 2 i (omega arith) refl h g t;
        };
        vtime = column_get c.queue no_entry (λ (e : Entry). e.vtime) 3 i (omega arith) refl h g t;
        weight = column_get c.queue no_entry (λ (e : Entry). e.weight) 4 i (omega arith) refl h g t;
        context_ref = column_get c.queue no_entry (λ (e : Entry). e.context_ref) 5 i (omega arith) refl h g t;
      }

  pub timer_is : (i : ℕ) → i < length c.timers → length c.timers ≤ 64 → timer_at (cpu_words c) i ≡ get_or c.timers i no_timer
  unfolding timer_at columns
  timer_is i h g =
      λ t. record {
        wake = column_get c.timers no_timer (λ (e : Timer). e.wake) 6 i (omega arith) refl h g t;
        context_ref = column_get c.timers no_timer (λ (e : Timer). e.context_ref) 7 i (omega arith) refl h g t;
      }

  pub local_is : (i : ℕ) → i < length c.local_wakeup_list → length c.local_wakeup_list ≤ 64
      → get_or (cpu_words c) (local_wakeup_list_column + i) 0 ≡ get_or c.local_wakeup_list i 0
  unfolding cpu_words columns
  local_is i h g = col_get front (last_words c) (columns c) 25 8 (front_length c) (omega arith) i h g

  pub ipi_is : (i : ℕ) → i < length c.ipi_context_wakeup_list → length c.ipi_context_wakeup_list ≤ 64
      → get_or (cpu_words c) (ipi_context_wakeup_list_column + i) 0 ≡ get_or c.ipi_context_wakeup_list i 0
  unfolding cpu_words columns
  ipi_is i h g = col_get front (last_words c) (columns c) 25 9 (front_length c) (omega arith) i h g

  before_last : length (front ++ flat (columns c)) ≡ remainder_place
  unfolding columns
  before_last = rw (length-append, front_length c, length_flat)

  at_last : cpu_words c ≡ (front ++ flat (columns c)) ++ last_words c
  unfolding cpu_words
  at_last = sym (append_assoc front (flat (columns c)) (last_words c))

  pub remainder_is : get_or (cpu_words c) remainder_place 0 ≡ c.remainder
  remainder_is = rw at_last (get_or_at (front ++ flat (columns c)) c.remainder [] 0 remainder_place before_last)

  pub remainder_put : (x : ℕ) → set (cpu_words c) remainder_place x ≡ cpu_words (cpu_remainder x c)
  unfolding cpu_words counts columns
  remainder_put x =
      ap (λ (b : List ℕ). set b remainder_place x) at_last
      ∙ set_at (front ++ flat (columns c)) c.remainder [] x remainder_place before_last
      ∙ append_assoc front (flat (columns c)) (x ∷ [])

  block_is : block_of (cpu_words c) ≡ c.block
  unfolding cpu_words block_words stats_words block_of part
  block_is = block_of_words c.block

  queue_is : length c.queue ≤ 64 → tabulate (get_or (cpu_words c) 21 0) (entry_at (cpu_words c)) ≡ c.queue
  unfolding cpu_words block_words stats_words counts
  queue_is g = tabulate_is no_entry c.queue (entry_at (cpu_words c)) (λ i h. entry_is i h g)

  timers_is : length c.timers ≤ 64 → tabulate (get_or (cpu_words c) 22 0) (timer_at (cpu_words c)) ≡ c.timers
  unfolding cpu_words block_words stats_words counts
  timers_is g = tabulate_is no_timer c.timers (timer_at (cpu_words c)) (λ i h. timer_is i h g)

  locals_is : length c.local_wakeup_list ≤ 64
      → tabulate (get_or (cpu_words c) 23 0) (λ (i : ℕ). get_or (cpu_words c) (local_wakeup_list_column + i) 0) ≡ c.local_wakeup_list
  unfolding cpu_words block_words stats_words counts
  locals_is g = tabulate_is 0 c.local_wakeup_list (λ (i : ℕ). get_or (cpu_words c) (local_wakeup_list_column + i) 0) (λ i h. local_is i h g)

  ipis_is : length c.ipi_context_wakeup_list ≤ 64
      → tabulate (get_or (cpu_words c) 24 0) (λ (i : ℕ). get_or (cpu_words c) (ipi_context_wakeup_list_column + i) 0) ≡ c.ipi_context_wakeup_list
  unfolding cpu_words block_words stats_words counts
  ipis_is g = tabulate_is 0 c.ipi_context_wakeup_list (λ (i : ℕ). get_or (cpu_words c) (ipi_context_wakeup_list_column + i) 0) (λ i h. ipi_is i h g)

  pub cpu_of_words : Short c → cpu_of (cpu_words c) ≡ c
  unfolding cpu_of
  cpu_of_words o = rw (block_is, queue_is o.queue, timers_is o.timers, locals_is o.local, ipis_is o.ipi, remainder_is)

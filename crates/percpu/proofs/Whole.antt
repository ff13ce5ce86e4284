-- A block whose counts fit, whose marks are marks and whose unused words are 0 is the words of the CPU found in it. Assumes nothing.
use mathlib.Core.Path.{◌≡◌, refl, sym, ap, ◌∙◌}
use Prim.Native.Nat.{ℕ, zero, suc, ◌+◌, ◌*◌, ◌<◌, ◌≤◌}
use native.Mathlib.Omega.{arith}
use mathlib.Core.List.{List, [], ◌++◌, map}
use lib.ListN.{length, get_or, take, drop, length-take, take-append-drop}
use lib.Seq.{drop-drop, drop-cons, drop-length, get_or-take}
use Rattle.columns.specs.Common.{tabulate}
use Rattle.columns.specs.Columns.{pad}
use Rattle.columns.specs.Laws.{length_pad}
use Rattle.columns.specs.Blocks.{flat, part, length_part}
use Rattle.columns.proofs.Tabulate.{tabulate_is, length_tabulate, map_tabulate, mark_word, part_get, part_part, cat_tabulate, column_is}
use Rattle.cpu_stats.specs.State.{state_forth}
use Rattle.cpu_stats.specs.Words.{stats_words, stats_of}
use Rattle.entries.specs.declared.Entry.{Entry}
use Rattle.entries.specs.declared.Timer.{Timer}
use Rattle.percpu.specs.Words.{block_words, block_of}
use Rattle.percpu.specs.Layout.{cpu_words, cpu_of, entry_at, timer_at, counts, columns, last_words, counter}
use Rattle.percpu.specs.Places.{front_size, local_wakeup_list_column, ipi_context_wakeup_list_column, remainder_place, block_size}

pub record Whole (b : List ℕ) : Type 0 where
  pub size : length b ≡ block_size
  pub queue : get_or b 21 0 ≤ 64
  pub timers : get_or b 22 0 ≤ 64
  pub local : get_or b 23 0 ≤ 64
  pub ipi : get_or b 24 0 ≤ 64
  pub rest : (j i : ℕ) → j < 10 → get_or b (get_or counter j 0) 0 ≤ i → i < 64 → get_or b (25 + 64 * j + i) 0 ≡ 0
  pub present : get_or b 0 0 ≤ 1
  pub being_sigkilled : get_or b 6 0 ≤ 1
  pub inside_syscall : get_or b 7 0 ≤ 1
  pub stealable : get_or b 8 0 ≤ 1
  pub state : get_or b 12 0 ≤ 2
  pub queue_locked : get_or b 18 0 ≤ 1

module _ (b : List ℕ) (w : Whole b) where
  column : (j n : ℕ) → j < 10 → n ≤ 64 → get_or b (get_or counter j 0) 0 ≡ n → pad 64 (tabulate n (λ (i : ℕ). get_or b (25 + 64 * j + i) 0)) ≡ part b (25 + 64 * j) 64
  column j n h g e = column_is b (25 + 64 * j) n (rw w.size (omega arith)) g (λ i k m. w.rest j i h (rw e k) m)

  -- column j of entries, and of timers
  queue_column : (f : Entry → ℕ) (j : ℕ) → j < 10 → get_or counter j 0 ≡ 21 → ((i : ℕ) → f (entry_at b i) ≡ get_or b (25 + 64 * j + i) 0)
      → pad 64 (map f (tabulate (get_or b 21 0) (entry_at b))) ≡ part b (25 + 64 * j) 64
  queue_column f j h e k =
      ap (pad 64) (map_tabulate f (get_or b 21 0) (entry_at b) ∙ ap (tabulate (get_or b 21 0)) (λ t i. k i t))
      ∙ column j (get_or b 21 0) h w.queue (rw e)

  timer_context_ref_column : (f : Timer → ℕ) (j : ℕ) → j < 10 → get_or counter j 0 ≡ 22 → ((i : ℕ) → f (timer_at b i) ≡ get_or b (25 + 64 * j + i) 0)
      → pad 64 (map f (tabulate (get_or b 22 0) (timer_at b))) ≡ part b (25 + 64 * j) 64
  timer_context_ref_column f j h e k =
      ap (pad 64) (map_tabulate f (get_or b 22 0) (timer_at b) ∙ ap (tabulate (get_or b 22 0)) (λ t i. k i t))
      ∙ column j (get_or b 22 0) h w.timers (rw e)

  each : (j : ℕ) → j < 10 → pad 64 (get_or (columns (cpu_of b)) j []) ≡ part b (25 + 64 * j) 64
  unfolding columns cpu_of counter entry_at timer_at
  each zero h = queue_column (λ (e : Entry). e.key.vd) 0 h refl (λ i. refl)
  each (suc zero) h = queue_column (λ (e : Entry). e.key.rem_slice) 1 h refl (λ i. refl)
  each (suc (suc zero)) h = queue_column (λ (e : Entry). e.key.ctxt_id) 2 h refl (λ i. refl)
  each (suc (suc (suc zero))) h = queue_column (λ (e : Entry). e.vtime) 3 h refl (λ i. refl)
  each (suc (suc (suc (suc zero)))) h = queue_column (λ (e : Entry). e.weight) 4 h refl (λ i. refl)
  each (suc (suc (suc (suc (suc zero))))) h = queue_column (λ (e : Entry). e.context_ref) 5 h refl (λ i. refl)
  each (suc (suc (suc (suc (suc (suc zero)))))) h = timer_context_ref_column (λ (t : Timer). t.wake) 6 h refl (λ i. refl)
  each (suc (suc (suc (suc (suc (suc (suc zero))))))) h = timer_context_ref_column (λ (t : Timer). t.context_ref) 7 h refl (λ i. refl)
  each (suc (suc (suc (suc (suc (suc (suc (suc zero)))))))) h = column 8 (get_or b 23 0) (omega arith) w.local refl
  each (suc (suc (suc (suc (suc (suc (suc (suc (suc zero))))))))) h = column 9 (get_or b 24 0) (omega arith) w.ipi refl
  each (suc (suc (suc (suc (suc (suc (suc (suc (suc (suc j)))))))))) h = absurd (omega arith)

  front : block_words (cpu_of b).block ++ counts (cpu_of b) ≡ take 25 b
  unfolding block_words block_of stats_words stats_of cpu_of counts tabulate part
  front =
      let l : length (take 25 b) ≡ 25 = rw (length-take, w.size)
      in let t : tabulate (length (take 25 b)) (λ (i : ℕ). get_or b i 0) ≡ take 25 b
      = tabulate_is 0 (take 25 b) (λ (i : ℕ). get_or b i 0) (λ i h. sym (get_or-take 25 b i 0 (rw l at h)))
      in rw (
        mark_word (get_or b 0 0) w.present,
        mark_word (get_or b 6 0) w.being_sigkilled,
        mark_word (get_or b 7 0) w.inside_syscall,
        mark_word (get_or b 8 0) w.stealable,
        mark_word (get_or b 18 0) w.queue_locked,
        part_get b 12 6 0 (omega arith),
        part_get b 12 6 1 (omega arith),
        part_get b 12 6 2 (omega arith),
        part_get b 12 6 3 (omega arith),
        part_get b 12 6 4 (omega arith),
        part_get b 12 6 5 (omega arith),
        state_forth (get_or b 12 0) w.state,
        length_tabulate (get_or b 21 0) (entry_at b),
        length_tabulate (get_or b 22 0) (timer_at b),
        length_tabulate (get_or b 23 0) (λ (i : ℕ). get_or b (local_wakeup_list_column + i) 0),
        length_tabulate (get_or b 24 0) (λ (i : ℕ). get_or b (ipi_context_wakeup_list_column + i) 0),
      )
      (rw l at t)

  -- the columns, and the one word behind them
  abbrev inner : List ℕ
  inner = part b front_size 640

  middle : flat (columns (cpu_of b)) ≡ inner
  unfolding flat columns tabulate
  middle =
      let l : front_size + 640 ≤ length b = rw w.size (omega arith)
      in
      cat_tabulate (pad 64) 64 (length_pad 64) 10 (λ (j : ℕ). get_or (columns (cpu_of b)) j []) inner (length_part b front_size 640 l)
      (λ j h. each j h ∙ sym (part_part b front_size 640 (64 * j) 64 l (omega arith)))

  last : last_words (cpu_of b) ≡ drop 640 (drop front_size b)
  unfolding cpu_of
  last =
      let l : remainder_place < length b = rw w.size (omega arith)
      in let e : drop (suc remainder_place) b ≡ [] = ap (λ (n : ℕ). drop n b) (sym w.size) ∙ drop-length b
      in rw (drop-drop, drop-cons b remainder_place 0 l, e)

  pub cpu_words_of : cpu_words (cpu_of b) ≡ b
  unfolding cpu_words part
  cpu_words_of = rw (front, middle, last, take-append-drop 640 (drop front_size b), take-append-drop)

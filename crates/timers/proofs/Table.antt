-- The timers as a table of their CPU's block. Assumes nothing.
use mathlib.Core.Path.{◌≡◌, refl, sym, ap, ◌∙◌}
use mathlib.Core.Bool.{not}
use mathlib.Core.List.{List, [], ◌∷◌}
use Prim.Native.Nat.{ℕ, ◌+◌, ◌<◌, ◌≤◌}
use native.Mathlib.Omega.{arith}
use native.Mathlib.Nat.{zero-add}
use lib.ListN.{length, get_or, take, drop}
use lib.Dec.{eqb}
use borrow.Author.Tests.{eqb-true, le-ltb, le-leb, lt-leb, leb-true}
use Rattle.columns.specs.Common.{keep}
use Rattle.columns.specs.Blocks.{part, length_part}
use Rattle.columns.specs.Columns.{remove_at}
use Rattle.columns.proofs.Tabulate.{part_get}
use Rattle.entries.specs.declared.Key.{Key}
use Rattle.entries.specs.declared.Timer.{Timer}
use Rattle.entries.specs.Order.{before, sooner, is_due, timer_key}
use Rattle.entries.specs.Sorted.{Sorted}
use Rattle.entries.proofs.Orders.{sooner_wake}
use Rattle.cpu_stats.specs.Words.{stats_words}
use Rattle.percpu.specs.Cpu.{Cpu}
use Rattle.percpu.specs.Words.{block_words}
use Rattle.percpu.specs.With.{cpu_timers}
use Rattle.percpu.specs.Layout.{counts, columns, cpu_words, timer_at, no_timer}
use Rattle.percpu.proofs.Read.{timer_is}
use Rattle.table.specs.Keys.{key_at, is_before}
use Rattle.columns.proofs.Tests.{by_test}
use Rattle.table.specs.First.{first_not, lead}
use Rattle.table.proofs.Tables.{fields}
use Rattle.table.proofs.Search.{first_is, first_at}
use Rattle.table.proofs.Rising.{lead_keeps}
use Rattle.table.specs.Table.{row_removed}
use Rattle.table.proofs.InBlock.{Table, Lies, entry_fields, count_is, block_out}
use Rattle.percpu.specs.Places.{timers_count, timer_wake_column, timer_context_ref_column}

-- the six columns of the queue come before
abbrev pub timer_table : Table Timer
timer_table =
    record {
      fs = (λ (t : Timer). t.wake) ∷ (λ (t : Timer). t.context_ref) ∷ [];
      get = λ (c : Cpu). c.timers;
      put = cpu_timers;
      before = λ (c : Cpu). fields entry_fields c.queue;
      after = λ (c : Cpu). c.local_wakeup_list ∷ c.ipi_context_wakeup_list ∷ [];
      start = timer_wake_column;
      count = 22;
      item = timer_at;
      none = no_timer;
    }

pub timer_lies : Lies timer_table
unfolding fields columns block_words stats_words counts cpu_words
timer_lies =
    record {
      same = λ c. refl;
      here = λ c q. refl;
      starts = λ c. refl;
      item_is = timer_is;
      counts_old = λ c l. refl;
      counts_new = λ c q. refl;
    }

-- the first wake that is past due
module _ (b : List ℕ) (time n r : ℕ) (w : List ℕ) (e : w ≡ part b timer_wake_column n) (l : timer_wake_column + n ≤ length b) where
  pub first_due : r ≤ length w → ((i : ℕ) → i < r → get_or w i 0 ≤ time + 1) → (r < length w → time + 1 < get_or w r 0) → r ≡ first_not (λ (j : ℕ). is_due time (timer_at b j)) 0 n
  unfolding timer_at
  first_due h before at =
      let k : length w ≡ n = rw e (length_part b timer_wake_column n l)
      in let wake : (j : ℕ) → j < n → get_or w j 0 ≡ get_or b (timer_wake_column + j) 0 = λ j g. rw e (part_get b timer_wake_column n j g)
      in sym (first_at _ n r (omega arith)
      (λ j g. le-leb _ _ (rw (wake j (omega arith)) at (before j g)))
      (λ g. lt-leb _ _ (rw (wake r g) at (at (omega arith)))))

-- what the walk from the front finds
pub due_is : (time : ℕ) (b : List ℕ) (r : ℕ) → r ≡ first_not (λ (j : ℕ). is_due time (timer_at b j)) 0 (get_or b 22 0) → (c : Cpu) → b ≡ cpu_words c → length c.timers ≤ 64 → r ≡ lead (is_due time) c.timers
due_is time b r h c hb g =
    h ∙ (λ j. first_not (λ (i : ℕ). is_due time (timer_at (hb j) i)) 0 ((ap (λ (l : List ℕ). get_or l 22 0) hb ∙ count_is timer_table timer_lies c) j))
    ∙ first_is (is_due time) (λ (i : ℕ). is_due time (timer_at (cpu_words c) i)) no_timer c.timers 0 (λ i k. ap (λ (m : ℕ). is_due time (timer_at (cpu_words c) m)) (zero-add i) ∙ ap (is_due time) (timer_is c i k g))
    ∙ zero-add _

-- of sorted timers, those at the front that are due are all that are due
pub due_kept : (time : ℕ) (q : List Timer) → Sorted sooner q → (keep (is_due time) q ≡ take (lead (is_due time) q) q) × (keep (λ (t : Timer). not (is_due time t)) q ≡ drop (lead (is_due time) q) q)
due_kept time = lead_keeps sooner (is_due time) (λ x y h t. le-leb x.wake (time + 1) (omega (arith, sooner_wake x y h, leb-true y.wake (time + 1) t)))

-- the order of the keys is that of the timers
pub same_order : (a b : Timer) → before (timer_key a) (timer_key b) ≡ sooner a b
unfolding before sooner
same_order a b =
    by_test (eqb a.wake b.wake)
    (λ t. let e : a.wake ≡ b.wake = eqb-true a.wake b.wake t in rw (t, le-ltb b.wake a.wake (omega arith)))
    (λ t. rw t)

-- the order of the rows' keys is that of the timers
module _ (b : List ℕ) (t : Timer) (k : Key) (e : k ≡ timer_key t) (i : ℕ) where
  pub key_before : is_before b timer_wake_column timer_wake_column timer_context_ref_column k i ≡ sooner (timer_at b i) t
  unfolding key_at timer_at
  key_before = ap (before (timer_key (timer_at b i))) e ∙ same_order (timer_at b i) t

  pub key_after : before k (key_at b timer_wake_column timer_wake_column timer_context_ref_column i) ≡ sooner t (timer_at b i)
  unfolding key_at timer_at
  key_after = ap (λ (x : Key). before x (timer_key (timer_at b i))) e ∙ same_order t (timer_at b i)

-- a timer taken out and the count lowered
pub timer_out : (b b' : List ℕ) (i : ℕ) → i < get_or b timers_count 0 → b' ≡ row_removed b timer_wake_column timers_count 2 (get_or b timers_count 0) i → (c : Cpu) → b ≡ cpu_words c → length c.timers ≤ 64 → b' ≡ cpu_words (cpu_timers (remove_at i c.timers) c)
timer_out b b' i h e c hb g =
    let n : get_or b timers_count 0 ≡ length c.timers = ap (λ (l : List ℕ). get_or l timers_count 0) hb ∙ count_is timer_table timer_lies c
    in e ∙ (λ j. row_removed (hb j) timer_wake_column timers_count 2 (n j) i) ∙ block_out timer_table timer_lies c i (omega arith) g

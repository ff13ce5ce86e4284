-- What words in their ranges say of the record or the CPU found in them. Assumes nothing.
use mathlib.Core.Path.{◌≡◌, sym, subst}
use mathlib.Core.Logic.{◌≢◌}
use mathlib.Core.Bool.{true, false}
use mathlib.Core.List.{List}
use Prim.Native.Nat.{ℕ, ◌<◌, ◌≤◌}
use native.Mathlib.Omega.{arith}
use lib.Dec.{eqb}
use lib.ListN.{length, get_or}
use borrow.Author.Tests.{eqb-true}
use Rattle.columns.specs.Common.{tabulate}
use Rattle.columns.specs.Blocks.{part}
use Rattle.columns.proofs.Tests.{and_both}
use Rattle.columns.proofs.Tabulate.{part_get, length_tabulate, get_d_tabulate}
use Rattle.cpu_stats.specs.State.{state_of}
use Rattle.cpu_stats.specs.Words.{stats_of}
use Rattle.context.specs.Status.{status_of}
use Rattle.context.specs.Words.{context_of, record_size}
use Rattle.entries.specs.declared.Entry.{Entry}
use Rattle.percpu.specs.Places.{remainder_place, block_size}
use Rattle.percpu.specs.Cpu.{Cpu}
use Rattle.percpu.specs.Words.{block_of}
use Rattle.percpu.specs.Layout.{cpu_of, entry_at, counter, no_entry}
use Rattle.machine.specs.Machine.{no_cpu}
use Rattle.image_ranges.specs.Ranges.{within, gone_most, context_most_to, wake_marked, key_marked, context_in_range, context_in_range_to, block_most_to, array_most_to}
use Rattle.image_ranges.proofs.Checked.{within_at}
use Rattle.image_ranges.proofs.InRange.{BlockInRange, context_at_most}
use Rattle.model_leaves.proofs.WellFormed.{gone_context, ContextFormed}
use Rattle.numbers.specs.Limits.{max_number, max_word}
use Rattle.weights.specs.Weights.{full_slice}

-- a record's words
module _ (c : ℕ) (w : List ℕ) (e : context_in_range c w ≡ true) where
  abbrev at : (i : ℕ) → i < record_size → get_or w i 0 ≤ get_or (context_most_to max_number c) i 0
  at = context_at_most c w e

  gone_is : eqb (get_or w 0 0) 1 ≡ true → context_of w ≡ gone_context (get_or w 1 0)
  unfolding context_in_range_to gone_most context_of status_of
  gone_is t =
      let z : (i : ℕ) → i < record_size → get_or w i 0 ≤ get_or gone_most i 0 = λ i h. within_at gone_most w record_size i (rw t at e) h
      in let no : (i : ℕ) → get_or w i 0 ≤ 0 → get_or w i 0 ≡ 0 = λ i h. omega arith
      in rw (
        t,
        no 2 (z 2 (omega arith)),
        no 3 (z 3 (omega arith)),
        no 4 (z 4 (omega arith)),
        no 5 (z 5 (omega arith)),
        no 6 (z 6 (omega arith)),
        no 7 (z 7 (omega arith)),
        no 8 (z 8 (omega arith)),
        no 9 (z 9 (omega arith)),
        no 10 (z 10 (omega arith)),
        no 11 (z 11 (omega arith)),
        no 12 (z 12 (omega arith)),
        no 13 (z 13 (omega arith)),
        no 14 (z 14 (omega arith)),
        no 15 (z 15 (omega arith)),
        no 16 (z 16 (omega arith)),
        no 17 (z 17 (omega arith)),
        no 18 (z 18 (omega arith)),
        no 19 (z 19 (omega arith)),
        no 20 (z 20 (omega arith)),
        no 21 (z 21 (omega arith)),
        no 22 (z 22 (omega arith)),
        no 23 (z 23 (omega arith)),
        no 24 (z 24 (omega arith)),
        no 25 (z 25 (omega arith)),
      )

  -- wake and key words are 0 without their marks
  marked : eqb (get_or w 0 0) 1 ≡ false → (wake_marked w ≡ true) × (key_marked w ≡ true)
  unfolding context_in_range_to
  marked t = and_both (wake_marked w) (key_marked w) (and_both (within (context_most_to max_number c) w record_size) _ (rw t at e)).1

  no_wake : wake_marked w ≡ true → eqb (get_or w 12 0) 1 ≡ false → get_or w 13 0 ≡ 0
  unfolding wake_marked
  no_wake h t = eqb-true _ 0 (rw t at h)

  no_key : key_marked w ≡ true → eqb (get_or w 21 0) 1 ≡ false → (get_or w 22 0 ≡ 0) × (get_or w 23 0 ≡ 0)
  unfolding key_marked
  no_key h t = let p = and_both (eqb (get_or w 22 0) 0) (eqb (get_or w 23 0) 0) (rw t at h) in (eqb-true _ 0 p.0, eqb-true _ 0 p.1)

  pub context_formed : ContextFormed c (context_of w)
  unfolding context_of context_most_to
  context_formed =
      record {
        id = at 1 (omega arith);
        gone = gone_is;
        fixed_formed = λ t. record { sched_affinity = at 10 (omega arith); prio = at 16 (omega arith); lock = at 24 (omega arith); addr_space = at 25 (omega arith) };
        changing_formed = λ t.
            record {
              cpu_id = at 5 (omega arith);
              schedule_time = at 6 (omega arith);
              switch_time = at 7 (omega arith);
              wake = at 13 (omega arith);
              no_wake = no_wake (marked t).0;
              rem_slice = at 19 (omega arith);
              key_rem_slice = at 23 (omega arith);
              no_key = no_key (marked t).1;
            };
      }

-- a block whose words are 0 is an absent CPU's
pub absent_is : (b : List ℕ) → ((i : ℕ) → i < block_size → get_or b i 0 ≡ 0) → cpu_of b ≡ no_cpu
unfolding cpu_of block_of stats_of state_of tabulate no_cpu part
absent_is b z =
    rw (
      z 0 (omega arith),
      z 1 (omega arith),
      z 2 (omega arith),
      z 3 (omega arith),
      z 4 (omega arith),
      z 5 (omega arith),
      z 6 (omega arith),
      z 7 (omega arith),
      z 8 (omega arith),
      z 9 (omega arith),
      z 10 (omega arith),
      z 11 (omega arith),
      part_get b 12 6 0 (omega arith),
      part_get b 12 6 1 (omega arith),
      part_get b 12 6 2 (omega arith),
      part_get b 12 6 3 (omega arith),
      part_get b 12 6 4 (omega arith),
      part_get b 12 6 5 (omega arith),
      z 12 (omega arith),
      z 13 (omega arith),
      z 14 (omega arith),
      z 15 (omega arith),
      z 16 (omega arith),
      z 17 (omega arith),
      z 18 (omega arith),
      z 19 (omega arith),
      z 20 (omega arith),
      z 21 (omega arith),
      z 22 (omega arith),
      z 23 (omega arith),
      z 24 (omega arith),
      z remainder_place (omega arith),
    )

-- what a present block's words say of the CPU found in them, besides what fitting says
pub record WordsFormed (p : Cpu) : Type 0 where
  pub is_present : p.block.present ≡ true
  pub steal_counter : p.block.steal_counter ≤ max_word
  pub queue_len : p.block.queue_len ≤ max_number
  pub rem_slice : (i : ℕ) → i < length p.queue → (get_or p.queue i no_entry).key.rem_slice ≤ full_slice

pub words_formed : (n : ℕ) (b : List ℕ) → BlockInRange n b → get_or b 0 0 ≢ 0 → WordsFormed (cpu_of b)
unfolding cpu_of block_of block_most_to array_most_to counter entry_at
words_formed n b o z =
    let h : get_or b 0 0 ≤ 1 = o.scalar 0 (omega arith)
    in let e : get_or b 0 0 ≡ 1 = omega arith
    in record {
      is_present = rw e;
      steal_counter = o.scalar 11 (omega arith);
      queue_len = o.scalar 9 (omega arith);
      rem_slice = λ i g.
          let l : i < get_or b 21 0 = rw (length_tabulate (get_or b 21 0) (entry_at b)) at g
          in subst (λ (y : Entry). y.key.rem_slice ≤ full_slice) (sym (get_d_tabulate (get_or b 21 0) i (entry_at b) no_entry l)) (o.high 1 i (omega arith) l);
    }

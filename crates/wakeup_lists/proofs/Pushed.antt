-- A name put at the end of a wake-up list. Assumes nothing.
use mathlib.Core.Path.{◌≡◌, refl, ap, ◌∙◌}
use Prim.Native.Nat.{ℕ, ◌+◌, ◌-◌, ◌*◌, ◌<◌}
use native.Mathlib.Omega.{arith}
use mathlib.Core.List.{List, [], ◌∷◌, ◌++◌}
use lib.ListN.{length, get_or, set, take, drop, length-append}
use lib.Seq.{take-length, drop-length}
use borrow.Rule.Slice.PartMut.{put_mid}
use Rattle.columns.specs.Columns.{column_insert, insert_at}
use Rattle.columns.specs.Blocks.{flat, part, splice, col_insert, part_is, splice_is}
use Rattle.cpu_stats.specs.Words.{stats_words}
use Rattle.percpu.specs.Cpu.{Cpu}
use Rattle.percpu.specs.With.{cpu_local_wakeup_list, cpu_ipi_context_wakeup_list}
use Rattle.percpu.specs.Words.{block_words}
use Rattle.percpu.specs.Layout.{cpu_words, counts, columns, last_words, front_length}
use Rattle.wakeup_lists.specs.declared.WakeupList.{WakeupList}
use Rattle.wakeup_lists.specs.declared.WakeupList.TheVariants.{Local, Ipi}
use Rattle.wakeup_lists.specs.Lists.{names_place, count_place, cpu_push}

-- a list of a CPU that lies in column j and is counted by a word; `put` is the CPU with another list there
pub record Listed (c : Cpu) (j count : ℕ) (l : List ℕ) (put : List ℕ → Cpu) : Type 0 where
  pub place : j < length (columns c)
  pub column : get_or (columns c) j [] ≡ l
  pub other : (k : List ℕ) → columns (put k) ≡ set (columns c) j k
  pub counted : (k : List ℕ) → set ((block_words c.block ++ counts c) ++ (flat (columns (put k)) ++ last_words c)) count (length k) ≡ cpu_words (put k)
  pub count_is : get_or (cpu_words c) count 0 ≡ length l

pub local_listed : (c : Cpu) → Listed c 8 23 c.local_wakeup_list (λ (l : List ℕ). cpu_local_wakeup_list l c)
unfolding cpu_words columns counts block_words stats_words
local_listed c = record { place = omega arith; column = refl; other = λ k. refl; counted = λ k. refl; count_is = refl }

pub ipi_listed : (c : Cpu) → Listed c 9 24 c.ipi_context_wakeup_list (λ (l : List ℕ). cpu_ipi_context_wakeup_list l c)
unfolding cpu_words columns counts block_words stats_words
ipi_listed c = record { place = omega arith; column = refl; other = λ k. refl; counted = λ k. refl; count_is = refl }

insert_last : (l : List ℕ) (x : ℕ) → insert_at (length l) x l ≡ l ++ (x ∷ [])
unfolding insert_at
insert_last l x = rw (take-length, drop-length)

-- b: the block; n: the count; a: the column with x put in; w: the new count
module _ {c : Cpu} {j count : ℕ} {l : List ℕ} {put : List ℕ → Cpu} (listed : Listed c j count l put) where
  pub pushed : (b a : List ℕ) (n x w : ℕ) → b ≡ cpu_words c → n ≡ get_or b count 0 → n < 64 → a ≡ column_insert (part b (25 + 64 * j) 64) n n x → w ≡ n + 1
      → set (splice b (25 + 64 * j) 64 a) count w ≡ cpu_words (put (l ++ (x ∷ [])))
  unfolding cpu_words
  pushed b a n x w e hn r ha hw =
      let k : n ≡ length l = hn ∙ rw e listed.count_is
      in let s : length l + 1 ≡ length (l ++ (x ∷ [])) = rw (length-append)
      in let i : splice (cpu_words c) (25 + 64 * j) 64 (column_insert (part (cpu_words c) (25 + 64 * j) 64) (length l) (length l) x)
      ≡ (block_words c.block ++ counts c) ++ (flat (columns (put (l ++ (x ∷ [])))) ++ last_words c)
      = col_insert (block_words c.block ++ counts c) (last_words c) (columns c) 25 j (front_length c) listed.place (length l) (length l) x (ap length listed.column) (omega arith) (rw k at r)
      ∙ rw (listed.column, insert_last l x, listed.other)
      in rw (ha, hw, e, k, s) (ap (λ (m : List ℕ). set m count (length (l ++ (x ∷ [])))) i ∙ listed.counted (l ++ (x ∷ [])))

-- on either list, its 64 names lent as the code lends them
pub pushed_on : (list : WakeupList) (c : Cpu) (b a : List ℕ) (names count n x w : ℕ) → b ≡ cpu_words c → names ≡ names_place list → count ≡ count_place list → n ≡ get_or b count 0 → n < 64
    → a ≡ column_insert (take (names + 64 - names) (drop names b)) n n x → w ≡ n + 1 → set (put_mid names (names + 64 - names) b a) count w ≡ cpu_words (cpu_push list x c)
pushed_on Local c b a names count n x w e hs ht hn r ha hw =
    rw (splice_is b names (names + 64) 64 a refl, hs, ht) (pushed (local_listed c) b a n x w e (rw ht at hn) r (rw (part_is b names (names + 64) 64 refl, hs) at ha) hw)
pushed_on Ipi c b a names count n x w e hs ht hn r ha hw =
    rw (splice_is b names (names + 64) 64 a refl, hs, ht) (pushed (ipi_listed c) b a n x w e (rw ht at hn) r (rw (part_is b names (names + 64) 64 refl, hs) at ha) hw)

-- The names of the interrupt list behind those of the local list. Assumes nothing.
use mathlib.Core.Path.{◌≡◌, refl, sym, ap, ◌∙◌}
use Prim.Native.Nat.{ℕ, ◌+◌, ◌-◌, ◌*◌, ◌<◌, ◌≤◌}
use native.Mathlib.Omega.{arith}
use native.Mathlib.Numerals.{add-one}
use mathlib.Core.List.{List, [], ◌∷◌, ◌++◌, append_assoc, append-nil}
use lib.ListN.{length, get_or, set, take, drop, replicate}
use lib.Seq.{take-suc, take_all}
use Rattle.columns.specs.Columns.{pad}
use borrow.Rule.Slice.PartMut.{put_mid}
use Rattle.columns.specs.Blocks.{flat, splice, col_splice, part_is, splice_is, length_part}
use Rattle.percpu.specs.Cpu.{Cpu}
use Rattle.percpu.specs.With.{cpu_local_wakeup_list}
use Rattle.percpu.specs.Words.{block_words}
use Rattle.percpu.specs.Layout.{cpu_words, counts, columns, last_words, front_length}
use Rattle.percpu.proofs.Read.{ipi_is}
use Rattle.percpu.specs.Places.{ipi_context_wakeup_list_column}
use Rattle.wakeup_lists.specs.declared.WakeupList.{WakeupList}
use Rattle.wakeup_lists.specs.declared.WakeupList.TheVariants.{Local, Ipi}
use Rattle.wakeup_lists.specs.Lists.{names_place, count_place, with_names}
use Rattle.wakeup_lists.proofs.Pushed.{Listed, local_listed, ipi_listed}

-- the first i names are behind the local ones
abbrev pub appended : Cpu → ℕ → Cpu
appended c i = cpu_local_wakeup_list (c.local_wakeup_list ++ take i c.ipi_context_wakeup_list) c

-- b became what the first i names make of it
abbrev pub Appended : List ℕ → List ℕ → ℕ → Type 0
Appended b₀ b i = (c : Cpu) → b₀ ≡ cpu_words c → length c.ipi_context_wakeup_list ≤ 64 → b ≡ cpu_words (appended c i)

pub appended_none : (b : List ℕ) → Appended b b 0
appended_none b c e h = rw (append-nil c.local_wakeup_list) e

pub ipi_count : (c : Cpu) (b : List ℕ) → b ≡ cpu_words c → get_or b 24 0 ≡ length c.ipi_context_wakeup_list
ipi_count c b e = rw e (ipi_listed c).count_is

pub appended_next : (b₀ b b' : List ℕ) (k i : ℕ) → k ≡ get_or b₀ 24 0 → i < k → Appended b₀ b i
    → ((c : Cpu) → b ≡ cpu_words c → b' ≡ cpu_words (cpu_local_wakeup_list (c.local_wakeup_list ++ (get_or b (ipi_context_wakeup_list_column + i) 0 ∷ [])) c)) → Appended b₀ b' (i + 1)
appended_next b₀ b b' k i hk h f g c e l =
    let n : i < length c.ipi_context_wakeup_list = omega (arith, ipi_count c b₀ e)
    in let x : get_or b (ipi_context_wakeup_list_column + i) 0 ≡ get_or c.ipi_context_wakeup_list i 0 = rw (f c e l) (ipi_is (appended c i) i n l)
    in g (appended c i) (f c e l)
    ∙ rw (x, add-one i, take-suc c.ipi_context_wakeup_list i 0 n, append_assoc)

pub appended_all : (b₀ b : List ℕ) (k i : ℕ) → k ≡ get_or b₀ 24 0 → k ≤ i → Appended b₀ b i → (c : Cpu) → b₀ ≡ cpu_words c → length c.ipi_context_wakeup_list ≤ 64
    → b ≡ cpu_words (cpu_local_wakeup_list (c.local_wakeup_list ++ c.ipi_context_wakeup_list) c)
appended_all b₀ b k i hk h f c e l =
    let n : length c.ipi_context_wakeup_list ≤ i = omega (arith, ipi_count c b₀ e)
    in f c e l ∙ rw (take_all i c.ipi_context_wakeup_list n)

-- a list's words cleared, and its count
module _ {c : Cpu} {j count : ℕ} {l : List ℕ} {put : List ℕ → Cpu} (listed : Listed c j count l put) where
  pub cleared : (b a : List ℕ) → b ≡ cpu_words c → a ≡ replicate 64 0 → set (splice b (25 + 64 * j) 64 a) count 0 ≡ cpu_words (put [])
  unfolding cpu_words pad
  cleared b a e z =
      let i : splice (cpu_words c) (25 + 64 * j) 64 (replicate 64 0) ≡ (block_words c.block ++ counts c) ++ (flat (columns (put [])) ++ last_words c)
      = col_splice (block_words c.block ++ counts c) (last_words c) (columns c) 25 j (front_length c) listed.place []
      ∙ ap (λ (k : List (List ℕ)). (block_words c.block ++ counts c) ++ (flat k ++ last_words c)) (sym (listed.other []))
      in rw (z, e) (ap (λ (m : List ℕ). set m count 0) i ∙ listed.counted [])

-- the names lent
pub lent_length : (b : List ℕ) (names : ℕ) → names + 64 ≤ length b → length (take (names + 64 - names) (drop names b)) ≡ 64
lent_length b names h = ap length (part_is b names (names + 64) 64 refl) ∙ length_part b names 64 h

pub cleared_on : (list : WakeupList) (c : Cpu) (b a : List ℕ) (names count : ℕ) → b ≡ cpu_words c → names ≡ names_place list → count ≡ count_place list → a ≡ replicate 64 0
    → set (put_mid names (names + 64 - names) b a) count 0 ≡ cpu_words (with_names list [] c)
cleared_on Local c b a names count e hs ht z = rw (splice_is b names (names + 64) 64 a refl, hs, ht) (cleared (local_listed c) b a e z)
cleared_on Ipi c b a names count e hs ht z = rw (splice_is b names (names + 64) 64 a refl, hs, ht) (cleared (ipi_listed c) b a e z)

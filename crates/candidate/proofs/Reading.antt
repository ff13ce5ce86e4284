-- What the code reads of a queue's words is what the definitions say of the queue. Assumes nothing.
use mathlib.Core.Path.{◌≡◌, refl, ap, ◌∙◌}
use mathlib.Core.Bool.{Bool, not}
use mathlib.Core.List.{List}
use Prim.Native.Nat.{ℕ, zero, suc, ◌+◌, ◌<◌, ◌≤◌}
use native.Mathlib.Omega.{arith}
use lib.Dec.{eqb}
use lib.ListN.{length, get_or}
use Rattle.columns.specs.Common.{every}
use Rattle.cpu_stats.specs.Words.{stats_words}
use Rattle.entries.specs.declared.Entry.{Entry}
use Rattle.percpu.specs.Cpu.{Cpu}
use Rattle.percpu.specs.Words.{block_words}
use Rattle.percpu.specs.Places.{queue_count, entry_context_ref_column}
use Rattle.percpu.specs.Layout.{counts, cpu_words, entry_at, no_entry}
use Rattle.percpu.proofs.Read.{entry_is}
use Rattle.candidate.specs.Candidate.{not_queued}
use Rattle.candidate.specs.Words.{no_word_queued}

-- entry i of the block b is not context x's
abbrev pub differs : (x : ℕ) → List ℕ → ℕ → Bool
differs x b i = not (eqb (get_or b (entry_context_ref_column + i) 0) x)

pub every_same : (f g : ℕ → Bool) (n : ℕ) → ((i : ℕ) → i < n → f i ≡ g i) → every f n ≡ every g n
unfolding every
every_same f g zero h = refl
every_same f g (suc n) h = rw (every_same f g n (λ i l. h i (omega arith)), h n (omega arith))

-- the block of a CPU
module _ (p : Cpu) (short : length p.queue ≤ 64) where
  pub counted : get_or (cpu_words p) queue_count 0 ≡ length p.queue
  unfolding cpu_words counts block_words stats_words
  counted = refl

  name_is : (i : ℕ) → i < length p.queue → get_or (cpu_words p) (entry_context_ref_column + i) 0 ≡ (get_or p.queue i no_entry).context_ref
  unfolding entry_at
  name_is i h = ap (λ (e : Entry). e.context_ref) (entry_is p i h short)

  pub queue_is : (x : ℕ) → no_word_queued x (cpu_words p) ≡ not_queued x p.queue
  unfolding no_word_queued not_queued
  queue_is x =
      ap (every (differs x (cpu_words p))) counted
      ∙ every_same (differs x (cpu_words p)) (λ (i : ℕ). not (eqb (get_or p.queue i no_entry).context_ref x)) (length p.queue)
      (λ i h. ap (λ (y : ℕ). not (eqb y x)) (name_is i h))

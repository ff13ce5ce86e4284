-- The words that the code adds up are the weights of the queue. Assumes nothing.
use mathlib.Core.Path.{◌≡◌, refl, sym, ap, ◌∙◌}
use mathlib.Core.List.{List, [], ◌∷◌, map}
use Prim.Native.Nat.{ℕ, zero, suc, ◌+◌, ◌*◌, ◌<◌, ◌≤◌}
use native.Mathlib.Omega.{arith}
use native.Mathlib.Numerals.{add-one}
use lib.ListN.{length, get_or}
use Rattle.weights.specs.Weights.{max_weight}
use Rattle.entries.specs.declared.Entry.{Entry}
use Rattle.cpu_stats.specs.Words.{stats_words}
use Rattle.percpu.specs.Cpu.{Cpu}
use Rattle.percpu.specs.Words.{block_words}
use Rattle.percpu.specs.Places.{block_size, queue_count, entry_weight_column}
use Rattle.percpu.specs.Layout.{counts, cpu_words, entry_at, no_entry}
use Rattle.percpu.proofs.Read.{entry_is}
use Rattle.machine.specs.Shape.{CpuFits}
use Rattle.total_weight.specs.TotalWeight.{sum, queue_weights}
use Rattle.total_weight.specs.Words.{weight_words, Light}

-- one word of the loop
pub record Small (i w : ℕ) : Type 0 where
  pub place : i < 64
  pub word : w ≤ max_weight

pub light_at : (b : List ℕ) → Light b → (i count : ℕ) → i < count → count ≡ get_or b queue_count 0 → Small i (get_or b (entry_weight_column + i) 0)
light_at b l i count h e = record { place = omega (arith, l.queue); word = l.weight i (omega arith) }

pub none_added : (b : List ℕ) → weight_words b 0 ≡ 0
unfolding weight_words
none_added b = refl

pub one_more : (b : List ℕ) (i total w : ℕ) → total ≡ weight_words b i → w ≡ get_or b (entry_weight_column + i) 0 → total + w ≡ weight_words b (i + 1)
unfolding weight_words
one_more b i total w e f = rw add-one (omega (arith, e, f))

-- the end of the loop
pub all_added : (b : List ℕ) → Light b → (i count total : ℕ) → i ≤ count → count ≤ i → count ≡ get_or b queue_count 0 → total ≡ weight_words b i → total ≤ max_weight * i
    → (total ≡ weight_words b (get_or b queue_count 0)) × (total ≤ max_weight * 64)
all_added b l i count total h g e f r =
    let z : i ≡ get_or b queue_count 0 = omega arith in
    (f ∙ ap (weight_words b) z, omega (arith, l.queue))

-- f of 0, 1, .., n - 1 added up
unfoldable added_to : (ℕ → ℕ) → ℕ → ℕ
added_to f zero = 0
added_to f (suc n) = added_to f n + f n

first_apart : (f : ℕ → ℕ) (n : ℕ) → added_to f (suc n) ≡ f zero + added_to (λ (i : ℕ). f (suc i)) n
unfolding added_to
first_apart f zero = omega arith
first_apart f (suc n) = let r : added_to f (suc n) ≡ f zero + added_to (λ (i : ℕ). f (suc i)) n = first_apart f n in omega arith

added_queue : (q : List Entry) (f : ℕ → ℕ) → ((i : ℕ) → i < length q → f i ≡ (get_or q i no_entry).weight) → added_to f (length q) ≡ sum (queue_weights q)
unfolding added_to
added_queue [] f h = refl
added_queue (e ∷ q) f h =
    let a : f zero ≡ e.weight = h zero (omega arith) in
    let r : added_to (λ (i : ℕ). f (suc i)) (length q) ≡ sum (queue_weights q) = added_queue q (λ (i : ℕ). f (suc i)) (λ i g. h (suc i) (omega arith)) in
    let b : added_to f (suc (length q)) ≡ f zero + added_to (λ (i : ℕ). f (suc i)) (length q) = first_apart f (length q) in
    omega (arith, a, r, b)

words_added : (b : List ℕ) (n : ℕ) → weight_words b n ≡ added_to (λ (i : ℕ). get_or b (entry_weight_column + i) 0) n
unfolding weight_words added_to
words_added b zero = refl
words_added b (suc n) = ap (λ (x : ℕ). x + get_or b (entry_weight_column + n) 0) (words_added b n)

-- the block of a CPU
module _ (n : ℕ) (p : Cpu) (o : CpuFits n p) where
  counted : get_or (cpu_words p) queue_count 0 ≡ length p.queue
  unfolding cpu_words counts block_words stats_words
  counted = refl

  weight_is : (i : ℕ) → i < length p.queue → get_or (cpu_words p) (entry_weight_column + i) 0 ≡ (get_or p.queue i no_entry).weight
  unfolding entry_at
  weight_is i h = ap (λ (e : Entry). e.weight) (entry_is p i h o.queue)

  pub is_light : Light (cpu_words p)
  is_light =
      record {
        queue = rw counted o.queue;
        weight = λ i h. rw (weight_is i (rw counted at h)) (o.entry i (rw counted at h)).light;
      }

  pub words_are : weight_words (cpu_words p) (get_or (cpu_words p) queue_count 0) ≡ sum (queue_weights p.queue)
  words_are = rw counted (words_added (cpu_words p) (length p.queue) ∙ added_queue p.queue (λ (i : ℕ). get_or (cpu_words p) (entry_weight_column + i) 0) weight_is)

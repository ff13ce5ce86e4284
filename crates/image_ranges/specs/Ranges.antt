-- Document 01's ranges, word by word: refusal 3. Assumes nothing.
use Rattle.std.specs.Prelude.{Bool, true, ◌&&◌, ℕ, ◌+◌, ◌-◌, ◌*◌, List, [], ◌∷◌, leb, eqb, get_or, if◌then◌else◌}
use Rattle.columns.specs.Common.{every}
use Rattle.columns.specs.Blocks.{part}
use Rattle.percpu.specs.Layout.{counter}
use Rattle.machine.specs.Encode.{context_place, cpu_place}
use Rattle.numbers.specs.Limits.{max_number, max_id, max_word}
use Rattle.ticks.specs.Ticks.{max_remainder}
use Rattle.weights.specs.Weights.{full_slice, min_weight, max_weight}
use Rattle.context.specs.Words.{record_size}
use Rattle.percpu.specs.Places.{front_size, remainder_place, block_size}

-- the first k words are at most those of the table
unfoldable pub within : List ℕ → List ℕ → ℕ → Bool
within table w k = every (λ (i : ℕ). leb (get_or w i 0) (get_or table i 0)) k

-- the first k words are 0
unfoldable pub zero_words : List ℕ → ℕ → Bool
zero_words w k = every (λ (i : ℕ). eqb (get_or w i 0) 0) k

-- the greatest of each word of a context's record, of c CPUs; and of a gone one's. Here and below `top` is that of the words that a call can raise
-- over their range: active and scheduled time, vtime, vd, key vd
unfoldable pub context_most_to : (top c : ℕ) → List ℕ
context_most_to top c =
    1 ∷ max_id ∷ 5 ∷ 1 ∷ 1 ∷ c ∷ max_number ∷ max_number ∷ top ∷ top ∷ max_word ∷ 1 ∷ 1 ∷ max_number ∷ 1 ∷ 1 ∷ 39 ∷ top ∷ top ∷ full_slice ∷ 1 ∷ 1 ∷ top ∷
    full_slice ∷ 2 ∷ 2 ∷ []

abbrev pub context_most : ℕ → List ℕ
context_most c = context_most_to max_number c

unfoldable pub gone_most : List ℕ
gone_most =
    1 ∷ max_id ∷ 0 ∷ 0 ∷ 0 ∷ 0 ∷ 0 ∷ 0 ∷ 0 ∷ 0 ∷ 0 ∷ 0 ∷ 0 ∷ 0 ∷ 0 ∷ 0 ∷ 0 ∷ 0 ∷ 0 ∷ 0 ∷ 0 ∷ 0 ∷ 0 ∷ 0 ∷ 0 ∷ 0 ∷ []

-- without its mark the wake is 0, and so are both words of the key
unfoldable pub wake_marked : List ℕ → Bool
wake_marked w = if eqb (get_or w 12 0) 1 then true else eqb (get_or w 13 0) 0

unfoldable pub key_marked : List ℕ → Bool
key_marked w = if eqb (get_or w 21 0) 1 then true else eqb (get_or w 22 0) 0 && eqb (get_or w 23 0) 0

unfoldable pub context_in_range_to : (top c : ℕ) → List ℕ → Bool
context_in_range_to top c w =
    if eqb (get_or w 0 0) 1 then within gone_most w record_size else within (context_most_to top c) w record_size && (wake_marked w && key_marked w)

abbrev pub context_in_range : ℕ → List ℕ → Bool
context_in_range c w = context_in_range_to max_number c w

-- the greatest of each word in front of the columns of a present CPU's block, of n contexts; raised: pit ticks, published weight, milliseconds, switches, V,
-- total weight
unfoldable pub block_most_to : (top n : ℕ) → List ℕ
block_most_to top n =
    1 ∷ (n - 1) ∷ (n - 1) ∷ (n - 1) ∷ max_number ∷ top ∷ 1 ∷ 1 ∷ 1 ∷ max_number ∷ top ∷ max_word ∷ 2 ∷ top ∷ top ∷ top ∷ top ∷ top ∷ 1 ∷ top ∷ top ∷ 64 ∷
    64 ∷ 64 ∷ 64 ∷ []

abbrev pub block_most : ℕ → List ℕ
block_most n = block_most_to max_number n

-- the least and the greatest of the words of each array; raised: keys' vd, vtimes
unfoldable pub array_least : List ℕ
array_least = 0 ∷ 0 ∷ 0 ∷ 0 ∷ min_weight ∷ 0 ∷ 0 ∷ 0 ∷ 0 ∷ 0 ∷ []

unfoldable pub array_most_to : (top n : ℕ) → List ℕ
array_most_to top n = top ∷ full_slice ∷ max_id ∷ top ∷ max_weight ∷ (n - 1) ∷ max_number ∷ (n - 1) ∷ (n - 1) ∷ (n - 1) ∷ []

abbrev pub array_most : ℕ → List ℕ
array_most n = array_most_to max_number n

-- an array of which k words are used: those from low to high, the others 0
unfoldable pub used : List ℕ → ℕ → ℕ → ℕ → Bool
used a k low high = every (λ (i : ℕ). leb low (get_or a i 0) && leb (get_or a i 0) high) k

unfoldable pub unused : List ℕ → ℕ → Bool
unused a k = every (λ (i : ℕ). eqb (get_or a (k + i) 0) 0) (64 - k)

-- array j of a block
unfoldable pub array_in_range_to : (top n : ℕ) → List ℕ → ℕ → Bool
array_in_range_to top n b j =
    used (part b (front_size + 64 * j) 64) (get_or b (get_or counter j 0) 0) (get_or array_least j 0) (get_or (array_most_to top n) j 0)
    && unused (part b (front_size + 64 * j) 64) (get_or b (get_or counter j 0) 0)

abbrev pub array_in_range : ℕ → List ℕ → ℕ → Bool
array_in_range n b = array_in_range_to max_number n b

unfoldable pub block_in_range_to : (top n : ℕ) → List ℕ → Bool
block_in_range_to top n b =
    if eqb (get_or b 0 0) 0 then zero_words b block_size
    else within (block_most_to top n) b front_size && (leb (get_or b remainder_place 0) max_remainder && every (array_in_range_to top n b) 10)

abbrev pub block_in_range : ℕ → List ℕ → Bool
block_in_range n b = block_in_range_to max_number n b

unfoldable pub contexts_in_range_to : (top c n : ℕ) → List ℕ → Bool
contexts_in_range_to top c n m = every (λ (x : ℕ). context_in_range_to top c (part m (context_place x) record_size)) n

abbrev pub contexts_in_range : ℕ → ℕ → List ℕ → Bool
contexts_in_range c n m = contexts_in_range_to max_number c n m

unfoldable pub blocks_in_range_to : (top c n : ℕ) → List ℕ → Bool
blocks_in_range_to top c n m = every (λ (k : ℕ). block_in_range_to top n (part m (cpu_place n k) block_size)) c

abbrev pub blocks_in_range : ℕ → ℕ → List ℕ → Bool
blocks_in_range c n m = blocks_in_range_to max_number c n m

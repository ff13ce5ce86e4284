-- Refusals 1 to 4, in document 01's order; 0 for none. Assumes nothing.
use Rattle.std.specs.Prelude.{Bool, true, false, ◌&&◌, not, ℕ, ◌+◌, ◌*◌, List, ltb, leb, eqb, length, get_or, if◌then◌else◌}
use Rattle.image_ranges.specs.Ranges.{contexts_in_range_to, blocks_in_range_to}
use Rattle.image_structure.specs.Structure.{structure}
use Rattle.machine.specs.Encode.{cpu_place}
use Rattle.numbers.specs.Limits.{max_number}

-- C and N: the CPU and context counts
abbrev pub size_c : List ℕ → ℕ
size_c m = get_or m 0 0

abbrev pub size_n : List ℕ → ℕ
size_n m = get_or m 1 0

unfoldable pub in_bounds : ℕ → ℕ → Bool
in_bounds size greatest = ltb 0 size && leb size greatest

-- every word is in its range, where `top` is the greatest of those that a call can raise
unfoldable pub ranges_to : ℕ → List ℕ → Bool
ranges_to top m = contexts_in_range_to top (size_c m) (size_n m) m && blocks_in_range_to top (size_c m) (size_n m) m

unfoldable pub ranges : ℕ → List ℕ → Bool
ranges time m = leb time max_number && ranges_to max_number m

-- of an image whose sizes are in their bounds
unfoldable pub sized_refusal : ℕ → List ℕ → ℕ
sized_refusal time m =
    if not (eqb (length m) (cpu_place (size_n m) (size_c m))) then 2 else
    if not (ranges time m) then 3 else
    if not (structure (size_c m) (size_n m) m) then 4 else 0

unfoldable pub image_refusal : ℕ → List ℕ → ℕ
image_refusal time m =
    if ltb (length m) 2 then 1 else
    if not (in_bounds (size_c m) 4) then 1 else
    if not (in_bounds (size_n m) 64) then 1 else sized_refusal time m

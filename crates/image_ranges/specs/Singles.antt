-- The words of a live record that have a bound of their own. Assumes nothing.
use Rattle.std.specs.Prelude.{Bool, ◌&&◌, List, ℕ, leb, get_or}
use Rattle.weights.specs.Weights.{full_slice}
use Rattle.numbers.specs.Limits.{max_id, max_word}

unfoldable pub single_words : ℕ → List ℕ → Bool
single_words c w =
    leb (get_or w 1 0) max_id && leb (get_or w 2 0) 5 && leb (get_or w 5 0) c && leb (get_or w 10 0) max_word && leb (get_or w 16 0) 39 && leb (get_or w 19 0) full_slice
    && leb (get_or w 23 0) full_slice && leb (get_or w 24 0) 2 && leb (get_or w 25 0) 2

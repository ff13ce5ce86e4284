-- What an accepted call leaves of an image. Assumes nothing.
use Rattle.std.specs.Prelude.{◌≡◌, true, List, ℕ, length}
use Rattle.image_structure.specs.Structure.{structure}
use Rattle.image.specs.Refusal.{size_c, size_n, ranges_to}
use Rattle.machine.specs.Encode.{cpu_place}

-- m is the image before the call and m' the image after it. m' passes refusals 1, 2 and 4, and 3 but for words that the call raised, which are at most `top`
pub record Left (top : ℕ) (m m' : List ℕ) : Type 0 where
  pub cpus : size_c m' ≡ size_c m
  pub contexts : size_n m' ≡ size_n m
  pub size : length m' ≡ cpu_place (size_n m') (size_c m')
  pub ranges : ranges_to top m' ≡ true
  pub structured : structure (size_c m') (size_n m') m' ≡ true

pub record Leaves (top : ℕ) (m m' : List ℕ) (refusal : ℕ) : Type 0 where
  pub left : refusal ≡ 0 → Left top m m'

-- Who was named as winner or as next context is one of the n contexts. Assumes nothing.
use Rattle.std.specs.Prelude.{◌≡◌, ℕ, ◌<◌, Option, Some}

abbrev pub NamedBelow : ℕ → Option ℕ → Type 0
NamedBelow n w = (x : ℕ) → w ≡ Some x → x < n

-- The words of an input, 64 bits each, lowest byte first. Assumes nothing.
use Rattle.std.specs.Prelude.{◌≡◌, ℕ, ◌+◌, ◌-◌, ◌*◌, ◌/◌, ◌%◌, min, List, length, Option}
use Rattle.std.specs.Io.KnownBytes.{Consumes}
use Rattle.le_bytes.specs.LeBytes.{from_le_bytes}
use Rattle.columns.specs.Blocks.{part}
use Rattle.columns.specs.Common.{tabulate}
use Rattle.operations.specs.declared.arguments.Call.{Call}
use Rattle.machine.specs.Encode.{max_image_size}

abbrev pub word_at : List ℕ → ℕ → ℕ
word_at s i = from_le_bytes (part s (8 * i) 8)

abbrev pub head_of : List ℕ → Call
head_of s = record { operation = word_at s 0; cpu = word_at s 1; time = word_at s 2; context = word_at s 3 }

-- the first n words of the image, which stands behind the first four words
abbrev pub image_words : List ℕ → ℕ → List ℕ
image_words s n = tabulate n (λ (i : ℕ). word_at s (i + 4))

-- how many of them are kept: one more than the longest image has
abbrev pub kept : List ℕ → ℕ
kept s = min (length s / 8 - 4) (max_image_size + 1)

-- between old and new the reader gave bytes, and over is how many, modulo 8
abbrev pub GivesOver : Option (List ℕ) → Option (List ℕ) → ℕ → Type 0
GivesOver old new over = (bs : List ℕ) × Consumes old new bs × (over ≡ length bs % 8)

-- Weights by priority, and whole slices. Assumes nothing.
use Rattle.std.specs.Prelude.{List, [], ◌∷◌, ℕ, ◌*◌, ◌/◌, get_or}
use Rattle.ticks.specs.Ticks.{tick_interval, scale}

-- `SCHED_PRIO_TO_WEIGHT`
unfoldable pub weights : List ℕ
weights =
    88761 ∷ 71755 ∷ 56483 ∷ 46273 ∷ 36291 ∷ 29154 ∷ 23254 ∷ 18705 ∷ 14949 ∷ 11916 ∷ 9548 ∷ 7620 ∷ 6100 ∷ 4904 ∷ 3906 ∷ 3121 ∷ 2501 ∷ 1991 ∷ 1586 ∷
    1277 ∷ 1024 ∷ 820 ∷ 655 ∷ 526 ∷ 423 ∷ 335 ∷ 272 ∷ 215 ∷ 172 ∷ 137 ∷ 110 ∷ 87 ∷ 70 ∷ 56 ∷ 45 ∷ 36 ∷ 29 ∷ 23 ∷ 18 ∷ 15 ∷ []

unfoldable pub weight : ℕ → ℕ
unfolding weights
weight prio = get_or weights prio 0

-- the least and the greatest of them, and the longest of the slices below
abbrev pub min_weight : ℕ
min_weight = 15

abbrev pub max_weight : ℕ
max_weight = 88761

abbrev pub max_whole_slice : ℕ
max_whole_slice = 644245094

-- a full slice: 9 ticks
abbrev pub base_slice_ticks : ℕ
base_slice_ticks = tick_interval * 3

abbrev pub full_slice : ℕ
full_slice = base_slice_ticks * scale

-- a full slice in the virtual time of a priority
unfoldable pub whole_slice : ℕ → ℕ
whole_slice prio = full_slice / weight prio

-- Bounds that are in range, by their test. Assumes nothing.
use mathlib.Core.Path.{◌≡◌, refl}
use mathlib.Core.Bool.{Bool, true, false}
use Prim.Native.Nat.{ℕ, ◌+◌, ◌*◌, ◌≤◌}
use native.Mathlib.Omega.{arith}
use lib.Dec.{leb}
use borrow.Author.Tests.{leb-true}
use Rattle.model.proofs.Cases.{and_both}
use Rattle.stages.specs.Bounds.{slice_bound}
use Rattle.numbers.specs.Limits.{max_number}
use Rattle.growth.specs.declared.Bounds.{Bounds}
use Rattle.growth.specs.Growth.{most_ticks, slices, after_theft, max_charged, after_turn, InRange, is_in_range}

pub in_range : (b : Bounds) → is_in_range b ≡ true → InRange b
unfolding is_in_range
in_range b e =
    let (h, g) = and_both (leb b.times max_number) (leb b.virtual_times max_number) e in
    record { times = leb-true b.times max_number h; virtual_times = leb-true b.virtual_times max_number g }

-- a theft, by whether there may be one
pub with_theft : (steals : Bool) (charged r : ℕ) → steals ≡ true → charged ≤ max_charged → r ≡ 2 * charged + slice_bound → (r ≡ after_theft steals charged) × (r ≤ 2 * max_charged + slice_bound)
with_theft steals charged r e h g = (rw e g, omega arith)

pub without_theft : (steals : Bool) (charged : ℕ) → steals ≡ false → charged ≤ max_charged → (charged ≡ after_theft steals charged) × (charged ≤ 2 * max_charged + slice_bound)
without_theft steals charged e h = (rw e refl, omega arith)

pub turned : (b : Bounds) (time elapsed : ℕ) (steals : Bool) (r : ℕ) → r ≡ after_theft steals (b.virtual_times + slices + most_ticks elapsed)
    → record { times = b.times + 3 * time + 2; virtual_times = r + most_ticks elapsed } ≡ after_turn b time elapsed steals
unfolding after_turn
turned b time elapsed steals r e = rw e refl

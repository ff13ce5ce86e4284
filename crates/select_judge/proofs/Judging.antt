-- A choice by a test. Assumes nothing.
use Rattle.std.specs.Prelude.{if◌then◌else◌}
use mathlib.Core.Path.{◌≡◌}
use mathlib.Core.Bool.{Bool, false}

-- the other arm of a choice
pub other : {A : Type 0} (b : Bool) (x : A) {y : A} → b ≡ false → y ≡ if b then x else y
other b x h = rw h

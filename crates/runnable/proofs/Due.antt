-- A context whose wake has come is soft-blocked. Assumes nothing.
use mathlib.Core.Path.{◌≡◌}
use mathlib.Core.Bool.{true, ◌&&◌}
use Prim.Native.Nat.{ℕ}
use lib.Dec.{leb}
use Rattle.columns.proofs.Tests.{and_both}
use Rattle.context.specs.declared.Context.{Context}
use Rattle.context.specs.Status.{is_soft_blocked}
use Rattle.runnable.specs.Runnable.{wake_has_come}

pub soft_blocked : (time : ℕ) (c : Context) → wake_has_come time c ≡ true → is_soft_blocked c.status ≡ true
soft_blocked time c e =
    (and_both (is_soft_blocked c.status) c.has_wake (and_both (is_soft_blocked c.status && c.has_wake) (leb c.wake time) e).0).0

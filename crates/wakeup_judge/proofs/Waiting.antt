-- A context that waits for a wake is soft-blocked. Assumes nothing.
use mathlib.Core.Path.{◌≡◌}
use mathlib.Core.Bool.{true, ◌&&◌}
use Prim.Native.Nat.{ℕ}
use lib.Dec.{eqb}
use Rattle.columns.proofs.Tests.{and_both}
use Rattle.context.specs.declared.Context.{Context}
use Rattle.context.specs.Status.{is_soft_blocked}
use Rattle.model.specs.Wakeup.{waits_for}

pub soft_blocked : (wake : ℕ) (c : Context) → waits_for wake c ≡ true → is_soft_blocked c.status ≡ true
soft_blocked wake c e =
    (and_both (is_soft_blocked c.status) c.has_wake (and_both (is_soft_blocked c.status && c.has_wake) (eqb c.wake wake) e).0).0

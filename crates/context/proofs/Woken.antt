-- What a wake makes of a soft-blocked context. Assumes nothing.
use mathlib.Core.Path.{◌≡◌}
use mathlib.Core.Bool.{true}
use Rattle.context.specs.declared.Context.{Context}
use Rattle.context.specs.Status.{is_soft_blocked}
use Rattle.context.specs.Block.{Changed, unblocked, without_wake, woken}

pub woken_is : {r : Changed} (c : Context) → r ≡ unblocked (without_wake c) → is_soft_blocked c.status ≡ true → r.context ≡ woken c
unfolding unblocked
woken_is c e h = rw (e, h)

-- `block`, `hard_block` and `unblock_no_ipi`. Assumes nothing.
use Rattle.std.specs.Prelude.{Bool, true, false, if◌then◌else◌}
use Rattle.context.specs.declared.Context.{Context}
use Rattle.context.specs.declared.Status.{Status}
use Rattle.context.specs.declared.Status.TheVariants.{Runnable}
use Rattle.context.specs.Status.{is_runnable, is_soft_blocked}
use Rattle.context.specs.With.{with_status, with_has_wake, with_wake}

-- a record, and whether it was changed
pub record Changed : Type 0 where
  pub context : Context
  pub done : Bool

abbrev pub changed : Context → Bool → Changed
changed c b = record { context = c; done = b }

-- a runnable context gets the status; the truth says whether it did
unfoldable pub blocked_as : Status → Context → Changed
blocked_as s c =
    if is_runnable c.status then record { context = with_status s c; done = true } else record { context = c; done = false }

-- a soft-blocked context becomes runnable; its wake stays
unfoldable pub unblocked : Context → Changed
unblocked c =
    if is_soft_blocked c.status then record { context = with_status Runnable c; done = true } else record { context = c; done = false }

abbrev pub without_wake : Context → Context
without_wake c = with_has_wake false (with_wake 0 c)

-- a soft-blocked context made runnable at its wake
abbrev pub woken : Context → Context
woken c = with_status Runnable (without_wake c)

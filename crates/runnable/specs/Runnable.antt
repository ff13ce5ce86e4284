-- `update_runnable`. Assumes nothing.
use Rattle.std.specs.Prelude.{Bool, true, false, not, ◌&&◌, ℕ, leb, if◌then◌else◌}
use Rattle.context.specs.declared.Context.{Context}
use Rattle.context.specs.Status.{is_runnable, is_soft_blocked}
use Rattle.context.specs.Block.{woken}
use Rattle.cpu_set.specs.Set.{contains}
use Rattle.runnable.specs.declared.UpdateResult.{UpdateResult}
use Rattle.runnable.specs.declared.UpdateResult.TheVariants.{CanSwitch, Skip, Blocked}

-- soft-blocked with a wake that has come
abbrev pub wake_has_come : ℕ → Context → Bool
wake_has_come time c = is_soft_blocked c.status && c.has_wake && leb c.wake time

unfoldable pub update_runnable : (cpu time : ℕ) (is_sched is_current : Bool) → Context → UpdateResult
update_runnable cpu time is_sched is_current c =
    if c.running && not is_current then Skip else
    if c.currently_scheduled && not is_sched then Skip else
    if not (contains c.sched_affinity cpu) then Skip else
    if wake_has_come time c then CanSwitch (woken c) else
    if is_runnable c.status then CanSwitch c else Blocked

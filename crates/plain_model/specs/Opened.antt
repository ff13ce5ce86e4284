-- A name that opens every definition of the plain engine, for computing: `unfolding opened`. Assumes nothing.
use Rattle.model.specs.Opened as kernel
use Rattle.plain_model.specs.Rank.{count, turns, by_rank, leave_out, put_in}
use Rattle.plain_model.specs.Wakeup.{wakeups, enter, wake_as, serve_wakeup, serve_wakeups}
use Rattle.plain_model.specs.Turn.{holder_stopped, charge_holder, before_selection, before_choice}
use Rattle.plain_model.specs.Scan.{looked_at, scan_step, scan}
use Rattle.plain_model.specs.Choice.{choice, cleaned_up, chosen}
use Rattle.plain_model.specs.Steal.{targets, can_be_stolen, candidates, move_entry, steal_entries, steal_from, steal}
use Rattle.plain_model.specs.Handover.{requeue, settled}
use Rattle.plain_model.specs.Schedule.{choose_and_steal, selected, schedule, switch_inner_by, switch_inner, tick, switch, direct_switch_or, direct_switch_to, plain_outcome}

unfoldable pub opened : Unit {0}
unfolding kernel.opened count turns by_rank leave_out put_in wakeups enter wake_as serve_wakeup serve_wakeups holder_stopped charge_holder before_selection before_choice looked_at scan_step scan choice cleaned_up chosen targets can_be_stolen candidates move_entry steal_entries steal_from steal requeue settled choose_and_steal selected schedule switch_inner_by switch_inner tick switch direct_switch_or direct_switch_to plain_outcome
opened = tt

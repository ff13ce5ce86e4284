-- A name that opens every definition of a decision, for computing: `unfolding opened`. Assumes nothing.
use Rattle.columns.specs.Common.{tabulate}
use Rattle.columns.specs.Blocks.{part, cat, flat}
use Rattle.columns.specs.Columns.{pad}
use Rattle.context.specs.Status.{status_of}
use Rattle.context.specs.Words.{context_words, context_of}
use Rattle.cpu_stats.specs.State.{state_of}
use Rattle.cpu_stats.specs.Words.{stats_words, stats_of}
use Rattle.ticks.specs.Ticks.{ticks, remainder}
use Rattle.weights.specs.Weights.{weights, weight, whole_slice}
use Rattle.entries.specs.Order.{before, sooner}
use Rattle.entries.specs.Queue.{insert, remove}
use Rattle.runnable.specs.Runnable.{update_runnable}
use Rattle.charging.specs.Charge.{charged}
use Rattle.percpu.specs.Words.{block_words, block_of}
use Rattle.percpu.specs.Layout.{counts, columns, cpu_words, entry_at, timer_at, cpu_of}
use Rattle.machine.specs.Machine.{no_context, no_cpu, cpu_at}
use Rattle.machine.specs.Encode.{encode, decode}
use Rattle.model.specs.Wakeup.{wakeups, enter, wakeup_result, wake_as, serve_wakeup, serve_wakeups}
use Rattle.model.specs.Turn.{times, holder_stopped, charge_holder, before_selection, before_choice}
use Rattle.model.specs.Scan.{judge, visit, visited, scan_step, scan}
use Rattle.model.specs.Choice.{cleaned_up, choice, chosen}
use Rattle.model.specs.Steal.{targets, can_steal_from, want, can_be_stolen, candidates, move_entry, steal_entries, steal_from, steal}
use Rattle.model.specs.SwitchTo.{switch_to, direct_switch_by, try_direct_switch_back}
use Rattle.model.specs.Schedule.{choose_and_steal, selected, select_next_context, picked_as, schedule, switch_as, after_schedule, switch_inner_by, switch_inner, tick, switch, direct_switch_or, direct_switch_to}
use Rattle.cpu_stats.specs.Counted.{time_added}
use Rattle.model.specs.Handover.{advance, requeue, next_context, hand_over, settled}

unfoldable pub opened : Unit {0}
unfolding tabulate part cat flat pad status_of context_words context_of state_of stats_words stats_of ticks remainder weights weight whole_slice before sooner insert remove update_runnable charged block_words block_of counts columns cpu_words entry_at timer_at cpu_of no_context no_cpu cpu_at encode decode wakeups enter wakeup_result wake_as serve_wakeup serve_wakeups time_added times holder_stopped charge_holder before_selection before_choice judge visit visited scan_step scan cleaned_up choice chosen targets can_steal_from want can_be_stolen candidates move_entry steal_entries steal_from steal advance requeue next_context hand_over switch_to direct_switch_by try_direct_switch_back choose_and_steal settled selected select_next_context picked_as schedule switch_as after_schedule switch_inner_by switch_inner tick switch direct_switch_or direct_switch_to
opened = tt

-- What the code's values stand for in the definitions. Assumes nothing.
use Rattle.std.specs.Prelude.{false, ℕ, ◌<◌, if◌then◌else◌, None, Option, Some, option_to_list}
use Rattle.context.specs.declared.Context.{Context}
use Rattle.context.specs.With.{with_rem_slice, with_is_active}
use Rattle.entries.specs.declared.Entry.{Entry}
use Rattle.percpu.specs.Cpu.{Cpu}
use Rattle.percpu.specs.With.{cpu_idle_ctxt, cpu_sched_ctxt, cpu_current_ctxt, cpu_v}
use Rattle.machine.specs.Machine.{no_cpu}
use Rattle.model.specs.Scan.{below, ineligible_min_vtime, is_eligible, pass, gone, blocked, no_addr_space, ready}
use Rattle.model.specs.Scan as scan
use Rattle.model.specs.Choice.{Choice}
use Rattle.select_judge.specs.declared.Visit.{Visit}
use Rattle.select_judge.specs.declared.Visit.TheVariants.{Pass, Gone, Blocked, NoAddrSpace, Ready}
use Rattle.select_judge.specs.declared.Scanner.{Scanner}
use Rattle.select_judge.specs.declared.Scanned.{Scanned}
use Rattle.select_judge.specs.declared.Selected.{Selected}
use Rattle.context.specs.Key.{without_key}

abbrev pub visit_of : Visit → scan.Visit
visit_of Pass = pass
visit_of Gone = gone
visit_of (Blocked c) = blocked c
visit_of (NoAddrSpace c) = no_addr_space c
visit_of (Ready c) = ready c

abbrev pub choice_of : Selected → Choice
choice_of r = record { winner = r.winner; v = r.v; locked = option_to_list r.locked }

-- names below n
abbrev pub BestBelow : ℕ → Option Entry → Type 0
BestBelow n None = Unit {0}
BestBelow n (Some e) = e.context_ref < n

abbrev pub WinnerBelow : ℕ → Option ℕ → Type 0
WinnerBelow n None = Unit {0}
WinnerBelow n (Some x) = x < n

-- a CPU with the words of its block that the scan goes by
abbrev pub cpu_with : (idle sched current v : ℕ) → Cpu
cpu_with idle sched current v = cpu_idle_ctxt idle (cpu_sched_ctxt sched (cpu_current_ctxt current (cpu_v v no_cpu)))

abbrev pub scanner_cpu : Scanner → Cpu
scanner_cpu t = cpu_with t.idle_ctxt t.sched_ctxt t.current_ctxt t.v

-- a context that leaves the queue because it is blocked
abbrev pub deactivated : Context → Context
deactivated c = without_key (with_is_active false (with_rem_slice 0 c))

-- what was found, with a ready entry
unfoldable pub picked : Scanner → Scanned → Entry → Scanned
picked t w e =
    record {
      eligible_best = if is_eligible (scanner_cpu t) e then Some e else w.eligible_best;
      ineligible_best =
          if is_eligible (scanner_cpu t) e then w.ineligible_best else
          if below (ineligible_min_vtime w.ineligible_best t.ineligible_holder) e.vtime then Some e else w.ineligible_best;
      weight_change = w.weight_change;
      contexts_to_remove = w.contexts_to_remove;
    }

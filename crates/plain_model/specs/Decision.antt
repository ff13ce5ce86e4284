-- What a decision of the plain engine comes to, below any image. Assumes nothing.
use Rattle.std.specs.Prelude.{List, map, ℕ}
use Rattle.context.specs.declared.Context.{Context}
use Rattle.machine.specs.Machine.{Machine}
use Rattle.model.specs.State.{state_of}
use Rattle.model.specs.Scan.{Scan}
use Rattle.model.specs.Steal.{Stealing}
use Rattle.plain_model.specs.State.{placed, placed_cpu}
use Rattle.plain_model.specs.Turn.{before_choice}
use Rattle.plain_model.specs.Choice.{Choice}
use Rattle.plain_model.specs.Schedule.{scanned, choice_of, choose_and_steal}

abbrev pub placed_stealing : Stealing → Stealing
placed_stealing l = record { state = placed l.state; cpus = map placed_cpu l.cpus; winner = l.winner; done = l.done }

pub record Decision : Type 0 where
  -- the records once wake-ups are served and the holder has paid
  pub woken : List Context
  -- the best entries, the records and the keys that are cleaned up, the weight given up
  pub scan : Scan
  -- who wins before anything is stolen, V, what stays locked, by which rule
  pub choice : Choice
  -- who wins, the records and every queue after the stealing, and whether there was no room
  pub stealing : Stealing

unfoldable pub decision : (k time : ℕ) → Machine → Decision
decision k time M =
    let s = before_choice time (state_of k M) in
    record {
      woken = s.contexts;
      scan = scanned k time s;
      choice = choice_of k time s;
      stealing = placed_stealing (choose_and_steal k time M.cpus s);
    }

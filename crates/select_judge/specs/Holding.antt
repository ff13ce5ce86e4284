-- What the code goes by is what the state has. Assumes nothing.
use Rattle.std.specs.Prelude.{◌≡◌, ℕ, List}
use Rattle.model.specs.State.{State, holder, prev_runnable}
use Rattle.model.specs.Choice.{prev_is_eligible, ineligible_holder}
use Rattle.select_judge.specs.declared.Holder.{Holder}
use Rattle.select_judge.specs.declared.Scanner.{Scanner}
use Rattle.context.specs.declared.Context.{Context}
use Rattle.model.specs.Scan.{Scan}
use Rattle.select_judge.specs.declared.Scanned.{Scanned}

pub record Holding (h : Holder) (s : State) : Type 0 where
  pub runnable : h.runnable ≡ prev_runnable s
  pub eligible : h.eligible ≡ prev_is_eligible s
  pub vtime : h.vtime ≡ (holder s).vtime
  pub vd : h.vd ≡ (holder s).vd
  pub rem_slice : h.rem_slice ≡ (holder s).rem_slice
  pub v : h.v ≡ s.cpu.block.v

-- of CPU k at a time
pub record Scanning (k time : ℕ) (t : Scanner) (s : State) : Type 0 where
  pub cpu_id : t.cpu_id ≡ k
  pub time_is : t.time ≡ time
  pub idle : t.idle_ctxt ≡ s.cpu.block.idle_ctxt
  pub sched : t.sched_ctxt ≡ s.cpu.block.sched_ctxt
  pub current : t.current_ctxt ≡ s.cpu.block.current_ctxt
  pub v : t.v ≡ s.cpu.block.v
  pub ineligible : t.ineligible_holder ≡ ineligible_holder s

-- what the code found of the scan f, over contexts cs
pub record Chosen (cs : List Context) (w : Scanned) (f : Scan) : Type 0 where
  pub contexts : cs ≡ f.contexts
  pub best : w.eligible_best ≡ f.eligible_best
  pub late : w.ineligible_best ≡ f.ineligible_best

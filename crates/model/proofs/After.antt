-- The machine after the turn.
use mathlib.Core.Path.{◌≡◌, ◌∙◌}
use mathlib.Core.Bool.{true}
use Prim.Native.Nat.{ℕ}
use Rattle.entries.specs.declared.Entry.{Entry}
use Rattle.machine.specs.Machine.{Machine, cpu_at}
use Rattle.model.specs.State.{at}
use Rattle.model.specs.Steal.{Stealing}
use Rattle.model.specs.Tidy.{Sound, Tidy, Present, Queued, context}
use Rattle.model.specs.Demand3.{in_charge}
use Rattle.model.proofs.Turn.{Turn}
use Rattle.model.proofs.Lists.{In}
use Rattle.model.proofs.Queues.{on}
use Rattle.model.proofs.CpuQueues.{queue_list}
use Rattle.model.proofs.Ended.{lasting, standing}
use Rattle.model.proofs.TidyAfter.{Ending, here_stands, sched_here, present_is, idle_is, lasts, queued, tidy_after}
use Rattle.model.proofs.Assembled.{scheduled_machine, l, in_range, s, c, ending}

module _ (turn : Turn) where
  abbrev k : ℕ
  k = turn.k

  abbrev time : ℕ
  time = turn.time

  abbrev M : Machine
  M = turn.M

  abbrev S : Sound M
  S = turn.sound

  abbrev T : Tidy M
  T = turn.tidy

  abbrev P : Present M k
  P = turn.present

  abbrev M' : Machine
  M' = scheduled_machine k time M

  abbrev steal_of : Stealing
  steal_of = l turn

  E : Ending k time M S T P (in_range turn) (c turn) (s turn) steal_of.cpus M'
  E = ending turn

  pub tidied : Tidy M'
  tidied = tidy_after k time M S T P (in_range turn) (c turn) (s turn) steal_of.cpus M' E

  -- the in-charge word
  pub in_charge_is : in_charge k time M M' ≡ c turn
  in_charge_is = sched_here k time M S T P (in_range turn) (c turn) (s turn) steal_of.cpus M' E

  pub stands : standing (cpu_at M' k) ≡ standing (s turn).cpu
  stands = here_stands k time M S T P (in_range turn) (c turn) (s turn) steal_of.cpus M' E

  pub still_present : (cpu_at M' k).block.present ≡ true
  still_present = present_is k time M S T P (in_range turn) (c turn) (s turn) steal_of.cpus M' E k ∙ P

  pub idle_same : (cpu_at M' k).block.idle_ctxt ≡ (cpu_at M k).block.idle_ctxt
  idle_same = idle_is k time M S T P (in_range turn) (c turn) (s turn) steal_of.cpus M' E k

  pub lasts_after : (y : ℕ) → lasting (context M' y) ≡ lasting (at (s turn) y)
  lasts_after = lasts k time M S T P (in_range turn) (c turn) (s turn) steal_of.cpus M' E

  pub queued_after : (e : Entry) (i : ℕ) → In e (on k (s turn).cpu.queue (queue_list steal_of.cpus) i) → Queued M' e i
  queued_after = queued k time M S T P (in_range turn) (c turn) (s turn) steal_of.cpus M' E

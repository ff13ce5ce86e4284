-- The contexts that a CPU names, in any role: current, in charge, idle, queued, timed, on a list. Assumes nothing.
use Rattle.std.specs.Prelude.{Bool, List, ◌∷◌, ◌++◌, map, ℕ}
use Rattle.entries.specs.declared.Entry.{Entry}
use Rattle.entries.specs.declared.Timer.{Timer}
use Rattle.percpu.specs.Cpu.{Cpu}
use Rattle.model.specs.Steal.{member, contexts_of}

pub record Names : Type 0 where
  pub current : ℕ
  pub in_charge : ℕ
  pub idle : ℕ
  pub queued : List Entry
  pub timed : List Timer
  pub listed_here : List ℕ
  pub listed_by_interrupt : List ℕ

abbrev pub names : Cpu → Names
names p =
    record {
      current = p.block.current_ctxt;
      in_charge = p.block.sched_ctxt;
      idle = p.block.idle_ctxt;
      queued = p.queue;
      timed = p.timers;
      listed_here = p.local_wakeup_list;
      listed_by_interrupt = p.ipi_context_wakeup_list;
    }

abbrev pub timed_contexts : List Timer → List ℕ
timed_contexts ts = map (λ t. t.context_ref) ts

abbrev pub named_contexts : Names → List ℕ
named_contexts l =
    l.current ∷ l.in_charge ∷ l.idle ∷ contexts_of l.queued ++ (timed_contexts l.timed ++ (l.listed_here ++ l.listed_by_interrupt))

-- context x is one of them
unfoldable pub is_named : Names → ℕ → Bool
is_named l x = member x (named_contexts l)

-- On a machine whose keys and timers rise the plain engine is the kernel's decision. Assumes nothing.
use mathlib.Core.Path.{◌≡◌, refl, ap, ◌∙◌}
use mathlib.Core.List.{List, [], ◌∷◌, map}
use Prim.Native.Nat.{ℕ}
use Rattle.columns.specs.Common.{All}
use Rattle.entries.specs.Order.{entry_before, sooner}
use Rattle.entries.specs.Sorted.{Sorted}
use Rattle.entries.proofs.Ordered.{entries_ordered, timers_ordered}
use Rattle.percpu.specs.Cpu.{Cpu}
use Rattle.machine.specs.Machine.{Machine}
use Rattle.model.specs.Accepted.{Call, outcome}
use Rattle.plain_model.specs.State.{placed_cpu, Different}
use Rattle.plain_model.specs.Schedule.{plain_outcome}
use Rattle.plain_model.proofs.Placing.{sorted_differs, by_rank_of_sorted}
use Rattle.plain_model.proofs.Decided.{plain_is}

pub record Rises (p : Cpu) : Type 0 where
  pub keys : Sorted entry_before p.queue
  pub timers : Sorted sooner p.timers

rises_differ : (ps : List Cpu) → All Rises ps → All Different ps
rises_differ [] a = tt
rises_differ (p ∷ ps) a =
    (record { queue = sorted_differs entries_ordered p.queue a.0.keys; timers = sorted_differs timers_ordered p.timers a.0.timers }, rises_differ ps a.1)

rises_placed : (p : Cpu) → Rises p → placed_cpu p ≡ p
rises_placed p r = rw (by_rank_of_sorted entries_ordered p.queue r.keys, by_rank_of_sorted timers_ordered p.timers r.timers)

all_placed : (ps : List Cpu) → All Rises ps → map placed_cpu ps ≡ ps
all_placed [] a = refl
all_placed (p ∷ ps) a = λ i. rises_placed p a.0 i ∷ all_placed ps a.1 i

pub sorted_is : (call : Call) (k time : ℕ) (M : Machine) → All Rises M.cpus → plain_outcome call k time M ≡ outcome call k time M
sorted_is call k time M a =
    plain_is call k time M (rises_differ M.cpus a)
    ∙ ap (λ (ps : List Cpu). outcome call k time (record { contexts = M.contexts; cpus = ps })) (all_placed M.cpus a)

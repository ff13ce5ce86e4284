-- Work stealing: the stored totals of this CPU and of every other stay the weights added up.
use Rattle.std.specs.Prelude.{Option, Some}
use mathlib.Core.Path.{◌≡◌, subst, sym, ◌∙◌}
use mathlib.Core.Bool.{Bool, true}
use mathlib.Core.List.{List, ◌∷◌}
use mathlib.Core.Logic.{◌≢◌}
use Prim.Native.Nat.{ℕ, ◌+◌, ◌<◌}
use lib.Dec.{eqb}
use lib.ListN.{length, get_or, set}
use lib.Seq.{get_or-set_same, get_or-set_other}
use borrow.Author.Tests.{eqb-true, eqb-false}
use Rattle.entries.specs.declared.Entry.{Entry}
use Rattle.percpu.specs.Cpu.{Cpu}
use Rattle.machine.specs.Machine.{Machine, cpu_at, no_cpu}
use Rattle.model.specs.State.{State, at}
use Rattle.model.specs.Steal.{Stealing, Moving, published, mark_stealable, steal}
use Rattle.model.specs.Tidy.{Present, context}
use Rattle.model.proofs.Cases.{by_test}
use Rattle.model.proofs.Queues.{Inv, on}
use Rattle.model.proofs.Before.{queues, Free}
use Rattle.model.proofs.Dequeued.{Winner}
use Rattle.model.proofs.CpuQueues.{queue_list}
use Rattle.model.proofs.Robbed.{start, m₀, m, lot_live, lot_distinct, lot_starts, own_queue, is_queue, r}
use Rattle.model.proofs.Stolen.{Lot, robbing, steal_cases}
use Rattle.model_weights.specs.Weighed.{Agree}
use Rattle.model_weights.proofs.Sums.{added, held_weight, total_is}
use Rattle.model_weights.proofs.Weighing.{Weights, same_queues}
use Rattle.model_weights.proofs.ChargedWeights.{Fast, Holds, running_weight}
use Rattle.model_weights.proofs.ChosenWeights.{won_weight}
use Rattle.model_weights.proofs.MovedWeights.{MovesWeight, lot_weighs}

module _ (k : ℕ) (M : Machine) (runs : Bool) where
  -- what another CPU's total is, among the CPUs ps
  abbrev pub Elsewhere : List Cpu → Type 0
  Elsewhere ps =
      (j : ℕ) → j ≢ k → Present M j
      → (get_or ps j no_cpu).block.total_weight ≡ held_weight (context M (cpu_at M j).block.sched_ctxt) + added (get_or ps j no_cpu).queue

  pub record Steals (l : Stealing) : Type 0 where
    pub weights : Weights M.contexts (Fast k M runs) (Holds k M runs l.winner) l.state.contexts (on k l.state.cpu.queue (queue_list l.cpus))
    pub total : l.state.cpu.block.total_weight ≡ running_weight k M runs + won_weight M l.winner + added l.state.cpu.queue
    pub winner : (x : ℕ) → l.winner ≡ Some x → (at l.state x).is_active ≡ true
    pub elsewhere : Elsewhere l.cpus

module _ (k : ℕ) (M : Machine) (runs : Bool) (locked : List ℕ) (w : Option ℕ) (C : State) (A : Agree M)
    (n : Inv (Free M) M.contexts C.contexts (on k C.cpu.queue (queues M)))
    (win : (x : ℕ) → w ≡ Some x → Winner (Free M) M.contexts k (queues M) x C.contexts (on k C.cpu.queue (queues M)))
    (weights : Weights M.contexts (Fast k M runs) (Holds k M runs w) C.contexts (on k C.cpu.queue (queues M)))
    (total : C.cpu.block.total_weight ≡ running_weight k M runs + won_weight M w + added C.cpu.queue)
    (active : (x : ℕ) → w ≡ Some x → (at C x).is_active ≡ true) where
  at_first : Elsewhere k M runs M.cpus
  unfolding cpu_at
  at_first j o p = A j p ∙ total_is M j

  nothing_stolen : Steals k M runs (start k M runs locked w C)
  unfolding cpu_at
  nothing_stolen = record { weights = weights; total = total; winner = active; elsewhere = at_first }

  module _ (t : ℕ) (e : Entry) (es : List Entry) (b : Lot k M runs locked w C t e es) where
    abbrev m' : Moving
    m' = m k M runs locked w C n win t b.other b.present e es b.sorted b.from b.live

    weighed : MovesWeight k t b.other M runs m'
    unfolding cpu_at
    weighed =
        lot_weighs k t b.other M runs (m₀ k M runs locked w C n win t b.other b.present e es b.sorted b.from b.live) _ (e ∷ es) (e ∷ es) (λ d i. i)
        (lot_live k M runs locked w C n win t b.other b.present e es b.sorted b.from b.live)
        (lot_distinct k M runs locked w C n win t b.other b.present e es b.sorted b.from b.live)
        (lot_starts k M runs locked w C n win t b.other b.present e es b.sorted b.from b.live)
        (record {
          weights = same_queues M.contexts (Fast k M runs) (Holds k M runs w) C.contexts (on k C.cpu.queue (queues M)) _
              (own_queue k M runs locked w C n win t b.other b.present e es b.sorted b.from b.live) weights;
          total = total;
          winner = active;
          victim = at_first t b.other b.present;
        })

    lot_stolen : Steals k M runs (robbing k M runs locked w C t e es)
    unfolding cpu_at
    lot_stolen =
        record {
          weights = same_queues M.contexts (Fast k M runs) (Holds k M runs m'.winner) m'.state.contexts (on k m'.state.cpu.queue (on t m'.victim.queue (queues M))) _
              (is_queue k M runs locked w C n win t b.other b.present e es b.sorted b.from b.live) weighed.weights;
          total = weighed.total;
          winner = weighed.winner;
          elsewhere = λ j o p. by_test (eqb j t)
              (λ u. subst (λ i. (get_or (set M.cpus t v) i no_cpu).block.total_weight ≡ held_weight (context M (get_or M.cpus i no_cpu).block.sched_ctxt) + added (get_or (set M.cpus t v) i no_cpu).queue)
              (sym (eqb-true j t u))
              (subst (λ (y : Cpu). y.block.total_weight ≡ held_weight (context M (get_or M.cpus t no_cpu).block.sched_ctxt) + added y.queue)
              (sym (get_or-set_same M.cpus t v no_cpu in_list)) weighed.victim))
              (λ u. subst (λ (y : Cpu). y.block.total_weight ≡ held_weight (context M (get_or M.cpus j no_cpu).block.sched_ctxt) + added y.queue)
              (sym (get_or-set_other M.cpus t j v no_cpu (eqb-false j t u))) (at_first j o p));
        }
      where
        v : Cpu
        v = mark_stealable (published m'.victim)

        in_list : t < length M.cpus
        in_list = r k M runs locked w C n win t b.other b.present e es b.sorted b.from b.live

  pub steal_weighs : k < length M.cpus → Steals k M runs (steal k runs locked M.cpus w C)
  steal_weighs = steal_cases k M runs locked w C n win (Steals k M runs) nothing_stolen lot_stolen

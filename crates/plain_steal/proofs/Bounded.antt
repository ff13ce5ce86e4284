-- How far the stealing can make values grow: virtual times at most b become at most 2 b + 2^30. Assumes nothing.
use Rattle.std.specs.Prelude.{Option}
use Rattle.std.proofs.Common.{◌≡◌, ℕ, zero, suc, ◌+◌, ◌*◌, ◌<◌, ◌≤◌, Bool, false, List, [], ◌∷◌, length, get_or, sym, refl, subst, arith}
use Rattle.columns.specs.Common.{fold, All}
use Rattle.columns.specs.Blocks.{part}
use Rattle.columns.proofs.Tests.{by_test, never}
use Rattle.entries.specs.declared.Entry.{Entry}
use Rattle.entries.proofs.Ordered.{entries_ordered}
use Rattle.percpu.specs.Cpu.{Cpu}
use Rattle.percpu.specs.Words.{block_of}
use Rattle.cpu_stats.specs.Words.{stats_of}
use Rattle.weights.specs.Weights.{full_slice}
use Rattle.machine.specs.Machine.{context_at, no_cpu}
use Rattle.machine.specs.Shape.{EntryFits}
use Rattle.model.specs.State.{State, on_cpu}
use Rattle.model.specs.Steal.{Stealing, Moving, move_entry, can_steal_from, want, candidates, targets, count_steal, should_steal, steal_entries, steal_from, steal}
use Rattle.model.proofs.Lists.{all_map}
use Rattle.model.proofs.Cases.{pick}
use Rattle.stages.specs.Stage.{CpuBelow, StateBelow}
use Rattle.stages.specs.Bounds.{slice_bound}
use Rattle.steal.proofs.Round.{done_still}
use Rattle.steal.proofs.Apart.{Apart, candidates_taken}
use Rattle.steal.proofs.MovesBounded.{MovingBelow, moves_below}
use Rattle.steal.proofs.Below.{cpu_weaker, context_weaker, below_counted, below_published}
use Rattle.plain_model.specs.State.{placed, placed_cpu, Different}
use Rattle.plain_model.specs.Steal as plain
use Rattle.plain_model.proofs.Robbed.{placed_cpus, steal_placed}
use Rattle.plain_model.proofs.Ranked.{length_by_rank}
use Rattle.plain_state.specs.Fits.{StateFits}
use Rattle.plain_state.proofs.Fitting.{all_placed}
use Rattle.plain_steal.specs.Stealing.{CpusFit}
use Rattle.plain_steal.proofs.Fitted.{least}

-- what is asked of a victim, with its queue in order
record Victim (n t b : ℕ) (p : Cpu) : Type 0 where
  below : CpuBelow t b p
  entries : All (EntryFits n) p.queue
  few : length p.queue ≤ 64

-- of the kernel's definition; s: where it began
module _ (n t b k : ℕ) (runs : Bool) (locked : List ℕ) (w : Option ℕ) (cpus : List Cpu) (s : State) (o : StateBelow n t b s) (f : (x : ℕ) → x < n → (context_at s.contexts x).rem_slice ≤ full_slice) (v : (j : ℕ) → Victim n t b (get_or cpus j no_cpu)) where
  abbrev start : Stealing
  start = record { state = on_cpu count_steal s; cpus = cpus; winner = w; done = false }

  record Robbed (l : Stealing) : Type 0 where
    state : StateBelow n t (2 * b + slice_bound) l.state
    fresh : l.done ≡ false → l ≡ start

  began : Robbed start
  began =
      record {
        state = record {
          context = λ x h. context_weaker b (2 * b + slice_bound) _ (omega arith) (o.context x h);
          cpu = cpu_weaker b (2 * b + slice_bound) _ (omega arith) (below_counted s.cpu o.cpu);
        };
        fresh = λ z. refl;
      }

  module _ (j : ℕ) where
    abbrev begin : Moving
    begin = record { state = start.state; victim = get_or cpus j no_cpu; winner = w }

    begin_below : (es : List Entry) → All (EntryFits n) es → Apart es → length es ≤ 64 → MovingBelow n t b begin es
    begin_below es g p m =
        record {
          context = began.state.context;
          slice = f;
          cpu = began.state.cpu;
          v_here = o.cpu.v;
          weight = omega (arith, o.cpu.total_weight);
          victim = (v j).below;
          each = g;
          still = all_map (EntryFits n) (λ (e : Entry). (context_at s.contexts e.context_ref).vtime ≤ b) (λ e i. (o.context e.context_ref i.name).vtime) es g;
          apart = p;
        }

    entries_below : (es : List Entry) → All (EntryFits n) es → Apart es → length es ≤ 64 → Robbed (steal_entries runs start j (get_or cpus j no_cpu) es)
    unfolding steal_entries
    entries_below [] g p m = began
    entries_below (e ∷ es) g p m =
        let z : MovingBelow n t b (fold (move_entry runs) begin (e ∷ es)) [] = moves_below b runs begin (e ∷ es) (begin_below (e ∷ es) g p m) in
        record { state = record { context = z.context; cpu = below_published _ z.cpu }; fresh = λ y. never y }

    from_start : Robbed (steal_from k runs locked start j)
    unfolding steal_from
    from_start =
        let p : Cpu = get_or cpus j no_cpu in
        let z = candidates_taken k locked s.contexts w (want start.state p) (EntryFits n) p.queue (v j).entries in
        by_test (can_steal_from start.state p)
        (λ y. rw y (entries_below (candidates k locked s.contexts w (want start.state p) p.queue) z.each z.apart (omega (arith, z.few, (v j).few)))) (λ y. rw y began)

    from_below : (l : Stealing) → Robbed l → Robbed (steal_from k runs locked l j)
    from_below l y =
        by_test l.done (λ z. subst Robbed (sym (done_still k runs locked l z j)) y) (λ z. subst (λ (i : Stealing). Robbed (steal_from k runs locked i j)) (sym (y.fresh z)) from_start)

  fold_below : (ts : List ℕ) (l : Stealing) → Robbed l → Robbed (fold (steal_from k runs locked) l ts)
  fold_below [] l y = y
  fold_below (j ∷ ts) l y = fold_below ts (steal_from k runs locked l j) (from_below j l y)

  kernel_below : StateBelow n t (2 * b + slice_bound) (steal k runs locked cpus w s).state
  unfolding steal
  kernel_below = pick (λ (l : Stealing). StateBelow n t (2 * b + slice_bound) l.state) (should_steal s w) (λ e. (fold_below (targets k (length cpus)) start began).state) (λ e. began.state)

-- a CPU's numbers and the length of its queue
pub record CpuRanged (t b : ℕ) (p : Cpu) : Type 0 where
  pub below : CpuBelow t b (placed_cpu p)
  pub few : length p.queue ≤ 64

none_victim : (n t b : ℕ) → Victim n t b no_cpu
unfolding no_cpu block_of stats_of part
none_victim n t b =
    record {
      below = record {
        schedule_time = least t;
        pit_ticks = least t;
        user = least t;
        kernel = least t;
        idle = least t;
        context_switches = least t;
        syscall_switches = least t;
        v = least b;
        total_weight = least b;
        entry_vtime = λ i h. absurd (omega arith);
        entry_vd = λ i h. absurd (omega arith);
        timer_wake = λ i h. absurd (omega arith);
      };
      entries = tt;
      few = least 64;
    }

victims : (n t b : ℕ) (ps : List Cpu) → CpusFit n ps → All (CpuRanged t b) ps → (j : ℕ) → Victim n t b (get_or (placed_cpus ps) j no_cpu)
victims n t b [] a r j = none_victim n t b
victims n t b (p ∷ ps) a r zero =
    record {
      below = r.0.below;
      entries = all_placed (EntryFits n) entries_ordered p.queue a.0.entries;
      few = rw (length_by_rank entries_ordered p.queue) r.0.few;
    }
victims n t b (p ∷ ps) a r (suc j) = victims n t b ps a.1 r.1 j

differ_all : (n : ℕ) (ps : List Cpu) → CpusFit n ps → All Different ps
differ_all n [] a = tt
differ_all n (p ∷ ps) a = (a.0.differ, differ_all n ps a.1)

pub steal_below : {n t b : ℕ} (k : ℕ) (runs : Bool) (locked : List ℕ) (cpus : List Cpu) (w : Option ℕ) (s : State) → StateFits n s → CpusFit n cpus → All (CpuRanged t b) cpus → StateBelow n t b (placed s)
    → StateBelow n t (2 * b + slice_bound) (placed (plain.steal k runs locked cpus w s).state)
steal_below {n} {t} {b} k runs locked cpus w s f a r o =
    subst (λ (l : Stealing). StateBelow n t (2 * b + slice_bound) l.state) (sym (steal_placed k runs locked cpus (differ_all n cpus a) w s f.cpu.differ).is)
    (kernel_below n t b k runs locked w (placed_cpus cpus) (placed s) o (λ x h. (f.context x h).rem_slice) (victims n t b cpus a r))

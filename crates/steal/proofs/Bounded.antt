-- How far the stealing can make values grow: virtual times at most b become at most 2 b + 2^30. Assumes nothing.
use Rattle.std.specs.Prelude.{Option}
use mathlib.Core.Path.{◌≡◌, refl, sym, subst}
use mathlib.Core.Bool.{Bool, false}
use mathlib.Core.List.{List, [], ◌∷◌}
use Prim.Native.Nat.{ℕ, zero, suc, ◌+◌, ◌-◌, ◌*◌, ◌%◌, ◌<◌, ◌≤◌}
use native.Mathlib.Omega.{arith}
use lib.ListN.{length, get_or}
use Rattle.columns.specs.Common.{fold, tabulate, All}
use Rattle.columns.proofs.Tests.{by_test, never}
use Rattle.entries.specs.declared.Entry.{Entry}
use Rattle.percpu.specs.Cpu.{Cpu}
use Rattle.percpu.specs.Layout.{no_entry}
use Rattle.machine.specs.Machine.{Machine, context_at, cpu_at, no_cpu}
use Rattle.machine.specs.Shape.{EntryFits, Fits}
use Rattle.machine.proofs.Steps.{get_d_set}
use Rattle.model.specs.State.{state_of, on_cpu}
use Rattle.model.specs.Steal.{Stealing, Moving, move_entry, can_steal_from, want, candidates, targets, count_steal, should_steal, steal_entries, steal_from, steal}
use Rattle.model.proofs.Lists.{all_map}
use Rattle.stages.specs.Stage.{ContextBelow, CpuBelow, Below, Ranged}
use Rattle.stages.proofs.Fitting.{all_of}
use Rattle.steal.specs.Moves.{machine_of, Steals}
use Rattle.steal.proofs.Round.{round_is, done_still}
use Rattle.steal.proofs.Apart.{Apart, candidates_taken}
use Rattle.steal.proofs.MovesBounded.{MovingBelow, moves_below}
use Rattle.steal.proofs.Below.{cpu_weaker, context_weaker, below_counted, below_published, below_marked}
use Rattle.stages.specs.Bounds.{slice_bound}

-- the state of the stealing; s: where it began
pub record StealingBelow (c n t b : ℕ) (s l : Stealing) : Type 0 where
  pub context : (x : ℕ) → x < n → ContextBelow t (2 * b + slice_bound) (context_at l.state.contexts x)
  pub cpu : CpuBelow t (2 * b + slice_bound) l.state.cpu
  pub cpus : (j : ℕ) → j < c → CpuBelow t (2 * b + slice_bound) (get_or l.cpus j no_cpu)
  pub fresh : l.done ≡ false → l ≡ s

fold_tabulate : {B : Type 0} (P : B → Type 0) (f : B → ℕ → B) (N : ℕ) (g : ℕ → ℕ) → ((y : B) (j : ℕ) → j < N → P y → P (f y (g j))) → (y : B) → P y → P (fold f y (tabulate N g))
unfolding tabulate
fold_tabulate P f zero g h y p = p
fold_tabulate P f (suc N) g h y p = fold_tabulate P f N (λ (j : ℕ). g (suc j)) (λ z j l. h z (suc j) (omega arith)) (f y (g 0)) (h y 0 (omega arith) p)

module _ {c n t : ℕ} (b k : ℕ) (runs : Bool) (locked : List ℕ) (w : Option ℕ) (M : Machine) (h : k < c) (o : Fits c n M) (a : Below c n t b M) where
  abbrev start : Stealing
  start = record { state = on_cpu count_steal (state_of k M); cpus = M.cpus; winner = w; done = false }

  start_below : StealingBelow c n t b start start
  unfolding cpu_at
  start_below =
      record {
        context = λ x l. context_weaker b (2 * b + slice_bound) _ (omega arith) (a.context x l);
        cpu = cpu_weaker b (2 * b + slice_bound) _ (omega arith) (below_counted (cpu_at M k) (a.cpu k h));
        cpus = λ j l. cpu_weaker b (2 * b + slice_bound) _ (omega arith) (a.cpu j l);
        fresh = λ z. refl;
      }

  -- from CPU j, entries of its queue
  module _ (j : ℕ) (l : j < c) where
    abbrev begin : Moving
    begin = record { state = start.state; victim = get_or M.cpus j no_cpu; winner = w }

    begin_below : (es : List Entry) → All (EntryFits n) es → Apart es → length es ≤ 64 → MovingBelow n t b begin es
    unfolding cpu_at
    begin_below es f p m =
        record {
          context = start_below.context;
          slice = λ x i. (o.context x i).rem_slice;
          cpu = start_below.cpu;
          v_here = (a.cpu k h).v;
          weight = omega (arith, (a.cpu k h).total_weight);
          victim = a.cpu j l;
          each = f;
          still = all_map (EntryFits n) (λ (e : Entry). (context_at M.contexts e.context_ref).vtime ≤ b) (λ e i. (a.context e.context_ref i.name).vtime) es f;
          apart = p;
        }

    entries_below : (es : List Entry) → All (EntryFits n) es → Apart es → length es ≤ 64 → StealingBelow c n t b start (steal_entries runs start j (get_or M.cpus j no_cpu) es)
    unfolding steal_entries
    entries_below [] f p m = start_below
    entries_below (e ∷ es) f p m =
        let z : MovingBelow n t b (fold (move_entry runs) begin (e ∷ es)) [] = moves_below b runs begin (e ∷ es) (begin_below (e ∷ es) f p m) in
        record {
          context = z.context;
          cpu = below_published _ z.cpu;
          cpus = λ i y. get_d_set M.cpus j i _ no_cpu (CpuBelow t (2 * b + slice_bound)) (cpu_weaker b (2 * b + slice_bound) _ (omega arith) (below_marked _ z.victim)) (start_below.cpus i y);
          fresh = λ y. never y;
        }

    from_start : StealingBelow c n t b start (steal_from k runs locked start j)
    unfolding steal_from cpu_at
    from_start =
        let p : Cpu = get_or M.cpus j no_cpu in
        let f = o.cpu j l in
        let z = candidates_taken k locked M.contexts w (want start.state p) (EntryFits n) p.queue (all_of (EntryFits n) no_entry p.queue f.entry) in
        by_test (can_steal_from start.state p)
        (λ y. rw y (entries_below (candidates k locked M.contexts w (want start.state p) p.queue) z.each z.apart (omega (arith, z.few, f.queue)))) (λ y. rw y start_below)

    from_below : (s : Stealing) → StealingBelow c n t b start s → StealingBelow c n t b start (steal_from k runs locked s j)
    from_below s y =
        by_test s.done (λ z. subst (StealingBelow c n t b start) (sym (done_still k runs locked s z j)) y) (λ z. subst (λ (i : Stealing). StealingBelow c n t b start (steal_from k runs locked i j)) (sym (y.fresh z)) from_start)

  all_below : StealingBelow c n t b start (steal k runs locked M.cpus w (state_of k M))
  unfolding steal targets
  all_below =
      by_test (should_steal (state_of k M) w)
      (λ z. rw (z, o.cpus)
      (fold_tabulate (StealingBelow c n t b start) (steal_from k runs locked) (c - 1) (λ (j : ℕ). (k + (j + 1)) % c) (λ y j l p. from_below ((k + (j + 1)) % c) (round_is k c j h l).0 y p) start start_below))
      (λ z. rw z start_below)

  pub steal_below : Below c n t (2 * b + slice_bound) (machine_of k (steal k runs locked M.cpus w (state_of k M)))
  unfolding cpu_at
  steal_below =
      record {
        context = all_below.context;
        cpu = λ j l. get_d_set (steal k runs locked M.cpus w (state_of k M)).cpus k j _ no_cpu (CpuBelow t (2 * b + slice_bound)) all_below.cpu (all_below.cpus j l);
      }

-- the image after
pub steal_ranged : {c n t b k : ℕ} {m m' : List ℕ} {full : Bool} {w' : Option ℕ} (runs : Bool) (locked : List ℕ) (w : Option ℕ) → k < c → full ≡ false
    → Steals c n k m m' full w' (λ (M : Machine). steal k runs locked M.cpus w (state_of k M)) → Ranged c n t b m → Ranged c n t (2 * b + slice_bound) m'
steal_ranged {b = b} {k = k} runs locked w h z s r =
    let p = s.steals r.M r.eq r.fits in
    record { M = _; eq = p.after z; fits = p.fits z; below = steal_below b k runs locked w r.M h r.fits r.below }

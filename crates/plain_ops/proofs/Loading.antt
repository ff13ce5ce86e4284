-- What is read of an image is in its ranges, and what is decided of it. Assumes nothing.
use mathlib.Core.Path.{◌≡◌, refl, sym, ap, ◌∙◌, subst}
use mathlib.Core.Bool.{false}
use mathlib.Core.List.{List}
use Prim.Native.Nat.{ℕ, ◌<◌, ◌≤◌}
use native.Mathlib.Omega.{arith}
use lib.ListN.{length, get_or}
use Rattle.context.specs.declared.Context.{Context}
use Rattle.entries.specs.declared.Timer.{Timer}
use Rattle.entries.proofs.Ordered.{entries_ordered, timers_ordered}
use Rattle.numbers.specs.Limits.{max_number, max_elapsed}
use Rattle.percpu.specs.Cpu.{Cpu}
use Rattle.percpu.specs.Layout.{no_entry, no_timer}
use Rattle.machine.specs.Machine.{Machine, context_at, cpu_at, no_cpu}
use Rattle.machine.specs.Encode.{encode}
use Rattle.machine.specs.Shape.{EntryFits, CpuFits, Fits, Image}
use Rattle.machine.specs.Outcome.{Outcome}
use Rattle.model.specs.State as model
use Rattle.model.specs.State.{state_of}
use Rattle.model.specs.Turn.{elapsed}
use Rattle.stages.specs.Stage.{CpuBelow, StateBelow, Below}
use Rattle.stages.specs.Bounds.{t_timed, b_charged}
use Rattle.stages.proofs.Fitting.{all_of}
use Rattle.stages.proofs.Kept.{cpu_more}
use Rattle.plain_model.specs.State.{placed, placed_cpu}
use Rattle.plain_model.specs.Schedule.{switch_inner, tick, switch, direct_switch_to, outcome_before}
use Rattle.plain_model.proofs.Placing.{sorted_differs, by_rank_of_sorted}
use Rattle.switch_ops.specs.declared.Decision.{Decision}
use Rattle.switch_ops.specs.declared.Decision.TheVariants.{Tick, Switch, DirectSwitchTo}
use Rattle.switch_ops.specs.Reply.{call_of}
use Rattle.plain_state.specs.declared.Cpu as code
use Rattle.plain_state.specs.States.{state_in}
use Rattle.plain_state.specs.Fits.{CpuFitsInAnyOrder, StateFits}
use Rattle.plain_words.specs.Words.{ContextsRead, CpusRead}
use Rattle.plain_moves.specs.Moves.{CpuBecame}
use Rattle.plain_steal.specs.Stealing.{cpus_in, CpusSound}
use Rattle.plain_schedule.specs.Next.{CpusReady}
use Rattle.plain_decide.specs.declared.switching.Decided.{Decided}
use Rattle.plain_decide.specs.Decided.{DecidedTracks, CpusHere, CanDecide, tick_of, direct_switch_of}
use Rattle.plain_ops.specs.declared.Loaded.{Loaded}
use Rattle.plain_ops.specs.Loaded.{LoadedOf, Callable}

-- a CPU whose keys and timers rise
module _ {n : ℕ} (p : Cpu) (f : CpuFits n p) where
  any_order : CpuFitsInAnyOrder n p
  any_order =
      record {
        current = f.current;
        sched = f.sched;
        idle = f.idle;
        entries = all_of (EntryFits n) no_entry p.queue f.entry;
        timers = all_of (λ (t : Timer). t.context_ref < n) no_timer p.timers f.timer;
        local = all_of (λ (x : ℕ). x < n) 0 p.local_wakeup_list f.local_name;
        ipi = all_of (λ (x : ℕ). x < n) 0 p.ipi_context_wakeup_list f.ipi_name;
        remainder = f.remainder;
        differ = record { queue = sorted_differs entries_ordered p.queue f.keys_rise; timers = sorted_differs timers_ordered p.timers f.timers_rise };
      }

  placed_same : placed_cpu p ≡ p
  placed_same = rw (by_rank_of_sorted entries_ordered p.queue f.keys_rise, by_rank_of_sorted timers_ordered p.timers f.timers_rise)

-- a machine in document 01's ranges
module _ {c n : ℕ} (M : Machine) (f : Fits c n M) (o : Below c n max_number max_number M) where
  all_ready : CpusReady n M.cpus
  unfolding cpu_at
  all_ready =
      let e : length M.cpus ≡ c = f.cpus in
      record {
        fit = all_of (CpuFitsInAnyOrder n) no_cpu M.cpus (λ i h. any_order (get_or M.cpus i no_cpu) (f.cpu i (omega arith)));
        below = all_of (λ (p : Cpu). CpuBelow t_timed b_charged (placed_cpu p)) no_cpu M.cpus
            (λ i h. subst (CpuBelow t_timed b_charged) (sym (placed_same (get_or M.cpus i no_cpu) (f.cpu i (omega arith)))) (cpu_more (omega arith) (omega arith) (o.cpu i (omega arith))));
      }

  module _ (k : ℕ) (h : k < c) where
    state_fits : StateFits n (state_of k M)
    state_fits =
        let b : c ≤ 4 = f.bounds.1 in
        record {
          contexts = f.contexts;
          context = λ x l. let i : (context_at M.contexts x).cpu_id ≤ c = (f.context x l).cpu_id in record { cpu_id = omega arith; prio = (f.context x l).prio; rem_slice = (f.context x l).rem_slice };
          cpu = any_order (cpu_at M k) (f.cpu k h);
        }

    state_below : StateBelow n max_number max_number (placed (state_of k M))
    state_below = record { context = o.context; cpu = subst (CpuBelow max_number max_number) (sym (placed_same (cpu_at M k) (f.cpu k h))) (o.cpu k h) }

-- read
module _ {c n : ℕ} {m : List ℕ} (i : Image c n m) (k : ℕ) (h : k < c) {cs : List Context} {ps : List code.Cpu} (hc : ContextsRead c n m cs) (hp : CpusRead c n m ps) where
  pub cpus_sound : CpusSound c (record { cpus = ps })
  cpus_sound = record { few = i.fits.bounds.1; places = hp.places; each = hp.sound }

  pub loaded : {p : code.Cpu} → CpuBecame p (get_or (cpus_in c (record { cpus = ps })) k no_cpu)
      → LoadedOf c n k m (record { state = record { contexts = cs; cpu = p; no_room = false }; cpus = record { cpus = ps } })
  unfolding cpu_at
  loaded b =
      record {
        sound = record { few = i.fits.bounds.3; contexts = hc.places; queue = b.sound.queue; timers = b.sound.timers; local = b.sound.local; ipi = b.sound.ipi; flat = b.sound.flat };
        room = refl;
        cpus = cpus_sound;
        state = λ M e f j. record { contexts = hc.is M e f j; cpu = (b.is ∙ ap (λ (l : List Cpu). get_or l k no_cpu) (hp.is M e f)) j; no_room = false };
        all = hp.is;
      }

-- r: what was read
module _ {c n k time : ℕ} {d : Decision} {m : List ℕ} (a : Callable c n k time d m) {r : Loaded} (l : LoadedOf c n k m r) where
  abbrev M : Machine
  M = a.ranged.M

  same : state_in n r.state ≡ state_of k M
  same = l.state M a.ranged.eq a.ranged.fits

  pub can_decide : CanDecide n time r.state
  can_decide =
      record {
        sound = l.sound;
        room = l.room;
        fits = subst (StateFits n) (sym same) (state_fits M a.ranged.fits a.ranged.below k a.here);
        below = subst (λ (s : model.State). StateBelow n max_number max_number (placed s)) (sym same) (state_below M a.ranged.fits a.ranged.below k a.here);
        in_time = subst (λ (s : model.State). elapsed time s.cpu ≤ max_elapsed) (sym same) (a.in_time M a.ranged.eq a.ranged.fits);
        soon = a.soon;
      }

  pub cpus_here : CpusHere n c k r.cpus
  cpus_here = record { all = l.cpus; others = subst (CpusReady n) (sym (l.all M a.ranged.eq a.ranged.fits)) (all_ready M a.ranged.fits a.ranged.below); here = a.here }

-- the calls, of the machine
tick_is : (k time : ℕ) (M : Machine) → tick_of k time M.cpus (state_of k M) ≡ tick k time M
unfolding tick
tick_is k time M = refl

switch_is : (k time : ℕ) (M : Machine) → switch_inner k time M.cpus (state_of k M) ≡ switch k time M
unfolding switch
switch_is k time M = refl

direct_is : (k time x : ℕ) (M : Machine) → direct_switch_of k time x M.cpus (state_of k M) ≡ direct_switch_to k time x M
unfolding direct_switch_to
direct_is k time x M = refl

module _ (c n k time : ℕ) (m : List ℕ) {r : Loaded} (l : LoadedOf c n k m r) {g : Decided} (d : Decision) (M : Machine) (e : m ≡ encode M) (f : Fits c n M) where
  of_machine : (o : List Cpu → model.State → Outcome) → DecidedTracks n c k g (o (cpus_in c r.cpus) (state_in n r.state)) → DecidedTracks n c k g (o M.cpus (state_of k M))
  of_machine o t = subst (λ (s : model.State). DecidedTracks n c k g (o M.cpus s)) (l.state M e f) (subst (λ (ps : List Cpu). DecidedTracks n c k g (o ps (state_in n r.state))) (l.all M e f) t)

  pub by_tick_is : d ≡ Tick → DecidedTracks n c k g (tick_of k time (cpus_in c r.cpus) (state_in n r.state)) → DecidedTracks n c k g (outcome_before (call_of d) k time M)
  by_tick_is h t = rw h (subst (DecidedTracks n c k g) (tick_is k time M) (of_machine (tick_of k time) t))

  pub by_switch_is : d ≡ Switch → DecidedTracks n c k g (switch_inner k time (cpus_in c r.cpus) (state_in n r.state)) → DecidedTracks n c k g (outcome_before (call_of d) k time M)
  by_switch_is h t = rw h (subst (DecidedTracks n c k g) (switch_is k time M) (of_machine (switch_inner k time) t))

  pub by_direct_is : (x : ℕ) → d ≡ DirectSwitchTo x → DecidedTracks n c k g (direct_switch_of k time x (cpus_in c r.cpus) (state_in n r.state)) → DecidedTracks n c k g (outcome_before (call_of d) k time M)
  by_direct_is x h t = rw h (subst (DecidedTracks n c k g) (direct_is k time x M) (of_machine (direct_switch_of k time x) t))

-- Operations 1 to 3 from `switch_inner`. Assumes nothing.
use Rattle.std.specs.Prelude.{if◌then◌else◌, Option}
use mathlib.Core.Path.{◌≡◌, refl, sym, ap, ◌∙◌, subst}
use mathlib.Core.Logic.{◌≢◌}
use mathlib.Core.Bool.{Bool, true, false}
use mathlib.Core.List.{List}
use Prim.Native.Nat.{ℕ, ◌+◌, ◌<◌, ◌≤◌}
use native.Mathlib.Omega.{arith}
use lib.Dec.{ltb, eqb}
use borrow.Author.Tests.{eq-eqb, ne_eqb, lt-ltb, le-ltb}
use Rattle.runnable.specs.Runnable.{update_runnable}
use Rattle.percpu.specs.declared.PercpuBlock.{PercpuBlock}
use Rattle.percpu.specs.Cpu.{Cpu}
use Rattle.percpu.specs.With.{block_pit_ticks, cpu_block, cpu_pit_ticks}
use Rattle.machine.specs.Machine.{Machine, cpu_at}
use Rattle.machine.specs.Encode.{encode}
use Rattle.machine.specs.Shape.{Fits, Image}
use Rattle.machine.specs.Outcome.{Outcome}
use Rattle.model.specs.State.{State, state_of, at, on_cpu}
use Rattle.model.specs.Turn.{count_switch, elapsed}
use Rattle.model.specs.SwitchTo.{direct_switch_by}
use Rattle.model.specs.Schedule.{finish, switch_inner, ticked, tick, switch, direct_switch_or, direct_switch_to}
use Rattle.stages.specs.Stage.{put_state, Stage, StateBelow, Ranged}
use Rattle.stages.specs.Read.{BlockFits}
use Rattle.stages.proofs.Compose.{state_put}
use Rattle.stages.proofs.Kept.{context_more, cpu_more}
use Rattle.stages.proofs.Reading.{unchanged}
use Rattle.turn.proofs.Bounded.{count_below}
use Rattle.schedule.specs.Begun.{CanBegin}
use Rattle.schedule.specs.Decides.{Told, undecided, Decides, Ends}
use Rattle.schedule.proofs.Start.{put_below}
use Rattle.schedule.proofs.Ending.{stage_ends, stage_end, ends_as, ends_decides}
use Rattle.schedule.proofs.Inner.{Directs, current_is, direct_made, direct_full, direct_not}
use Rattle.numbers.specs.Limits.{max_number, max_elapsed}
use Rattle.stages.specs.Bounds.{t_counted}

abbrev pub InTime : (c n k time : ℕ) → List ℕ → Type 0
InTime c n k time m = (M : Machine) → m ≡ encode M → Fits c n M → elapsed time (cpu_at M k) ≤ max_elapsed

pub can_begin : {c n k : ℕ} {m : List ℕ} (time : ℕ) → k < c → Ranged c n max_number max_number m → InTime c n k time m → CanBegin c n k time m
can_begin {k = k} time h r l =
    record {
      M = r.M;
      eq = r.eq;
      fits = r.fits;
      below = record { context = λ x i. context_more (omega arith) (omega arith) (r.below.context x i); cpu = λ j i. cpu_more (omega arith) (omega arith) (r.below.cpu j i) };
      counted = count_below (state_of k r.M) (record { context = r.below.context; cpu = r.below.cpu k h });
      in_time = l r.M r.eq r.fits;
    }

-- the tick: b was loaded
pub pit_below : {c n t u : ℕ} {m : List ℕ} (k : ℕ) (b : PercpuBlock) → Ranged c n t u m → k < c → ((M : Machine) → m ≡ encode M → Fits c n M → b ≡ (cpu_at M k).block) → b.pit_ticks ≤ t
pit_below k b r h f = rw (f r.M r.eq r.fits) (r.below.cpu k h).pit_ticks

pub ticked_as : (p : Cpu) (b : PercpuBlock) → b ≡ p.block → cpu_block (block_pit_ticks (b.pit_ticks + 1) b) p ≡ cpu_pit_ticks (p.block.pit_ticks + 1) p
ticked_as p b e = rw e

pub ticked_fits : {n : ℕ} (b : PercpuBlock) (t : ℕ) → BlockFits n b → BlockFits n (block_pit_ticks t b)
ticked_fits b t o = record { current = o.current; sched = o.sched; idle = o.idle }

ticked_below : {n t b : ℕ} (s : State) → StateBelow n t b s → StateBelow n (t + 1) b (ticked s)
ticked_below {n} {t} {b} s o =
    let u = cpu_more {t = t} {b = b} {t' = t + 1} {b' = b} (omega arith) (omega arith) o.cpu
    in record {
      context = λ x l. context_more (omega arith) (omega arith) (o.context x l);
      cpu = record {
        schedule_time = u.schedule_time;
        pit_ticks = omega (arith, o.cpu.pit_ticks);
        user = u.user;
        kernel = u.kernel;
        idle = u.idle;
        context_switches = u.context_switches;
        syscall_switches = u.syscall_switches;
        v = u.v;
        total_weight = u.total_weight;
        entry_vtime = u.entry_vtime;
        entry_vd = u.entry_vd;
        timer_wake = u.timer_wake;
      };
    }

module _ {c n k : ℕ} {m m' : List ℕ} {count : ℕ} (time : ℕ) (h : k < c) (t : Stage c n k m m' false count (λ (s : State). ticked s) (λ (s : State). s.cpu.block.pit_ticks + 1)) where
  -- a switch counts the same whether the tick was counted before it or not
  pub ticked_begin : Ranged c n max_number max_number m → InTime c n k time m → CanBegin c n k time m'
  ticked_begin r l =
      let a = t.stage r.M r.eq r.fits
      in let s = state_of k r.M
      in let o : StateBelow n max_number max_number s = record { context = r.below.context; cpu = r.below.cpu k h }
      in let z : state_of k (put_state k (ticked s) r.M) ≡ ticked s = state_put k (ticked s) r.M (omega (arith, r.fits.cpus)) refl
      in record {
        M = put_state k (ticked s) r.M;
        eq = a.after refl;
        fits = a.fits refl;
        below = put_below t_counted max_number (omega arith) (omega arith) k (ticked s) r.M (ticked_below s o) r.below;
        counted = subst (λ (x : State). StateBelow n t_counted max_number (on_cpu count_switch x)) (sym z) (count_below s o);
        in_time = subst (λ (x : State). elapsed time x.cpu ≤ max_elapsed) (sym z) (l r.M r.eq r.fits);
      }

  count_is : (v : Bool) → ltb count 3 ≡ v → (M : Machine) → m ≡ encode M → Fits c n M → ltb ((cpu_at M k).block.pit_ticks + 1) 3 ≡ v
  count_is v e M z o = subst (λ (x : ℕ). ltb x 3 ≡ v) ((t.stage M z o).answer refl) e

  pub tick_early : count < 3 → Decides c n m m' false (undecided 0) (λ (M : Machine). tick k time M)
  unfolding tick
  tick_early l =
      let e = lt-ltb count 3 l
      in ends_decides
      (ends_as {f' = λ (cpus : List Cpu) (s : State). if ltb (s.cpu.block.pit_ticks + 1) 3 then finish k cpus 0 (ticked s) else switch_inner k time cpus (ticked s)} (stage_end 0 t)
      (λ M z o cpus. rw (count_is true e M z o)))

  pub tick_due : {m'' : List ℕ} {full : Bool} {r : Told} → 3 ≤ count → Ends c n k m' m'' full r (λ (cpus : List Cpu) (s : State). switch_inner k time cpus s) → Decides c n m m'' full r (λ (M : Machine). tick k time M)
  unfolding tick
  tick_due l u =
      let e = le-ltb count 3 l
      in ends_decides
      (ends_as {f' = λ (cpus : List Cpu) (s : State). if ltb (s.cpu.block.pit_ticks + 1) 3 then finish k cpus 0 (ticked s) else switch_inner k time cpus (ticked s)} (stage_ends h t u)
      (λ M z o cpus. rw (count_is false e M z o)))

pub switch_decides : {c n k : ℕ} {m m' : List ℕ} {full : Bool} {r : Told} (time : ℕ) → Ends c n k m m' full r (λ (cpus : List Cpu) (s : State). switch_inner k time cpus s) → Decides c n m m' full r (λ (M : Machine). switch k time M)
unfolding switch
switch_decides time u = ends_decides u

-- the direct switch to x, and the call
abbrev pub direct : (k time x : ℕ) (own : Bool) → State → Option State
direct k time x own s = direct_switch_by k time x s (update_runnable k time own false (at s x))

abbrev call : (k time x : ℕ) → List Cpu → State → Outcome
call k time x cpus s =
    if eqb s.cpu.block.current_ctxt x then finish k cpus 1 s else direct_switch_or k time cpus s (direct k time x (eqb s.cpu.block.sched_ctxt x) s)

-- b was loaded
module _ {c n : ℕ} {m : List ℕ} (k time x : ℕ) (b : PercpuBlock) (hb : (M : Machine) → m ≡ encode M → Fits c n M → b ≡ (cpu_at M k).block) where
  pub direct_current : b.current_ctxt ≡ x → Image c n m → Decides c n m m false (undecided 1) (λ (M : Machine). direct_switch_to k time x M)
  unfolding direct_switch_to
  direct_current z i =
      ends_decides (ends_as {f' = call k time x} (stage_end 1 (unchanged k (λ (s : State). s) i (λ M e o. refl))) (λ M e o cpus. rw (current_is k time x b hb true (eq-eqb _ _ z) M e o)))

  -- own: x is in charge
  module _ (own : Bool) (ho : own ≡ eqb b.sched_ctxt x) (z : b.current_ctxt ≢ x) where
    called : (M : Machine) → m ≡ encode M → Fits c n M → (cpus : List Cpu) → direct_switch_or k time cpus (state_of k M) (direct k time x own (state_of k M)) ≡ call k time x cpus (state_of k M)
    called M e o cpus =
        let y : own ≡ eqb (cpu_at M k).block.sched_ctxt x = ho ∙ ap (λ (p : PercpuBlock). eqb p.sched_ctxt x) (hb M e o)
        in rw (current_is k time x b hb false (ne_eqb _ _ z) M e o) (ap (λ (v : Bool). direct_switch_or k time cpus (state_of k M) (direct k time x v (state_of k M))) y)

    pub directly : {m' : List ℕ} → Directs c n k m m' false true (direct k time x own) → Decides c n m m' false (undecided 1) (λ (M : Machine). direct_switch_to k time x M)
    unfolding direct_switch_to direct_switch_or
    directly t = ends_decides (ends_as {f' = call k time x} (direct_made k (direct k time x own) (direct_switch_or k time) (λ cpus s y. refl) t) called)

    pub directly_full : {m' : List ℕ} {q : Bool} {r : Told} → Directs c n k m m' true q (direct k time x own) → Decides c n m m' true r (λ (M : Machine). direct_switch_to k time x M)
    unfolding direct_switch_to direct_switch_or
    directly_full t = ends_decides (ends_as {f' = call k time x} (direct_full k (direct k time x own) (direct_switch_or k time) (λ cpus s y. refl) t) called)

    pub not_directly : {m' m'' : List ℕ} {full : Bool} {r : Told} → Directs c n k m m' false false (direct k time x own) → Image c n m → Ends c n k m' m'' full r (λ (cpus : List Cpu) (s : State). switch_inner k time cpus s)
        → Decides c n m m'' full r (λ (M : Machine). direct_switch_to k time x M)
    unfolding direct_switch_to direct_switch_or
    not_directly t i u =
        ends_decides
        (ends_as {f' = call k time x} (direct_not k (direct k time x own) (direct_switch_or k time) (λ cpus s y. refl) (λ (cpus : List Cpu) (s : State). switch_inner k time cpus s) (λ cpus s. refl) t i u) called)

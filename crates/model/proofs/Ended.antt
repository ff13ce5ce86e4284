-- The slice changes hands and the CPU switches: what that writes, and what it leaves alone.
use Rattle.std.specs.Prelude.{if◌then◌else◌, None, Some}
use mathlib.Core.Path.{◌≡◌, refl, ap, ◌∙◌}
use mathlib.Core.Bool.{Bool, true, false, not, ◌&&◌}
use mathlib.Core.List.{List}
use mathlib.Core.Logic.{◌≢◌}
use Prim.Native.Nat.{ℕ, ◌+◌, ◌-◌, ◌<◌}
use lib.Dec.{eqb}
use lib.ListN.{length, set, length-set}
use lib.Seq.{get_or-set_same, get_or-set_other}
use Rattle.answer.specs.declared.Rule.{Rule}
use Rattle.context.specs.declared.Context.{Context}
use Rattle.context.specs.declared.Status.{Status}
use Rattle.context.specs.Status.{is_runnable}
use Rattle.context.specs.With.{
  with_running,
  with_cpu_id,
  with_switch_time,
  with_active_cpu_time,
  with_inside_syscall,
  with_currently_scheduled,
  with_sched_cpu_time,
}
use Rattle.entries.specs.declared.Entry.{Entry}
use Rattle.cpu_stats.specs.declared.CpuState.TheVariants.{Idle}
use Rattle.cpu_stats.specs.With.{stats_state}
use Rattle.percpu.specs.Cpu.{Cpu}
use Rattle.percpu.specs.With.{cpu_stats}
use Rattle.machine.specs.Machine.{Machine, context_at, no_context}
use Rattle.model.specs.State.{State, at, on_cpu, holder}
use Rattle.model.specs.SwitchTo.{saved, left, comes, switch_to}
use Rattle.model.specs.Schedule.{picked_as, switch_as, after_schedule}
use Rattle.model.proofs.Cases.{pick}
use Rattle.model.proofs.Queues.{Run, run, set_view}
use Rattle.model.specs.Handover.{hand_over}

-- a view: what tidy, demand 3 and the total weight read of a record, but for the scheduled mark
pub record Lasting : Type 0 where
  pub runs : Run
  pub gone : Bool
  pub debug_id : ℕ
  pub userspace : Bool
  pub status : Status
  pub is_active : Bool
  pub prio : ℕ

abbrev pub lasting : Context → Lasting
lasting c = record { runs = run c; gone = c.gone; debug_id = c.debug_id; userspace = c.userspace; status = c.status; is_active = c.is_active; prio = c.prio }

-- a view: what they read of a CPU, but for who is in charge
pub record Standing : Type 0 where
  pub present : Bool
  pub idle : ℕ
  pub v : ℕ
  pub total_weight : ℕ
  pub queue : List Entry

abbrev pub standing : Cpu → Standing
standing p =
    record { present = p.block.present; idle = p.block.idle_ctxt; v = p.block.v; total_weight = p.block.total_weight; queue = p.queue }

module _ (k time : ℕ) where
  saved_contexts : (s : State) → (saved k time s).contexts ≡ s.contexts
  saved_contexts s =
      pick (λ (z : State). z.contexts ≡ s.contexts)
      (not (eqb s.cpu.block.sched_ctxt s.cpu.block.current_ctxt) && not (at s s.cpu.block.current_ctxt).has_queue_key && is_runnable (at s s.cpu.block.current_ctxt).status)
      (λ t. refl) (λ t. refl)

  -- a view that a switch leaves alone
  pub switch_view : {B : Type 0} (f : Context → B) → ((b : Bool) (i : Bool) (t : ℕ) (c : Context) → f (with_running b (with_inside_syscall i (with_active_cpu_time t c))) ≡ f c)
      → ((n t : ℕ) (c : Context) → f (with_running true (with_cpu_id n (with_switch_time t c))) ≡ f c) → (x : ℕ) (s : State) (y : ℕ)
      → f (at (switch_to k time x s) y) ≡ f (at s y)
  unfolding switch_to
  switch_view f p q x s y =
      set_view f (set u.contexts cur (left k time u.cpu (at u cur))) x
      (comes k time (context_at (set u.contexts cur (left k time u.cpu (at u cur))) x))
      (q (k + 1) time (context_at (set u.contexts cur (left k time u.cpu (at u cur))) x)) y
      ∙ set_view f u.contexts cur (left k time u.cpu (at u cur)) (p false _ _ (at u cur)) y
      ∙ ap (λ cs. f (context_at cs y)) (saved_contexts s)
    where
      u : State
      u = saved k time s

      cur : ℕ
      cur = (saved k time s).cpu.block.current_ctxt

  pub switch_count : (x : ℕ) (s : State) → length (switch_to k time x s).contexts ≡ length s.contexts
  unfolding switch_to
  switch_count x s = simp length-set (ap length (saved_contexts s))

  pub switch_standing : (x : ℕ) (s : State) → standing (switch_to k time x s).cpu ≡ standing s.cpu
  unfolding switch_to
  switch_standing x s =
      pick (λ (z : State). standing z.cpu ≡ standing s.cpu)
      (not (eqb s.cpu.block.sched_ctxt s.cpu.block.current_ctxt) && not (at s s.cpu.block.current_ctxt).has_queue_key && is_runnable (at s s.cpu.block.current_ctxt).status)
      (λ t. refl) (λ t. refl)

  pub switch_sched : (x : ℕ) (s : State) → (switch_to k time x s).cpu.block.sched_ctxt ≡ s.cpu.block.sched_ctxt
  unfolding switch_to
  switch_sched x s =
      pick (λ (z : State). z.cpu.block.sched_ctxt ≡ s.cpu.block.sched_ctxt)
      (not (eqb s.cpu.block.sched_ctxt s.cpu.block.current_ctxt) && not (at s s.cpu.block.current_ctxt).has_queue_key && is_runnable (at s s.cpu.block.current_ctxt).status)
      (λ t. refl) (λ t. refl)

  -- from state s before the slice changes hands to e after the switch: c is in charge
  pub record Ends (s : State) (c : ℕ) (e : State) : Type 0 where
    pub count : length e.contexts ≡ length s.contexts
    pub lasts : (y : ℕ) → lasting (at e y) ≡ lasting (at s y)
    pub stands : standing e.cpu ≡ standing s.cpu
    pub in_charge : e.cpu.block.sched_ctxt ≡ c
    pub scheduled : (at e c).currently_scheduled ≡ true
    pub left_slice : s.cpu.block.sched_ctxt ≢ c → (at e s.cpu.block.sched_ctxt).currently_scheduled ≡ false
    pub others : (y : ℕ) → y ≢ c → y ≢ s.cpu.block.sched_ctxt → (at e y).currently_scheduled ≡ (at s y).currently_scheduled

  hand_over_ends : (was : Bool) (x : ℕ) (s : State) → x < length s.contexts → s.cpu.block.sched_ctxt < length s.contexts → Ends s x (hand_over time was x s)
  unfolding hand_over
  hand_over_ends was x s r q =
      record {
        count = simp length-set;
        lasts = λ y. set_view lasting cs₁ x _ refl y ∙ set_view lasting s.contexts h d refl y;
        stands = refl;
        in_charge = refl;
        scheduled = ap (λ (c : Context). c.currently_scheduled) (get_or-set_same cs₁ x _ no_context r₁);
        left_slice = λ m.
            ap (λ (c : Context). c.currently_scheduled) (get_or-set_other cs₁ x h _ no_context m ∙ get_or-set_same s.contexts h d no_context q);
        others = λ y m o.
            ap (λ (c : Context). c.currently_scheduled) (get_or-set_other cs₁ x y _ no_context m ∙ get_or-set_other s.contexts h y d no_context o);
      }
    where
      h : ℕ
      h = s.cpu.block.sched_ctxt

      d : Context
      d =
          with_currently_scheduled false
          (with_sched_cpu_time
          (if was then (holder s).sched_cpu_time else (holder s).sched_cpu_time + (time - (holder s).schedule_time)) (holder s))

      cs₁ : List Context
      cs₁ = set s.contexts s.cpu.block.sched_ctxt d

      r₁ : x < length (set s.contexts s.cpu.block.sched_ctxt d)
      r₁ = rw (length-set s.contexts s.cpu.block.sched_ctxt d) r

  switch_ends : (x c : ℕ) (s u : State) → Ends s c u → Ends s c (switch_to k time x u)
  switch_ends x c s u n =
      record {
        count = switch_count x u ∙ n.count;
        lasts = λ y. switch_view lasting (λ b i t d. refl) (λ m t d. refl) x u y ∙ n.lasts y;
        stands = switch_standing x u ∙ n.stands;
        in_charge = switch_sched x u ∙ n.in_charge;
        scheduled = marks c ∙ n.scheduled;
        left_slice = λ m. marks s.cpu.block.sched_ctxt ∙ n.left_slice m;
        others = λ y m o. marks y ∙ n.others y m o;
      }
    where
      marks : (y : ℕ) → (at (switch_to k time x u) y).currently_scheduled ≡ (at u y).currently_scheduled
      marks = switch_view (λ (d : Context). d.currently_scheduled) (λ b i t d. refl) (λ m t d. refl) x u

  -- the machine after the call
  pub record Finished (s : State) (c : ℕ) (cpus : List Cpu) (M' : Machine) : Type 0 where
    pub state : State
    pub ends : Ends s c state
    pub contexts : M'.contexts ≡ state.contexts
    pub cpus_are : M'.cpus ≡ set cpus k state.cpu

  pub finished_none : (was : Bool) (rule : Rule) (cpus : List Cpu) (s : State) → (at s s.cpu.block.sched_ctxt).currently_scheduled ≡ true
      → Finished s s.cpu.block.sched_ctxt cpus (after_schedule k time (picked_as time was rule cpus None s)).machine
  unfolding after_schedule picked_as switch_as
  finished_none was rule cpus s t =
      record {
        state = on_cpu (λ p. cpu_stats (stats_state Idle p.block.stats) p) s;
        ends = record {
          count = refl;
          lasts = λ y. refl;
          stands = refl;
          in_charge = refl;
          scheduled = t;
          left_slice = λ m. absurd (m refl);
          others = λ y m o. refl;
        };
        contexts = refl;
        cpus_are = refl;
      }

  pub finished_some : (was : Bool) (rule : Rule) (cpus : List Cpu) (x : ℕ) (s : State) → x < length s.contexts → s.cpu.block.sched_ctxt < length s.contexts
      → Finished s x cpus (after_schedule k time (picked_as time was rule cpus (Some x) s)).machine
  unfolding after_schedule picked_as switch_as
  finished_some was rule cpus x s r q =
      record {
        state = if eqb (hand_over time was x s).cpu.block.current_ctxt x then hand_over time was x s else switch_to k time x (hand_over time was x s);
        ends = pick (Ends s x) (eqb (hand_over time was x s).cpu.block.current_ctxt x) (λ t. hand_over_ends was x s r q)
            (λ t. switch_ends x x s (hand_over time was x s) (hand_over_ends was x s r q));
        contexts = refl;
        cpus_are = refl;
      }

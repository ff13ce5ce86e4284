-- The scan keeps the bounds of what grows. Assumes nothing.
use Rattle.std.specs.Prelude.{if◌then◌else◌, None, Option, Some, is_some}
use mathlib.Core.Bool.{Bool, true, false, not, ◌&&◌, ◌||◌}
use mathlib.Core.List.{List}
use Prim.Native.Nat.{ℕ, ◌<◌, ◌≤◌}
use native.Mathlib.Omega.{arith}
use lib.Dec.{ltb, eqb}
use lib.ListN.{set}
use lib.Seq.{get_or-set_other}
use borrow.Author.Tests.{ltb-true, ltb-false}
use Rattle.columns.specs.Common.{All}
use Rattle.columns.proofs.Tests.{by_test}
use Rattle.context.specs.declared.Context.{Context}
use Rattle.context.specs.Status.{is_runnable}
use Rattle.cpu_set.specs.Set.{contains}
use Rattle.entries.specs.declared.Entry.{Entry}
use Rattle.runnable.specs.declared.UpdateResult.{UpdateResult}
use Rattle.runnable.specs.declared.UpdateResult.TheVariants.{CanSwitch, Skip, Blocked}
use Rattle.runnable.specs.Runnable.{update_runnable, wake_has_come}
use Rattle.percpu.specs.Cpu.{Cpu}
use Rattle.machine.specs.Machine.{context_at, no_context}
use Rattle.machine.proofs.Steps.{get_d_set}
use Rattle.model.specs.Scan.{Scan, Visit, pass, gone, blocked, no_addr_space, ready, above, below, is_of, ineligible_min_vtime, is_eligible, by_update, judge, visit, visited, scan_step, scan_start, scan}
use Rattle.model.proofs.Lists.{all_at, fold_keeps_in}
use Rattle.stages.specs.Stage.{ContextBelow}
use Rattle.context.specs.Key.{without_key}

-- what holds of both arms holds of the choice
pub pick : {A : Type 0} {x y : A} (P : A → Type 0) (b : Bool) → P x → P y → P (if b then x else y)
pick P true f g = f
pick P false f g = g

module _ (n t b : ℕ) where
  -- the contexts below n
  abbrev pub Kept : List Context → Type 0
  Kept cs = (y : ℕ) → y < n → ContextBelow t b (context_at cs y)

  -- a record stored, below n or not
  pub set_kept : (cs : List Context) (x : ℕ) (q : Context) → (x < n → ContextBelow t b q) → Kept cs → Kept (set cs x q)
  set_kept cs x q f h y l =
      by_test (ltb x n) (λ e. get_d_set cs x y q no_context (ContextBelow t b) (f (ltb-true x n e)) (h y l))
      (λ e. let z : n ≤ x = ltb-false x n e in rw (get_or-set_other cs x y q no_context (λ w. omega arith)) (h y l))

  abbrev UpdateBelow : UpdateResult → Type 0
  UpdateBelow Skip = Unit {0}
  UpdateBelow Blocked = Unit {0}
  UpdateBelow (CanSwitch q) = ContextBelow t b q

  abbrev VisitBelow : Visit → Type 0
  VisitBelow pass = Unit {0}
  VisitBelow gone = Unit {0}
  VisitBelow (blocked q) = ContextBelow t b q
  VisitBelow (no_addr_space q) = ContextBelow t b q
  VisitBelow (ready q) = ContextBelow t b q

  below_update : (k time : ℕ) (s r : Bool) (q : Context) → ContextBelow t b q → UpdateBelow (update_runnable k time s r q)
  unfolding update_runnable
  below_update k time s r q o =
      pick UpdateBelow (q.running && not r) tt
      (pick UpdateBelow (q.currently_scheduled && not s) tt
      (pick UpdateBelow (not (contains q.sched_affinity k)) tt
      (pick UpdateBelow (wake_has_come time q)
      (record {
        schedule_time = o.schedule_time;
        switch_time = o.switch_time;
        active_cpu_time = o.active_cpu_time;
        sched_cpu_time = o.sched_cpu_time;
        wake = omega arith;
        vtime = o.vtime;
        vd = o.vd;
        key_vd = o.key_vd;
      })
      (pick UpdateBelow (is_runnable q.status) o tt))))

  -- no key is left
  pub unkeyed : (q : Context) → ContextBelow t b q → ContextBelow t b (without_key q)
  unkeyed q o =
      record {
        schedule_time = o.schedule_time;
        switch_time = o.switch_time;
        active_cpu_time = o.active_cpu_time;
        sched_cpu_time = o.sched_cpu_time;
        wake = o.wake;
        vtime = o.vtime;
        vd = o.vd;
        key_vd = omega arith;
      }

  below_by : (q : Context) (u : UpdateResult) → ContextBelow t b q → UpdateBelow u → VisitBelow (by_update q u)
  below_by q Skip o f = tt
  below_by q Blocked o f =
      record {
        schedule_time = o.schedule_time;
        switch_time = o.switch_time;
        active_cpu_time = o.active_cpu_time;
        sched_cpu_time = o.sched_cpu_time;
        wake = o.wake;
        vtime = o.vtime;
        vd = o.vd;
        key_vd = omega arith;
      }
  below_by q (CanSwitch a) o f = pick VisitBelow (eqb q.addr_space 2) f f

  below_judge : (k time : ℕ) (p : Cpu) (q : Context) (e : Entry) → ContextBelow t b q → VisitBelow (judge k time p q e)
  unfolding judge
  below_judge k time p q e o =
      pick VisitBelow q.gone tt
      (pick VisitBelow (eqb e.context_ref p.block.idle_ctxt || eqb e.context_ref p.block.sched_ctxt) tt
      (pick VisitBelow (not (eqb q.lock 0)) tt
      (below_by q (update_runnable k time false (eqb e.context_ref p.block.current_ctxt) q) o
      (below_update k time false (eqb e.context_ref p.block.current_ctxt) q o))))

  below_visit : (k time : ℕ) (p : Cpu) (h : Option ℕ) (s : Scan) (e : Entry) → ContextBelow t b (context_at s.contexts e.context_ref) → VisitBelow (visit k time p h s e)
  unfolding visit
  below_visit k time p h s e o =
      pick VisitBelow (above (ineligible_min_vtime s.ineligible_best h) e.vtime && not (is_eligible p e)) tt
      (pick VisitBelow (is_of s.ineligible_best e.context_ref && not (context_at s.contexts e.context_ref).gone) tt
      (below_judge k time p (context_at s.contexts e.context_ref) e o))

  abbrev pub LateBelow : Option Entry → Type 0
  LateBelow None = Unit {0}
  LateBelow (Some e) = e.vtime ≤ b

  -- what the scan keeps
  abbrev pub ScanBelow : Scan → Type 0
  ScanBelow s = Kept s.contexts × LateBelow s.ineligible_best

  module _ (k time : ℕ) (p : Cpu) (h : Option ℕ) where
    below_visited : (s : Scan) (e : Entry) (v : Visit) → e.vtime ≤ b → (e.context_ref < n → VisitBelow v) → ScanBelow s → ScanBelow (visited k time p h s e v)
    unfolding visited
    below_visited s e pass l f o = o
    below_visited s e gone l f o = o
    below_visited s e (blocked q) l f o = (set_kept s.contexts e.context_ref q f o.0, o.1)
    below_visited s e (no_addr_space q) l f o = (set_kept s.contexts e.context_ref q f o.0, o.1)
    below_visited s e (ready q) l f o = (
      set_kept s.contexts e.context_ref q f o.0,
      pick LateBelow (is_eligible p e) o.1 (pick LateBelow (below (ineligible_min_vtime s.ineligible_best h) e.vtime) l o.1),
    )

    below_step : (s : Scan) (e : Entry) → e.vtime ≤ b → ScanBelow s → ScanBelow (scan_step k time p h s e)
    unfolding scan_step
    below_step s e l o =
        pick ScanBelow (is_some s.eligible_best) o
        (below_visited s e (visit k time p h s e) l (λ z. below_visit k time p h s e (o.0 e.context_ref z)) o)

    pub below_scan : (cs : List Context) (q : List Entry) → Kept cs → All (λ (e : Entry). e.vtime ≤ b) q → ScanBelow (scan k time p h cs q)
    unfolding scan
    below_scan cs q o a =
        fold_keeps_in ScanBelow (scan_step k time p h) q (λ s e i z. below_step s e (all_at (λ (e : Entry). e.vtime ≤ b) q a e i) z) (scan_start k time p h cs) (o, tt)

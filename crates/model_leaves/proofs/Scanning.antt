-- The scan keeps a machine well-formed, and what it finds best is of a live context. Assumes nothing.
use Rattle.std.specs.Prelude.{None, Option, Some, is_some}
use mathlib.Core.Path.{◌≡◌, refl, sym, ap, ◌∙◌}
use mathlib.Core.Bool.{Bool, false, not, ◌&&◌, ◌||◌}
use mathlib.Core.List.{List}
use Prim.Native.Nat.{ℕ, ◌<◌}
use native.Mathlib.Omega.{arith}
use lib.Dec.{eqb}
use lib.ListN.{length, set, length-set}
use Rattle.context.specs.declared.Context.{Context}
use Rattle.context.specs.Status.{is_runnable}
use Rattle.context.specs.Block.{woken}
use Rattle.cpu_set.specs.Set.{contains}
use Rattle.entries.specs.declared.Entry.{Entry}
use Rattle.runnable.specs.declared.UpdateResult.{UpdateResult}
use Rattle.runnable.specs.declared.UpdateResult.TheVariants.{CanSwitch, Skip, Blocked}
use Rattle.runnable.specs.Runnable.{update_runnable, wake_has_come}
use Rattle.percpu.specs.Cpu.{Cpu}
use Rattle.machine.specs.Machine.{context_at}
use Rattle.model.specs.State.{State}
use Rattle.model.specs.Scan.{
  Scan,
  Visit,
  pass,
  gone,
  blocked,
  no_addr_space,
  ready,
  above,
  below,
  is_of,
  ineligible_min_vtime,
  by_update,
  is_eligible,
  judge,
  visit,
  visited,
  scan_step,
  scan_start,
  scan,
}
use Rattle.model.specs.Choice.{ineligible_holder}
use Rattle.model.specs.Schedule.{scanned}
use Rattle.model.proofs.Cases.{pick}
use Rattle.model.proofs.Lists.{all_at, fold_keeps_in}
use Rattle.model.proofs.Judged.{put_to_sleep}
use Rattle.model_leaves.proofs.WellFormed.{Fixed, fixed, changing, ChangingFormed, LiveName, EntryFormed}
use Rattle.model_leaves.proofs.Kept.{KeptState, Contexts, set_kept}
use Rattle.model_leaves.proofs.Waking.{woken_formed}

-- d: the record of q, woken if need be
pub record Updated (c : ℕ) (q d : Context) : Type 0 where
  pub same : fixed d ≡ fixed q
  pub formed : ChangingFormed c (changing q) → ChangingFormed c (changing d)

pub update_cases : (c k time : ℕ) (a b : Bool) (q : Context) (P : UpdateResult → Type 0) → P Skip → P Blocked → ((d : Context) → Updated c q d → P (CanSwitch d))
    → P (update_runnable k time a b q)
unfolding update_runnable
update_cases c k time a b q P s l g =
    pick P (q.running && not b) (λ t. s)
    (λ t. pick P (q.currently_scheduled && not a) (λ t. s)
    (λ t. pick P (not (contains q.sched_affinity k)) (λ t. s)
    (λ t. pick P (wake_has_come time q) (λ t. g (woken q) (record { same = refl; formed = woken_formed q }))
    (λ t. pick P (is_runnable q.status) (λ t. g q (record { same = refl; formed = λ z. z })) (λ t. l)))))

asleep : {c : ℕ} (q : Context) → ChangingFormed c (changing q) → ChangingFormed c (changing (put_to_sleep q))
asleep q o =
    record {
      cpu_id = o.cpu_id;
      schedule_time = o.schedule_time;
      switch_time = o.switch_time;
      wake = o.wake;
      no_wake = o.no_wake;
      rem_slice = omega arith;
      key_rem_slice = omega arith;
      no_key = λ z. (refl, refl);
    }

module _ (c n : ℕ) (cs₀ : List Context) where
  abbrev Good : State → Type 0
  Good s = KeptState c n cs₀ s

  -- an entry that was found is of a live context
  abbrev pub BestFormed : Option Entry → Type 0
  BestFormed None = Unit {0}
  BestFormed (Some e) = LiveName n cs₀ e.context_ref

  pub record ScanKept (f : Scan) : Type 0 where
    pub count : length f.contexts ≡ n
    pub context : Contexts c n cs₀ f.contexts
    pub best : BestFormed f.eligible_best
    pub late : BestFormed f.ineligible_best

  module _ (k time : ℕ) (p : Cpu) (h : Option ℕ) (f : Scan) (e : Entry) (o : ScanKept f) (l : e.context_ref < n) where
    abbrev x : ℕ
    x = e.context_ref

    abbrev q : Context
    q = context_at f.contexts x

    abbrev Visits : Visit → Type 0
    Visits v = ScanKept (visited k time p h f e v)

    named : q.gone ≡ false → LiveName n cs₀ x
    named z = record { below = l; live = sym (ap (λ (y : Fixed). y.gone) (o.context x l).same) ∙ z }

    counted : (d : Context) → length (set f.contexts x d) ≡ n
    counted d = length-set f.contexts x d ∙ o.count

    becomes : (d : Context) → LiveName n cs₀ x → Updated c q d → Contexts c n cs₀ (set f.contexts x d)
    becomes d a u = set_kept c n cs₀ f.contexts x d o.count o.context a u.same u.formed

    visits_ready : (d : Context) → LiveName n cs₀ x → Updated c q d → Visits (ready d)
    unfolding visited
    visits_ready d a u =
        record {
          count = counted d;
          context = becomes d a u;
          best = pick BestFormed (is_eligible p e) (λ z. a) (λ z. o.best);
          late = pick BestFormed (is_eligible p e) (λ z. o.late)
              (λ z. pick BestFormed (below (ineligible_min_vtime f.ineligible_best h) e.vtime) (λ y. a) (λ y. o.late));
        }

    visits_changed : (d : Context) → LiveName n cs₀ x → Updated c q d → Visits (no_addr_space d)
    unfolding visited
    visits_changed d a u = record { count = counted d; context = becomes d a u; best = o.best; late = o.late }

    visits_blocked : LiveName n cs₀ x → Visits (blocked (put_to_sleep q))
    unfolding visited
    visits_blocked a =
        record { count = counted (put_to_sleep q); context = becomes (put_to_sleep q) a (record { same = refl; formed = asleep q }); best = o.best; late = o.late }

    visits_gone : Visits gone
    unfolding visited
    visits_gone = record { count = o.count; context = o.context; best = o.best; late = o.late }

    visits_pass : Visits pass
    unfolding visited
    visits_pass = o

    -- by what `update_runnable` says of a live context
    visits_updated : LiveName n cs₀ x → (b : Bool) → Visits (by_update q (update_runnable k time false b q))
    visits_updated a b =
        update_cases c k time false b q (λ (r : UpdateResult). Visits (by_update q r)) visits_pass (visits_blocked a)
        (λ d u. pick Visits (eqb q.addr_space 2) (λ z. visits_changed d a u) (λ z. visits_ready d a u))

    visits_judged : Visits (judge k time p q e)
    unfolding judge
    visits_judged =
        pick Visits q.gone (λ z. visits_gone)
        (λ g. pick Visits (eqb x p.block.idle_ctxt || eqb x p.block.sched_ctxt) (λ z. visits_pass)
        (λ z. pick Visits (not (eqb q.lock 0)) (λ z. visits_pass) (λ z. visits_updated (named g) (eqb x p.block.current_ctxt))))

    step_kept : ScanKept (scan_step k time p h f e)
    unfolding scan_step visit
    step_kept =
        pick ScanKept (is_some f.eligible_best) (λ z. o)
        (λ z. pick Visits (above (ineligible_min_vtime f.ineligible_best h) e.vtime && not (is_eligible p e)) (λ z. visits_pass)
        (λ z. pick Visits (is_of f.ineligible_best x && not q.gone) (λ z. visits_pass) (λ z. visits_judged)))

  pub scan_kept : (k time : ℕ) (s : State) → Good s → ScanKept (scanned k time s)
  unfolding scan
  scan_kept k time s o =
      fold_keeps_in ScanKept (scan_step k time s.cpu (ineligible_holder s)) s.cpu.queue
      (λ f e i g. step_kept k time s.cpu (ineligible_holder s) f e g (all_at (EntryFormed n cs₀) s.cpu.queue o.cpu.lists.queue.each e i).name)
      (scan_start k time s.cpu (ineligible_holder s) s.contexts)
      (record { count = o.count; context = o.context; best = tt; late = tt })

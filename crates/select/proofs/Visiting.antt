-- An entry as the scan meets it, from what the code's tests said. Assumes nothing.
use Rattle.std.specs.Prelude.{if◌then◌else◌, Option}
use mathlib.Core.Path.{◌≡◌, sym, ap, ◌∙◌, subst}
use mathlib.Core.Bool.{Bool, true, false, not, ◌&&◌, ◌||◌}
use mathlib.Core.List.{List}
use Prim.Native.Nat.{ℕ, ◌<◌}
use native.Mathlib.Omega.{arith}
use lib.Dec.{eqb}
use Rattle.columns.proofs.Tests.{and_no}
use Rattle.context.specs.declared.Context.{Context}
use Rattle.context.specs.Status.{is_runnable}
use Rattle.cpu_set.specs.Set.{contains}
use Rattle.entries.specs.declared.Entry.{Entry}
use Rattle.runnable.specs.declared.UpdateResult.{UpdateResult}
use Rattle.runnable.specs.declared.UpdateResult.TheVariants.{CanSwitch, Skip, Blocked}
use Rattle.runnable.specs.Runnable.{update_runnable, wake_has_come}
use Rattle.percpu.specs.Cpu.{Cpu}
use Rattle.machine.specs.Machine.{Machine, context_at}
use Rattle.machine.specs.Encode.{encode}
use Rattle.machine.specs.Shape.{ContextFits, Fits, Image}
use Rattle.model.specs.Scan.{Scan, Visit, pass, gone, above, is_of, ineligible_min_vtime, is_eligible, by_update, judge, visit}
use Rattle.select_judge.specs.declared.Scanner.{Scanner}
use Rattle.select_judge.specs.Values.{scanner_cpu}
use Rattle.select.specs.Scanning.{visit_by, seen, VisitFits}
use Rattle.select_judge.proofs.Judging.{other}

-- e is met by a scan s over the contexts of M
module _ (k time : ℕ) (p : Cpu) (h : Option ℕ) (s : Scan) (e : Entry) where
  abbrev x : ℕ
  x = e.context_ref

  abbrev late : Bool
  late = above (ineligible_min_vtime s.ineligible_best h) e.vtime && not (is_eligible p e)

  abbrev held : Bool
  held = is_of s.ineligible_best x && not (context_at s.contexts x).gone

  pub visit_late : late ≡ true → pass ≡ visit k time p h s e
  unfolding visit
  visit_late t = rw t

  pub visit_held : late ≡ false → is_of s.ineligible_best x ≡ true → (context_at s.contexts x).gone ≡ false → pass ≡ visit k time p h s e
  unfolding visit
  visit_held t i g = rw (t, i, g)

  judged : late ≡ false → held ≡ false → judge k time p (context_at s.contexts x) e ≡ visit k time p h s e
  unfolding visit
  judged t i = other held pass i ∙ other late pass t

  pub visit_gone : late ≡ false → (context_at s.contexts x).gone ≡ true → gone ≡ visit k time p h s e
  unfolding judge
  visit_gone t g =
      let z : gone ≡ judge k time p (context_at s.contexts x) e = rw g
      in z ∙ judged t (and_no (is_of s.ineligible_best x) _ (ap not g))

  pub visit_live : {q : Context} → late ≡ false → is_of s.ineligible_best x ≡ false → q ≡ context_at s.contexts x → judge k time p q e ≡ visit k time p h s e
  visit_live t i c = ap (λ (y : Context). judge k time p y e) c ∙ judged t (rw i)

-- a record keeps its ranges
module _ (c : ℕ) where
  both_fit : {A : Type 0} {x y : A} (P : A → Type 0) (b : Bool) → P x → P y → P (if b then x else y)
  both_fit P true f g = f
  both_fit P false f g = g

  abbrev UpdateFits : UpdateResult → Type 0
  UpdateFits Skip = Unit {0}
  UpdateFits Blocked = Unit {0}
  UpdateFits (CanSwitch q) = ContextFits c q

  fits_update : (k time : ℕ) (s r : Bool) (q : Context) → ContextFits c q → UpdateFits (update_runnable k time s r q)
  unfolding update_runnable
  fits_update k time s r q o =
      both_fit UpdateFits (q.running && not r) tt
      (both_fit UpdateFits (q.currently_scheduled && not s) tt
      (both_fit UpdateFits (not (contains q.sched_affinity k)) tt
      (both_fit UpdateFits (wake_has_come time q) (record { cpu_id = o.cpu_id; prio = o.prio; rem_slice = o.rem_slice })
      (both_fit UpdateFits (is_runnable q.status) o tt))))

  fits_by : (q : Context) (u : UpdateResult) → ContextFits c q → UpdateFits u → VisitFits c (by_update q u)
  fits_by q Skip o f = tt
  fits_by q Blocked o f = record { cpu_id = o.cpu_id; prio = o.prio; rem_slice = omega arith }
  fits_by q (CanSwitch a) o f = both_fit (VisitFits c) (eqb q.addr_space 2) f f

  fits_judge : (k time : ℕ) (p : Cpu) (q : Context) (e : Entry) → ContextFits c q → VisitFits c (judge k time p q e)
  unfolding judge
  fits_judge k time p q e o =
      both_fit (VisitFits c) q.gone tt
      (both_fit (VisitFits c) (eqb e.context_ref p.block.idle_ctxt || eqb e.context_ref p.block.sched_ctxt) tt
      (both_fit (VisitFits c) (not (eqb q.lock 0)) tt
      (fits_by q (update_runnable k time false (eqb e.context_ref p.block.current_ctxt) q) o
      (fits_update k time false (eqb e.context_ref p.block.current_ctxt) q o))))

  pub fits_visit : (k time : ℕ) (p : Cpu) (h : Option ℕ) (s : Scan) (e : Entry) → ContextFits c (context_at s.contexts e.context_ref) → VisitFits c (visit k time p h s e)
  unfolding visit
  fits_visit k time p h s e o =
      both_fit (VisitFits c) (late k time p h s e) tt
      (both_fit (VisitFits c) (held k time p h s e) tt (fits_judge k time p (context_at s.contexts e.context_ref) e o))

pub verdict_fits : {c n : ℕ} {m : List ℕ} (i : Image c n m) (t : Scanner) (late : (Option Entry)) (e : Entry) → e.context_ref < n → {v : Visit}
    → ((M : Machine) → m ≡ encode M → Fits c n M → v ≡ visit_by t (seen M.contexts late) e) → VisitFits c v
verdict_fits {c} i t late e h f =
    subst (VisitFits c) (sym (f i.M i.eq i.fits))
    (fits_visit c t.cpu_id t.time (scanner_cpu t) t.ineligible_holder (seen i.M.contexts late) e (i.fits.context e.context_ref h))

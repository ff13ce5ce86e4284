-- A direct switch in the code's words. Assumes nothing.
use Rattle.std.specs.Prelude.{if◌then◌else◌, None, Option, Some, is_some}
use mathlib.Core.Path.{◌≡◌, refl, sym, ap, ◌∙◌, subst}
use mathlib.Core.Bool.{Bool, true, false, not, ◌&&◌}
use Prim.Native.Nat.{ℕ, ◌+◌, ◌-◌, ◌<◌, ◌≤◌}
use native.Mathlib.Omega.{arith}
use mathlib.Core.List.{List}
use lib.Dec.{eqb}
use borrow.Author.Tests.{eq-eqb, ne_eqb}
use Rattle.context.specs.declared.Context.{Context}
use Rattle.context.specs.Status.{is_runnable}
use Rattle.context.specs.Block.{woken}
use Rattle.cpu_set.specs.Set.{contains}
use Rattle.runnable.specs.declared.UpdateResult.{UpdateResult}
use Rattle.runnable.specs.declared.UpdateResult.TheVariants.{CanSwitch, Skip, Blocked}
use Rattle.runnable.specs.Runnable.{wake_has_come, update_runnable}
use Rattle.percpu.specs.declared.PercpuBlock.{PercpuBlock}
use Rattle.machine.specs.Machine.{Machine, context_at, cpu_at}
use Rattle.machine.specs.Encode.{encode}
use Rattle.machine.specs.Shape.{ContextFits, Fits, Image}
use Rattle.model.specs.State.{State, at, state_of, put_context}
use Rattle.model.specs.SwitchTo.{switch_to, direct_switch_by, try_direct_switch_back}
use Rattle.model.proofs.Cases.{pick}
use Rattle.stages.specs.Stage.{Stage, Staged, ContextBelow, Ranged}
use Rattle.stages.proofs.Compose.{stage_then, stage_as}
use Rattle.stages.proofs.Reading.{unchanged_with}
use Rattle.switch_to.specs.Direct.{or_same}

-- the record of a context that can be switched to is in its ranges
module _ (c t b : ℕ) where
  abbrev pub Good : UpdateResult → Type 0
  Good (CanSwitch r) = ContextFits c r × ContextBelow t b r
  Good Skip = Unit {0}
  Good Blocked = Unit {0}

  woken_good : (q : Context) → ContextFits c q → ContextBelow t b q → ContextFits c (woken q) × ContextBelow t b (woken q)
  woken_good q o u = (
    record { cpu_id = o.cpu_id; prio = o.prio; rem_slice = o.rem_slice },
    record {
      schedule_time = u.schedule_time;
      switch_time = u.switch_time;
      active_cpu_time = u.active_cpu_time;
      sched_cpu_time = u.sched_cpu_time;
      wake = omega arith;
      vtime = u.vtime;
      vd = u.vd;
      key_vd = u.key_vd;
    },
  )

  pub update_good : (k time : ℕ) (own current : Bool) (q : Context) → ContextFits c q → ContextBelow t b q → Good (update_runnable k time own current q)
  unfolding update_runnable
  update_good k time own current q o u =
      pick Good (q.running && not current) (λ e. tt)
      (λ e. pick Good (q.currently_scheduled && not own) (λ f. tt)
      (λ f. pick Good (not (contains q.sched_affinity k)) (λ g. tt)
      (λ g. pick Good (wake_has_come time q) (λ h. woken_good q o u) (λ h. pick Good (is_runnable q.status) (λ z. (o, u)) (λ z. tt)))))

pub switchable : {c n t b : ℕ} {m : List ℕ} (x k time : ℕ) (own current : Bool) (q r : Context) {v : UpdateResult} → Ranged c n t b m → x < n
    → ((M : Machine) → m ≡ encode M → Fits c n M → q ≡ context_at M.contexts x) → v ≡ update_runnable k time own current q → v ≡ CanSwitch r → ContextFits c r × ContextBelow t b r
switchable {c} {t = t} {b = b} x k time own current q r g l f e z =
    let w = f g.M g.eq g.fits
    in subst (Good c t b) (sym e ∙ z) (update_good c t b k time own current q (rw w (g.fits.context x l)) (rw w (g.below.context x l)))

pub direct_done : {c n k : ℕ} {m m' m'' : List ℕ} (time x : ℕ) (q : Context) {r : Bool} (full : Bool) → r ≡ full → k < c → Staged c n k m m' false (λ (s : State). put_context x q s)
    → Staged c n k m' m'' r (λ (s : State). switch_to k time x s) → Stage c n k m m'' full true (λ (s : State). switch_to k time x (put_context x q s)) (λ (s : State). true)
direct_done {c} {n} {k} {m' = m'} {m'' = m''} time x q full e h t u =
    stage_as (stage_then h t (subst (λ (r : Bool). Staged c n k m' m'' r (λ (s : State). switch_to k time x s)) e u)) (λ M z o. (refl, λ a d. refl))

-- by what `update_runnable` said of the record
module _ {c n k : ℕ} {m : List ℕ} (time x w : ℕ) (own : Bool) (q : Context) (v : UpdateResult) (hw : w ≡ k)
    (hq : (M : Machine) → m ≡ encode M → Fits c n M → q ≡ context_at M.contexts x) (hv : v ≡ update_runnable w time own false q) where
  said : (M : Machine) → m ≡ encode M → Fits c n M → update_runnable k time own false (context_at M.contexts x) ≡ v
  said M e o = sym (hv ∙ ap (λ (j : ℕ). update_runnable j time own false q) hw ∙ ap (λ (y : Context). update_runnable k time own false y) (hq M e o))

  abbrev after : State → Option State
  after s = direct_switch_by k time x s (update_runnable k time own false (at s x))

  pub by_can_switch : {m' : List ℕ} {full done : Bool} (r : Context) → v ≡ CanSwitch r → Stage c n k m m' full done (λ (s : State). switch_to k time x (put_context x r s)) (λ (s : State). true)
      → Stage c n k m m' full done (λ (s : State). or_same s (direct_switch_by k time x s (update_runnable k time own false (at s x)))) (λ (s : State). is_some (direct_switch_by k time x s (update_runnable k time own false (at s x))))
  unfolding direct_switch_by
  by_can_switch r z t = stage_as t (λ M e o. let y = said M e o ∙ z in (rw y, λ a d. d ∙ rw y))

  pub by_skip : v ≡ Skip → Image c n m
      → Stage c n k m m false false (λ (s : State). or_same s (direct_switch_by k time x s (update_runnable k time own false (at s x)))) (λ (s : State). is_some (direct_switch_by k time x s (update_runnable k time own false (at s x))))
  unfolding direct_switch_by
  by_skip z i = unchanged_with k (λ (s : State). or_same s (direct_switch_by k time x s (update_runnable k time own false (at s x)))) i (λ M e o. let y = said M e o ∙ z in (rw y, rw y))

  pub by_blocked : v ≡ Blocked → Image c n m
      → Stage c n k m m false false (λ (s : State). or_same s (direct_switch_by k time x s (update_runnable k time own false (at s x)))) (λ (s : State). is_some (direct_switch_by k time x s (update_runnable k time own false (at s x))))
  unfolding direct_switch_by
  by_blocked z i = unchanged_with k (λ (s : State). or_same s (direct_switch_by k time x s (update_runnable k time own false (at s x)))) i (λ M e o. let y = said M e o ∙ z in (rw y, rw y))

-- back to the context in charge
module _ {c n : ℕ} {m : List ℕ} (k time : ℕ) (b : PercpuBlock) (hb : (M : Machine) → m ≡ encode M → Fits c n M → b ≡ (cpu_at M k).block) where
  pub in_charge : b.current_ctxt ≡ b.sched_ctxt → Image c n m
      → Stage c n k m m false false (λ (s : State). or_same s (try_direct_switch_back k time s)) (λ (s : State). is_some (try_direct_switch_back k time s))
  unfolding try_direct_switch_back
  in_charge e i =
      unchanged_with k (λ (s : State). or_same s (try_direct_switch_back k time s)) i
      (λ M z o. let y : eqb (cpu_at M k).block.current_ctxt (cpu_at M k).block.sched_ctxt ≡ true = eq-eqb _ _ (rw (hb M z o) at e) in (rw y, rw y))

  pub switched_back : {m' : List ℕ} {full done : Bool} (x : ℕ) → (b.current_ctxt ≡ b.sched_ctxt → ⊥) → x ≡ b.sched_ctxt
      → Stage c n k m m' full done (λ (s : State). or_same s (direct_switch_by k time x s (update_runnable k time true false (at s x)))) (λ (s : State). is_some (direct_switch_by k time x s (update_runnable k time true false (at s x))))
      → Stage c n k m m' full done (λ (s : State). or_same s (try_direct_switch_back k time s)) (λ (s : State). is_some (try_direct_switch_back k time s))
  unfolding try_direct_switch_back
  switched_back x d e t =
      stage_as t
      (λ M z o.
      let y : eqb (cpu_at M k).block.current_ctxt (cpu_at M k).block.sched_ctxt ≡ false = ne_eqb _ _ (rw (hb M z o) at d)
      in let w : x ≡ (cpu_at M k).block.sched_ctxt = rw (hb M z o) at e
      in (rw (y, w), λ a g. g ∙ rw (y, w)))

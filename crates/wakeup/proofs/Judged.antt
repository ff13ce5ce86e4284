-- One wake-up served, as it was judged: one lemma for each return. Assumes nothing.
use Rattle.std.specs.Prelude.{if◌then◌else◌, None, Option, Some}
use mathlib.Core.Path.{◌≡◌, refl, sym, ap, ◌∙◌, subst}
use mathlib.Core.Bool.{Bool, true, false, not}
use mathlib.Core.List.{List}
use Prim.Native.Nat.{ℕ, ◌<◌}
use lib.Dec.{eqb}
use Rattle.columns.proofs.Tests.{by_test}
use Rattle.context.specs.declared.Context.{Context}
use Rattle.percpu.specs.declared.PercpuBlock.{PercpuBlock}
use Rattle.machine.specs.Machine.{Machine, context_at}
use Rattle.machine.specs.Encode.{encode}
use Rattle.machine.specs.Shape.{Fits, Image}
use Rattle.model.specs.State.{State, state_of, put_context, insert_timer, push_local}
use Rattle.model.specs.Wakeup.{waits_for, woken_by, put_back, enter, wake_as, serve_wakeup}
use Rattle.stages.specs.Stage.{Staged}
use Rattle.stages.proofs.Compose.{stage_as}
use Rattle.wakeup_judge.specs.declared.Wakeup.{Wakeup}
use Rattle.wakeup_judge.specs.declared.WakeupResult.{WakeupResult}
use Rattle.wakeup_judge.specs.declared.WakeupResult.TheVariants.{Dropped, Locked, WokenOnly, Entered}
use Rattle.wakeup_judge.specs.Judge.{wakeup_of, result_of, may_enter_at, judged}
use Rattle.wakeup_judge.proofs.Judging.{judged_is}
use Rattle.wakeup.specs.Paced.{Paced, RecordFits, ResultFits}
use Rattle.stages.proofs.Reading.{stage_none}
use Rattle.wakeup.proofs.Entering.{Loaded}
use Rattle.numbers.specs.Limits.{max_number}

-- put back, as the code found it
module _ {c n k : ℕ} {m m' : List ℕ} {r : Bool} (w : Wakeup) where
  pub back_timer : (wake : ℕ) → w.wake ≡ Some wake → Staged c n k m m' r (λ (s : State). insert_timer (record { wake = wake; context_ref = w.context_ref }) s)
      → Staged c n k m m' r (λ (s : State). put_back w.wake w.context_ref s)
  back_timer wake h t = stage_as t (λ M e o. (ap (λ (y : Option ℕ). put_back y w.context_ref (state_of k M)) (sym h), λ y z. refl))

  pub back_name : (x : ℕ) → w.wake ≡ None → x ≡ w.context_ref → Staged c n k m m' r (λ (s : State). push_local x s)
      → Staged c n k m m' r (λ (s : State). put_back w.wake w.context_ref s)
  back_name x h q t = stage_as t (λ M e o. (ap (λ (y : ℕ). push_local y (state_of k M)) q ∙ ap (λ (y : Option ℕ). put_back y w.context_ref (state_of k M)) (sym h), λ y z. refl))

-- one lemma for each result
module _ {c n k : ℕ} {m : List ℕ} (w : Wakeup) (r : WakeupResult) where
  pub as_dropped : Image c n m → r ≡ Dropped → Staged c n k m m false (λ (s : State). wake_as s (wakeup_of w) (result_of r))
  unfolding wake_as
  as_dropped i h = stage_as (stage_none i) (λ M e o. (ap (λ (y : WakeupResult). wake_as (state_of k M) (wakeup_of w) (result_of y)) (sym h), λ y z. refl))

  pub as_locked : {m' : List ℕ} {b : Bool} → r ≡ Locked → Staged c n k m m' b (λ (s : State). put_back w.wake w.context_ref s)
      → Staged c n k m m' b (λ (s : State). wake_as s (wakeup_of w) (result_of r))
  unfolding wake_as
  as_locked h t = stage_as t (λ M e o. (ap (λ (y : WakeupResult). wake_as (state_of k M) (wakeup_of w) (result_of y)) (sym h), λ y z. refl))

  module _ (x : ℕ) (q : Context) (hx : x ≡ w.context_ref) where
    pub as_woken : {m' : List ℕ} → r ≡ WokenOnly q → Staged c n k m m' false (λ (s : State). put_context x q s)
        → Staged c n k m m' false (λ (s : State). wake_as s (wakeup_of w) (result_of r))
    unfolding wake_as
    as_woken h t =
        stage_as t (λ M e o. (ap (λ (y : ℕ). put_context y q (state_of k M)) hx ∙ ap (λ (y : WakeupResult). wake_as (state_of k M) (wakeup_of w) (result_of y)) (sym h), λ y z. refl))

    pub as_entered : {m' : List ℕ} {b : Bool} → r ≡ Entered q → Staged c n k m m' b (λ (s : State). enter x q s)
        → Staged c n k m m' b (λ (s : State). wake_as s (wakeup_of w) (result_of r))
    unfolding wake_as
    as_entered h t =
        stage_as t (λ M e o. (ap (λ (y : ℕ). enter y q (state_of k M)) hx ∙ ap (λ (y : WakeupResult). wake_as (state_of k M) (wakeup_of w) (result_of y)) (sym h), λ y z. refl))

pub record_woken : {c : ℕ} {r : WakeupResult} (q : Context) → r ≡ WokenOnly q → ResultFits c r → RecordFits c q
record_woken {c} q h f = subst (ResultFits c) h f

pub record_entered : {c : ℕ} {r : WakeupResult} (q : Context) → r ≡ Entered q → ResultFits c r → RecordFits c q
record_entered {c} q h f = subst (ResultFits c) h f

-- the record that a wake-up leaves is in its ranges
woken_fits : {c : ℕ} (t : Option ℕ) (q : Context) → RecordFits c q → RecordFits c (woken_by t q)
woken_fits None q f = f
woken_fits {c} (Some t) q f =
    by_test (waits_for t q)
    (λ e. rw e (record { fits = record { cpu_id = f.fits.cpu_id; prio = f.fits.prio; rem_slice = f.fits.rem_slice }; vtime = f.vtime }))
    (λ e. rw e f)

judged_fits : {c : ℕ} (current sched : ℕ) (w : Wakeup) (q : Context) → RecordFits c q → ResultFits c (judged current sched w q)
unfolding judged
judged_fits {c} current sched w q f =
    fits_if (eqb w.context_ref sched) q.gone (eqb q.lock 0) (may_enter_at current sched w.context_ref (woken_by w.wake q)) (woken_by w.wake q) (woken_fits w.wake q f)
  where
    fits_if : (a g l b : Bool) (y : Context) → RecordFits c y → ResultFits c (if a then Dropped else if g then Dropped else if not l then Locked else if b then Entered y else WokenOnly y)
    fits_if true g l b y z = tt
    fits_if false true l b y z = tt
    fits_if false false false b y z = tt
    fits_if false false true true y z = z
    fits_if false false true false y z = z

module _ {c n k : ℕ} {m : List ℕ} (w : Wakeup) (b : PercpuBlock) (r : WakeupResult) (f : Loaded c n k m b)
    (hr : (M : Machine) → m ≡ encode M → Fits c n M → r ≡ judged b.current_ctxt b.sched_ctxt w (context_at M.contexts w.context_ref)) where
  pub result_fits : w.context_ref < n → (u : ℕ) → Paced c n k max_number u m → ResultFits c r
  result_fits h u p =
      subst (ResultFits c) (sym (hr p.M p.eq p.fits))
      (judged_fits b.current_ctxt b.sched_ctxt w (context_at p.M.contexts w.context_ref)
      (record { fits = p.fits.context w.context_ref h; vtime = p.slow.vtime w.context_ref h }))

  pub served_staged : {m' : List ℕ} {full : Bool} → Staged c n k m m' full (λ (s : State). wake_as s (wakeup_of w) (result_of r))
      → Staged c n k m m' full (λ (s : State). serve_wakeup s (wakeup_of w))
  unfolding serve_wakeup
  served_staged t =
      stage_as t
      (λ M e o. (
        ap (wake_as (state_of k M) (wakeup_of w))
            (ap result_of (hr M e o ∙ ap (λ (y : PercpuBlock). judged y.current_ctxt y.sched_ctxt w (context_at M.contexts w.context_ref)) (f M e o))
            ∙ judged_is (state_of k M) w),
        λ y z. refl,
      ))

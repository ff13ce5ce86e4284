-- The cases of a wake-up, with what is known in each.
use Rattle.std.specs.Prelude.{None, Option, Some}
use mathlib.Core.Path.{◌≡◌, refl}
use mathlib.Core.Bool.{true, false, not, ◌&&◌}
use Prim.Native.Nat.{ℕ}
use lib.Dec.{eqb}
use Rattle.columns.specs.Common.{fold}
use Rattle.context.specs.declared.Context.{Context}
use Rattle.context.specs.Status.{is_runnable}
use Rattle.percpu.specs.Cpu.{Cpu}
use Rattle.model.specs.State.{State, at}
use Rattle.model.specs.Wakeup.{
  Wakeup,
  waits_for,
  wakeups,
  drained,
  woken_by,
  may_enter,
  WakeupResult,
  dropped,
  locked,
  woken_only,
  entered,
  wakeup_result,
  serve_wakeup,
  serve_wakeups,
}
use Rattle.model.proofs.Cases.{pick, and_both, not_is_true, not_is_false}
use Rattle.model.proofs.Queues.{run, fixed}

pub woken_run : (o : Option ℕ) (c : Context) → run (woken_by o c) ≡ run c
woken_run None c = refl
woken_run (Some t) c = pick (λ b. run b ≡ run c) (waits_for t c) (λ e. refl) (λ e. refl)

pub woken_fixed : (o : Option ℕ) (c : Context) → fixed (woken_by o c) ≡ fixed c
woken_fixed None c = refl
woken_fixed (Some t) c = pick (λ b. fixed b ≡ fixed c) (waits_for t c) (λ e. refl) (λ e. refl)

-- every wake-up is served, in order
pub every_wakeup : (time : ℕ) (s : State) → serve_wakeups time s ≡ fold serve_wakeup (drained time s) (wakeups time s)
unfolding serve_wakeups
every_wakeup time s = refl

module _ (s : State) (w : Wakeup) where
  abbrev pub asked : Context
  asked = at s w.context_ref

  abbrev pub woke : Context
  woke = woken_by w.wake asked

  -- what is known of a context whose wake-up is not dropped
  pub record Asked : Type 0 where
    pub other : eqb w.context_ref s.cpu.block.sched_ctxt ≡ false
    pub live : asked.gone ≡ false

  -- the cases of a wake-up, with what is known in each
  pub wakeup_cases : (P : WakeupResult → Type 0) → P dropped → (Asked → P locked)
      → (Asked → eqb asked.lock 0 ≡ true → may_enter s.cpu w.context_ref woke ≡ true → P (entered woke))
      → (Asked → may_enter s.cpu w.context_ref woke ≡ false → P (woken_only woke)) → P (wakeup_result s w)
  unfolding wakeup_result
  wakeup_cases P d l e o =
      pick P (eqb w.context_ref s.cpu.block.sched_ctxt) (λ t. d)
      (λ f. pick P asked.gone (λ t. d)
      (λ g. let k : Asked = record { other = f; live = g } in
      pick P (not (eqb asked.lock 0)) (λ t. l k)
      (λ u. pick P (may_enter s.cpu w.context_ref woke) (λ t. e k (not_is_false _ u) t) (λ t. o k t))))

-- what a wake-up may enter by
pub record Enters (c : Context) : Type 0 where
  pub runnable : is_runnable c.status ≡ true
  pub not_scheduled : c.currently_scheduled ≡ false
  pub userspace : c.userspace ≡ true

pub enters : (p : Cpu) (x : ℕ) (c : Context) → may_enter p x c ≡ true → Enters c
enters p x c t =
    let (u, v) = and_both (is_runnable c.status && not c.currently_scheduled && c.userspace) _ t in
    let (r, d) = and_both (is_runnable c.status && not c.currently_scheduled) _ u in
    let (a, b) = and_both (is_runnable c.status) _ r in
    record { runnable = a; not_scheduled = not_is_true _ b; userspace = d }

-- Times and charging keep the invariant.
use Rattle.std.specs.Prelude.{if◌then◌else◌}
use mathlib.Core.Path.{◌≡◌, refl, ap, ◌∙◌}
use mathlib.Core.Bool.{Bool, true, false}
use Prim.Native.Nat.{ℕ, ◌+◌, ◌-◌, ◌/◌, ◌<◌, max}
use lib.Dec.{eqb}
use lib.ListN.{length}
use Rattle.context.specs.declared.Context.{Context}
use Rattle.context.specs.Status.{is_runnable}
use Rattle.context.specs.With.{with_vtime, with_vd, with_rem_slice}
use Rattle.ticks.specs.declared.Spent.{Spent}
use Rattle.weights.specs.Weights.{weight}
use Rattle.charging.specs.Charge.{charged, renewed, is_yield, stopped}
use Rattle.machine.specs.Machine.{Machine, context_at}
use Rattle.model.specs.State.{State, put_context, on_cpu, state_of, holder, is_idle}
use Rattle.model.specs.Turn.{times, inactive, holder_stopped, charge_holder, before_selection, before_choice}
use Rattle.model.specs.Tidy.{Sound, Tidy, Present}
use Rattle.model.specs.Accepted.{ServesOwn}
use Rattle.model.proofs.Cases.{pick}
use Rattle.model.proofs.Queues.{fixed, on, Without, gone_of}
use Rattle.model.proofs.Moves.{no_key, inv_out}
use Rattle.model.proofs.Before.{Roles, queues, Free}
use Rattle.model.proofs.Woken.{Waking, wakeups_waking}

-- a record that keeps a view, renewed if need be
renewed_view : {B : Type 0} (f : Context → B) → ((m v : ℕ) (c : Context) → f (with_rem_slice m (with_vd v c)) ≡ f c) → (c : Context) → f (renewed c) ≡ f c
renewed_view f k c = pick (λ (b : Context). f b ≡ f c) (eqb c.rem_slice 0) (λ t. k _ _ c) (λ t. refl)

charged_by : {B : Type 0} (f : Context → B) → ((c : Context) → f (renewed c) ≡ f c) → (b : Bool) (x y c : Context) → f x ≡ f c → f y ≡ f c
    → f (renewed (if b then x else y)) ≡ f c
charged_by f k true x y c p q = k x ∙ p
charged_by f k false x y c p q = k y ∙ q

charged_view : {B : Type 0} (f : Context → B) → ((m v : ℕ) (c : Context) → f (with_rem_slice m (with_vd v c)) ≡ f c)
    → ((m v : ℕ) (c : Context) → f (with_rem_slice m (with_vtime v c)) ≡ f c) → (v : ℕ) (n : Spent) (c : Context) → f (charged v n c) ≡ f c
unfolding charged
charged_view f k l v n c =
    let left = c.rem_slice - n.ticks in
    let vtime = max (c.vtime + n.ticks / weight c.prio) v in
    charged_by f (renewed_view f k) (is_yield n.elapsed) (with_rem_slice 0 (with_vtime (vtime + left / weight c.prio) c)) (with_rem_slice left (with_vtime vtime c)) c
    (l 0 (vtime + left / weight c.prio) c) (l left vtime c)

pub charged_fixed : (v : ℕ) (n : Spent) (c : Context) → fixed (charged v n c) ≡ fixed c
charged_fixed = charged_view fixed (λ m v c. refl) (λ m v c. refl)

pub charged_key : (v : ℕ) (n : Spent) (c : Context) → (charged v n c).has_queue_key ≡ c.has_queue_key
charged_key = charged_view (λ (c : Context). c.has_queue_key) (λ m v c. refl) (λ m v c. refl)

pub charged_status : (v : ℕ) (n : Spent) (c : Context) → (charged v n c).status ≡ c.status
charged_status = charged_view (λ (c : Context). c.status) (λ m v c. refl) (λ m v c. refl)

pub charged_active : (v : ℕ) (n : Spent) (c : Context) → (charged v n c).is_active ≡ c.is_active
charged_active = charged_view (λ (c : Context). c.is_active) (λ m v c. refl) (λ m v c. refl)

module _ (k time : ℕ) (M : Machine) (S : Sound M) (T : Tidy M) (P : Present M k) where
  -- the holder has no entry
  pub holder_out : (s : State) → Waking k time M S T s → Without s.cpu.block.sched_ctxt (on k s.cpu.queue (queues M))
  holder_out s n e i h m = (n.kept.free e i h).not_in_charge k P (m ∙ ap (λ (z : Roles). z.sched) n.roles_kept)

  pub holder_range : (s : State) → Waking k time M S T s → s.cpu.block.sched_ctxt < length s.contexts
  holder_range s n = rw (n.kept.count, ap (λ (z : Roles). z.sched) n.roles_kept) (S.in_charge_is k P)

  pub holder_live : (s : State) → Waking k time M S T s → (holder s).gone ≡ false
  holder_live s n =
      gone_of (n.kept.same s.cpu.block.sched_ctxt)
      ∙ ap (λ y. (context_at M.contexts y).gone) (ap (λ (z : Roles). z.sched) n.roles_kept) ∙ S.in_charge_live k P

  pub holder_no_key : (s : State) → Waking k time M S T s → (holder s).has_queue_key ≡ false
  holder_no_key s n = no_key (Free M) M.contexts s.contexts _ s.cpu.block.sched_ctxt n.kept (holder_range s n) (holder_live s n) (holder_out s n)

  -- a change of the holder's record alone
  holder_waking : (s : State) (c : Context) → fixed c ≡ fixed (holder s) → c.has_queue_key ≡ (holder s).has_queue_key → Waking k time M S T s
      → Waking k time M S T (put_context s.cpu.block.sched_ctxt c s)
  holder_waking s c f g n =
      record {
        kept = inv_out (Free M) M.contexts s.contexts _ s.cpu.block.sched_ctxt c n.kept (holder_range s n) f (λ l. g ∙ holder_no_key s n) (holder_out s n);
        roles_kept = n.roles_kept;
        v = n.v;
        has = n.has;
      }

  inactive_waking : (s : State) → Waking k time M S T s → Waking k time M S T (inactive s)
  inactive_waking s n =
      let r = holder_waking s (stopped (holder s)) refl refl n in
      record { kept = r.kept; roles_kept = r.roles_kept; v = r.v; has = r.has }

  pub charge_waking : (e : Spent) (s : State) → Waking k time M S T s → Waking k time M S T (charge_holder e s)
  unfolding charge_holder holder_stopped
  charge_waking e s n =
      pick (Waking k time M S T) (is_idle s) (λ t. n)
      (λ t. pick (Waking k time M S T) (is_runnable (holder s).status)
      (λ r. holder_waking s _ (charged_fixed s.cpu.block.v e (holder s)) (charged_key s.cpu.block.v e (holder s)) n)
      (λ r. pick (Waking k time M S T) (holder s).has_wake
      (λ w. let a = inactive_waking s n in record { kept = a.kept; roles_kept = a.roles_kept; v = a.v; has = a.has }) (λ w. inactive_waking s n)))

  pub times_waking : (s : State) → Waking k time M S T s → Waking k time M S T (on_cpu (times time) s)
  unfolding times
  times_waking s n = record { kept = n.kept; roles_kept = n.roles_kept; v = n.v; has = n.has }

  pub before_waking : ServesOwn k time M → Waking k time M S T (before_choice time (state_of k M))
  unfolding before_choice before_selection
  before_waking own = charge_waking _ _ (times_waking _ (wakeups_waking k time M S T own))

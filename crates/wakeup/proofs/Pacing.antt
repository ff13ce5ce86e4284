-- How far the wake-ups move virtual times and the total weight. Assumes nothing.
use Rattle.std.specs.Prelude.{if◌then◌else◌, None, Option, Some}
use mathlib.Core.Path.{◌≡◌, refl}
use mathlib.Core.Bool.{Bool, true, false}
use Prim.Native.Nat.{ℕ, ◌+◌, ◌<◌, ◌≤◌, max}
use native.Mathlib.Omega.{arith}
use native.Mathlib.Nat.{div-zero}
use lib.Dec.{ltb}
use borrow.Author.Tests.{ltb-true, ltb-false}
use Rattle.columns.proofs.Tabulate.{get_d_past}
use Rattle.columns.proofs.Tests.{by_test}
use Rattle.context.specs.declared.Context.{Context}
use Rattle.weights.specs.Weights.{weights, weight, full_slice, whole_slice, max_weight, max_whole_slice}
use Rattle.weights.proofs.Table.{weight_high, whole_slice_high}
use Rattle.machine.specs.Machine.{no_context}
use Rattle.machine.proofs.Steps.{get_d_set}
use Rattle.model.specs.State.{State, at, put_context}
use Rattle.model.specs.Wakeup.{Wakeup, waits_for, woken_by, put_back, enter, entering, wake_as, serve_wakeup}
use Rattle.model.proofs.WakeupCases.{wakeup_cases}
use Rattle.wakeup.specs.Paced.{Slow}

weight_past : (p : ℕ) → 40 ≤ p → weight p ≡ 0
unfolding weight weights
weight_past p h = get_d_past weights p 0 h

-- of any number
pub weight_at_most : (p : ℕ) → weight p ≤ max_weight
weight_at_most p = by_test (ltb p 40) (λ t. weight_high p (ltb-true p 40 t)) (λ t. rw (weight_past p (ltb-false p 40 t)) (omega arith))

pub slice_at_most : (p : ℕ) → whole_slice p ≤ max_whole_slice
unfolding whole_slice
slice_at_most p = by_test (ltb p 40) (λ t. whole_slice_high p (ltb-true p 40 t)) (λ t. rw (weight_past p (ltb-false p 40 t)) (omega (arith, div-zero full_slice)))

pub max_at_most : (a b c : ℕ) → a ≤ c → b ≤ c → max a b ≤ c
max_at_most a b c h g = omega arith

pub woken_vtime : (o : Option ℕ) (c : Context) → (woken_by o c).vtime ≡ c.vtime
woken_vtime None c = refl
woken_vtime (Some t) c = by_test (waits_for t c) (λ e. rw e) (λ e. rw e)

pub slow_more : {n b w : ℕ} (w' : ℕ) {s : State} → w ≤ w' → Slow n b w s → Slow n b w' s
slow_more w' h o = record { vtime = o.vtime; v = o.v; total_weight = omega (arith, o.total_weight) }

-- a record put
slow_put : {n b w : ℕ} {s : State} (x : ℕ) (q : Context) → q.vtime ≤ b → Slow n b w s → Slow n b w (put_context x q s)
slow_put {b = b} {s = s} x q h o =
    record { vtime = λ y g. get_d_set s.contexts x y q no_context (λ (c : Context). c.vtime ≤ b) h (o.vtime y g); v = o.v; total_weight = o.total_weight }

module _ {n b w : ℕ} (s : State) (u : Wakeup) (o : Slow n b w s) where
  slow_back : (t : Option ℕ) (x : ℕ) → Slow n b w (put_back t x s)
  slow_back None x = record { vtime = o.vtime; v = o.v; total_weight = o.total_weight }
  slow_back (Some t) x = record { vtime = o.vtime; v = o.v; total_weight = o.total_weight }

  slow_enter : (x : ℕ) (q : Context) → q.vtime ≤ b → Slow n b (w + max_weight) (enter x q s)
  unfolding enter
  slow_enter x q h =
      let e : (entering s.cpu.block.v q).vtime ≤ b = max_at_most q.vtime s.cpu.block.v b h o.v
      in record {
        vtime = λ y g. get_d_set s.contexts x y (entering s.cpu.block.v q) no_context (λ (c : Context). c.vtime ≤ b) e (o.vtime y g);
        v = o.v;
        total_weight = total q.is_active;
      }
    where
      total : (a : Bool) → (if a then s.cpu.block.total_weight else s.cpu.block.total_weight + weight q.prio) ≤ w + max_weight
      total true = omega (arith, o.total_weight)
      total false = omega (arith, o.total_weight, weight_at_most q.prio)

  pub slow_serve : u.context_ref < n → Slow n b (w + max_weight) (serve_wakeup s u)
  unfolding serve_wakeup wake_as
  slow_serve h =
      let l : (woken_by u.wake (at s u.context_ref)).vtime ≤ b = rw (woken_vtime u.wake (at s u.context_ref)) (o.vtime u.context_ref h)
      in wakeup_cases s u (λ r. Slow n b (w + max_weight) (wake_as s u r))
      (slow_more (w + max_weight) (omega arith) o)
      (λ a. slow_more (w + max_weight) (omega arith) (slow_back u.wake u.context_ref))
      (λ a f t. slow_enter u.context_ref (woken_by u.wake (at s u.context_ref)) l)
      (λ a t. slow_more (w + max_weight) (omega arith) (slow_put u.context_ref (woken_by u.wake (at s u.context_ref)) l o))

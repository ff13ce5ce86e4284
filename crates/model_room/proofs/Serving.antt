-- Wake-ups and charging: each wake-up lengthens a list by at most one item, and so does charging. Assumes nothing.
use Rattle.std.specs.Prelude.{None, Option, Some}
use mathlib.Core.Path.{◌≡◌, refl, sym}
use mathlib.Core.Bool.{Bool, true, false, not, ◌&&◌, ◌||◌}
use mathlib.Core.List.{List, [], ◌∷◌}
use Prim.Native.Nat.{ℕ, ◌+◌, ◌<◌, ◌≤◌}
use native.Mathlib.Omega.{arith}
use lib.ListN.{length, length-append, length-map}
use lib.Dec.{eqb}
use Rattle.columns.specs.Common.{fold, keep}
use Rattle.columns.proofs.Tests.{and_both}
use Rattle.columns.proofs.Keep.{length_keep}
use Rattle.context.specs.declared.Context.{Context}
use Rattle.context.specs.Status.{is_runnable}
use Rattle.ticks.specs.declared.Spent.{Spent}
use Rattle.weights.specs.Weights.{weight}
use Rattle.entries.specs.declared.Entry.{Entry}
use Rattle.entries.specs.declared.Timer.{Timer}
use Rattle.entries.specs.Order.{entry_before, superseded, is_due}
use Rattle.entries.specs.Queue.{keyed, without_superseded}
use Rattle.percpu.specs.With.{cpu_queue, cpu_timers}
use Rattle.model.specs.State.{State, at, on_cpu, put_context, holder, is_idle}
use Rattle.model.specs.Wakeup.{Wakeup, can_read, waits_for, is_live_timer, timer_wakeup, local_wakeup, wakeups, is_unreadable, stays, drained, put_back, without_old_key, activated, entering, enter, wake_as, serve_wakeup, serve_wakeups}
use Rattle.model.specs.Turn.{count_switch, times, holder_stopped, charge_holder, before_selection, inactive}
use Rattle.model.proofs.Cases.{pick}
use Rattle.model.proofs.WakeupCases.{wakeup_cases}
use Rattle.model_room.proofs.Lengths.{length_remove, length_apart}
use Rattle.model_room.proofs.Within.{Within, weaker, entry_inserted, timer_inserted, name_pushed}
use Rattle.context.specs.Key.{queue_key, entry_of}

module _ {q t l : ℕ} (s : State) (h : Within q t l s) (a : q < 64) (b : t < 64) (d : l < 64) where
  put_back_within : (o : Option ℕ) (x : ℕ) → Within (q + 1) (t + 1) (l + 1) (put_back o x s)
  put_back_within None x = weaker (omega arith) (omega arith) (omega arith) (name_pushed s h x d)
  put_back_within (Some wake) x = weaker (omega arith) (omega arith) (omega arith) (timer_inserted s h _ b)

  old_key_out : (c : Context) → length (without_old_key c s.cpu.queue) ≤ q
  old_key_out c =
      pick (λ (u : List Entry). length u ≤ q) c.has_queue_key (λ e. omega (arith, h.queue, length_remove entry_before (keyed (queue_key c)) s.cpu.queue))
      (λ e. h.queue)

  enter_within : (x : ℕ) (c : Context) → Within (q + 1) (t + 1) (l + 1) (enter x c s)
  unfolding enter
  enter_within x c =
      let c' = entering s.cpu.block.v c in
      let u : State = put_context x c' (on_cpu (λ p. cpu_queue (without_old_key c p.queue) (activated c p)) s) in
      let g : Within q t l u = record { room = h.room; queue = old_key_out c; timers = h.timers; local = h.local } in
      weaker (omega arith) (omega arith) (omega arith) (entry_inserted u g (entry_of x (weight c.prio) c') a)

  serve_within : (w : Wakeup) → Within (q + 1) (t + 1) (l + 1) (serve_wakeup s w)
  unfolding serve_wakeup wake_as
  serve_within w =
      let same : Within (q + 1) (t + 1) (l + 1) s = weaker (omega arith) (omega arith) (omega arith) h in
      wakeup_cases s w (λ r. Within (q + 1) (t + 1) (l + 1) (wake_as s w r)) same (λ u. put_back_within w.wake w.context_ref) (λ u v z. enter_within w.context_ref _) (λ u v. same)

served_within : {q t l : ℕ} (s : State) (ws : List Wakeup) → Within q t l s → q + length ws ≤ 64 → t + length ws ≤ 64 → l + length ws ≤ 64
    → Within (q + length ws) (t + length ws) (l + length ws) (fold serve_wakeup s ws)
served_within s [] h a b d = weaker (omega arith) (omega arith) (omega arith) h
served_within {q = q} {t = t} {l = l} s (w ∷ ws) h a b d =
    weaker (omega arith) (omega arith) (omega arith)
    (served_within {q = q + 1} {t = t + 1} {l = l + 1} (serve_wakeup s w) ws (serve_within s h (omega arith) (omega arith) (omega arith) w) (omega arith) (omega arith) (omega arith))

-- a context that can be read is not one that cannot
read_or_not : (g l h : Bool) → (not g && not l && not h) ≡ true → (not g && (l || h)) ≡ false
read_or_not true l h e = refl
read_or_not false true h e = sym e
read_or_not false false true e = sym e
read_or_not false false false e = refl

live_leaves : (time : ℕ) (s : State) (t : Timer) → is_due time t ≡ true → is_live_timer s t ≡ true → stays time s t ≡ false
live_leaves time s t d e =
    let q = at s t.context_ref in
    let u : is_unreadable s t.context_ref ≡ false
    = read_or_not q.gone (eqb q.lock 2) (eqb t.context_ref s.cpu.block.sched_ctxt) (and_both (can_read s t.context_ref) (waits_for t.wake q) e).0
    in rw (d, u)

-- a wake-up for each due timer that does not stay, and each name, at most
wakeups_few : (time : ℕ) (s : State) → length (keep (stays time s) s.cpu.timers) + length (wakeups time s) ≤ length s.cpu.timers + length s.cpu.local_wakeup_list
unfolding wakeups
wakeups_few time s =
    let n = length_apart (stays time s) (is_live_timer s) (is_due time) (live_leaves time s) s.cpu.timers
    in rw (length-append, length-map (keep (is_live_timer s) (keep (is_due time) s.cpu.timers)) timer_wakeup, length-map s.cpu.local_wakeup_list local_wakeup) (omega arith)

-- q entries, t timers and l names: after the wake-ups no list is longer than q + t + l
pub serve_wakeups_within : {q t l : ℕ} (time : ℕ) (s : State) → Within q t l s → q + t + l < 64 → Within (q + t + l) (q + t + l) (q + t + l) (serve_wakeups time s)
unfolding serve_wakeups
serve_wakeups_within {q} {t} {l} time s h r =
    let n = wakeups_few time s in
    weaker (omega (arith, h.timers, h.local)) (omega (arith, h.timers, h.local)) (omega (arith, h.timers, h.local))
    (served_within {q = q} {t = length (keep (stays time s) s.cpu.timers)} {l = 0} (drained time s) (wakeups time s)
    (record { room = h.room; queue = h.queue; timers = omega arith; local = omega arith }) (omega (arith, h.timers, h.local)) (omega (arith, h.timers, h.local)) (omega (arith, h.timers, h.local)))

pub charge_within : {q t l : ℕ} (n : Spent) (s : State) → Within q t l s → t < 64 → Within q (t + 1) l (charge_holder n s)
unfolding charge_holder holder_stopped
charge_within {q} {t} {l} n s h a =
    let same : Within q (t + 1) l s = weaker (omega arith) (omega arith) (omega arith) h in
    pick (Within q (t + 1) l) (is_idle s) (λ z. same)
    (λ z. pick (Within q (t + 1) l) (is_runnable (holder s).status) (λ y. same) (λ y. pick (Within q (t + 1) l) (holder s).has_wake
    (λ x.
    let u : Timer = record { wake = (holder s).wake; context_ref = s.cpu.block.sched_ctxt } in
    let f = length_keep (λ (y : Timer). not (superseded u y)) s.cpu.timers in
    timer_inserted (on_cpu (λ p. cpu_timers (without_superseded u p.timers) p) (inactive s)) (record { room = h.room; queue = h.queue; timers = omega (arith, h.timers); local = h.local }) u a)
    (λ x. same)))

pub before_selection_within : {q t l : ℕ} (time : ℕ) (s : State) → Within q t l s → q + t + l < 64 → Within (q + t + l) (q + t + l) (q + t + l) (before_selection time s)
unfolding before_selection times
before_selection_within time s h r = serve_wakeups_within time (on_cpu count_switch s) h r

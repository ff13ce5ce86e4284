-- The record of an accepted decision is in its range: the context below N, the time at most 2^52 - 1. Assumes nothing.
use Rattle.std.specs.Prelude.{if◌then◌else◌, None, Option, Some, Err, Ok, Result}
use mathlib.Core.Path.{◌≡◌, refl, sym, ap, subst}
use mathlib.Core.Bool.{Bool, true, false}
use mathlib.Core.List.{List}
use Prim.Native.Nat.{ℕ, ◌+◌, ◌-◌, ◌<◌, ◌≤◌}
use native.Mathlib.Omega.{arith}
use lib.Dec.{eqb}
use lib.ListN.{get_or}
use borrow.Author.Tests.{eqb-true}
use Rattle.columns.proofs.Tests.{by_test}
use Rattle.cpu_stats.specs.Words.{stats_words}
use Rattle.percpu.specs.Words.{block_words}
use Rattle.percpu.specs.Layout.{cpu_words}
use Rattle.machine.specs.Machine.{Machine, cpu_at}
use Rattle.machine.specs.Encode.{decode, cpu_place}
use Rattle.machine.specs.Shape.{Fits}
use Rattle.machine.specs.LookUp.{look_up, get_percpu_block}
use Rattle.machine.specs.Outcome.{Outcome}
use Rattle.machine.proofs.LookUps.{present, block_word}
use Rattle.image.specs.Refusal.{size_c, size_n}
use Rattle.image.proofs.Admitted.{passed, decoded, decoded_fits}
use Rattle.model.specs.Turn.{elapsed}
use Rattle.model.specs.Accepted.{Call, by_tick, by_switch, by_direct_switch}
use Rattle.context_ops.specs.Named.{named}
use Rattle.context_ops.specs.Operations.{drain_ipi_context_wakeups, block_with, block, hard_block}
use Rattle.context_ops.specs.Reply.{Reply, replied, reply_to, reply_on}
use Rattle.group_ops.proofs.Unblocking.{unblock_rule}
use Rattle.switch_ops.specs.Reply.{refusal, decide_on, decide_by, direct_switch_by}
use Rattle.switch_ops.proofs.Answered.{in_time}
use Rattle.calls.specs.Call.{check, checked_by, call}
use Rattle.calls.proofs.Accepts.{Accepts, accepts}
use Rattle.operations.specs.Operation.{operation_reply}
use Rattle.operations.proofs.Dispatched.{call_is}
use Rattle.window.specs.declared.Record.{Record}
use Rattle.window.specs.Window.{is_in_range}
use Rattle.window.proofs.Checked.{both_in}
use Rattle.numbers.specs.Limits.{max_elapsed}
use Rattle.call_in_window.specs.CallInWindow.{turn_at}

-- CPU cpu of the machine M
module _ (m : List ℕ) (M : Machine) (cpu time : ℕ) where
  -- a reply that is accepted and has a rule: the time was not over the limit
  abbrev Timely : Reply → Type 0
  Timely y = y.answer.refusal ≡ 0 → (y.answer.rule ≡ 0 → ⊥) → elapsed time (cpu_at M cpu) ≤ max_elapsed

  one_of : (b : Bool) (x y : Reply) → Timely x → Timely y → Timely (if b then x else y)
  one_of true x y f g = f
  one_of false x y f g = g

  quiet : (o : Outcome) → o.rule ≡ 0 → Timely (replied m o)
  unfolding replied
  quiet o e = by_test o.no_room (λ t. rw t (λ z d. absurd (d refl))) (λ t. rw t (λ z d. absurd (d e)))

  decided : (c : Call) (l : Option ℕ) → l ≡ get_percpu_block M cpu → Timely (decide_by m M time c l)
  unfolding decide_by decide_on
  decided c None h = λ z d. absurd (d refl)
  decided c (Some k) h =
      by_test (eqb (refusal c M k time) 0)
      (λ t z d. subst (λ (j : ℕ). elapsed time (cpu_at M j) ≤ max_elapsed) (present M cpu k h).is (in_time c M k time (refusal c M k time) refl (eqb-true (refusal c M k time) 0 t)))
      (λ t. rw t (λ z d. absurd (d refl)))

  directed : (l : Option ℕ) → Timely (direct_switch_by m M cpu time l)
  unfolding direct_switch_by
  directed None = λ z d. absurd (d refl)
  directed (Some x) = decided (by_direct_switch x) (get_percpu_block M cpu) refl

  to : (f : ℕ → ℕ → Outcome) → ((k x : ℕ) → (f k x).rule ≡ 0) → (w : Result (ℕ × ℕ) ℕ) → Timely (reply_to m f w)
  unfolding reply_to
  to f g (Err r) = λ z d. absurd (d refl)
  to f g (Ok (k, x)) = quiet (f k x) (g k x)

  on : (f : ℕ → Outcome) → ((k : ℕ) → (f k).rule ≡ 0) → (l : Option ℕ) → Timely (reply_on m f l)
  unfolding reply_on
  on f g None = λ z d. absurd (d refl)
  on f g (Some k) = quiet (f k) (g k)

  drain_rule : (k : ℕ) → (drain_ipi_context_wakeups k M).rule ≡ 0
  unfolding drain_ipi_context_wakeups
  drain_rule k = refl

  block_rule : (x : ℕ) → (block x M).rule ≡ 0
  unfolding block_with
  block_rule x = refl

  hard_block_rule : (x : ℕ) → (hard_block x M).rule ≡ 0
  unfolding block_with
  hard_block_rule x = refl

  operation_timely : (operation context : ℕ) → Timely (operation_reply m M operation cpu time context)
  unfolding operation_reply
  operation_timely operation context =
      one_of (eqb operation 1) _ _ (decided by_tick (get_percpu_block M cpu) refl)
      (one_of (eqb operation 2) _ _ (decided by_switch (get_percpu_block M cpu) refl)
      (one_of (eqb operation 3) _ _ (directed (look_up M context))
      (one_of (eqb operation 4) _ _ (to _ (λ k x. unblock_rule k x M) (named M cpu context))
      (one_of (eqb operation 5) _ _ (on _ drain_rule (get_percpu_block M cpu))
      (one_of (eqb operation 6) _ _ (to _ (λ k x. block_rule x) (named M cpu context))
      (one_of (eqb operation 7) _ _ (to _ (λ k x. hard_block_rule x) (named M cpu context)) (λ z d. absurd (d refl))))))))

module _ (m : List ℕ) (operation cpu time context : ℕ) where
  checked_timely : (w : Result (ℕ × ℕ) ℕ) → Timely m (decode m) cpu time (checked_by m (λ (M : Machine). operation_reply m M operation cpu time context) w)
  unfolding checked_by
  checked_timely (Err r) = λ z d. absurd (d refl)
  checked_timely (Ok (c, n)) = operation_timely m (decode m) cpu time operation context

  timely : Timely m (decode m) cpu time (call m operation cpu time context)
  timely = subst (Timely m (decode m) cpu time) (sym (call_is m operation cpu time context)) (checked_timely (check m time))

  -- an accepted call: its CPU's words are those of the machine
  module _ (s : Accepts m cpu time) where
    fits : Fits (size_c m) (size_n m) (decode m)
    fits = decoded_fits m (passed time m s.none)

    word : (j : ℕ) → j < 666 → get_or m (cpu_place (size_n m) cpu + j) 0 ≡ get_or (cpu_words (cpu_at (decode m) cpu)) j 0
    word j h = block_word m cpu (decode m) (decoded m (passed time m s.none)) fits j s.below h

    -- the holder is the context in charge of the CPU, the time the nanoseconds of its turn
    pub turn_of : turn_at (size_n m) cpu time m ≡ record { context = (cpu_at (decode m) cpu).block.sched_ctxt; time = elapsed time (cpu_at (decode m) cpu) }
    unfolding cpu_words block_words stats_words
    turn_of =
        let e : get_or m (cpu_place (size_n m) cpu + 2) 0 ≡ (cpu_at (decode m) cpu).block.sched_ctxt = word 2 (omega arith)
        in let f : get_or m (cpu_place (size_n m) cpu + 4) 0 ≡ (cpu_at (decode m) cpu).block.schedule_time = word 4 (omega arith)
        in λ j. record { context = e j; time = time - f j }

    holder_below : (turn_at (size_n m) cpu time m).context < size_n m
    holder_below = rw (ap (λ (r : Record). r.context) turn_of) (fits.cpu cpu s.below).sched

  abbrev y : Reply
  y = call m operation cpu time context

  pub decision_in_range : y.answer.refusal ≡ 0 → (y.answer.rule ≡ 0 → ⊥) → is_in_range (size_n m) (turn_at (size_n m) cpu time m) ≡ true
  decision_in_range z d =
      let s : Accepts m cpu time = accepts {a = y.answer} {m' = y.image} m cpu time context z operation refl
      in both_in (size_n m) (turn_at (size_n m) cpu time m) (holder_below s)
      (rw (ap (λ (r : Record). r.time) (turn_of s)) (timely z d))

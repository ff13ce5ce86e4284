-- Over any calls on images, each finding the remainder that the one before it left, no part of a tick is lost.
use mathlib.Core.Path.{◌≡◌, refl, sym, ap, ◌∙◌, subst}
use mathlib.Core.List.{List, [], ◌∷◌}
use Prim.Native.Nat.{ℕ, ◌+◌, ◌*◌, ◌<◌}
use native.Mathlib.Omega.{arith}
use lib.Dec.{eqb}
use lib.ListN.{get_or}
use borrow.Author.Tests.{eqb-true, eqb-false}
use Rattle.columns.proofs.Tests.{by_test}
use Rattle.cpu_set.specs.Members.{members}
use Rattle.ticks.specs.declared.Spent.{Spent}
use Rattle.ticks.specs.Ticks.{nanos_per_tick, scale}
use Rattle.context.specs.declared.Status.TheVariants.{Blocked, Stopped}
use Rattle.answer.specs.declared.Answer.{Answer}
use Rattle.columns.specs.Blocks.{part}
use Rattle.columns.proofs.Tabulate.{part_get, get_d_tabulate}
use Rattle.percpu.specs.Cpu.{Cpu}
use Rattle.percpu.specs.Layout.{cpu_of}
use Rattle.percpu.specs.Places.{remainder_place, block_size}
use Rattle.machine.specs.Machine.{Machine, cpu_at, no_cpu}
use Rattle.machine.specs.Encode.{decode, cpu_place}
use Rattle.image.specs.Refusal.{size_c, size_n}
use Rattle.model.specs.Accepted.{Call, by_tick, by_switch, by_direct_switch, outcome}
use Rattle.model.proofs.CpuQueues.{present_in_range}
use Rattle.context_ops.specs.Reply.{Reply, reply}
use Rattle.model_weights.proofs.Untouched.{Untouched}
use Rattle.model_weights.proofs.Operations.{block_untouched, drain_untouched, unblock_untouched, group_untouched}
use Rattle.model_ticks.specs.Turns.{no_turn, turn_ended}
use Rattle.model_ticks.proofs.Conserved.{untouched_keeps, call_conserves}
use Rattle.calls.specs.Call.{check, unblock_group_call, call}
use Rattle.calls.proofs.Accepts.{refused_not}
use Rattle.ronthuyal.proofs.Left.{through}
use Rattle.call_weights.specs.Kept.{ImageCall, operation_call, group_call, reply_of, image_after}
use Rattle.call_weights.proofs.Came.{Came}
use Rattle.call_weights.proofs.Runs as calls
use Rattle.call_ticks.proofs.Refused.{refused_keeps}
use Rattle.call_ticks.specs.Sums.{turn_by, turn_of_call, carried, image_left, Carries, ticks_given, time_taken, Conserved, in_turn}

module _ (k : ℕ) (m m' : List ℕ) where
  -- what one call gives and takes
  abbrev Holds : Spent → Type 0
  Holds turn = turn.ticks * nanos_per_tick + carried k m' ≡ turn.elapsed * scale + carried k m

  none_holds : carried k m' ≡ carried k m → Holds no_turn
  none_holds e = omega arith

  module _ (a : Answer) (cpu time context : ℕ) (z : a.refusal ≡ 0) where
    abbrev M : Machine
    M = decode m

    deciding : (c : Call) → Came m m' cpu time (outcome c cpu time M).machine → Holds (turn_ended k M c cpu time)
    unfolding cpu_at
    deciding c w =
        subst (λ (N : Machine). (turn_ended k M c cpu time).ticks * nanos_per_tick + (cpu_at N k).remainder ≡ (turn_ended k M c cpu time).elapsed * scale + (cpu_at M k).remainder) (sym w.is)
        (call_conserves k M c cpu time (present_in_range M.cpus cpu w.present))

    resting : (N : Machine) → Untouched M N → Came m m' cpu time N → Holds no_turn
    resting N u w = none_holds (ap (λ (L : Machine). (cpu_at L k).remainder) w.is ∙ untouched_keeps M N u k)

    accepted_holds : (operation : ℕ) → reply a m' ≡ call m operation cpu time context → Holds (turn_by k M operation cpu time context)
    unfolding call turn_by
    accepted_holds operation =
        calls.one_of a m m' cpu time context z (eqb operation 1) _ _ (λ t e. rw t (deciding by_tick (calls.ticks a m m' cpu time context z e)))
        (λ t. calls.one_of a m m' cpu time context z (eqb operation 2) _ _ (λ u e. rw (t, u) (deciding by_switch (calls.switches a m m' cpu time context z e)))
        (λ u. calls.one_of a m m' cpu time context z (eqb operation 3) _ _ (λ v e. rw (t, u, v) (deciding (by_direct_switch context) (calls.direct_switches a m m' cpu time context z e)))
        (λ v. rw (t, u, v)
        (calls.one_of a m m' cpu time context z (eqb operation 4) _ _ (λ w e. resting _ (unblock_untouched cpu context M) (calls.unblocks a m m' cpu time context z e))
        (λ w. calls.one_of a m m' cpu time context z (eqb operation 5) _ _ (λ w e. resting _ (drain_untouched cpu M) (calls.drains a m m' cpu time context z e))
        (λ w. calls.one_of a m m' cpu time context z (eqb operation 6) _ _ (λ w e. resting _ (block_untouched Blocked context M) (calls.blocks a m m' cpu time context z e))
        (λ w. calls.one_of a m m' cpu time context z (eqb operation 7) _ _ (λ w e. resting _ (block_untouched Stopped context M) (calls.hard_blocks a m m' cpu time context z e))
        (λ w. through a m m' cpu time context z _ (λ p e. refused_not 5 m (λ y. omega arith) e z)))))))))

    group_holds : (mask : ℕ) → reply a m' ≡ unblock_group_call m cpu time mask → Holds no_turn
    group_holds mask e = resting _ (group_untouched cpu (members mask) M) (calls.group_checked a m m' cpu time context z mask (check m time) refl e)

-- one call, on any image and CPU, accepted or not
pub call_holds : (k : ℕ) (m : List ℕ) (c : ImageCall) → Holds k m (reply_of m c).image (turn_of_call k m c)
unfolding turn_of_call
call_holds k m (operation_call operation cpu time context) =
    let y : Reply = reply_of m (operation_call operation cpu time context) in
    by_test (eqb y.answer.refusal 0)
    (λ t. rw t (accepted_holds k m y.image y.answer cpu time context (eqb-true _ 0 t) operation refl))
    (λ t. rw t (none_holds k m y.image (ap (carried k) (refused_keeps m (operation_call operation cpu time context) (eqb-false _ 0 t)))))
call_holds k m (group_call cpu time mask) =
    let y : Reply = reply_of m (group_call cpu time mask) in
    by_test (eqb y.answer.refusal 0)
    (λ t. group_holds k m y.image y.answer cpu time 0 (eqb-true _ 0 t) mask refl)
    (λ t. none_holds k m y.image (ap (carried k) (refused_keeps m (group_call cpu time mask) (eqb-false _ 0 t))))

-- over any list of calls
pub ticks_conserved : Conserved
ticks_conserved k r r' [] w = omega arith
ticks_conserved k r r' (c ∷ cs) w =
    let turn : Spent = turn_of_call k c.image c.call in
    let one : turn.ticks * nanos_per_tick + carried k (image_left c) ≡ turn.elapsed * scale + carried k c.image = call_holds k c.image c.call in
    let rest : ticks_given k cs * nanos_per_tick + r' ≡ time_taken k cs * scale + carried k (image_left c) = ticks_conserved k (carried k (image_left c)) r' cs w.1 in
    let e : carried k c.image ≡ r = w.0 in
    omega (arith, one, rest, e)

in_turn_carries : (k : ℕ) (m : List ℕ) (cs : List ImageCall) → Carries k (carried k m) (in_turn m cs) (carried k (image_after m cs))
in_turn_carries k m [] = refl
in_turn_carries k m (c ∷ cs) = (refl, in_turn_carries k (reply_of m c).image cs)

-- of a run
pub run_conserved : (k : ℕ) (m : List ℕ) (cs : List ImageCall)
    → ticks_given k (in_turn m cs) * nanos_per_tick + carried k (image_after m cs) ≡ time_taken k (in_turn m cs) * scale + carried k m
run_conserved k m cs = ticks_conserved k _ _ (in_turn m cs) (in_turn_carries k m cs)

-- what is carried is the last word of the block
pub carried_word : (k : ℕ) (m : List ℕ) → k < size_c m → carried k m ≡ get_or m (cpu_place (size_n m) k + remainder_place) 0
unfolding decode cpu_at cpu_of
carried_word k m h =
    ap (λ (p : Cpu). p.remainder) (get_d_tabulate (size_c m) k (λ (j : ℕ). cpu_of (part m (cpu_place (size_n m) j) block_size)) no_cpu h)
    ∙ part_get m (cpu_place (size_n m) k) block_size remainder_place (omega arith)

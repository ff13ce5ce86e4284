-- The bound of a turn, from the words that it is worked out by. Assumes nothing.
use Rattle.std.specs.Prelude.{if◌then◌else◌, Option, is_some}
use mathlib.Core.Path.{◌≡◌, refl, ap, ◌∙◌}
use mathlib.Core.Logic.{◌⊎◌, inl, inr}
use mathlib.Core.Bool.{Bool, true, false, not, ◌&&◌}
use Prim.Native.Nat.{ℕ, ◌-◌, ◌%◌, ◌<◌, ◌≤◌}
use native.Mathlib.Omega.{arith}
use lib.Dec.{ltb, eqb}
use borrow.Author.Tests.{ltb-false, eqb-false, ne_eqb}
use Rattle.ticks.specs.Ticks.{ticks, max_remainder}
use Rattle.machine.specs.Machine.{Machine, context_at, cpu_at}
use Rattle.model.specs.State.{State, state_of}
use Rattle.model.specs.Steal.{idle_steal_interval, steal_interval, should_steal}
use Rattle.model.specs.Accepted.{Call, by_tick, by_switch, by_direct_switch}
use Rattle.model.proofs.Cases.{by_test, past}
use Rattle.admission.specs.Refusals.{decision_locked, is_late, decision_refusal, direct_refusal}
use Rattle.switch_ops.specs.Reply.{refusal}
use Rattle.growth.specs.Growth.{most_ticks, capped, may_steal}
use Rattle.growth.proofs.Watched.{Watched, watched}

pub few_ticks : (e r : ℕ) → r ≤ max_remainder → ticks e r ≤ most_ticks e
unfolding ticks
few_ticks e r h = omega arith

-- a call that is not refused is in time
decision_in_time : (M : Machine) (k time : ℕ) → decision_refusal M k time ≡ 0 → is_late time (cpu_at M k).block ≡ false
unfolding decision_refusal
decision_in_time M k time e =
    let (a, f) = past (decision_locked M k) (λ z. omega arith) e in
    (past (is_late time (cpu_at M k).block) (λ z. omega arith) f).0

direct_in_time : (M : Machine) (k time x : ℕ) → direct_refusal M k time x ≡ 0 → is_late time (cpu_at M k).block ≡ false
unfolding direct_refusal
direct_in_time M k time x e =
    let p = (cpu_at M k).block in
    let q = context_at M.contexts x in
    let (a, e₁) = past (decision_locked M k) (λ z. omega arith) e in
    let (b, e₂) = past (not (eqb q.lock 0)) (λ z. omega arith) e₁ in
    let (c, e₃) = past (eqb q.addr_space 2) (λ z. omega arith) e₂ in
    let (d, e₄) = past (eqb p.current_ctxt p.idle_ctxt && not (eqb x p.current_ctxt)) (λ z. omega arith) e₃ in
    (past (is_late time p) (λ z. omega arith) e₄).0

pub in_time : (call : Call) (M : Machine) (k time : ℕ) → refusal call M k time ≡ 0 → capped (time - (cpu_at M k).block.schedule_time) ≡ time - (cpu_at M k).block.schedule_time
in_time by_tick M k time e = rw (decision_in_time M k time e) refl
in_time by_switch M k time e = rw (decision_in_time M k time e) refl
in_time (by_direct_switch x) M k time e = rw (direct_in_time M k time x e) refl

-- no stealing turn, by the counter, in charge and idle
quiet : (s : State) → eqb (s.cpu.block.steal_counter % (if eqb s.cpu.block.sched_ctxt s.cpu.block.idle_ctxt then idle_steal_interval else steal_interval)) 0 ≡ false
    → (u : State) (w : Option ℕ) → watched u ≡ watched s → should_steal u w ≡ false
quiet s e u w f =
    ap (λ (v : Watched). eqb (v.counter % (if eqb v.in_charge v.idle && not (is_some w) then idle_steal_interval else steal_interval)) 0) f ∙ by (eqb s.cpu.block.sched_ctxt s.cpu.block.idle_ctxt) (not (is_some w)) e
  where
    by : (i j : Bool) → eqb (s.cpu.block.steal_counter % (if i then idle_steal_interval else steal_interval)) 0 ≡ false
        → eqb (s.cpu.block.steal_counter % (if i && j then idle_steal_interval else steal_interval)) 0 ≡ false
    by true true h = h
    by false j h = h
    by true false h = let z : s.cpu.block.steal_counter % 2 ≡ 0 → ⊥ = eqb-false (s.cpu.block.steal_counter % 2) 0 h in ne_eqb (s.cpu.block.steal_counter % 16) 0 (λ y. z (omega arith))

pub turn_told : (c k : ℕ) (M : Machine) → k < c → may_steal c (cpu_at M k).block ≡ false
    → ((u : State) (w : Option ℕ) → watched u ≡ watched (state_of k M) → should_steal u w ≡ false) ⊎ (c ≡ 1)
unfolding may_steal
turn_told c k M h e =
    by_test (ltb 1 c) (λ y. inl (quiet (state_of k M) (rw y at e))) (λ y. inr (let z : c ≤ 1 = ltb-false 1 c y in omega arith))

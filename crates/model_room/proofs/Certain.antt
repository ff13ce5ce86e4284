-- Where a CPU has fewer than 64 entries, timers and local names in all, every decision finds room. Assumes nothing.
use Rattle.std.specs.Prelude.{None, Option, Some}
use mathlib.Core.Path.{◌≡◌, refl}
use mathlib.Core.Bool.{Bool, true, false}
use mathlib.Core.List.{List}
use Prim.Native.Nat.{ℕ, ◌+◌, ◌<◌, ◌≤◌}
use native.Mathlib.Omega.{arith}
use lib.Dec.{ltb, eqb}
use lib.ListN.{length, get_or, get_or-eq_default}
use borrow.Author.Tests.{ltb-true, ltb-false}
use Rattle.runnable.specs.declared.UpdateResult.{UpdateResult}
use Rattle.runnable.specs.declared.UpdateResult.TheVariants.{CanSwitch, Skip, Blocked}
use Rattle.runnable.specs.Runnable.{update_runnable}
use Rattle.percpu.specs.Cpu.{Cpu}
use Rattle.machine.specs.Machine.{Machine, cpu_at, no_cpu}
use Rattle.machine.specs.Shape.{Fits}
use Rattle.model.specs.State.{State, at, state_of, put_context}
use Rattle.model.specs.Steal.{steal}
use Rattle.model.specs.SwitchTo.{direct_switch_by, try_direct_switch_back}
use Rattle.model.specs.Schedule.{Outcome, ticked, switch_inner_by, switch_inner, direct_switch_or, tick, switch, direct_switch_to}
use Rattle.model.specs.Accepted.{Call, by_tick, by_switch, by_direct_switch, outcome}
use Rattle.model.proofs.Cases.{by_test, pick}
use Rattle.model_room.proofs.Within.{Within}
use Rattle.model_room.proofs.Stealing.{steal_room}
use Rattle.model_room.proofs.Deciding.{switch_to_within, schedule_room}

module _ {q t l : ℕ} (k time : ℕ) (cpus : List Cpu) (each : (i : ℕ) → length (get_or cpus i no_cpu).queue ≤ 64) (few : q + t + l < 64) where
  -- a direct switch that succeeds found room, so what is made of it by f finds room if f does where it fails
  directly : (x : ℕ) (s : State) (r : UpdateResult) (f : Option State → Outcome) → Within q t l s → ((u : State) → u.no_room ≡ false → (f (Some u)).no_room ≡ false)
      → (f None).no_room ≡ false → (f (direct_switch_by k time x s r)).no_room ≡ false
  unfolding direct_switch_by
  directly x s Skip f h g n = n
  directly x s Blocked f h g n = n
  directly x s (CanSwitch c) f h g n = g _ (switch_to_within k time {q = q} {t = t} {l = l} x (put_context x c s) (omega arith) h).room

  inner_room : (s : State) → Within q t l s → (switch_inner k time cpus s).no_room ≡ false
  unfolding switch_inner switch_inner_by try_direct_switch_back
  inner_room s h =
      let x : ℕ = s.cpu.block.sched_ctxt in
      let n = schedule_room k time cpus s each h few in
      pick (λ (o : Option State). (switch_inner_by k time cpus s o).no_room ≡ false) (eqb s.cpu.block.current_ctxt x) (λ z. n)
      (λ z. directly x s (update_runnable k time true false (at s x)) (switch_inner_by k time cpus s) h (λ u e. e) n)

-- the call of a machine whose CPUs have at most 64 entries each
called_room : (k time : ℕ) (call : Call) (M : Machine) → ((i : ℕ) → length (get_or M.cpus i no_cpu).queue ≤ 64)
    → length (cpu_at M k).queue + length (cpu_at M k).timers + length (cpu_at M k).local_wakeup_list < 64 → (outcome call k time M).no_room ≡ false
unfolding tick switch direct_switch_to direct_switch_or
called_room k time call M each few = go call
  where
    p : Cpu
    p = cpu_at M k

    start : Within (length p.queue) (length p.timers) (length p.local_wakeup_list) (state_of k M)
    start = record { room = refl; queue = omega arith; timers = omega arith; local = omega arith }

    go : (call : Call) → (outcome call k time M).no_room ≡ false
    go by_tick =
        pick (λ (o : Outcome). o.no_room ≡ false) (ltb (ticked (state_of k M)).cpu.block.pit_ticks 3) (λ z. refl) (λ z. inner_room k time M.cpus each few (ticked (state_of k M)) start)
    go by_switch = inner_room k time M.cpus each few (state_of k M) start
    go (by_direct_switch x) =
        pick (λ (o : Outcome). o.no_room ≡ false) (eqb p.block.current_ctxt x) (λ z. refl)
        (λ z. directly k time M.cpus each few x (state_of k M) _ (direct_switch_or k time M.cpus (state_of k M)) start (λ u e. e)
        (inner_room k time M.cpus each few (state_of k M) start))

-- every queue of a machine that fits has at most 64 entries; past the last CPU there are none
each_fits : (c n : ℕ) (M : Machine) → Fits c n M → (i : ℕ) → length (get_or M.cpus i no_cpu).queue ≤ 64
unfolding cpu_at no_cpu
each_fits c n M o i =
    by_test (ltb i c) (λ z. (o.cpu i (ltb-true i c z)).queue)
    (λ z. let past : length M.cpus ≤ i = omega (arith, o.cpus, ltb-false i c z) in rw (get_or-eq_default M.cpus no_cpu past) (omega arith))

pub room_certain : (c n k time : ℕ) (call : Call) (M : Machine) → Fits c n M → k < c
    → length (cpu_at M k).queue + length (cpu_at M k).timers + length (cpu_at M k).local_wakeup_list < 64 → (outcome call k time M).no_room ≡ false
room_certain c n k time call M o h few = called_room k time call M (each_fits c n M o) few

-- a stealing from CPU k's state of a machine that fits never finds the queue full, even where it has 64 entries
pub steal_certain : (c n k : ℕ) (runs : Bool) (locked : List ℕ) (w : Option ℕ) (M : Machine) → Fits c n M → k < c → (steal k runs locked M.cpus w (state_of k M)).state.no_room ≡ false
steal_certain c n k runs locked w M o h =
    let start : Within 64 64 64 (state_of k M) = record { room = refl; queue = (o.cpu k h).queue; timers = (o.cpu k h).timers; local = (o.cpu k h).local } in
    (steal_room k runs locked M.cpus w (state_of k M) (each_fits c n M o) start).room

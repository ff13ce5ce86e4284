-- The end of a decision, and a switch without one, in the code's words. Assumes nothing.
use mathlib.Core.Path.{◌≡◌, sym, ap, ◌∙◌, subst}
use mathlib.Core.Bool.{true}
use mathlib.Core.List.{List}
use Prim.Native.Nat.{ℕ}
use lib.Dec.{eqb}
use Rattle.percpu.specs.Cpu.{Cpu}
use Rattle.machine.specs.Outcome.{Outcome}
use Rattle.answer.specs.declared.SwitchResult.TheVariants.{Switched, AllContextsIdle}
use Rattle.answer.specs.Number.{result_number, rule_number}
use Rattle.model.specs.State as model
use Rattle.model.specs.SwitchTo.{try_direct_switch_back}
use Rattle.model.specs.Schedule.{Scheduled, finish_by, finish, switch_as, after_schedule}
use Rattle.model.proofs.Cases.{pick, never}
use Rattle.model.proofs.NoRoom.{Full, switch_to_full}
use Rattle.plain_model.specs.Schedule.{schedule, switch_inner_by, switch_inner}
use Rattle.plain_state.specs.declared.State.{State}
use Rattle.plain_state.specs.States.{state_in, Became, Tracks}
use Rattle.std.specs.Prelude.{None, Some, Option}
use Rattle.std.proofs.Common.{refl}
use Rattle.plain_switch.specs.Direct.{Switches}
use Rattle.plain_steal.specs.declared.cpus.Cpus.{Cpus}
use Rattle.plain_steal.specs.Stealing.{cpus_in, CpusSound}
use Rattle.plain_schedule.specs.declared.Next.{Next}
use Rattle.plain_schedule.specs.Next.{NextTracks, next_in}
use Rattle.plain_decide.specs.declared.switching.Decided.{Decided}
use Rattle.plain_decide.specs.Decided.{DecidedTracks, marked_idle, switched_to}

-- by who was picked
module _ (n c k time : ℕ) (m : Next) (a : CpusSound c m.cpus) {u : ℕ} (hu : u ≡ rule_number m.rule) where
  abbrev ends : Option ℕ → Outcome
  ends w = switch_as k time (rule_number m.rule) (state_in n m.state) (cpus_in c m.cpus) w

  ends_idle : {t : State} {r : ℕ} → Became n t (marked_idle (state_in n m.state)) → r ≡ result_number AllContextsIdle
      → DecidedTracks n c k (record { state = t; cpus = m.cpus; result = r; rule = u }) (ends None)
  unfolding switch_as
  ends_idle b e =
      record {
        sound = b.sound;
        cpus = a;
        room = ap (λ (z : model.State). z.no_room) b.is;
        is = λ z i. finish_by (hu i) k (cpus_in c m.cpus) (e i) (b.is i);
      }

  ends_switched : (x : ℕ) {t : State} {r : ℕ} → Tracks n t (switched_to k time x (state_in n m.state)) → r ≡ result_number Switched
      → DecidedTracks n c k (record { state = t; cpus = m.cpus; result = r; rule = u }) (ends (Some x))
  unfolding switch_as
  ends_switched x b e = record { sound = b.sound; cpus = a; room = b.room; is = λ z i. finish_by (hu i) k (cpus_in c m.cpus) (e i) (b.is z i) }

  pub kept_slice : {t : State} {r : ℕ} → m.context ≡ None → Became n t (marked_idle (state_in n m.state)) → r ≡ result_number AllContextsIdle
      → DecidedTracks n c k (record { state = t; cpus = m.cpus; result = r; rule = u }) (after_schedule k time (next_in n c m))
  unfolding after_schedule
  kept_slice {t} {r} h b e = subst (λ (w : Option ℕ). DecidedTracks n c k (record { state = t; cpus = m.cpus; result = r; rule = u }) (ends w)) (sym h) (ends_idle b e)

  pub got_slice : {x : ℕ} {t : State} {r : ℕ} → m.context ≡ Some x → Tracks n t (switched_to k time x (state_in n m.state)) → r ≡ result_number Switched
      → DecidedTracks n c k (record { state = t; cpus = m.cpus; result = r; rule = u }) (after_schedule k time (next_in n c m))
  unfolding after_schedule
  got_slice {x} {t} {r} h b e = subst (λ (w : Option ℕ). DecidedTracks n c k (record { state = t; cpus = m.cpus; result = r; rule = u }) (ends w)) (sym h) (ends_switched x b e)

-- no room was found before
as_full : (k time rule : ℕ) (s : model.State) (cpus : List Cpu) (o : Option ℕ) → Full s → (switch_as k time rule s cpus o).no_room ≡ true
unfolding switch_as
as_full k time rule s cpus None h = h
as_full k time rule s cpus (Some x) h = pick Full (eqb s.cpu.block.current_ctxt x) (λ t. h) (λ t. switch_to_full k time x s h)

after_full : (k time : ℕ) (d : Scheduled) → Full d.state → (after_schedule k time d).no_room ≡ true
unfolding after_schedule
after_full k time d h = as_full k time (rule_number d.rule) d.state d.cpus d.picked h

-- m: the decision
module _ (n c k time : ℕ) (s : State) (cpus : Cpus) {m : Next} (hm : NextTracks n c m (schedule k time (cpus_in c cpus) (state_in n s))) where
  pub no_decision : {r u : ℕ} → m.state.no_room ≡ true
      → DecidedTracks n c k (record { state = m.state; cpus = m.cpus; result = r; rule = u }) (after_schedule k time (schedule k time (cpus_in c cpus) (state_in n s)))
  no_decision h =
      let f : (after_schedule k time (schedule k time (cpus_in c cpus) (state_in n s))).no_room ≡ true = after_full k time (schedule k time (cpus_in c cpus) (state_in n s)) (sym hm.room ∙ h) in
      record { sound = hm.sound; cpus = hm.cpus; room = h ∙ sym f; is = λ z. never f z }

-- a direct switch gives the outcome
pub directly : {n c : ℕ} (k : ℕ) {cpus : Cpus} → CpusSound c cpus → {t : State} {S : model.State} {r : Decided} → Tracks n t S
    → r ≡ record { state = t; cpus = cpus; result = result_number Switched; rule = 0 } → DecidedTracks n c k r (finish k (cpus_in c cpus) (result_number Switched) S)
directly {n} {c} k {cpus} a {t = u} {S} {r} t e =
    subst (λ (z : Decided). DecidedTracks n c k z (finish k (cpus_in c cpus) (result_number Switched) S)) (sym e)
    (record { sound = t.sound; cpus = a; room = t.room; is = λ z i. finish k (cpus_in c cpus) (result_number Switched) (t.is z i) })

-- back to the context in charge
module _ (n c k time : ℕ) (s : State) (cpus : Cpus) where
  back_by : {b : State} {r : Decided} (o : Option model.State) → CpusSound c cpus → Switches n (Some b) (state_in n s) o
      → r ≡ record { state = b; cpus = cpus; result = result_number Switched; rule = 0 } → DecidedTracks n c k r (switch_inner_by k time (cpus_in c cpus) (state_in n s) o)
  unfolding switch_inner_by
  back_by None a w e = never w.0 refl
  back_by (Some S) a w e = directly k a w.1 e

  pub switched_back : {b : State} {r : Decided} → CpusSound c cpus → Switches n (Some b) (state_in n s) (try_direct_switch_back k time (state_in n s))
      → r ≡ record { state = b; cpus = cpus; result = result_number Switched; rule = 0 } → DecidedTracks n c k r (switch_inner k time (cpus_in c cpus) (state_in n s))
  unfolding switch_inner
  switched_back a w e = back_by (try_direct_switch_back k time (state_in n s)) a w e

  not_back_by : {r : Decided} (o : Option model.State) → Switches n None (state_in n s) o
      → DecidedTracks n c k r (after_schedule k time (schedule k time (cpus_in c cpus) (state_in n s))) → DecidedTracks n c k r (switch_inner_by k time (cpus_in c cpus) (state_in n s) o)
  unfolding switch_inner_by
  not_back_by None w t = t
  not_back_by (Some S) w t = never refl w

  pub not_back : {r : Decided} → Switches n None (state_in n s) (try_direct_switch_back k time (state_in n s))
      → DecidedTracks n c k r (after_schedule k time (schedule k time (cpus_in c cpus) (state_in n s))) → DecidedTracks n c k r (switch_inner k time (cpus_in c cpus) (state_in n s))
  unfolding switch_inner
  not_back w t = not_back_by (try_direct_switch_back k time (state_in n s)) w t

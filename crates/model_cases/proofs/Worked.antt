-- Demand 3 of document 01's worked example: what the theorem asks for can be met.
use mathlib.Core.Path.{◌≡◌, refl, subst, sym, ap, ◌∙◌}
use mathlib.Core.Bool.{true, false}
use mathlib.Core.List.{[]}
use mathlib.Core.Logic.{inl, inr, ◌≢◌}
use Prim.Native.Nat.{ℕ, zero, suc}
use native.Mathlib.Omega.{arith}
use Rattle.columns.specs.Common.{In}
use Rattle.entries.specs.declared.Entry.{Entry}
use Rattle.entries.specs.declared.Timer.{Timer}
use Rattle.entries.specs.Order.{entry_before}
use Rattle.machine.specs.Machine.{cpu_at}
use Rattle.model.specs.Opened.{opened}
use Rattle.model.specs.Schedule.{switch}
use Rattle.model.specs.Tidy.{Sorted, Sound, Tidy, Agrees, Queued, InCharge, Present, Live, IsContext, context}
use Rattle.model.specs.Accepted.{Accepted, by_switch, by_timer, by_name, ServesOwn}
use Rattle.model.specs.Demand3.{Ready, Eligible, Demand3}
use Rattle.model.proofs.Cases.{never}
use Rattle.model.proofs.Places.{one_place}
use Rattle.model.proofs.Demand.{demand_3}
use Rattle.model_cases.specs.Starred.{idler, worker, queued, start, worked}

here : (i : ℕ) → Present worked i → i ≡ 0
unfolding opened start worked
here zero h = refl
here (suc i) h = never {b = false} h refl

only : (e : Entry) (i : ℕ) → In e (cpu_at worked i).queue → (e ≡ queued) × (i ≡ 0)
unfolding opened start worked
only e zero (inl h) = (h, refl)
only e zero (inr h) = absurd h
only e (suc i) h = absurd h

is_one : (e : Entry) (i : ℕ) → In e (cpu_at worked i).queue → e.context_ref ≡ 1
is_one e i h = ap (λ (f : Entry). f.context_ref) (only e i h).0

-- a fact of the one CPU
at_zero : (P : ℕ → Type 0) → P 0 → (i : ℕ) → Present worked i → P i
at_zero P a i h = subst P (sym (here i h)) a

pub worked_sound : Sound worked
unfolding opened idler worker start worked
worked_sound =
    record {
      ids_differ = apart;
      in_charge_is = at_zero (λ i. IsContext worked (cpu_at worked i).block.sched_ctxt) (omega arith);
      idle_is = at_zero (λ i. IsContext worked (cpu_at worked i).block.idle_ctxt) (omega arith);
      in_charge_live = at_zero (λ i. Live worked (cpu_at worked i).block.sched_ctxt) refl;
      entry_is = λ e i h. rw (is_one e i h) (omega arith);
      entry_id = λ e i h. subst (λ (f : Entry). (context worked f.context_ref).debug_id ≡ f.key.ctxt_id) (sym (only e i h).0) refl;
      timer_is = no_timer;
      name_is = no_name;
      keys_rise = rise;
      absent_empty = empty;
    }
  where
    apart : (x y : ℕ) → IsContext worked x → IsContext worked y → (context worked x).debug_id ≡ (context worked y).debug_id → x ≡ y
    apart zero zero a b m = refl
    apart zero (suc zero) a b m = absurd (omega arith)
    apart zero (suc (suc y)) a b m = absurd (omega arith)
    apart (suc zero) zero a b m = absurd (omega arith)
    apart (suc zero) (suc zero) a b m = refl
    apart (suc zero) (suc (suc y)) a b m = absurd (omega arith)
    apart (suc (suc x)) y a b m = absurd (omega arith)

    no_timer : (t : Timer) (i : ℕ) → In t (cpu_at worked i).timers → IsContext worked t.context_ref
    no_timer t zero h = absurd h
    no_timer t (suc i) h = absurd h

    no_name : (x i : ℕ) → In x (cpu_at worked i).local_wakeup_list → IsContext worked x
    no_name x zero h = absurd h
    no_name x (suc i) h = absurd h

    rise : (i : ℕ) → Sorted entry_before (cpu_at worked i).queue
    rise zero = (tt, tt)
    rise (suc i) = tt

    empty : (i : ℕ) → (cpu_at worked i).block.present ≡ false → (cpu_at worked i).queue ≡ []
    empty zero h = never {b = true} refl h
    empty (suc i) h = refl

pub worked_tidy : Tidy worked
unfolding opened idler worker start worked
worked_tidy =
    record {
      one_entry = one_place worked worked_sound.keys_rise
          (λ e f i j q r m.
          let (a, b) = only e i q.is_in in
          let (c, d) = only f j r.is_in in
          (a ∙ sym c, b ∙ sym d));
      agrees = λ e i q.
          subst (λ (f : Entry). Live worked f.context_ref → Agrees (context worked f.context_ref) f) (sym (only e i q.is_in).0)
          (λ l. record { has_key = refl; key_vd = refl; key_rem_slice = refl; key_id = refl; vd = refl; rem_slice = refl; vtime = refl });
      no_entry_no_key = keyless;
      idle_not_queued = λ e i j q h m.
          at_zero (λ k. (cpu_at worked k).block.idle_ctxt ≡ 1 → ⊥) (λ z. omega arith) j h (sym m ∙ is_one e i q.is_in);
      in_charge_not_queued = λ e i j q h m.
          at_zero (λ k. (cpu_at worked k).block.sched_ctxt ≡ 1 → ⊥) (λ z. omega arith) j h (sym m ∙ is_one e i q.is_in);
      one_in_charge = λ i j h k m. here i h ∙ sym (here j k);
      one_idle = λ i j h k m. here i h ∙ sym (here j k);
      idle_not_userspace = at_zero (λ a. (context worked (cpu_at worked a).block.idle_ctxt).userspace ≡ false) refl;
      idle_at_home = λ i j h k m. here i h ∙ sym (here j k);
      scheduled_if = at_zero (λ a. (context worked (cpu_at worked a).block.sched_ctxt).currently_scheduled ≡ true) refl;
      scheduled_only = named;
    }
  where
    keyless : (x : ℕ) → IsContext worked x → Live worked x → ((e : Entry) (i : ℕ) → Queued worked e i → e.context_ref ≢ x) → (context worked x).has_queue_key ≡ false
    keyless zero r l f = refl
    keyless (suc zero) r l f = absurd (f queued 0 (record { present = refl; is_in = inl refl }) refl)
    keyless (suc (suc x)) r l f = refl

    named : (x : ℕ) → IsContext worked x → (context worked x).currently_scheduled ≡ true → (i : ℕ) × InCharge worked x i
    named zero r h = (0, record { present = refl; named = refl })
    named (suc zero) r h = never {b = false} h refl
    named (suc (suc x)) r h = never {b = false} h refl

worked_accepted : Accepted 0 2250000 worked by_switch
unfolding opened idler worker start worked
worked_accepted = record { present = refl; decision = refl; room = refl }

worked_own : ServesOwn 0 2250000 worked
unfolding opened start worked
worked_own x (by_timer t i d m l o n) = absurd i
worked_own x (by_name i o) = absurd i

pub worked_demand : Demand3 0 2250000 worked (switch 0 2250000 worked).machine
worked_demand = demand_3 by_switch 0 2250000 worked worked_sound worked_tidy worked_accepted worked_own

-- its entry is ready and eligible, so the least key of such entries is in charge, or the holder before it
pub worked_ready : Ready 0 2250000 worked queued
unfolding opened idler worker start worked
worked_ready =
    record {
      is_in = inl refl;
      alive = refl;
      not_idle = λ z. omega arith;
      not_in_charge = λ z. omega arith;
      unlocked = refl;
      addr_space_free = λ z. omega arith;
      runnable = refl;
    }

pub worked_eligible : Eligible 0 2250000 worked queued
unfolding opened start worked
worked_eligible = omega arith

-- The condition of demand 3 is needed: without it a decision on a tidy machine leaves an untidy one.
use mathlib.Core.Path.{◌≡◌, refl, subst, sym, ap, ◌∙◌}
use mathlib.Core.Bool.{true, false}
use mathlib.Core.List.{[]}
use mathlib.Core.Logic.{◌⊎◌, inl, inr, ◌≢◌}
use Prim.Native.Nat.{ℕ, zero, suc}
use native.Mathlib.Omega.{arith}
use Rattle.columns.specs.Common.{In}
use Rattle.entries.specs.declared.Entry.{Entry}
use Rattle.entries.specs.declared.Timer.{Timer}
use Rattle.machine.specs.Machine.{cpu_at}
use Rattle.model.specs.Opened.{opened}
use Rattle.model_cases.specs.Starred.{idler, worker, queued, start}
use Rattle.model_cases.specs.Stray.{stray}
use Rattle.model.specs.Schedule.{switch}
use Rattle.model.specs.Tidy.{Sound, Tidy, Agrees, Queued, InCharge, Present, Live, IsContext, context, Sorted}
use Rattle.model.specs.Accepted.{Accepted, by_switch, by_name, ServesOwn}
use Rattle.entries.specs.Order.{entry_before}
use Rattle.model.proofs.Cases.{never}
use Rattle.model.proofs.Places.{one_place}

here : (i : ℕ) → Present stray i → (i ≡ 0) ⊎ (i ≡ 1)
unfolding opened start stray
here zero h = inl refl
here (suc zero) h = inr refl
here (suc (suc i)) h = never {b = false} h refl

only : (e : Entry) (i : ℕ) → In e (cpu_at stray i).queue → (e ≡ queued) × (i ≡ 1)
unfolding opened start stray
only e zero h = absurd h
only e (suc zero) (inl h) = (h, refl)
only e (suc zero) (inr h) = absurd h
only e (suc (suc i)) h = absurd h

is_one : (e : Entry) (i : ℕ) → In e (cpu_at stray i).queue → e.context_ref ≡ 1
is_one e i h = ap (λ (f : Entry). f.context_ref) (only e i h).0

-- a fact of both present CPUs
both : (P : ℕ → Type 0) → P 0 → P 1 → (i : ℕ) → Present stray i → P i
both P a b i h = go (here i h)
  where
    go : (i ≡ 0) ⊎ (i ≡ 1) → P i
    go (inl e) = subst P (sym e) a
    go (inr e) = subst P (sym e) b

pub stray_sound : Sound stray
unfolding opened idler worker start stray
stray_sound =
    record {
      ids_differ = apart;
      in_charge_is = both (λ i. IsContext stray (cpu_at stray i).block.sched_ctxt) (omega arith) (omega arith);
      idle_is = both (λ i. IsContext stray (cpu_at stray i).block.idle_ctxt) (omega arith) (omega arith);
      in_charge_live = both (λ i. Live stray (cpu_at stray i).block.sched_ctxt) refl refl;
      entry_is = λ e i h. rw (is_one e i h) (omega arith);
      entry_id = λ e i h. subst (λ (f : Entry). (context stray f.context_ref).debug_id ≡ f.key.ctxt_id) (sym (only e i h).0) refl;
      timer_is = no_timer;
      name_is = name;
      keys_rise = rise;
      absent_empty = empty;
    }
  where
    apart : (x y : ℕ) → IsContext stray x → IsContext stray y → (context stray x).debug_id ≡ (context stray y).debug_id → x ≡ y
    apart zero zero a b m = refl
    apart zero (suc zero) a b m = absurd (omega arith)
    apart zero (suc (suc zero)) a b m = absurd (omega arith)
    apart zero (suc (suc (suc y))) a b m = absurd (omega arith)
    apart (suc zero) zero a b m = absurd (omega arith)
    apart (suc zero) (suc zero) a b m = refl
    apart (suc zero) (suc (suc zero)) a b m = absurd (omega arith)
    apart (suc zero) (suc (suc (suc y))) a b m = absurd (omega arith)
    apart (suc (suc zero)) zero a b m = absurd (omega arith)
    apart (suc (suc zero)) (suc zero) a b m = absurd (omega arith)
    apart (suc (suc zero)) (suc (suc zero)) a b m = refl
    apart (suc (suc zero)) (suc (suc (suc y))) a b m = absurd (omega arith)
    apart (suc (suc (suc x))) y a b m = absurd (omega arith)

    no_timer : (t : Timer) (i : ℕ) → In t (cpu_at stray i).timers → IsContext stray t.context_ref
    no_timer t zero h = absurd h
    no_timer t (suc zero) h = absurd h
    no_timer t (suc (suc i)) h = absurd h

    name : (x i : ℕ) → In x (cpu_at stray i).local_wakeup_list → IsContext stray x
    name x zero (inl h) = rw h (omega arith)
    name x zero (inr h) = absurd h
    name x (suc zero) h = absurd h
    name x (suc (suc i)) h = absurd h

    rise : (i : ℕ) → Sorted entry_before (cpu_at stray i).queue
    rise zero = tt
    rise (suc zero) = (tt, tt)
    rise (suc (suc i)) = tt

    empty : (i : ℕ) → (cpu_at stray i).block.present ≡ false → (cpu_at stray i).queue ≡ []
    empty zero h = refl
    empty (suc zero) h = never {b = true} refl h
    empty (suc (suc i)) h = refl

pub stray_tidy : Tidy stray
unfolding opened idler worker start stray
stray_tidy =
    record {
      one_entry = one_place stray stray_sound.keys_rise
          (λ e f i j q r m.
          let (a, b) = only e i q.is_in in
          let (c, d) = only f j r.is_in in
          (a ∙ sym c, b ∙ sym d));
      agrees = λ e i q.
          subst (λ (f : Entry). Live stray f.context_ref → Agrees (context stray f.context_ref) f) (sym (only e i q.is_in).0)
          (λ l. record { has_key = refl; key_vd = refl; key_rem_slice = refl; key_id = refl; vd = refl; rem_slice = refl; vtime = refl });
      no_entry_no_key = keyless;
      idle_not_queued = λ e i j q h m.
          both (λ k. (cpu_at stray k).block.idle_ctxt ≡ 1 → ⊥) (λ z. omega arith) (λ z. omega arith) j h (sym m ∙ is_one e i q.is_in);
      in_charge_not_queued = λ e i j q h m.
          both (λ k. (cpu_at stray k).block.sched_ctxt ≡ 1 → ⊥) (λ z. omega arith) (λ z. omega arith) j h (sym m ∙ is_one e i q.is_in);
      one_in_charge = λ i j h k.
          both (λ a. (cpu_at stray a).block.sched_ctxt ≡ (cpu_at stray j).block.sched_ctxt → a ≡ j)
          (both (λ b. 0 ≡ (cpu_at stray b).block.sched_ctxt → 0 ≡ b) (λ z. refl) (λ z. absurd (omega arith)) j k)
          (both (λ b. 2 ≡ (cpu_at stray b).block.sched_ctxt → 1 ≡ b) (λ z. absurd (omega arith)) (λ z. refl) j k) i h;
      one_idle = λ i j h k.
          both (λ a. (cpu_at stray a).block.idle_ctxt ≡ (cpu_at stray j).block.idle_ctxt → a ≡ j)
          (both (λ b. 0 ≡ (cpu_at stray b).block.idle_ctxt → 0 ≡ b) (λ z. refl) (λ z. absurd (omega arith)) j k)
          (both (λ b. 2 ≡ (cpu_at stray b).block.idle_ctxt → 1 ≡ b) (λ z. absurd (omega arith)) (λ z. refl) j k) i h;
      idle_not_userspace = both (λ a. (context stray (cpu_at stray a).block.idle_ctxt).userspace ≡ false) refl refl;
      idle_at_home = λ i j h k.
          both (λ a. (cpu_at stray a).block.sched_ctxt ≡ (cpu_at stray j).block.idle_ctxt → a ≡ j)
          (both (λ b. 0 ≡ (cpu_at stray b).block.idle_ctxt → 0 ≡ b) (λ z. refl) (λ z. absurd (omega arith)) j k)
          (both (λ b. 2 ≡ (cpu_at stray b).block.idle_ctxt → 1 ≡ b) (λ z. absurd (omega arith)) (λ z. refl) j k) i h;
      scheduled_if = both (λ a. (context stray (cpu_at stray a).block.sched_ctxt).currently_scheduled ≡ true) refl refl;
      scheduled_only = named;
    }
  where
    keyless : (x : ℕ) → IsContext stray x → Live stray x → ((e : Entry) (i : ℕ) → Queued stray e i → e.context_ref ≢ x) → (context stray x).has_queue_key ≡ false
    keyless zero r l f = refl
    keyless (suc zero) r l f = absurd (f queued 1 (record { present = refl; is_in = inl refl }) refl)
    keyless (suc (suc zero)) r l f = refl
    keyless (suc (suc (suc x))) r l f = refl

    named : (x : ℕ) → IsContext stray x → (context stray x).currently_scheduled ≡ true → (i : ℕ) × InCharge stray x i
    named zero r h = (0, record { present = refl; named = refl })
    named (suc zero) r h = never {b = false} h refl
    named (suc (suc zero)) r h = (1, record { present = refl; named = refl })
    named (suc (suc (suc x))) r h = never {b = false} h refl

-- an accepted decision, whose only fault is the name that it serves
pub stray_accepted : Accepted 0 2250000 stray by_switch
unfolding opened idler worker start stray
stray_accepted = record { present = refl; decision = refl; room = refl }

pub stray_served : ServesOwn 0 2250000 stray → ⊥
unfolding opened idler worker start stray
stray_served own = own 1 (by_name (inl refl) refl) queued 1 (record { present = refl; is_in = inl refl }) (λ z. omega arith) refl

-- afterwards the worker is in charge on CPU 0 and queued on CPU 1
pub stray_untidy : Tidy (switch 0 2250000 stray).machine → ⊥
unfolding opened idler worker start stray
stray_untidy t = t.in_charge_not_queued queued 1 0 (record { present = refl; is_in = inl refl }) refl refl

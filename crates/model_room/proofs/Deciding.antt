-- The choice takes entries out, and one entry at most goes back: a decision with room for its lists finds room. Assumes nothing.
use Rattle.std.specs.Prelude.{if◌then◌else◌, None, Option, Some, is_some}
use mathlib.Core.Path.{◌≡◌, refl}
use mathlib.Core.Bool.{Bool, true, false, not, ◌&&◌, ◌||◌}
use mathlib.Core.List.{List}
use Prim.Native.Nat.{ℕ, ◌+◌, ◌<◌, ◌≤◌}
use native.Mathlib.Omega.{arith}
use lib.Dec.{eqb}
use lib.ListN.{length, get_or}
use Rattle.answer.specs.declared.Rule.{Rule}
use Rattle.context.specs.Status.{is_runnable}
use Rattle.ticks.specs.declared.Spent.{Spent}
use Rattle.weights.specs.Weights.{weight}
use Rattle.percpu.specs.Cpu.{Cpu}
use Rattle.percpu.specs.With.{cpu_v}
use Rattle.machine.specs.Machine.{no_cpu}
use Rattle.model.specs.State.{State, at, on_cpu, put_context, remove_key, holder, is_idle, prev_runnable}
use Rattle.model.specs.Scan.{Scan}
use Rattle.model.specs.Choice.{Choice, choice, cleaned_up, taken_out, chosen}
use Rattle.model.specs.Steal.{Stealing}
use Rattle.model.specs.SwitchTo.{switch_to}
use Rattle.model.specs.Turn.{spent, charge_holder, before_selection}
use Rattle.model.specs.Schedule.{scanned, locks, choose_and_steal, selected, select_next_context, picked_as, schedule, switch_as, after_schedule}
use Rattle.model.proofs.Cases.{pick, and_both, not_is_true}
use Rattle.model_room.proofs.Lengths.{length_without}
use Rattle.model_room.proofs.Within.{Within, weaker, entry_inserted, name_pushed, key_removed}
use Rattle.model_room.proofs.Serving.{charge_within, before_selection_within}
use Rattle.model_room.proofs.Stealing.{steal_room, steal_leaves_place}
use Rattle.context.specs.Key.{queue_key, with_new_key, without_key, entry_of}
use Rattle.model.specs.Handover.{advance, requeue, hand_over, settled}

module _ {q t l : ℕ} where
  taken_out_within : (o : Option ℕ) (s : State) → Within q t l s → Within q t l (taken_out o s)
  taken_out_within None s h = h
  taken_out_within (Some x) s h =
      let u : State = put_context x (without_key (at s x)) s in
      pick (Within q t l) (at s x).has_queue_key (λ z. key_removed {q = q} {t = t} {l = l} u h (queue_key (at s x))) (λ z. h)

  chosen_within : (w : Choice) (f : Scan) (s : State) → Within q t l s → Within q t l (chosen w f s)
  unfolding chosen cleaned_up
  chosen_within w f s h =
      let n = length_without f.contexts_to_remove s.cpu.queue in
      taken_out_within w.winner (on_cpu (cpu_v w.v) (cleaned_up f s)) (record { room = h.room; queue = omega (arith, h.queue); timers = h.timers; local = h.local })

-- the choice does not change who is in charge
taken_out_idle : (o : Option ℕ) (s : State) → is_idle (taken_out o s) ≡ is_idle s
taken_out_idle None s = refl
taken_out_idle (Some x) s = pick (λ (u : State). is_idle u ≡ is_idle s) (at s x).has_queue_key (λ z. refl) (λ z. refl)

chosen_idle : (w : Choice) (f : Scan) (s : State) → is_idle (chosen w f s) ≡ is_idle s
unfolding chosen cleaned_up
chosen_idle w f s = taken_out_idle w.winner (on_cpu (cpu_v w.v) (cleaned_up f s))

-- a runnable holder that lost is queued again
requeue_within : {q t l : ℕ} (s : State) → q < 64 → Within q t l s → Within (q + 1) t l (requeue s)
unfolding requeue
requeue_within {q} {t} {l} s r h =
    let x : ℕ = s.cpu.block.sched_ctxt in
    let u : State = if (holder s).has_queue_key then remove_key (queue_key (holder s)) s else s in
    let g : Within q t l u = pick (Within q t l) (holder s).has_queue_key (λ z. key_removed s h (queue_key (holder s))) (λ z. h) in
    entry_inserted {q = q} {t = t} {l = l} (put_context x (with_new_key (holder s)) u) g (entry_of x (weight (holder s).prio) (holder s)) r

module _ (k time : ℕ) where
  settled_within : {t l : ℕ} (runs : Bool) (n : ℕ) (u : Stealing) → (runs ≡ true → Within 63 t l u.state) → Within 64 t l u.state → Within 64 t l (settled runs n u)
  unfolding settled advance
  settled_within {t} {l} runs n u f h =
      let advanced : (q : ℕ) → Within q t l u.state → Within q t l (advance runs u.winner n u.state) =
      λ q g. pick (Within q t l) ((is_some u.winner || runs) && not (eqb u.state.cpu.block.total_weight 0)) (λ z. g) (λ z. g) in
      pick (Within 64 t l) (is_some u.winner && runs) (λ z. requeue_within _ (omega arith) (advanced 63 (f (and_both (is_some u.winner) runs z).1))) (λ z. advanced 64 h)

  module _ (cpus : List Cpu) (each : (i : ℕ) → length (get_or cpus i no_cpu).queue ≤ 64) where
    -- s: the state before the choice
    selected_within : {t l : ℕ} (n : Spent) (s : State) → Within 63 t l s → Within 64 t l (selected k time n cpus s).state
    unfolding selected choose_and_steal
    selected_within {t} {l} n s h =
        let f : Scan = scanned k time s in
        let w : Choice = choice s f in
        let g : Within 63 t l (chosen w f s) = chosen_within w f s h in
        settled_within (prev_runnable s) _ _
        (λ z. steal_leaves_place k (prev_runnable s) (locks s w) cpus w.winner (chosen w f s) each
        (rw (chosen_idle w f s) (not_is_true (is_idle s) (and_both (not (is_idle s)) _ z).0)) g)
        (steal_room k (prev_runnable s) (locks s w) cpus w.winner (chosen w f s) each (weaker (omega arith) (omega arith) (omega arith) g))

  -- the context that is left may go on the local list
  pub switch_to_within : {q t l : ℕ} (x : ℕ) (s : State) → l < 64 → Within q t l s → Within q t (l + 1) (switch_to k time x s)
  unfolding switch_to
  switch_to_within {q} {t} {l} x s r h =
      let y : ℕ = s.cpu.block.current_ctxt in
      pick (Within q t (l + 1)) (not (eqb s.cpu.block.sched_ctxt y) && not (at s y).has_queue_key && is_runnable (at s y).status) (λ z. name_pushed s h y r)
      (λ z. weaker (omega arith) (omega arith) (omega arith) h)

  picked_room : {q t l : ℕ} (was : Bool) (rule : Rule) (cpus : List Cpu) (o : Option ℕ) (s : State) → l < 64 → Within q t l s
      → (after_schedule k time (picked_as time was rule cpus o s)).no_room ≡ false
  unfolding after_schedule picked_as switch_as hand_over
  picked_room was rule cpus None s r h = h.room
  picked_room {q} {t} {l} was rule cpus (Some x) s r h =
      pick (λ (u : State). u.no_room ≡ false) (eqb (hand_over time was x s).cpu.block.current_ctxt x) (λ z. h.room)
      (λ z. (switch_to_within {q = q} {t = t} {l = l} x (hand_over time was x s) r h).room)

  pub schedule_room : {q t l : ℕ} (cpus : List Cpu) (s : State) → ((i : ℕ) → length (get_or cpus i no_cpu).queue ≤ 64) → Within q t l s → q + t + l < 64
      → (after_schedule k time (schedule k time cpus s)).no_room ≡ false
  unfolding schedule select_next_context
  schedule_room cpus s each h r =
      let n : Spent = spent time s.cpu in
      let a = charge_within n (before_selection time s) (before_selection_within time s h r) r in
      let b : Within 63 64 63 (charge_holder n (before_selection time s)) = weaker (omega arith) (omega arith) (omega arith) a in
      picked_room _ _ _ _ _ (omega arith) (selected_within cpus each n (charge_holder n (before_selection time s)) b)

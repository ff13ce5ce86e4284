-- What the holder pays, in the code's words: a lemma for each return. Assumes nothing.
use mathlib.Core.Path.{◌≡◌, refl, sym, ap, ◌∙◌}
use mathlib.Core.Bool.{Bool, true, false}
use Prim.Native.Nat.{ℕ}
use borrow.Author.Tests.{eq-eqb, ne_eqb}
use Rattle.context.specs.declared.Context.{Context}
use Rattle.context.specs.Status.{is_runnable}
use Rattle.ticks.specs.declared.Spent.{Spent}
use Rattle.charging.specs.Charge.{stopped}
use Rattle.percpu.specs.declared.PercpuBlock.{PercpuBlock}
use Rattle.model.specs.State as model
use Rattle.model.specs.State.{at, put_context, holder, is_idle}
use Rattle.model.specs.Turn.{inactive}
use Rattle.model.proofs.Cases.{never, pick}
use Rattle.turn.specs.Charged.{weight_left}
use Rattle.plain_model.specs.State.{insert_newest_timer}
use Rattle.plain_model.specs.Turn.{holder_stopped, charge_holder}
use Rattle.plain_state.specs.declared.State.{State}
use Rattle.plain_state.specs.States.{state_in, Sound, Became, Tracks}
use Rattle.plain_state.proofs.Tracking.{Stays, became_tracks, tracks_as}
use Rattle.plain_turn.specs.Turns.{with_turn, charged_as, Held}

-- q: the record of the holder x
module _ (n : ℕ) (s : State) (x : ℕ) (q : Context) (h : Held n (state_in n s) x q) where
  abbrev S : model.State
  S = state_in n s

  held : q ≡ holder S
  held = h.is ∙ ap (at S) h.name

  pub left_became : {b : PercpuBlock} {c : Context} {t u : State} → b ≡ weight_left s.cpu.block q → Became n t (with_turn b s.cpu.remainder S) → c ≡ stopped q → Became n u (put_context x c (state_in n t)) → Became n u (inactive S)
  left_became {b} {c} e t f u =
      record {
        sound = u.sound;
        is =
            u.is ∙ ap (put_context x c) t.is
            ∙ (λ i. put_context (h.name i) (f i) (with_turn (e i) s.cpu.remainder S))
            ∙ ap (λ (z : Context). put_context s.cpu.block.sched_ctxt (stopped z) (with_turn (weight_left s.cpu.block z) s.cpu.remainder S)) held;
      }

  pub stopped_timed : {u r : State} → q.has_wake ≡ true → Became n u (inactive S) → Tracks n r (insert_newest_timer (record { wake = q.wake; context_ref = s.cpu.block.sched_ctxt }) (state_in n u)) → Tracks n r (holder_stopped S)
  unfolding holder_stopped
  stopped_timed {u} {r} w b t =
      let a : (holder S).has_wake ≡ true = ap (λ (z : Context). z.has_wake) (sym held) ∙ w in
      let d : q.wake ≡ (holder S).wake = ap (λ (z : Context). z.wake) held in
      pick (Tracks n r) (holder S).has_wake (λ z. tracks_as t (λ i. insert_newest_timer (record { wake = d i; context_ref = s.cpu.block.sched_ctxt }) (b.is i))) (λ z. never a z)

  pub stopped_untimed : {u : State} → q.has_wake ≡ false → Became n u (inactive S) → Tracks n u (holder_stopped S)
  unfolding holder_stopped
  stopped_untimed {u} w b =
      let a : (holder S).has_wake ≡ false = ap (λ (z : Context). z.has_wake) (sym held) ∙ w in
      pick (Tracks n u) (holder S).has_wake (λ z. never z a) (λ z. became_tracks b)

  module _ (spent : Spent) {b : Bool} (g : b ≡ is_runnable q.status) where
    runs : b ≡ is_runnable (holder S).status
    runs = g ∙ ap (λ (z : Context). is_runnable z.status) held

-- of any holder
module _ (n : ℕ) (s : State) (spent : Spent) where
  pub idle_pays : Sound n s → s.cpu.block.sched_ctxt ≡ s.cpu.block.idle_ctxt → Tracks n s (charge_holder spent (state_in n s))
  unfolding charge_holder
  idle_pays o e = rw (eq-eqb _ _ e) (became_tracks (record { sound = o; is = refl }))

  pub other_pays : {r : State} → (s.cpu.block.sched_ctxt ≡ s.cpu.block.idle_ctxt → ⊥) → Tracks n r (charged_as spent (state_in n s)) → Tracks n r (charge_holder spent (state_in n s))
  unfolding charge_holder
  other_pays e t = rw (ne_eqb _ _ e) t

pub charge_stays : (spent : Spent) → Stays (charge_holder spent)
unfolding charge_holder holder_stopped
charge_stays spent S h =
    pick (λ (z : model.State). z.no_room ≡ true) (is_idle S) (λ t. h)
    (λ t. pick (λ (z : model.State). z.no_room ≡ true) (is_runnable (holder S).status) (λ r. h)
    (λ r. pick (λ (z : model.State). z.no_room ≡ true) (holder S).has_wake (λ w. rw h) (λ w. h)))

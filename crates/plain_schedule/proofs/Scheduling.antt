-- The stages of a decision put together. Assumes nothing.
use Rattle.std.specs.Prelude.{None, Option, Some}
use mathlib.Core.Path.{◌≡◌, refl, sym, ap, ◌∙◌, subst}
use mathlib.Core.Bool.{Bool, true, false}
use Prim.Native.Nat.{ℕ, ◌<◌, ◌≤◌}
use native.Mathlib.Omega.{arith}
use Rattle.numbers.specs.Limits.{max_number}
use Rattle.ticks.specs.declared.Spent.{Spent}
use Rattle.ticks.specs.Ticks.{max_ticks}
use Rattle.answer.specs.declared.Rule.{Rule}
use Rattle.model.specs.State as model
use Rattle.model.specs.State.{prev_runnable}
use Rattle.model.specs.Turn.{spent, was_idle}
use Rattle.model.specs.Steal as model_steal
use Rattle.model.specs.Handover.{next_context, hand_over}
use Rattle.model.specs.Schedule.{Selected, Scheduled, picked_as}
use Rattle.model.proofs.Cases.{never}
use Rattle.stages.specs.Stage.{StateBelow}
use Rattle.stages.specs.Bounds.{t_timed, t_handed, b_stolen, b_advanced}
use Rattle.stages.proofs.Kept.{state_more}
use Rattle.plain_model.specs.State.{placed}
use Rattle.plain_model.specs.Turn.{before_choice}
use Rattle.plain_model.specs.Handover.{settled}
use Rattle.plain_model.specs.Schedule.{choose_and_steal, selected, schedule}
use Rattle.plain_state.specs.declared.State.{State}
use Rattle.plain_state.specs.States.{state_in, Sound, Became, Tracks}
use Rattle.plain_state.specs.Fits.{StateFits}
use Rattle.plain_state.proofs.Fitting.{sound_fits}
use Rattle.plain_state.proofs.Tracking.{tracks_as}
use Rattle.plain_turn.specs.declared.Turned.{Turned}
use Rattle.plain_turn.specs.Turns.{TurnEnds}
use Rattle.plain_handover.specs.Settled.{stealing_of}
use Rattle.plain_handover.proofs.Fitted.{settled_fits, settled_below, next_below, hand_over_fits, handed_below}
use Rattle.plain_steal.specs.declared.cpus.Cpus.{Cpus}
use Rattle.plain_steal.specs.Stealing.{cpus_in, CpusSound}
use Rattle.plain_schedule.specs.declared.Next.{Next}
use Rattle.plain_schedule.specs.Next.{NextTracks, NextFits, next_in, stolen, of_selected}
use Rattle.plain_schedule.proofs.Full.{Full, settled_full, selected_full, picked_full}

-- what comes after an insertion that found no room does not matter
without_room : {n c : ℕ} {r : Next} {D : Scheduled} → Sound n r.state → CpusSound c r.cpus → r.state.no_room ≡ true → Full D.state → NextTracks n c r D
without_room o a h f = record { sound = o; cpus = a; room = h ∙ sym f; is = λ z. never f z }

-- m: after the choice and the stealing
module _ (n c k time : ℕ) (s : State) (cpus : Cpus) (e : Spent) {runs : Bool} (hr : runs ≡ prev_runnable (state_in n s)) {m : Next}
    (hm : NextTracks n c m (stolen k time (cpus_in c cpus) (state_in n s))) where
  pub not_settled : m.state.no_room ≡ true → NextTracks n c m (of_selected (selected k time e (cpus_in c cpus) (state_in n s)))
  unfolding selected
  not_settled h = without_room hm.sound hm.cpus h (settled_full (prev_runnable (state_in n s)) e.ticks (choose_and_steal k time (cpus_in c cpus) (state_in n s)) (sym hm.room ∙ h))

  module _ (fm : m.state.no_room ≡ false → NextFits n t_timed b_stolen m) (h : m.state.no_room ≡ false) where
    -- t: V has advanced, and a holder that lost is back in the queue; w: who gets the slice
    module _ {t : State} {w : Option ℕ} (ht : Tracks n t (settled runs e.ticks (stealing_of (state_in n m.state) m.context)))
        (hw : w ≡ next_context runs m.context (state_in n t)) where
      pub settled_next : NextTracks n c (record { state = t; cpus = m.cpus; context = w; rule = m.rule }) (of_selected (selected k time e (cpus_in c cpus) (state_in n s)))
      unfolding selected settled
      settled_next =
          let L : model_steal.Stealing = choose_and_steal k time (cpus_in c cpus) (state_in n s) in
          let p : next_in n c m ≡ stolen k time (cpus_in c cpus) (state_in n s) = hm.is (sym hm.room ∙ h) in
          let v : Tracks n t (settled (prev_runnable (state_in n s)) e.ticks L) = tracks_as ht (λ i. settled (hr i) e.ticks (stealing_of (p i).state (p i).picked)) in
          record {
            sound = v.sound;
            cpus = hm.cpus;
            room = v.room;
            is =
                λ z.
                let q : state_in n t ≡ settled (prev_runnable (state_in n s)) e.ticks L = v.is z in
                let u : w ≡ next_context (prev_runnable (state_in n s)) L.winner (settled (prev_runnable (state_in n s)) e.ticks L)
                = hw ∙ (λ i. next_context (hr i) (p i).picked (q i)) in
                λ i. record { state = q i; cpus = (p i).cpus; picked = u i; rule = (p i).rule };
          }

      pub settled_next_fits : e.ticks ≤ max_ticks → t.no_room ≡ false → NextFits n t_timed b_advanced (record { state = t; cpus = m.cpus; context = w; rule = m.rule })
      settled_next_fits l y =
          let S : model.State = state_in n m.state in
          let q : state_in n t ≡ settled runs e.ticks (stealing_of S m.context) = ht.is (sym ht.room ∙ y) in
          let f : StateFits n (state_in n t) = subst (StateFits n) (sym q) (settled_fits S (fm h).fits runs m.context e.ticks) in
          record {
            fits = f;
            below = subst (λ (z : model.State). StateBelow n t_timed b_advanced (placed z)) (sym q)
                (settled_below S (fm h).fits (sound_fits m.state hm.sound (fm h).fits) (fm h).below runs m.context e.ticks (omega arith));
            named = λ x j. next_below (state_in n t) f runs m.context (fm h).named x (sym hw ∙ j);
          }

same : {x y : ℕ} → Some x ≡ Some y → x ≡ y
same e = cc

-- the slice changes hands, or the holder keeps it
module _ {n c : ℕ} (time : ℕ) (was : Bool) (m : Next) (o : Sound n m.state) (a : CpusSound c m.cpus) (f : NextFits n t_timed b_advanced m) where
  abbrev handed : Option ℕ → Scheduled
  handed w = picked_as time was m.rule (cpus_in c m.cpus) w (state_in n m.state)

  nobody : m.context ≡ None → NextTracks n c m (handed None)
  unfolding picked_as
  nobody e =
      record { sound = o; cpus = a; room = refl; is = λ z i. record { state = state_in n m.state; cpus = cpus_in c m.cpus; picked = e i; rule = m.rule } }

  pub kept : m.context ≡ None → NextTracks n c m (handed m.context)
  kept e = subst (λ (w : Option ℕ). NextTracks n c m (handed w)) (sym e) (nobody e)

  pub kept_fits : NextFits n t_handed b_advanced m
  kept_fits = record { fits = f.fits; below = state_more (omega arith) (omega arith) f.below; named = f.named }

  module _ {x : ℕ} (e : m.context ≡ Some x) where
    pub next_named : x < n
    next_named = f.named x e

    module _ {t : State} (b : Became n t (hand_over time was x (state_in n m.state))) where
      somebody : NextTracks n c (record { state = t; cpus = m.cpus; context = Some x; rule = m.rule }) (handed (Some x))
      unfolding picked_as
      somebody =
          record {
            sound = b.sound;
            cpus = a;
            room = ap (λ (z : model.State). z.no_room) b.is;
            is = λ z i. record { state = b.is i; cpus = cpus_in c m.cpus; picked = Some x; rule = m.rule };
          }

      pub given : NextTracks n c (record { state = t; cpus = m.cpus; context = Some x; rule = m.rule }) (handed m.context)
      given = subst (λ (w : Option ℕ). NextTracks n c (record { state = t; cpus = m.cpus; context = Some x; rule = m.rule }) (handed w)) (sym e) somebody

      pub given_fits : time ≤ max_number → NextFits n t_handed b_advanced (record { state = t; cpus = m.cpus; context = Some x; rule = m.rule })
      given_fits l =
          record {
            fits = subst (StateFits n) (sym b.is) (hand_over_fits (state_in n m.state) f.fits time was x next_named);
            below = subst (λ (z : model.State). StateBelow n t_handed b_advanced (placed z)) (sym b.is)
                (handed_below (state_in n m.state) f.fits (sound_fits m.state o f.fits) f.below time was x l next_named);
            named = λ y j. subst (λ (i : ℕ). i < n) (same j) next_named;
          }

-- r: the turn that ended
module _ (n c k time : ℕ) (s : State) (cpus : Cpus) (a : CpusSound c cpus) {r : Turned} (e : TurnEnds n time (state_in n s) r) where
  abbrev ends : Selected
  ends = selected k time (spent time (state_in n s).cpu) (cpus_in c cpus) (before_choice time (state_in n s))

  pub no_turn : {w : Option ℕ} {u : Rule} → r.state.no_room ≡ true → NextTracks n c (record { state = r.state; cpus = cpus; context = w; rule = u }) (schedule k time (cpus_in c cpus) (state_in n s))
  unfolding schedule
  no_turn h =
      without_room e.tracks.sound a h
      (picked_full time (was_idle (state_in n s).cpu) ends.rule ends.cpus ends.next ends.state
      (selected_full k time (spent time (state_in n s).cpu) (cpus_in c cpus) (before_choice time (state_in n s)) (sym e.tracks.room ∙ h)))

  module _ (h : r.state.no_room ≡ false) where
    -- m: who gets the slice
    module _ {m : Next} (hm : NextTracks n c m (of_selected (selected k time r.spent (cpus_in c cpus) (state_in n r.state)))) where
      turned : NextTracks n c m (of_selected ends)
      turned =
          let q : state_in n r.state ≡ before_choice time (state_in n s) = e.tracks.is (sym e.tracks.room ∙ h) in
          subst (λ (z : model.State). NextTracks n c m (of_selected (selected k time (spent time (state_in n s).cpu) (cpus_in c cpus) z))) q
          (subst (λ (z : Spent). NextTracks n c m (of_selected (selected k time z (cpus_in c cpus) (state_in n r.state)))) e.spends hm)

      pub no_slice : m.state.no_room ≡ true → NextTracks n c m (schedule k time (cpus_in c cpus) (state_in n s))
      unfolding schedule
      no_slice y =
          without_room turned.sound turned.cpus y
          (picked_full time (was_idle (state_in n s).cpu) ends.rule ends.cpus ends.next ends.state (sym turned.room ∙ y))

      pub scheduled : {g : Next} → m.state.no_room ≡ false
          → NextTracks n c g (picked_as time r.was_idle m.rule (cpus_in c m.cpus) m.context (state_in n m.state))
          → NextTracks n c g (schedule k time (cpus_in c cpus) (state_in n s))
      unfolding schedule
      scheduled {g} y hg =
          let p : next_in n c m ≡ of_selected ends = turned.is (sym turned.room ∙ y) in
          subst (NextTracks n c g) (λ i. picked_as time (e.idled i) (p i).rule (p i).cpus (p i).picked (p i).state) hg

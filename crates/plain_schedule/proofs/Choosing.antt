-- The choice and the stealing, in the code's words. Assumes nothing.
use Rattle.std.specs.Prelude.{None, Option, Some, is_some, option_to_list}
use mathlib.Core.Path.{◌≡◌, refl, sym, ap, ◌∙◌, subst}
use mathlib.Core.Bool.{Bool, false}
use mathlib.Core.List.{◌∷◌}
use Prim.Native.Nat.{ℕ, ◌<◌}
use native.Mathlib.Omega.{arith}
use Rattle.answer.specs.declared.Rule.{Rule}
use Rattle.model.specs.State as model
use Rattle.model.specs.State.{prev_runnable}
use Rattle.model.specs.Steal as model_steal
use Rattle.stages.specs.Stage.{StateBelow}
use Rattle.stages.specs.Bounds.{t_timed, b_charged, b_stolen}
use Rattle.select_judge.specs.Values.{WinnerBelow}
use Rattle.plain_model.specs.State.{placed}
use Rattle.plain_model.specs.Choice as plain
use Rattle.plain_model.specs.Choice.{choice, chosen, rule_after}
use Rattle.plain_model.specs.Schedule.{scanned, choice_of, choose_and_steal}
use Rattle.plain_model.specs.Steal.{steal}
use Rattle.plain_state.specs.declared.State.{State}
use Rattle.plain_state.specs.States.{state_in, Sound, Became}
use Rattle.plain_state.specs.Fits.{StateFits}
use Rattle.plain_choice.specs.declared.Choice.{Choice}
use Rattle.plain_choice.specs.Table as table
use Rattle.plain_steal.specs.declared.cpus.Cpus.{Cpus}
use Rattle.plain_steal.specs.declared.Stealing.{Stealing}
use Rattle.plain_steal.specs.Stealing.{cpus_in, stealing_in, CpusSound, CpusFit, StealingTracks}
use Rattle.plain_steal.proofs.Fitted.{StealingFits, steal_fits}
use Rattle.plain_steal.proofs.Bounded.{steal_below}
use Rattle.plain_schedule.specs.Next.{CanChoose, NextTracks, NextFits, stolen}
use Rattle.plain_schedule.proofs.Full.{chosen_room}
use Rattle.plain_schedule.proofs.Fitted.{chosen_fits, chosen_below, cpus_ranged}

some_is : (w : Option ℕ) → is_some w ≡ is_some w
some_is None = refl
some_is (Some x) = refl

named : (n : ℕ) (w : Option ℕ) → WinnerBelow n w → (x : ℕ) → w ≡ Some x → x < n
named n None b x e = let z : ◌≡◌ {A = ℕ} 0 1 = cc in absurd (omega arith)
named n (Some y) b x e = let z : y ≡ x = cc in subst (λ (j : ℕ). j < n) z b

-- t: the state after the choice; w: the choice
module _ (n c k time : ℕ) (s : State) (cpus : Cpus) (a : CanChoose n c k s cpus) (w : Choice) {t : State}
    (hw : table.choice_of w ≡ choice (state_in n s) (scanned k time (state_in n s)))
    (ht : Became n t (chosen (choice (state_in n s) (scanned k time (state_in n s))) (scanned k time (state_in n s)) (state_in n s)))
    (hb : WinnerBelow n w.winner) where
  t_fits : StateFits n (state_in n t)
  t_fits =
      subst (StateFits n) (sym ht.is)
      (chosen_fits k time (state_in n s) a.fits (λ x e. named n w.winner hb x (ap (λ (z : plain.Choice). z.winner) hw ∙ e)))

  t_below : StateBelow n t_timed b_charged (placed (state_in n t))
  t_below = subst (λ (z : model.State). StateBelow n t_timed b_charged (placed z)) (sym ht.is) (chosen_below k time (state_in n s) a.fits a.below)

  t_room : t.no_room ≡ false
  t_room = ap (λ (z : model.State). z.no_room) ht.is ∙ chosen_room _ _ (state_in n s) ∙ a.room

  pub steal_asks
      : record {
        sound : (Sound n t) × (StateFits n (state_in n t)) × (t.no_room ≡ false);
        cpus_sound : (CpusSound c cpus) × (CpusFit n (cpus_in c cpus)) × (k < c);
        state_below : StateBelow n t_timed b_charged (placed (state_in n t));
      }
  steal_asks = record { sound = (ht.sound, t_fits, t_room); cpus_sound = (a.all, a.others.fit, a.here); state_below = t_below }

  -- l: after the stealing
  module _ {runs : Bool} {x : ℕ} {l : Stealing} (hr : runs ≡ prev_runnable (state_in n s)) (hx : x ≡ s.cpu.block.sched_ctxt)
      (hl : StealingTracks n c l (steal k runs (x ∷ option_to_list w.locked) (cpus_in c cpus) w.winner (state_in n t))) where
    steals : steal k runs (x ∷ option_to_list w.locked) (cpus_in c cpus) w.winner (state_in n t) ≡ choose_and_steal k time (cpus_in c cpus) (state_in n s)
    unfolding choose_and_steal
    steals = λ i. steal k (hr i) (hx i ∷ (hw i).locked) (cpus_in c cpus) (hw i).winner (ht.is i)

    tracks : StealingTracks n c l (choose_and_steal k time (cpus_in c cpus) (state_in n s))
    tracks = subst (StealingTracks n c l) steals hl

    pub moved : {stole : Bool} {rule : Rule} → stole ≡ is_some l.winner → rule ≡ rule_after stole w.rule
        → NextTracks n c (record { state = l.state; cpus = l.cpus; context = l.winner; rule = rule }) (stolen k time (cpus_in c cpus) (state_in n s))
    moved {stole} {rule} hs hu =
        let L : model_steal.Stealing = choose_and_steal k time (cpus_in c cpus) (state_in n s) in
        record {
          sound = tracks.sound.state;
          cpus = tracks.sound.cpus;
          room = tracks.room;
          is =
              λ y.
              let p : stealing_in n c l ≡ L = tracks.is y in
              let q : rule ≡ rule_after (is_some L.winner) (choice_of k time (state_in n s)).rule
              = hu ∙ ap (λ (b : Bool). rule_after b w.rule) (hs ∙ some_is l.winner) ∙ (λ i. rule_after (is_some (p i).winner) (hw i).rule) in
              λ i. record { state = (p i).state; cpus = (p i).cpus; picked = (p i).winner; rule = q i };
        }

    pub moved_fits : {rule : Rule} → l.state.no_room ≡ false → NextFits n t_timed b_stolen (record { state = l.state; cpus = l.cpus; context = l.winner; rule = rule })
    moved_fits h =
        let L : model_steal.Stealing = steal k runs (x ∷ option_to_list w.locked) (cpus_in c cpus) w.winner (state_in n t) in
        let p : stealing_in n c l ≡ L = hl.is (sym hl.room ∙ h) in
        let f : StealingFits n L = steal_fits k runs (x ∷ option_to_list w.locked) (cpus_in c cpus) w.winner (state_in n t) a.others.fit (named n w.winner hb) t_fits in
        record {
          fits = subst (λ (z : model_steal.Stealing). StateFits n z.state) (sym p) f.state;
          below = subst (λ (z : model_steal.Stealing). StateBelow n t_timed b_stolen (placed z.state)) (sym p)
              (steal_below k runs (x ∷ option_to_list w.locked) (cpus_in c cpus) w.winner (state_in n t) t_fits a.others.fit (cpus_ranged cpus a.all a.others) t_below);
          named = λ y e. f.named y (ap (λ (z : model_steal.Stealing). z.winner) (sym p) ∙ e);
        }

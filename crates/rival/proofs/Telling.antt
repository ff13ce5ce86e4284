-- What the code reads off an image, as the definitions say it. Assumes nothing.
use Rattle.std.specs.Prelude.{if◌then◌else◌}
use mathlib.Core.Path.{◌≡◌, refl, sym, ap, ◌∙◌}
use mathlib.Core.Bool.{Bool, true}
use mathlib.Core.List.{List, ◌++◌}
use Prim.Native.Nat.{ℕ, ◌+◌, ◌-◌}
use native.Mathlib.Omega.{arith}
use lib.Dec.{eqb}
use lib.ListN.{length, get_or, take}
use lib.Seq.{take_at}
use borrow.Author.Tests.{ne_eqb, eq-eqb}
use Rattle.machine.specs.Encode.{cpu_place}
use Rattle.trial.proofs.Trying.{copied}
use Rattle.rounds.specs.declared.Choice.{Choice}
use Rattle.rounds.specs.Round.{nanos, played, Plays}
use Rattle.rival.specs.declared.turns.Parties.{Parties}
use Rattle.rival.specs.Game.{in_charge, won, forces, forces_after}

module _ (p : Parties) (m : List ℕ) where
  pub charge_at : (at : ℕ) → at ≡ cpu_place p.contexts p.cpu → get_or m (at + 2) 0 ≡ in_charge p m
  charge_at at e = ap (λ (j : ℕ). get_or m (j + 2) 0) e

  -- x: who is in charge; w: a party, as words
  module _ (x w : ℕ) (e : x ≡ in_charge p m) where
    pub three_choices : w ≡ p.rival → x ≡ w → ◌≡◌ {A = ℕ} 3 (if eqb (in_charge p m) p.rival then 3 else 1)
    three_choices f g = rw (sym e ∙ g ∙ f, eq-eqb p.rival p.rival refl)

    pub one_choice : w ≡ p.rival → (x ≡ w → ⊥) → ◌≡◌ {A = ℕ} 1 (if eqb (in_charge p m) p.rival then 3 else 1)
    one_choice f g = rw (ne_eqb (in_charge p m) p.rival (λ z. g (e ∙ z ∙ sym f)))

    pub own_told : w ≡ p.writer → eqb (in_charge p m) p.writer ≡ eqb x w
    own_told f = rw (e, f)

-- w: the CPU; z: the copy before the round, l' after it; rest: what stands behind it
module _ (p : Parties) (x time rounds w : ℕ) (choice : Choice) (m z l' rest : List ℕ) (r : Bool) (d : w ≡ p.cpu) (e : take (length m) z ≡ take (length m) m) (s : length l' ≡ length m)
    (h : Plays (played w x time choice (take (length m - 0) z)) l' r) where
  same_round : Plays (played p.cpu x time choice m) l' r
  same_round = rw (d, copied m z e) at h

  -- nn: the choice's time; b: what can be forced from the copy
  pub told_round : (nn : ℕ) (b : Bool) → r ≡ true → nn ≡ nanos choice → b ≡ forces p (rounds - 1) (time + nn) (take (length m - 0) (l' ++ rest)) → b ≡ forces_after p rounds time m x choice
  told_round nn b t f g =
      let k = take_at l' rest (length m) s
      in let i : length m - 0 ≡ length m = omega arith
      in let u : b ≡ forces p (rounds - 1) (time + nanos choice) l' = rw (i, k, f) at g
      in u ∙ ap (won (forces p (rounds - 1) (time + nanos choice))) (sym (same_round.leaves t))

-- The game is the table of all sequences of choices, each played from the beginning, folded from the end. Assumes nothing.
use Rattle.std.specs.Prelude.{None, Option, Some}
use mathlib.Core.Path.{◌≡◌, refl, sym, ap, ◌∙◌}
use mathlib.Core.Bool.{Bool, false}
use mathlib.Core.List.{List, [], ◌∷◌, ◌++◌}
use Prim.Native.Nat.{ℕ, zero, suc, ◌+◌}
use lib.Dec.{eqb}
use Rattle.columns.proofs.Tests.{by_test}
use Rattle.rounds.specs.declared.Choice.{Choice}
use Rattle.rounds.specs.declared.Choice.TheVariants.{GoOn, Yield, Block}
use Rattle.rounds.specs.Round.{nanos, played}
use Rattle.rival.specs.declared.turns.Parties.{Parties}
use Rattle.rival.specs.Game.{in_charge, won, turn, forces}
use Rattle.rival.specs.Sequences.{Position, taken, arrived, moved_on, reached, ends_well, chooses, folded}

module _ (p : Parties) where
  -- one more choice is one more round
  pub one_more : (o : Option Position) (cs : List Choice) (c : Choice) → reached p o (cs ++ (c ∷ [])) ≡ moved_on p (reached p o cs) c
  unfolding reached
  one_more o [] c = refl
  one_more o (d ∷ cs) c = one_more (moved_on p o d) cs c

  -- what the writer can force from where a sequence leads
  abbrev value : ℕ → Option Position → Bool
  value r None = false
  value r (Some q) = forces p r q.time q.image

  arrived_value : (r time : ℕ) (o : Option (List ℕ)) → value r (arrived p time o) ≡ won (forces p r time) o
  arrived_value r time None = refl
  arrived_value r time (Some m) = refl

  -- a turn asks its choices alone, and of one that has none the go on
  turn_same : (x : ℕ) (g h : Choice → Bool) → ((c : Choice) → g (taken p x c) ≡ h (taken p x c)) → turn p x (λ (c : Choice). g (taken p x c)) ≡ turn p x h
  unfolding turn
  turn_same x g h e =
      by_test (eqb x p.writer) (λ a. let k = rw a at e in rw (a, k GoOn, k Yield, k Block))
      (λ a. by_test (eqb x p.rival) (λ b. let k = rw (a, b) at e in rw (a, b, k GoOn, k Yield, k Block)) (λ b. let k = rw (a, b) at e in rw (a, b, k GoOn)))

  turn_cong : (x : ℕ) (g h : Choice → Bool) → ((c : Choice) → g c ≡ h c) → turn p x g ≡ turn p x h
  unfolding turn
  turn_cong x g h e = rw (e GoOn, e Yield, e Block)

  chooses_cong : (o : Option Position) (g h : Choice → Bool) → ((c : Choice) → g c ≡ h c) → chooses p o g ≡ chooses p o h
  chooses_cong None g h e = refl
  chooses_cong (Some q) g h e = turn_cong (in_charge p q.image) g h e

  abbrev after : Position → Choice → Option (List ℕ)
  after q d = played p.cpu (in_charge p q.image) q.time d q.image

  -- one round back
  round_back : (r : ℕ) (o : Option Position) → chooses p o (λ (c : Choice). value r (moved_on p o c)) ≡ value (suc r) o
  unfolding forces
  round_back r None = refl
  round_back r (Some q) =
      turn_same (in_charge p q.image) (λ (d : Choice). value r (arrived p (q.time + nanos d) (after q d))) (λ (d : Choice). won (forces p r (q.time + nanos d)) (after q d))
      (λ c. arrived_value r (q.time + nanos (taken p (in_charge p q.image) c)) (after q (taken p (in_charge p q.image) c)))

  ended : (o : Option Position) → ends_well p o ≡ value 0 o
  unfolding forces
  ended None = refl
  ended (Some q) = refl

  -- after any sequence
  folded_value : (q : Position) (r : ℕ) (cs : List Choice) → folded p q r cs ≡ value r (reached p (Some q) cs)
  unfolding folded
  folded_value q zero cs = ended (reached p (Some q) cs)
  folded_value q (suc r) cs =
      let o = reached p (Some q) cs
      in chooses_cong o (λ (c : Choice). folded p q r (cs ++ (c ∷ []))) (λ (c : Choice). value r (moved_on p o c))
      (λ c. folded_value q r (cs ++ (c ∷ [])) ∙ ap (value r) (one_more (Some q) cs c))
      ∙ round_back r o

  pub forces_folded : (rounds time : ℕ) (m : List ℕ) → forces p rounds time m ≡ folded p (record { image = m; time = time }) rounds []
  unfolding reached
  forces_folded rounds time m = sym (folded_value (record { image = m; time = time }) rounds [])

-- The writer can force the end exactly where it has a strategy that wins against every strategy of the rival; where it cannot,
-- the rival has one that wins against every strategy of the writer. Assumes nothing.
use Rattle.std.specs.Prelude.{if◌then◌else◌, None, Option, Some}
use mathlib.Core.Path.{◌≡◌, refl}
use mathlib.Core.Bool.{Bool, true, false}
use mathlib.Core.List.{List, [], ◌∷◌}
use Prim.Native.Nat.{ℕ, zero, suc, ◌+◌}
use lib.Dec.{eqb}
use Rattle.columns.proofs.Tests.{by_test, clash}
use Rattle.rounds.specs.declared.Choice.{Choice}
use Rattle.rounds.specs.declared.Choice.TheVariants.{GoOn, Yield, Block}
use Rattle.rounds.specs.Round.{nanos, played}
use Rattle.rival.specs.declared.turns.Parties.{Parties}
use Rattle.rival.specs.Game.{in_charge, won, turn, some_choice, every_choice, first_choice, forces}
use Rattle.rival.specs.Sequences.{Strategy, later, chosen_by, wins}

-- with none anything
abbrev any : Option Choice → Choice
any None = Block
any (Some c) = c

-- the first winning choice wins
first_wins : (g : Choice → Bool) → some_choice g ≡ true → g (any (first_choice g)) ≡ true
unfolding first_choice
first_wins g e =
    by_test (g GoOn) (λ a. rw a a)
    (λ a. by_test (g Yield) (λ b. rw (a, b) b) (λ b. by_test (g Block) (λ d. rw (a, b, d) d) (λ d. clash (rw (a, b, d) at e) refl)))

every_wins : (g : Choice → Bool) → every_choice g ≡ true → (c : Choice) → g c ≡ true
every_wins g e GoOn = by_test (g GoOn) (λ a. a) (λ a. clash (rw a at e) refl)
every_wins g e Yield = by_test (g GoOn) (λ a. by_test (g Yield) (λ b. b) (λ b. clash (rw (a, b) at e) refl)) (λ a. clash (rw a at e) refl)
every_wins g e Block =
    by_test (g GoOn)
    (λ a. by_test (g Yield) (λ b. by_test (g Block) (λ d. d) (λ d. clash (rw (a, b, d) at e) refl)) (λ b. clash (rw (a, b) at e) refl))
    (λ a. clash (rw a at e) refl)

-- the first choice that does not win
abbrev first_loss : (Choice → Bool) → Choice
first_loss g = if g GoOn then (if g Yield then Block else Yield) else GoOn

loss_found : (g : Choice → Bool) → every_choice g ≡ false → g (first_loss g) ≡ false
loss_found g e =
    by_test (g GoOn) (λ a. by_test (g Yield) (λ b. rw (a, b) (rw (a, b) at e)) (λ b. rw (a, b) b))
    (λ a. rw a a)

some_loses : (g : Choice → Bool) → some_choice g ≡ false → (c : Choice) → g c ≡ false
some_loses g e GoOn = by_test (g GoOn) (λ a. clash refl (rw a at e)) (λ a. a)
some_loses g e Yield = by_test (g GoOn) (λ a. clash refl (rw a at e)) (λ a. by_test (g Yield) (λ b. clash refl (rw (a, b) at e)) (λ b. b))
some_loses g e Block = by_test (g GoOn) (λ a. clash refl (rw a at e)) (λ a. by_test (g Yield) (λ b. clash refl (rw (a, b) at e)) (λ b. rw (a, b) at e))

-- a strategy from the image after a round, if there is one
abbrev from : (List ℕ → Strategy) → Option (List ℕ) → Strategy
from f None cs = GoOn
from f (Some m) cs = f m cs

module _ (p : Parties) where
  -- a choice wins
  abbrev good : (r time : ℕ) → List ℕ → Choice → Bool
  good r time m c = won (forces p r (time + nanos c)) (played p.cpu (in_charge p m) time c m)

  -- the first winning choice, in every round
  unfoldable pub strategy : (rounds time : ℕ) → List ℕ → Strategy
  strategy zero time m cs = GoOn
  strategy (suc r) time m [] = any (first_choice (good r time m))
  strategy (suc r) time m (c ∷ cs) = from (strategy r (time + nanos c)) (played p.cpu (in_charge p m) time c m) cs

  chosen_wins : (x : ℕ) (g : Choice → Bool) (s t : Strategy) → s [] ≡ any (first_choice g) → turn p x g ≡ true → g (chosen_by p s t x) ≡ true
  unfolding turn
  chosen_wins x g s t d e =
      by_test (eqb x p.writer) (λ a. rw (a, d) (first_wins g (rw a at e)))
      (λ a. by_test (eqb x p.rival) (λ b. rw (a, b) (every_wins g (rw (a, b) at e) (t []))) (λ b. rw (a, b) (rw (a, b) at e)))

  -- h: what holds of the rounds that are left, on whatever image the round leads to
  on_strategy : (r time : ℕ) (t : Strategy) → ((l : List ℕ) → forces p r time l ≡ true → wins p r (strategy r time l) t time l ≡ true)
      → (o : Option (List ℕ)) → won (forces p r time) o ≡ true → won (wins p r (from (strategy r time) o) t time) o ≡ true
  on_strategy r time t h None e = e
  on_strategy r time t h (Some l) e = h l e

  pub strategy_wins : (rounds time : ℕ) (m : List ℕ) → forces p rounds time m ≡ true → (rival : Strategy) → wins p rounds (strategy rounds time m) rival time m ≡ true
  unfolding forces wins strategy
  strategy_wins zero time m e rival = e
  strategy_wins (suc r) time m e rival =
      let c = chosen_by p (strategy (suc r) time m) rival (in_charge p m)
      in on_strategy r (time + nanos c) (later rival c) (λ l h. strategy_wins r (time + nanos c) l h (later rival c)) (played p.cpu (in_charge p m) time c m)
      (chosen_wins (in_charge p m) (good r time m) (strategy (suc r) time m) rival refl e)

  -- the rival's: the first choice that does not leave the writer its end, in every round
  unfoldable pub counter : (rounds time : ℕ) → List ℕ → Strategy
  counter zero time m cs = GoOn
  counter (suc r) time m [] = first_loss (good r time m)
  counter (suc r) time m (c ∷ cs) = from (counter r (time + nanos c)) (played p.cpu (in_charge p m) time c m) cs

  chosen_loses : (x : ℕ) (g : Choice → Bool) (s t : Strategy) → t [] ≡ first_loss g → turn p x g ≡ false → g (chosen_by p s t x) ≡ false
  unfolding turn
  chosen_loses x g s t d e =
      by_test (eqb x p.writer) (λ a. rw a (some_loses g (rw a at e) (s [])))
      (λ a. by_test (eqb x p.rival) (λ b. rw (a, b, d) (loss_found g (rw (a, b) at e))) (λ b. rw (a, b) (rw (a, b) at e)))

  on_counter : (r time : ℕ) (s : Strategy) → ((l : List ℕ) → forces p r time l ≡ false → wins p r s (counter r time l) time l ≡ false)
      → (o : Option (List ℕ)) → won (forces p r time) o ≡ false → won (wins p r s (from (counter r time) o) time) o ≡ false
  on_counter r time s h None e = e
  on_counter r time s h (Some l) e = h l e

  pub counter_wins : (rounds time : ℕ) (m : List ℕ) → forces p rounds time m ≡ false → (writer : Strategy) → wins p rounds writer (counter rounds time m) time m ≡ false
  unfolding forces wins counter
  counter_wins zero time m e writer = e
  counter_wins (suc r) time m e writer =
      let c = chosen_by p writer (counter (suc r) time m) (in_charge p m)
      in on_counter r (time + nanos c) (later writer c) (λ l h. counter_wins r (time + nanos c) l h (later writer c)) (played p.cpu (in_charge p m) time c m)
      (chosen_loses (in_charge p m) (good r time m) writer (counter (suc r) time m) refl e)

  -- if for every strategy of the rival there is one of the writer that wins against it, be it that one or another for each
  pub answered_forces : (rounds time : ℕ) (m : List ℕ) (writer : Strategy → Strategy)
      → ((rival : Strategy) → wins p rounds (writer rival) rival time m ≡ true) → forces p rounds time m ≡ true
  answered_forces rounds time m writer w =
      by_test (forces p rounds time m) (λ e. e)
      (λ e. clash (w (counter rounds time m)) (counter_wins rounds time m e (writer (counter rounds time m))))

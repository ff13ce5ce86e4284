-- The call: its refusals, and the game from what the first turn told. Assumes nothing.
use Rattle.std.specs.Prelude.{None, Option, Some, is_some, ok_or, Err, Ok, Result}
use mathlib.Core.Path.{◌≡◌, refl, sym, ap, ◌∙◌}
use mathlib.Core.Bool.{Bool, true, false}
use mathlib.Core.List.{List}
use Prim.Native.Nat.{ℕ, ◌≤◌, ◌<◌}
use native.Mathlib.Omega.{arith}
use lib.Dec.{leb, eqb}
use lib.ListN.{length}
use borrow.Author.Tests.{leb-true, eq-eqb, ne_eqb}
use Rattle.columns.specs.Common.{mark}
use Rattle.columns.proofs.Tests.{and_both}
use Rattle.machine.specs.Machine.{Machine}
use Rattle.machine.specs.Encode.{encode}
use Rattle.machine.specs.Shape.{Image, Fits}
use Rattle.machine.specs.LookUp.{look_up, get_percpu_block}
use Rattle.machine.proofs.LookUps.{live, present}
use Rattle.machine.proofs.Steps.{sized}
use Rattle.numbers.specs.Limits.{max_number}
use Rattle.calls.specs.Call.{check}
use Rattle.calls.proofs.Called.{call_machine}
use Rattle.refusal.specs.declared.Refusal.{Refusal}
use Rattle.refusal.specs.declared.Refusal.TheVariants.{Name}
use Rattle.rounds.specs.declared.Choice.{Choice}
use Rattle.rival.specs.declared.Game.{Game}
use Rattle.rival.specs.declared.turns.Parties.{Parties}
use Rattle.rival.specs.Game.{in_charge, choice_number, first_choice, forces_after, forces_against, game, refused, is_game, parties, game_of, rival_by, rival_call}
use Rattle.rival.specs.Reached.{Inside, InTime}
use Rattle.rival.proofs.Choices.{some_first}
use Rattle.rival.proofs.Turning.{forces_writer, forces_others}

pub few : (w r rounds : ℕ) → true ≡ is_game w r rounds → (1 ≤ rounds) × (rounds ≤ 6)
unfolding is_game
few w r rounds e =
    let a = and_both (leb 1 rounds) _ (sym e) in let b = and_both (leb rounds 6) _ a.1
    in (leb-true 1 rounds a.0, leb-true rounds 6 b.0)

-- x: who is in charge; w: the writer, as words
module _ (p : Parties) (rounds time : ℕ) (m : List ℕ) (x w : ℕ) (e : x ≡ in_charge p m) (f : w ≡ p.writer) (h : 1 ≤ rounds) where
  pub game_writer : (i : Option Choice) → x ≡ w → i ≡ first_choice (forces_after p rounds time m p.writer) → record { refusal = 0; forced = mark (is_some i); choice = choice_number i } ≡ game p rounds time m
  unfolding game
  game_writer i t g =
      let c : in_charge p m ≡ p.writer = sym e ∙ t ∙ f
      in rw (eq-eqb (in_charge p m) p.writer c, forces_writer p time m rounds h c, ← some_first (forces_after p rounds time m p.writer), g)

  pub game_rival : (b : Bool) → (x ≡ w → ⊥) → b ≡ forces_against p rounds time m → record { refusal = 0; forced = mark b; choice = 0 } ≡ game p rounds time m
  unfolding game
  game_rival b t g =
      let c : eqb (in_charge p m) p.writer ≡ false = ne_eqb (in_charge p m) p.writer (λ z. t (e ∙ z ∙ sym f))
      in rw (c, forces_others p time m rounds h c, g)

-- what a look-up gave, from the result in its place
pub missed : (o : Option ℕ) (r : Refusal) → ok_or o Name ≡ Err r → (o ≡ None) × (r ≡ Name)
missed None r e = (refl, cc)
missed (Some x) r e = cc

pub met : (o : Option ℕ) (x : ℕ) → ok_or o Name ≡ Ok x → o ≡ Some x
met None x e = cc
met (Some y) x e = cc

-- a, b, d: what looking up CPU, writer and rival gave
pub all_found : (n : ℕ) (a b d : Option ℕ) (p : Parties) → Ok p ≡ parties n a b d
    → record { names : p.contexts ≡ n; cpu : Some p.cpu ≡ a; writer : Some p.writer ≡ b; rival : Some p.rival ≡ d }
unfolding parties
all_found n None b d p e = cc
all_found n (Some k) None d p e = cc
all_found n (Some k) (Some w) None p e = cc
all_found n (Some k) (Some w) (Some r) p e =
    let q : p ≡ record { contexts = n; cpu = k; writer = w; rival = r } = cc
    in record { names = ap (λ (z : Parties). z.contexts) q; cpu = ap (λ (z : Parties). Some z.cpu) q; writer = ap (λ (z : Parties). Some z.writer) q; rival = ap (λ (z : Parties). Some z.rival) q }

-- the parties of an image that was checked
pub inside : {c n : ℕ} {m : List ℕ} (p : Parties) (cpu writer rival rounds time : ℕ) → (i : Image c n m)
    → ((M : Machine) → m ≡ encode M → Fits c n M → Ok p ≡ parties n (get_percpu_block M cpu) (look_up M writer) (look_up M rival))
    → time ≤ max_number → true ≡ is_game p.writer p.rival rounds
    → record { inside : Inside p (length m); in_time : (InTime rounds time) × (1 ≤ rounds) }
inside {c} {n} {m} p cpu writer rival rounds time i e t g =
    let f = all_found n _ _ _ p (e i.M i.eq i.fits)
    in let h = present i.M cpu p.cpu f.cpu
    in let l = live i.M writer p.writer f.writer
    in let v = live i.M rival p.rival f.rival
    in let s = sized i
    in let o = i.fits.bounds
    in let kc : p.cpu < c = omega (arith, h.is, h.below, i.fits.cpus)
    in let q = few p.writer p.rival rounds g
    in record {
      inside =
          record {
            contexts = omega (arith, f.names, s.contexts);
            cpu = omega arith;
            writer = omega (arith, f.names, l.is, l.below, i.fits.contexts);
            rival = omega (arith, f.names, v.is, v.below, i.fits.contexts);
            long = omega (arith, f.names);
            short = omega arith;
          };
      in_time = (omega arith, q.0);
    }

-- y: what the code's check gave
module _ (m : List ℕ) (cpu time writer rival rounds : ℕ) (y : Result (ℕ × ℕ) ℕ) (e : y ≡ check m time) where
  pub rival_refused : (z : Game) (r : ℕ) → y ≡ Err r → z ≡ refused r → z ≡ rival_call m cpu time writer rival rounds
  unfolding rival_by
  rival_refused z r g h = rw (← e, g) h

  pub rival_passed : (z : Game) (c n : ℕ) → y ≡ Ok (c, n)
      → ((M : Machine) → m ≡ encode M → Fits c n M → z ≡ game_of rounds time m (parties n (get_percpu_block M cpu) (look_up M writer) (look_up M rival)))
      → z ≡ rival_call m cpu time writer rival rounds
  unfolding rival_by
  rival_passed z c n g h = rw (← e, g) (call_machine m time y e {A = λ M. z ≡ game_of rounds time m (parties n (get_percpu_block M cpu) (look_up M writer) (look_up M rival))} c n g h)

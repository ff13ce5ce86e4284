-- Two CPUs of the machine: the victim t changes, then this one, k. Assumes nothing.
use Rattle.std.specs.Prelude.{Option}
use mathlib.Core.Path.{◌≡◌, refl, sym, ap, ◌∙◌, subst}
use mathlib.Core.Bool.{Bool, true, false}
use mathlib.Core.List.{List, [], ◌∷◌}
use mathlib.Core.Logic.{◌≢◌}
use Prim.Native.Nat.{ℕ, zero, suc, ◌<◌}
use native.Mathlib.Omega.{arith}
use lib.ListN.{length, set, length-set}
use lib.Seq.{get_or-set_same, get_or-set_other, set-set, set-get_or}
use Rattle.columns.proofs.Tests.{never}
use Rattle.percpu.specs.Cpu.{Cpu}
use Rattle.machine.specs.Machine.{Machine, cpu_at, no_cpu}
use Rattle.machine.specs.Encode.{encode}
use Rattle.machine.specs.Shape.{Fits, Image}
use Rattle.model.specs.State.{State, state_of, on_cpu}
use Rattle.model.specs.Steal.{Moving}
use Rattle.stages.specs.Stage.{Stage, Staged, put_state}
use Rattle.steal.specs.Moves.{moving_of, put_moving, Moves}

pub set_other : {A : Type 0} (l : List A) (i j : ℕ) (a b : A) → j ≢ i → set (set l i a) j b ≡ set (set l j b) i a
set_other [] i j a b h = refl
set_other (x ∷ xs) zero zero a b h = absurd (h refl)
set_other (x ∷ xs) zero (suc j) a b h = refl
set_other (x ∷ xs) (suc i) zero a b h = refl
set_other (x ∷ xs) (suc i) (suc j) a b h = ap (λ (l : List _). x ∷ l) (set_other xs i j a b (λ e. h (ap suc e)))

-- the state of CPU k is not changed by what t becomes
pub state_kept : (k t : ℕ) (M : Machine) (p : Cpu) → k ≢ t → state_of k (record { contexts = M.contexts; cpus = set M.cpus t p }) ≡ state_of k M
unfolding cpu_at
state_kept k t M p d = λ i. record { contexts = M.contexts; cpu = get_or-set_other M.cpus t k p no_cpu d i; no_room = false }

-- t is changed by G, then k is changed by a stage: v is what that comes to
pub victim_then : {R : Type 0} {c n k t : ℕ} {m m1 m2 : List ℕ} {full : Bool} {r : R} {f : State → State} {g : State → R} {w w' : Option ℕ} (G : Cpu → Cpu) (F : Moving → Moving) → t ≢ k
    → Staged c n t m m1 false (λ (s : State). on_cpu G s) → Stage c n k m1 m2 full r f g
    → ((M : Machine) → m ≡ encode M → Fits c n M → ((F (moving_of k t w M)).state ≡ f (state_of k M)) × ((F (moving_of k t w M)).victim ≡ G (cpu_at M t)) × (r ≡ g (state_of k M) → w' ≡ (F (moving_of k t w M)).winner))
    → Moves c n k t m m2 full w w' F
victim_then {c = c} {n = n} {k = k} {t = t} {m2 = m2} {full = full} {f = f} {g = g} {w = w} {w' = w'} G F d u s h =
    record {
      image = s.image;
      moves = λ M e o.
          let a = u.stage M e o in
          let N : Machine = record { contexts = M.contexts; cpus = set M.cpus t (G (cpu_at M t)) } in
          let z : state_of k N ≡ state_of k M = state_kept k t M (G (cpu_at M t)) (λ q. d (sym q)) in
          let b = s.stage N (a.after refl) (a.fits refl) in
          let y = h M e o in
          let x : put_state k (f (state_of k N)) N ≡ put_moving k t (F (moving_of k t w M)) M =
          ap (λ (q : State). put_state k (f q) N) z ∙ (λ i. record { contexts = (sym y.0 i).contexts; cpus = set (set M.cpus t (sym y.1 i)) k (sym y.0 i).cpu }) in
          record {
            room = b.room ∙ ap (λ (q : State). (f q).no_room) z ∙ ap (λ (q : State). q.no_room) (sym y.0);
            after = λ q. b.after q ∙ ap encode x;
            fits = λ q. subst (Fits c n) x (b.fits q);
            winner = λ q. y.2 (b.answer q ∙ ap g z);
          };
    }

-- what was put back
pub moving_put : (k t : ℕ) (w : Option ℕ) (v : Moving) (M : Machine) → k < length M.cpus → t < length M.cpus → t ≢ k → v.state.no_room ≡ false → w ≡ v.winner
    → moving_of k t w (put_moving k t v M) ≡ v
unfolding cpu_at
moving_put k t w v M h g d e z = λ i.
    record {
      state = record {
        contexts = v.state.contexts;
        cpu = get_or-set_same (set M.cpus t v.victim) k v.state.cpu no_cpu (rw (length-set M.cpus t v.victim) h) i;
        no_room = sym e i;
      };
      victim = (get_or-set_other (set M.cpus t v.victim) k t v.state.cpu no_cpu d ∙ get_or-set_same M.cpus t v.victim no_cpu g) i;
      winner = z i;
    }

pub put_twice : (k t : ℕ) (v v' : Moving) (M : Machine) → t ≢ k → put_moving k t v' (put_moving k t v M) ≡ put_moving k t v' M
put_twice k t v v' M d =
    ap (λ (l : List Cpu). record { contexts = v'.state.contexts; cpus = l })
    (ap (λ (l : List Cpu). set l k v'.state.cpu)
    (set_other (set M.cpus t v.victim) k t v.state.cpu v'.victim d ∙ ap (λ (l : List Cpu). set l k v.state.cpu) (set-set M.cpus t v.victim v'.victim))
    ∙ set-set (set M.cpus t v'.victim) k v.state.cpu v'.state.cpu)

module _ {c n k t : ℕ} {m m1 m2 : List ℕ} {w w1 w2 : Option ℕ} {f : Moving → Moving} (f' : Moving → Moving) where
  -- moves that had room, then others
  pub moves_then : {full : Bool} → k < c → t < c → t ≢ k → {full1 : Bool} → full1 ≡ false → Moves c n k t m m1 full1 w w1 f → Moves c n k t m1 m2 full w1 w2 f' → Moves c n k t m m2 full w w2 (λ (v : Moving). f' (f v))
  moves_then h g d z a b =
      record {
        image = b.image;
        moves = λ M e o.
            let p = a.moves M e o in
            let v : Moving = f (moving_of k t w M) in
            let y = b.moves (put_moving k t v M) (p.after z) (p.fits z) in
            let q : moving_of k t w1 (put_moving k t v M) ≡ v = moving_put k t w1 v M (omega (arith, o.cpus)) (omega (arith, o.cpus)) d (sym p.room ∙ z) (p.winner z) in
            let x : put_moving k t (f' (moving_of k t w1 (put_moving k t v M))) (put_moving k t v M) ≡ put_moving k t (f' v) M =
            ap (λ (u : Moving). put_moving k t (f' u) (put_moving k t v M)) q ∙ put_twice k t v (f' v) M d in
            record {
              room = y.room ∙ ap (λ (u : Moving). (f' u).state.no_room) q;
              after = λ i. y.after i ∙ ap encode x;
              fits = λ i. subst (Fits c n) x (y.fits i);
              winner = λ i. y.winner i ∙ ap (λ (u : Moving). (f' u).winner) q;
            };
      }

  -- the same, where what follows has room for sure
  pub moves_finish : {full : Bool} → k < c → t < c → t ≢ k → full ≡ false → Moves c n k t m m1 full w w1 f → Moves c n k t m1 m2 false w1 w2 f' → Moves c n k t m m2 full w w2 (λ (v : Moving). f' (f v))
  moves_finish h g d z a b = subst (λ (x : Bool). Moves c n k t m m2 x w w2 (λ (v : Moving). f' (f v))) (sym z) (moves_then h g d z a b)

  -- moves that found no room, whatever follows
  pub moves_full : {full1 : Bool} → full1 ≡ true → Moves c n k t m m1 full1 w w1 f → ((v : Moving) → v.state.no_room ≡ true → (f' v).state.no_room ≡ true)
      → Moves c n k t m m2 full1 w w2 (λ (v : Moving). f' (f v))
  moves_full z a h =
      record {
        image = λ e. never (sym z ∙ e);
        moves = λ M e o.
            record {
              room = z ∙ sym (h (f (moving_of k t w M)) (sym (a.moves M e o).room ∙ z));
              after = λ i. never (sym z ∙ i);
              fits = λ i. never (sym z ∙ i);
              winner = λ i. never (sym z ∙ i);
            };
      }

-- nothing moved
pub moves_none : {c n k t : ℕ} {m : List ℕ} {w : Option ℕ} → Image c n m → Moves c n k t m m false w w (λ (v : Moving). v)
unfolding cpu_at
moves_none {c} {n} {k} {t} {m} {w} i =
    record {
      image = λ e. i;
      moves = λ M e o.
          let x : M ≡ put_moving k t (moving_of k t w M) M =
          ap (λ (l : List Cpu). record { contexts = M.contexts; cpus = l }) (sym (set-get_or M.cpus k no_cpu) ∙ ap (λ (l : List Cpu). set l k (cpu_at M k)) (sym (set-get_or M.cpus t no_cpu))) in
          record { room = refl; after = λ z. e ∙ ap encode x; fits = λ z. subst (Fits c n) x o; winner = λ z. refl };
    }

-- How stages compose. Assumes nothing.
use mathlib.Core.Path.{◌≡◌, refl, sym, ap, ◌∙◌, subst}
use mathlib.Core.Bool.{Bool, true, false, ◌||◌}
use Prim.Native.Nat.{ℕ, zero, suc, ◌<◌}
use native.Mathlib.Omega.{arith}
use mathlib.Core.List.{List, [], ◌∷◌}
use lib.ListN.{length, get_or, set, length-set}
use lib.Seq.{get_or-set_same, set-set}
use Rattle.columns.proofs.Tests.{never}
use Rattle.percpu.specs.Cpu.{Cpu}
use Rattle.machine.specs.Machine.{Machine, cpu_at, no_cpu}
use Rattle.machine.specs.Encode.{encode}
use Rattle.machine.specs.Shape.{Fits, Image}
use Rattle.model.specs.State.{State, state_of}
use Rattle.stages.specs.Stage.{put_state, StageAt, Stage, Staged}

-- the state that was put back, and what is put back on top of it
pub state_put : (k : ℕ) (s : State) (M : Machine) → k < length M.cpus → s.no_room ≡ false → state_of k (put_state k s M) ≡ s
unfolding cpu_at
state_put k s M h e = λ i. record { contexts = s.contexts; cpu = get_or-set_same M.cpus k s.cpu no_cpu h i; no_room = sym e i }

pub put_put : (k : ℕ) (s s' : State) (M : Machine) → put_state k s' (put_state k s M) ≡ put_state k s' M
put_put k s s' M = λ i. record { contexts = s'.contexts; cpus = set-set M.cpus k s.cpu s'.cpu i }

-- a stage, from what it does to each machine
pub staged : {R : Type 0} {c n k : ℕ} {m m' : List ℕ} {full : Bool} {r : R} {f : State → State} {g : State → R} → Image c n m
    → ((M : Machine) → m ≡ encode M → Fits c n M → StageAt c n k m' full r f g M) → Stage c n k m m' full r f g
staged i t = record { image = λ e. let s = t i.M i.eq i.fits in record { M = _; eq = s.after e; fits = s.fits e }; stage = t }

-- a stage that had room, and then another
pub stage_then : {R S : Type 0} {c n k : ℕ} {m m' m'' : List ℕ} {full : Bool} {r : R} {q : S} {f f' : State → State} {g : State → R} {g' : State → S} → k < c
    → Stage c n k m m' false r f g → Stage c n k m' m'' full q f' g' → Stage c n k m m'' full q (λ (s : State). f' (f s)) (λ (s : State). g' (f s))
stage_then {c = c} {k = k} {m'' = m''} {full = full} {q = q} {f = f} {f' = f'} {g' = g'} h t u =
    record {
      image = u.image;
      stage = λ M e o.
          let a = t.stage M e o
          in let s = f (state_of k M)
          in let b = u.stage (put_state k s M) (a.after refl) (a.fits refl)
          in let l : k < length M.cpus = omega (arith, o.cpus)
          in let z : state_of k (put_state k s M) ≡ s = state_put k s M l (sym a.room)
          in record {
            room = b.room ∙ ap (λ (x : State). (f' x).no_room) z;
            after = λ y. b.after y ∙ ap (λ (x : State). encode (put_state k (f' x) (put_state k s M))) z ∙ ap encode (put_put k s (f' s) M);
            fits = λ y. subst (Fits c _) (ap (λ (x : State). put_state k (f' x) (put_state k s M)) z ∙ put_put k s (f' s) M) (b.fits y);
            answer = λ y. b.answer y ∙ ap g' z;
          };
    }

-- a stage that found no room, whatever follows
pub stage_full : {R S : Type 0} {c n k : ℕ} {m m' m'' : List ℕ} {r : R} {q : S} {f : State → State} {g : State → R} (f' : State → State) (g' : State → S) → Stage c n k m m' true r f g
    → ((s : State) → s.no_room ≡ true → (f' s).no_room ≡ true) → Stage c n k m m'' true q (λ (s : State). f' (f s)) (λ (s : State). g' (f s))
stage_full {k = k} {f = f} f' g' t h =
    record {
      image = λ e. never e;
      stage = λ M e o.
          record {
            room = sym (h (f (state_of k M)) (sym (t.stage M e o).room));
            after = λ y. never y;
            fits = λ y. never y;
            answer = λ y. never y;
          };
    }

-- the same stage in other words
pub stage_as : {R S : Type 0} {c n k : ℕ} {m m' : List ℕ} {full : Bool} {r : R} {q : S} {f f' : State → State} {g : State → R} {g' : State → S} → Stage c n k m m' full r f g
    → ((M : Machine) → m ≡ encode M → Fits c n M → (f (state_of k M) ≡ f' (state_of k M)) × (full ≡ false → r ≡ g (state_of k M) → q ≡ g' (state_of k M)))
    → Stage c n k m m' full q f' g'
stage_as {c = c} {n = n} {k = k} t h =
    record {
      image = t.image;
      stage = λ M e o.
          let a = t.stage M e o
          in let w = h M e o
          in record {
            room = a.room ∙ ap (λ (s : State). s.no_room) w.0;
            after = λ y. a.after y ∙ ap (λ (s : State). encode (put_state k s M)) w.0;
            fits = λ y. subst (λ (s : State). Fits c n (put_state k s M)) w.0 (a.fits y);
            answer = λ y. w.1 y (a.answer y);
          };
    }

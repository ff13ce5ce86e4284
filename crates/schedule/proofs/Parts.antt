-- How stages and parts of a decision compose. Assumes nothing.
use mathlib.Core.Path.{◌≡◌, refl, sym, ap, ◌∙◌, subst}
use mathlib.Core.Bool.{Bool, true, false}
use mathlib.Core.List.{List}
use Prim.Native.Nat.{ℕ, ◌<◌}
use native.Mathlib.Omega.{arith}
use lib.ListN.{length, set, length-set}
use lib.Seq.{get_or-set_same, set-set}
use Rattle.columns.proofs.Tests.{never}
use Rattle.percpu.specs.Cpu.{Cpu}
use Rattle.machine.specs.Machine.{Machine, cpu_at, no_cpu}
use Rattle.machine.specs.Encode.{encode}
use Rattle.machine.specs.Shape.{Fits}
use Rattle.model.specs.State.{State, state_of}
use Rattle.stages.specs.Stage.{put_state, Stage}
use Rattle.stages.proofs.Compose.{state_put}
use Rattle.schedule.specs.Part.{Result, put_in, PartAt, Part}

-- a stage or a part whose room is known
pub full_is : {R : Type 0} {c n k : ℕ} {m m' : List ℕ} {full b : Bool} {r : R} {f : State → State} {g : State → R} → full ≡ b → Stage c n k m m' full r f g → Stage c n k m m' b r f g
full_is {c = c} {n = n} {k = k} {m = m} {m' = m'} {r = r} {f = f} {g = g} e t = subst (λ (x : Bool). Stage c n k m m' x r f g) e t

pub part_full_is : {R : Type 0} {c n k : ℕ} {m m' : List ℕ} {full b : Bool} {r : R} {p : List Cpu → State → Result R} → full ≡ b → Part c n k m m' full r p → Part c n k m m' b r p
part_full_is {c = c} {n = n} {k = k} {m = m} {m' = m'} {r = r} {p = p} e t = subst (λ (x : Bool). Part c n k m m' x r p) e t

-- the CPU that was put in last counts
pub put_over : (k : ℕ) (cpus : List Cpu) (p : Cpu) (M : Machine) (s : State) → k < length M.cpus → s.no_room ≡ false → set cpus k p ≡ M.cpus
    → set cpus k (cpu_at (put_state k s M) k) ≡ (put_state k s M).cpus
unfolding cpu_at
put_over k cpus p M s h e z =
    ap (λ (q : Cpu). set cpus k q) (get_or-set_same M.cpus k s.cpu no_cpu h) ∙ sym (set-set cpus k p s.cpu) ∙ ap (λ (l : List Cpu). set l k s.cpu) z

-- of the machine that a part leaves, the state
pub state_in : {c n : ℕ} (k : ℕ) (cpus : List Cpu) (s : State) → k < c → Fits c n (put_in k cpus s) → s.no_room ≡ false → state_of k (put_in k cpus s) ≡ s
unfolding cpu_at
state_in {c} k cpus s h o e =
    let l : k < length cpus = omega (arith, o.cpus, length-set cpus k s.cpu)
    in λ i. record { contexts = s.contexts; cpu = get_or-set_same cpus k s.cpu no_cpu l i; no_room = sym e i }

pub put_twice : (k : ℕ) (cpus : List Cpu) (s s' : State) → put_state k s' (put_in k cpus s) ≡ put_in k cpus s'
put_twice k cpus s s' = λ i. record { contexts = s'.contexts; cpus = set-set cpus k s.cpu s'.cpu i }

module _ {R S : Type 0} {c n k : ℕ} {m m' m'' : List ℕ} {r : R} {q : S} where
  -- a stage that had room, and then a part
  pub stage_part : {full : Bool} {f : State → State} {g : State → R} {p : List Cpu → State → Result S} → k < c
      → Stage c n k m m' false r f g → Part c n k m' m'' full q p → Part c n k m m'' full q (λ (cpus : List Cpu) (s : State). p cpus (f s))
  stage_part {full} {f} {g} {p} h t u =
      record {
        image = u.image;
        part = λ M e o cpus z.
            let a = t.stage M e o
            in let s = f (state_of k M)
            in let l : k < length M.cpus = omega (arith, o.cpus)
            in subst (λ (x : State). PartAt c n k m'' full q (p cpus x)) (state_put k s M l (sym a.room))
            (u.part (put_state k s M) (a.after refl) (a.fits refl) cpus (put_over k cpus (cpu_at M k) M s l (sym a.room) z));
      }

  -- a part that had room, and then a stage
  pub part_stage : {full : Bool} {p : List Cpu → State → Result R} {f : State → State} {g : State → S} → k < c
      → Part c n k m m' false r p → Stage c n k m' m'' full q f g
      → Part c n k m m'' full q (λ (cpus : List Cpu) (s : State). record { state = f (p cpus s).state; cpus = (p cpus s).cpus; answer = g (p cpus s).state })
  part_stage {full} {p} {f} {g} h t u =
      record {
        image = u.image;
        part = λ M e o cpus z.
            let a = t.part M e o cpus z
            in let x = p cpus (state_of k M)
            in let b = u.stage (put_in k x.cpus x.state) (a.after refl) (a.fits refl)
            in let y : state_of k (put_in k x.cpus x.state) ≡ x.state = state_in k x.cpus x.state h (a.fits refl) (sym a.room)
            in record {
              room = b.room ∙ ap (λ (s : State). (f s).no_room) y;
              after = λ w. b.after w ∙ ap (λ (s : State). encode (put_state k (f s) (put_in k x.cpus x.state))) y ∙ ap encode (put_twice k x.cpus x.state (f x.state));
              fits = λ w. subst (Fits c n) (ap (λ (s : State). put_state k (f s) (put_in k x.cpus x.state)) y ∙ put_twice k x.cpus x.state (f x.state)) (b.fits w);
              answer = λ w. b.answer w ∙ ap g y;
            };
      }

  -- a stage or a part that found no room, whatever follows
  pub stage_part_full : {f : State → State} {g : State → R} (p : List Cpu → State → Result S) → Stage c n k m m' true r f g
      → ((cpus : List Cpu) (s : State) → s.no_room ≡ true → (p cpus s).state.no_room ≡ true) → Part c n k m m'' true q (λ (cpus : List Cpu) (s : State). p cpus (f s))
  stage_part_full {f} p t h =
      record {
        image = λ e. never e;
        part = λ M e o cpus z.
            record {
              room = sym (h cpus (f (state_of k M)) (sym (t.stage M e o).room));
              after = λ y. never y;
              fits = λ y. never y;
              answer = λ y. never y;
            };
      }

  pub part_full : {p : List Cpu → State → Result R} (p' : List Cpu → State → Result S) → Part c n k m m' true r p
      → ((cpus : List Cpu) (s : State) → (p cpus s).state.no_room ≡ true → (p' cpus s).state.no_room ≡ true) → Part c n k m m'' true q p'
  part_full p' t h =
      record {
        image = λ e. never e;
        part = λ M e o cpus z.
            record {
              room = sym (h cpus (state_of k M) (sym (t.part M e o cpus z).room));
              after = λ y. never y;
              fits = λ y. never y;
              answer = λ y. never y;
            };
      }

-- a part that finds no room
pub no_part : {R : Type 0} {c n k : ℕ} {m m' : List ℕ} {r : R} {p : List Cpu → State → Result R}
    → ((M : Machine) → m ≡ encode M → Fits c n M → (cpus : List Cpu) → set cpus k (cpu_at M k) ≡ M.cpus → (p cpus (state_of k M)).state.no_room ≡ true) → Part c n k m m' true r p
no_part h =
    record {
      image = λ e. never e;
      part = λ M e o cpus z.
          record {
            room = sym (h M e o cpus z);
            after = λ y. never y;
            fits = λ y. never y;
            answer = λ y. never y;
          };
    }

-- the same part in other words
pub part_as : {R S : Type 0} {c n k : ℕ} {m m' : List ℕ} {full : Bool} {r : R} {q : S} {p : List Cpu → State → Result R} {p' : List Cpu → State → Result S} → Part c n k m m' full r p
    → ((M : Machine) → m ≡ encode M → Fits c n M → (cpus : List Cpu) → set cpus k (cpu_at M k) ≡ M.cpus → ((p cpus (state_of k M)).state ≡ (p' cpus (state_of k M)).state)
    × ((p cpus (state_of k M)).cpus ≡ (p' cpus (state_of k M)).cpus) × (full ≡ false → r ≡ (p cpus (state_of k M)).answer → q ≡ (p' cpus (state_of k M)).answer)) → Part c n k m m' full q p'
part_as {c = c} {n = n} {k = k} {p = p} {p' = p'} t h =
    record {
      image = t.image;
      part = λ M e o cpus z.
          let a = t.part M e o cpus z
          in let w = h M e o cpus z
          in let y : put_in k (p cpus (state_of k M)).cpus (p cpus (state_of k M)).state ≡ put_in k (p' cpus (state_of k M)).cpus (p' cpus (state_of k M)).state = λ i. put_in k (w.1 i) (w.0 i)
          in record {
            room = a.room ∙ ap (λ (s : State). s.no_room) w.0;
            after = λ v. a.after v ∙ ap encode y;
            fits = λ v. subst (Fits c n) y (a.fits v);
            answer = λ v. w.2 v (a.answer v);
          };
    }

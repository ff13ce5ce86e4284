-- The calls that decide, from their parts to the outcome. Assumes nothing.
use Rattle.std.specs.Prelude.{None, Option, Some, is_some}
use mathlib.Core.Path.{◌≡◌, refl, sym, ap, ◌∙◌, subst}
use mathlib.Core.Bool.{Bool, true, false}
use mathlib.Core.List.{List}
use Prim.Native.Nat.{ℕ, ◌<◌}
use native.Mathlib.Omega.{arith}
use lib.ListN.{length, set}
use Rattle.percpu.specs.Cpu.{Cpu}
use Rattle.machine.specs.Machine.{Machine, cpu_at}
use Rattle.machine.specs.Encode.{encode}
use Rattle.machine.specs.Shape.{Fits, Image}
use Rattle.machine.specs.Outcome.{Outcome}
use Rattle.model.specs.State.{State, state_of}
use Rattle.model.specs.Schedule.{finish_by, finish}
use Rattle.stages.specs.Stage.{put_state, Stage}
use Rattle.stages.proofs.Compose.{state_put}
use Rattle.stages.proofs.Reading.{put_same}
use Rattle.switch_to.specs.Direct.{or_same}
use Rattle.schedule.specs.Part.{Result, put_in, Part}
use Rattle.schedule.specs.Decides.{Told, undecided, DecidesAt, Decides, Ends}
use lib.Seq.{set-set, set-get_or}
use Rattle.columns.proofs.Tests.{never}
use Rattle.schedule.proofs.Parts.{put_over}

-- a part whose answer is the call's result
pub part_ends : {c n k : ℕ} {m m' : List ℕ} {full : Bool} {r : Told} {p : List Cpu → State → Result Told} {f : List Cpu → State → Outcome} → Part c n k m m' full r p
    → ((M : Machine) → m ≡ encode M → Fits c n M → (cpus : List Cpu) → set cpus k (cpu_at M k) ≡ M.cpus
    → finish_by (p cpus (state_of k M)).answer.rule k (p cpus (state_of k M)).cpus (p cpus (state_of k M)).answer.result (p cpus (state_of k M)).state ≡ f cpus (state_of k M)) → Ends c n k m m' full r f
part_ends {c} {n} {k} {m' = m'} {full = full} {r = r} {p = p} t h =
    record {
      ends = λ M e o cpus z.
          let a = t.part M e o cpus z
          in subst (DecidesAt c n m' full r) (h M e o cpus z) (record { room = a.room; after = a.after; fits = a.fits; result = a.answer; interrupt = refl });
    }

-- no room was found
pub no_end : {c n k : ℕ} {m m' : List ℕ} {r : Told} {f : List Cpu → State → Outcome}
    → ((M : Machine) → m ≡ encode M → Fits c n M → (cpus : List Cpu) → set cpus k (cpu_at M k) ≡ M.cpus → ((f cpus (state_of k M)).no_room ≡ true) × ((f cpus (state_of k M)).interrupt ≡ false))
    → Ends c n k m m' true r f
no_end h =
    record {
      ends = λ M e o cpus z.
          let a = h M e o cpus z
          in record { room = sym a.0; after = λ y. never y; fits = λ y. never y; result = λ y. never y; interrupt = a.1 };
    }

-- a stage that had room, and then the rest of the call
pub stage_ends : {R : Type 0} {c n k : ℕ} {m m' m'' : List ℕ} {full : Bool} {r : Told} {q : R} {g : State → State} {a : State → R} {f : List Cpu → State → Outcome} → k < c
    → Stage c n k m m' false q g a → Ends c n k m' m'' full r f → Ends c n k m m'' full r (λ (cpus : List Cpu) (s : State). f cpus (g s))
stage_ends {c = c} {n = n} {k = k} {m'' = m''} {full = full} {r = r} {g = g} {f = f} h t u =
    record {
      ends = λ M e o cpus z.
          let a = t.stage M e o
          in let s = g (state_of k M)
          in let l : k < length M.cpus = omega (arith, o.cpus)
          in subst (λ (x : State). DecidesAt c n m'' full r (f cpus x)) (state_put k s M l (sym a.room))
          (u.ends (put_state k s M) (a.after refl) (a.fits refl) cpus (put_over k cpus (cpu_at M k) M s l (sym a.room) z));
    }

-- the call ends with a stage
pub stage_end : {R : Type 0} {c n k : ℕ} {m m' : List ℕ} {full : Bool} {q : R} {g : State → State} {a : State → R} (r : ℕ) → Stage c n k m m' full q g a
    → Ends c n k m m' full (undecided r) (λ (cpus : List Cpu) (s : State). finish k cpus r (g s))
stage_end {c = c} {n = n} {k = k} {g = g} r t =
    record {
      ends = λ M e o cpus z.
          let a = t.stage M e o
          in let s = g (state_of k M)
          in let y : put_state k s M ≡ put_in k cpus s = λ i. record { contexts = s.contexts; cpus = (ap (λ (l : List Cpu). set l k s.cpu) (sym z) ∙ set-set cpus k (cpu_at M k) s.cpu) i }
          in record { room = a.room; after = λ x. a.after x ∙ ap encode y; fits = λ x. subst (Fits c n) y (a.fits x); result = λ x. refl; interrupt = refl };
    }

-- the same call in other words
pub ends_as : {c n k : ℕ} {m m' : List ℕ} {full : Bool} {r : Told} {f f' : List Cpu → State → Outcome} → Ends c n k m m' full r f
    → ((M : Machine) → m ≡ encode M → Fits c n M → (cpus : List Cpu) → f cpus (state_of k M) ≡ f' cpus (state_of k M)) → Ends c n k m m' full r f'
ends_as {c} {n} {m' = m'} {full = full} {r = r} t h = record { ends = λ M e o cpus z. subst (DecidesAt c n m' full r) (h M e o cpus) (t.ends M e o cpus z) }

-- the whole call
pub ends_decides : {c n k : ℕ} {m m' : List ℕ} {full : Bool} {r : Told} {f : List Cpu → State → Outcome} → Ends c n k m m' full r f → Decides c n m m' full r (λ (M : Machine). f M.cpus (state_of k M))
unfolding cpu_at
ends_decides {k = k} t = record { decides = λ M e o. t.ends M e o M.cpus (set-get_or M.cpus k _) }

-- where no direct switch was made, nothing was stored
pub none_is : (o : Option State) → false ≡ is_some o → None ≡ o
none_is None e = refl
none_is (Some x) e = never (sym e)

pub same_image : {c n k : ℕ} {m m' : List ℕ} (d : State → Option State) → Stage c n k m m' false false (λ (s : State). or_same s (d s)) (λ (s : State). is_some (d s)) → Image c n m → m' ≡ m
same_image {k = k} d t i =
    let s = state_of k i.M
    in let a = t.stage i.M i.eq i.fits
    in a.after refl ∙ ap (λ (o : Option State). encode (put_state k (or_same s o) i.M)) (sym (none_is (d s) (a.answer refl))) ∙ ap encode (put_same k i.M) ∙ sym i.eq

-- A switch for trial, from what its parts said. Assumes nothing.
use Rattle.std.specs.Prelude.{Option, Some, Err, Ok, Result}
use mathlib.Core.Path.{◌≡◌, sym, ap, ◌∙◌, subst}
use Prim.Native.Nat.{ℕ, ◌-◌, ◌≤◌}
use native.Mathlib.Omega.{arith}
use mathlib.Core.List.{List, ◌++◌}
use lib.ListN.{length, take}
use lib.Seq.{take_all, take_at}
use Rattle.machine.specs.Machine.{Machine}
use Rattle.machine.specs.LookUp.{get_percpu_block}
use Rattle.machine.specs.Encode.{encode, decode, max_image_size}
use Rattle.machine.specs.Shape.{Fits, Image}
use Rattle.machine.proofs.LookUps.{present}
use Rattle.machine.proofs.Steps.{sized}
use Rattle.stages.specs.Stage.{Ranged}
use Rattle.numbers.specs.Limits.{max_number}
use Rattle.model.specs.Accepted.{by_switch, outcome}
use Rattle.admission.specs.Refusals.{decision_refusal}
use Rattle.answer.specs.declared.Answer.{Answer}
use Rattle.context_ops.specs.Reply.{Reply, replied}
use Rattle.switch_ops.specs.Reply.{decide_on, decide_by, decide, Replies, Attempts}
use Rattle.calls.specs.Call.{check, checked_by, switch_call}
use Rattle.calls.proofs.Called.{is_refused, call_refused, call_image, call_time, call_ranged, call_machine}
use Rattle.trial.specs.Trial.{Tried}

-- what holds whole holds where it is accepted
pub attempted : {m' : List ℕ} {a : Answer} {y : Reply} {M' : Machine} → Replies m' a y M' → Attempts m' a y M'
attempted w = record { answers = ap (λ (y : Reply). y.answer) w.replies; replies = λ z. w }

module _ {m' : List ℕ} {a : Answer} (m : List ℕ) (M : Machine) (time : ℕ) where
  -- r: refusals 6 to 8
  pub attempted_on : (k r : ℕ) → r ≡ decision_refusal M k time → r ≡ 0 → Attempts m' a (replied m (outcome by_switch k time M)) (outcome by_switch k time M).machine
      → Attempts m' a (decide_on m M k time by_switch) (outcome by_switch k time M).machine
  unfolding decide_on
  attempted_on k r e z h = rw (sym e ∙ z) h

  -- p: what looking up the CPU gave
  pub attempted_by : (cpu k : ℕ) (p : Option ℕ) → p ≡ get_percpu_block M cpu → p ≡ Some k → Attempts m' a (decide_on m M k time by_switch) (outcome by_switch k time M).machine
      → Attempts m' a (decide m M cpu time by_switch) (outcome by_switch cpu time M).machine
  unfolding decide_by
  attempted_by cpu k p h e f =
      let i = (present M cpu k (sym e ∙ h)).is
      in rw (← h, e) (subst (λ (j : ℕ). Attempts m' a (decide_on m M k time by_switch) (outcome by_switch j time M).machine) i f)

-- the first words of z are those of m
pub copied : (m z : List ℕ) → take (length m) z ≡ take (length m) m → take (length m - 0) z ≡ m
copied m z e = let l : length m - 0 ≡ length m = omega arith in rw l (e ∙ take_all (length m) m (omega arith))

-- w: what the code's check of m gave
module _ (m : List ℕ) (time : ℕ) (w : Result (ℕ × ℕ) ℕ) (e : w ≡ check m time) where
  pub tried_refused : {a : Answer} (m' : List ℕ) (cpu r : ℕ) → w ≡ Err r → a ≡ record { refusal = r; result = 0; interrupt = 0; rule = 0 } → Tried m m' cpu time a
  tried_refused m' cpu r g h =
      record {
        answers = ap (λ (y : Reply). y.answer) (call_refused m time w e r (λ (M : Machine). decide m M cpu time by_switch) g h);
        leaves = λ z. absurd (is_refused m time r (sym g ∙ e) (sym (ap (λ (b : Answer). b.refusal) h) ∙ z));
      }

  module _ (c n : ℕ) (g : w ≡ Ok (c, n)) where
    pub fits_longest : length m ≤ max_image_size
    fits_longest = let s = sized (call_image m time w e c n g) in omega (arith, s.size, s.cpus, s.contexts)

    pub passes : record { image : Image c n m; time_le_max_number : time ≤ max_number; ranged : Ranged c n max_number max_number m }
    passes = record { image = call_image m time w e c n g; time_le_max_number = call_time m time w e c n g; ranged = call_ranged m time w e c n g }

    -- the switch was made on m itself, which became m'
    pub tried_here : {a : Answer} (m' : List ℕ) (cpu : ℕ)
        → ((M : Machine) → m ≡ encode M → Fits c n M → Attempts m' a (decide m M cpu time by_switch) (outcome by_switch cpu time M).machine)
        → Tried m m' cpu time a
    unfolding checked_by
    tried_here {a} m' cpu h =
        let t : Attempts m' a (decide m (decode m) cpu time by_switch) (outcome by_switch cpu time (decode m)).machine
        = call_machine m time w e {A = λ M. Attempts m' a (decide m M cpu time by_switch) (outcome by_switch cpu time M).machine} c n g h
        in let s : switch_call m cpu time ≡ decide m (decode m) cpu time by_switch = rw (← e, g)
        in record {
          answers = t.answers ∙ ap (λ (y : Reply). y.answer) (sym s);
          leaves = λ z. ap (λ (y : Reply). y.image) ((t.replies z).replies ∙ sym s);
        }

    -- p: the copy
    pub copy_passes : (p : List ℕ) → p ≡ m → record { image : Image c n p; time_le_max_number : time ≤ max_number; ranged : Ranged c n max_number max_number p }
    copy_passes p q = rw q passes

    -- p': the copy after the switch, rest: what stands behind it
    pub tried : {a : Answer} (p p' rest : List ℕ) (cpu : ℕ) → p ≡ m → length p' ≡ length p
        → ((M : Machine) → p ≡ encode M → Fits c n M → Attempts p' a (decide p M cpu time by_switch) (outcome by_switch cpu time M).machine)
        → Tried m (take (length m) (p' ++ rest)) cpu time a
    tried p p' rest cpu q l h =
        let t = tried_here p' cpu (rw q at h)
        in record { answers = t.answers; leaves = λ z. take_at p' rest (length m) (l ∙ ap length q) ∙ t.leaves z }

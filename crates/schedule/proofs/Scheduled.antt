-- `schedule` from its beginning, the selection and the hand-over. Assumes nothing.
use Rattle.std.specs.Prelude.{None, Option, Some}
use mathlib.Core.Path.{◌≡◌, refl, sym, ap, ◌∙◌}
use mathlib.Core.Bool.{Bool, true, false}
use mathlib.Core.List.{List}
use Prim.Native.Nat.{ℕ, ◌<◌, ◌≤◌}
use native.Mathlib.Omega.{arith}
use Rattle.answer.specs.declared.Rule.{Rule}
use Rattle.percpu.specs.Cpu.{Cpu}
use Rattle.machine.specs.Machine.{Machine, cpu_at}
use Rattle.machine.specs.Encode.{encode}
use Rattle.machine.specs.Shape.{Fits, Image}
use Rattle.model.specs.State.{State, state_of}
use Rattle.model.specs.Turn.{spent, was_idle, charge_holder, before_selection}
use Rattle.model.specs.Schedule.{Selected, select_next_context, picked_as, schedule}
use Rattle.model.proofs.NoRoom as no_room
use Rattle.stages.specs.Stage.{Stage, Staged, Ranged}
use Rattle.turn.specs.declared.timing.Turn.{Turn}
use Rattle.turn.specs.Turn.{turn_of}
use Rattle.stages.proofs.Kept.{ranged_stage, ranged_more}
use Rattle.stages.proofs.Reading.{unchanged}
use Rattle.handover.proofs.Bounded.{hand_over_below}
use Rattle.schedule.specs.Part.{Ruled, ruled, of_selected, of_scheduled, Part}
use Rattle.schedule.specs.Switched.{handed}
use Rattle.schedule.proofs.Parts.{stage_part, part_stage, part_as, part_full, no_part}
use Rattle.schedule.proofs.Picked.{keeps_full}
use Rattle.numbers.specs.Limits.{max_number}
use Rattle.stages.specs.Bounds.{t_timed, t_handed, b_advanced}
use Rattle.model.specs.Handover.{hand_over}

module _ (k time : ℕ) where
  abbrev next : List Cpu → State → Selected
  next cpus s = select_next_context k time (spent time s.cpu) cpus (before_selection time s)

  -- what was picked, in three parts
  picked_state : (was : Bool) (rule : Rule) (cpus : List Cpu) (o : Option ℕ) (s : State) → handed time was o s ≡ (picked_as time was rule cpus o s).state
  unfolding handed picked_as
  picked_state was rule cpus None s = refl
  picked_state was rule cpus (Some x) s = refl

  picked_cpus : (was : Bool) (rule : Rule) (cpus : List Cpu) (o : Option ℕ) (s : State) → cpus ≡ (picked_as time was rule cpus o s).cpus
  unfolding picked_as
  picked_cpus was rule cpus None s = refl
  picked_cpus was rule cpus (Some x) s = refl

  picked_who : (was : Bool) (rule : Rule) (cpus : List Cpu) (o : Option ℕ) (s : State) → ruled o rule ≡ ruled (picked_as time was rule cpus o s).picked (picked_as time was rule cpus o s).rule
  unfolding picked_as
  picked_who was rule cpus None s = refl
  picked_who was rule cpus (Some x) s = refl

  -- without room at the beginning, or when the next context is known, there is none at the end
  picked_full : (was : Bool) (rule : Rule) (cpus : List Cpu) (o : Option ℕ) (s : State) → s.no_room ≡ true → (picked_as time was rule cpus o s).state.no_room ≡ true
  unfolding picked_as hand_over
  picked_full was rule cpus None s e = e
  picked_full was rule cpus (Some x) s e = e

  next_full : (cpus : List Cpu) (s : State) → (next cpus s).state.no_room ≡ true → (schedule k time cpus s).state.no_room ≡ true
  unfolding schedule
  next_full cpus s e = picked_full (was_idle s.cpu) (next cpus s).rule (next cpus s).cpus (next cpus s).next (next cpus s).state e

  begun_full : (cpus : List Cpu) (s : State) → (before_selection time s).no_room ≡ true → (schedule k time cpus s).state.no_room ≡ true
  unfolding select_next_context
  begun_full cpus s e =
      next_full cpus s
      (keeps_full k time (spent time s.cpu) cpus (charge_holder (spent time s.cpu) (before_selection time s))
      (no_room.charge_full (spent time s.cpu) (before_selection time s) e))

pub schedule_unbegun : {c n k : ℕ} {m m' m'' : List ℕ} {turn : Turn} {q : Ruled} (time : ℕ)
    → Stage c n k m m' true turn (λ (s : State). before_selection time s) (λ (s : State). turn_of time s.cpu)
    → Part c n k m m'' true q (λ (cpus : List Cpu) (s : State). of_scheduled (schedule k time cpus s))
schedule_unbegun {k = k} time t = no_part (λ M e o cpus z. begun_full k time cpus (state_of k M) (sym (t.stage M e o).room))

-- t: begun; u: the next context is known
module _ {c n k : ℕ} {m m' : List ℕ} {turn : Turn} (time : ℕ) (h : k < c)
    (t : Stage c n k m m' false turn (λ (s : State). before_selection time s) (λ (s : State). turn_of time s.cpu)) where
  turn_is : (M : Machine) → m ≡ encode M → Fits c n M → turn ≡ turn_of time (cpu_at M k)
  turn_is M e o = (t.stage M e o).answer refl

  next_part : {m'' : List ℕ} {w : Ruled} {full : Bool} → Part c n k m' m'' full w (λ (cpus : List Cpu) (s : State). of_selected (select_next_context k time turn.spent cpus s))
      → Part c n k m m'' full w (λ (cpus : List Cpu) (s : State). of_selected (next k time cpus s))
  next_part u =
      part_as (stage_part h t u)
      (λ M e o cpus z.
      let y : select_next_context k time turn.spent cpus (before_selection time (state_of k M)) ≡ next k time cpus (state_of k M) = ap (λ (x : Turn). select_next_context k time x.spent cpus (before_selection time (state_of k M))) (turn_is M e o)
      in (ap (λ (d : Selected). d.state) y, ap (λ (d : Selected). d.cpus) y, λ f g. g ∙ ap (λ (d : Selected). ruled d.next d.rule) y))

  pub schedule_full : {m'' m''' : List ℕ} {w q : Ruled} → Part c n k m' m'' true w (λ (cpus : List Cpu) (s : State). of_selected (select_next_context k time turn.spent cpus s))
      → Part c n k m m''' true q (λ (cpus : List Cpu) (s : State). of_scheduled (schedule k time cpus s))
  schedule_full u = part_full (λ (cpus : List Cpu) (s : State). of_scheduled (schedule k time cpus s)) (next_part u) (next_full k time)

  pub schedule_room : {m'' m''' : List ℕ} {w : Ruled} → Part c n k m' m'' false w (λ (cpus : List Cpu) (s : State). of_selected (select_next_context k time turn.spent cpus s))
      → Staged c n k m'' m''' false (λ (s : State). handed time turn.was_idle w.who s)
      → Part c n k m m''' false w (λ (cpus : List Cpu) (s : State). of_scheduled (schedule k time cpus s))
  unfolding schedule
  schedule_room {w = w} u v =
      part_as (part_stage h (next_part u) v)
      (λ M e o cpus z.
      let s = state_of k M
      in let d = next k time cpus s
      in let y : w ≡ ruled d.next d.rule = ((next_part u).part M e o cpus z).answer refl
      in ((λ i. handed time (turn_is M e o i).was_idle (y i).who d.state) ∙ picked_state k time (was_idle s.cpu) d.rule d.cpus d.next d.state, picked_cpus k time (was_idle s.cpu) d.rule d.cpus d.next d.state, λ f g. y ∙ picked_who k time (was_idle s.cpu) d.rule d.cpus d.next d.state))

-- the hand-over, by who was picked
module _ {c n k : ℕ} {m : List ℕ} (time : ℕ) (was : Bool) where
  pub handed_nobody : {w : Option ℕ} → w ≡ None → Image c n m → Staged c n k m m false (λ (s : State). handed time was w s)
  unfolding handed
  handed_nobody e i = rw e (unchanged k (λ (s : State). s) i (λ M z o. refl))

  pub handed_to : {m' : List ℕ} (x : ℕ) {w : Option ℕ} → w ≡ Some x → Staged c n k m m' false (λ (s : State). hand_over time was x s) → Staged c n k m m' false (λ (s : State). handed time was w s)
  unfolding handed
  handed_to x e t = rw e t

  pub handed_ranged : {m' : List ℕ} (x : ℕ) → k < c → x < n → time ≤ max_number → Staged c n k m m' false (λ (s : State). hand_over time was x s)
      → Ranged c n t_timed b_advanced m → Ranged c n t_handed b_advanced m'
  handed_ranged x h i l t a = ranged_stage (omega arith) (omega arith) h t (λ M o s. hand_over_below (state_of k M) (o.cpu k h) s time was l x i) a

pub kept_ranged : {c n : ℕ} {m : List ℕ} → Ranged c n t_timed b_advanced m → Ranged c n t_handed b_advanced m
kept_ranged a = ranged_more (omega arith) (omega arith) a

-- From the choice to who gets the slice. Assumes nothing.
use Rattle.std.specs.Prelude.{Option, is_some}
use mathlib.Core.Path.{◌≡◌, refl, sym, ap, ◌∙◌}
use mathlib.Core.Bool.{Bool, true, false}
use mathlib.Core.List.{List}
use Prim.Native.Nat.{ℕ, ◌<◌, ◌≤◌}
use native.Mathlib.Omega.{arith}
use lib.ListN.{set}
use Rattle.ticks.specs.declared.Spent.{Spent}
use Rattle.ticks.specs.Ticks.{max_ticks}
use Rattle.percpu.specs.Cpu.{Cpu}
use Rattle.machine.specs.Machine.{Machine, cpu_at}
use Rattle.machine.specs.Encode.{encode}
use Rattle.machine.specs.Shape.{Fits}
use Rattle.model.specs.State.{State, state_of, prev_runnable}
use Rattle.model.specs.Turn.{charge_holder}
use Rattle.model.specs.Choice.{choice}
use Rattle.model.specs.Schedule.{scanned, choose_and_steal, selected, select_next_context}
use Rattle.model.proofs.NoRoom as no_room
use Rattle.stages.specs.Stage.{Stage, Staged, Ranged}
use Rattle.stages.proofs.Compose.{stage_then}
use Rattle.stages.proofs.Kept.{ranged_stage}
use Rattle.turn.proofs.Bounded.{charge_below}
use Rattle.stages.proofs.Reading.{unchanged_with}
use Rattle.handover.specs.Handed.{settled_by}
use Rattle.handover.proofs.Settled.{settled_is, settled_below}
use Rattle.handover.proofs.Advanced.{next_below}
use Rattle.schedule.specs.Part.{Ruled, ruled, chosen_by, of_selected, Part}
use Rattle.schedule.specs.Named.{NamedBelow}
use Rattle.columns.proofs.Tests.{never}
use Rattle.schedule.proofs.Parts.{stage_part, stage_part_full, part_stage, part_as, part_full}
use Rattle.stages.specs.Bounds.{t_timed, b_woken, b_charged, b_stolen, b_advanced, max_gain}
use Rattle.model.specs.Handover.{next_context, settled}

-- the stealing found no room
pub selected_unchosen : {c n k : ℕ} {m m' m'' : List ℕ} {w q : Ruled} (time : ℕ) (spent : Spent)
    → Part c n k m m' true w (λ (cpus : List Cpu) (s : State). chosen_by k time cpus s)
    → Part c n k m m'' true q (λ (cpus : List Cpu) (s : State). of_selected (selected k time spent cpus s))
unfolding selected
selected_unchosen {k = k} time spent t =
    part_full (λ (cpus : List Cpu) (s : State). of_selected (selected k time spent cpus s)) t
    (λ cpus s e. no_room.settled_full k time (prev_runnable s) spent.ticks (choose_and_steal k time cpus s) e)

-- t: chosen and stolen; u: V advanced and the holder sent back
module _ {c n k : ℕ} {m m' : List ℕ} {w : Ruled} (time : ℕ) (spent : Spent) (won runs : Bool) (h : k < c)
    (t : Part c n k m m' false w (λ (cpus : List Cpu) (s : State). chosen_by k time cpus s))
    (hr : (M : Machine) → m ≡ encode M → Fits c n M → runs ≡ prev_runnable (state_of k M)) (hw : won ≡ is_some w.who) where
  module _ (M : Machine) (e : m ≡ encode M) (o : Fits c n M) (cpus : List Cpu) (z : set cpus k (cpu_at M k) ≡ M.cpus) where
    winner_is : w.who ≡ (choose_and_steal k time cpus (state_of k M)).winner
    winner_is = ap (λ (x : Ruled). x.who) ((t.part M e o cpus z).answer refl)

    same_state : settled_by won runs spent.ticks (choose_and_steal k time cpus (state_of k M)).state ≡ settled (prev_runnable (state_of k M)) spent.ticks (choose_and_steal k time cpus (state_of k M))
    same_state =
        (λ i. settled_by ((hw ∙ ap is_some winner_is) i) (hr M e o i) spent.ticks (choose_and_steal k time cpus (state_of k M)).state)
        ∙ settled_is k time (prev_runnable (state_of k M)) spent.ticks (choose_and_steal k time cpus (state_of k M))

  pub selected_full : {m'' : List ℕ} {q : Ruled} → Staged c n k m' m'' true (λ (s : State). settled_by won runs spent.ticks s)
      → Part c n k m m'' true q (λ (cpus : List Cpu) (s : State). of_selected (selected k time spent cpus s))
  unfolding selected
  selected_full u = part_as (part_stage h t u) (λ M e o cpus z. (same_state M e o cpus z, refl, λ y x. never y))

  -- next: who gets the slice, as read after
  module _ {m'' : List ℕ} (u : Staged c n k m' m'' false (λ (s : State). settled_by won runs spent.ticks s)) {next : Option ℕ}
      (r : (M : Machine) → m'' ≡ encode M → Fits c n M → next ≡ next_context runs w.who (state_of k M)) where
    pub selected_room : Part c n k m m'' false (ruled next w.rule) (λ (cpus : List Cpu) (s : State). of_selected (selected k time spent cpus s))
    unfolding selected
    selected_room =
        let v : Stage c n k m'' m'' false next (λ (s : State). s) (λ (s : State). next_context runs w.who s) = unchanged_with k (λ (s : State). s) (u.image refl) (λ M e o. (refl, r M e o))
        in part_as (part_stage h t (stage_then h u v))
        (λ M e o cpus z. (
          same_state M e o cpus z,
          refl,
          λ y x. λ i.
              ruled ((x ∙ (λ j. next_context (hr M e o j) (winner_is M e o cpus z j) (same_state M e o cpus z j))) i) ((t.part M e o cpus z).answer refl i).rule,
        ))

    pub selected_ranged : spent.ticks ≤ max_gain → Ranged c n t_timed b_stolen m' → Ranged c n t_timed b_advanced m''
    selected_ranged l a = ranged_stage (omega arith) (omega arith) h u (λ M o s. settled_below won runs spent.ticks (state_of k M) l (o.cpu k h) s) a

    pub selected_named : NamedBelow n w.who → NamedBelow n next
    selected_named f x e =
        let i = u.image refl
        in next_below i.M k i.fits h runs w.who f x (sym (r i.M i.eq i.fits) ∙ e)

-- before the choice the holder is charged
pub keeps_full : (k time : ℕ) (spent : Spent) (cpus : List Cpu) (s : State) → s.no_room ≡ true → (selected k time spent cpus s).state.no_room ≡ true
unfolding selected choose_and_steal
keeps_full k time spent cpus s e =
    no_room.settled_full k time (prev_runnable s) spent.ticks (choose_and_steal k time cpus s)
    (no_room.steal_full k (prev_runnable s) _ cpus _ _ (no_room.chosen_full (choice s (scanned k time s)) (scanned k time s) s e))

module _ {c n k : ℕ} {m m' m'' : List ℕ} (time : ℕ) (spent : Spent) where
  pub charged_full : {q : Ruled} → Staged c n k m m' true (λ (s : State). charge_holder spent s)
      → Part c n k m m'' true q (λ (cpus : List Cpu) (s : State). of_selected (select_next_context k time spent cpus s))
  unfolding select_next_context
  charged_full t =
      stage_part_full (λ (cpus : List Cpu) (s : State). of_selected (selected k time spent cpus s)) t (keeps_full k time spent)

  pub charged_then : {q : Ruled} {full : Bool} → k < c → Staged c n k m m' false (λ (s : State). charge_holder spent s)
      → Part c n k m' m'' full q (λ (cpus : List Cpu) (s : State). of_selected (selected k time spent cpus s))
      → Part c n k m m'' full q (λ (cpus : List Cpu) (s : State). of_selected (select_next_context k time spent cpus s))
  unfolding select_next_context
  charged_then h t u = stage_part h t u

pub charged_ranged : {c n k : ℕ} {m m' : List ℕ} (spent : Spent) → k < c → spent.ticks ≤ max_ticks → Staged c n k m m' false (λ (s : State). charge_holder spent s)
    → Ranged c n t_timed b_woken m → Ranged c n t_timed b_charged m'
charged_ranged {k = k} spent h l t a =
    ranged_stage (omega arith) (omega arith) h t (λ M o s. charge_below (state_of k M) (o.cpu k h) o.context s spent l) a

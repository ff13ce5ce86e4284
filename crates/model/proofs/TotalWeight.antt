-- The total weight that choosing and stealing leave: clean-up takes away what the scan gave up, and stealing only adds.
use Rattle.std.specs.Prelude.{None, Option, Some}
use mathlib.Core.Path.{◌≡◌, refl}
use mathlib.Core.Bool.{Bool, not, ◌||◌}
use mathlib.Core.List.{List, [], ◌∷◌}
use Prim.Native.Nat.{ℕ, ◌-◌, ◌≤◌}
use native.Mathlib.Omega.{arith}
use lib.ListN.{length, get_or}
use Rattle.entries.specs.declared.Entry.{Entry}
use Rattle.percpu.specs.Cpu.{Cpu}
use Rattle.machine.specs.Machine.{Machine, no_cpu}
use Rattle.model.specs.State.{State, at}
use Rattle.model.specs.Scan.{Scan}
use Rattle.model.specs.Choice.{Choice, cleaned_up, taken_out, choice, chosen}
use Rattle.model.specs.Steal.{
  Stealing,
  Moving,
  should_steal,
  targets,
  can_steal_from,
  first_wins,
  move_entry,
  steal_entries,
  steal_from,
  steal,
}
use Rattle.model.specs.Schedule.{scanned, choose_and_steal}
use Rattle.model.specs.Demand3.{judged, total_weight_here}
use Rattle.model.proofs.Cases.{pick}
use Rattle.model.proofs.Lists.{fold_keeps}

abbrev total : State → ℕ
total s = s.cpu.block.total_weight

taken_out_total : (o : Option ℕ) (s : State) → total (taken_out o s) ≡ total s
taken_out_total None s = refl
taken_out_total (Some x) s = pick (λ (z : State). total z ≡ total s) (at s x).has_queue_key (λ t. refl) (λ t. refl)

chosen_total : (w : Choice) (f : Scan) (s : State) → total (chosen w f s) ≡ total s - f.weight_change
unfolding chosen cleaned_up
chosen_total w f s = taken_out_total w.winner _

module _ (k : ℕ) (runs : Bool) (locked : List ℕ) (n : ℕ) where
  move_adds : (m : Moving) (e : Entry) → n ≤ total m.state → n ≤ total (move_entry runs m e).state
  unfolding move_entry
  move_adds m e h = pick (λ (z : Moving). n ≤ total z.state) (first_wins runs m.winner) (λ t. omega arith) (λ t. omega arith)

  entries_add : (l : Stealing) (t : ℕ) (v : Cpu) (es : List Entry) → n ≤ total l.state → n ≤ total (steal_entries runs l t v es).state
  unfolding steal_entries
  entries_add l t v [] h = h
  entries_add l t v (e ∷ es) h = fold_keeps (λ (m : Moving). n ≤ total m.state) (move_entry runs) move_adds _ (e ∷ es) h

  from_adds : (l : Stealing) (t : ℕ) → n ≤ total l.state → n ≤ total (steal_from k runs locked l t).state
  unfolding steal_from
  from_adds l t h =
      pick (λ (z : Stealing). n ≤ total z.state) (l.done || not (can_steal_from l.state (get_or l.cpus t no_cpu))) (λ u. h)
      (λ u. entries_add l t (get_or l.cpus t no_cpu) _ h)

  steal_adds : (cpus : List Cpu) (w : Option ℕ) (s : State) → n ≤ total s → n ≤ total (steal k runs locked cpus w s).state
  unfolding steal
  steal_adds cpus w s h =
      pick (λ (z : Stealing). n ≤ total z.state) (should_steal s w)
      (λ u. fold_keeps (λ (l : Stealing). n ≤ total l.state) (steal_from k runs locked) from_adds _ (targets k (length cpus)) h) (λ u. h)

pub weight_is : (k time : ℕ) (M : Machine) → total (choose_and_steal k time M.cpus (judged k time M)).state ≡ total_weight_here k time M
unfolding choose_and_steal
weight_is k time M =
    let J = judged k time M in
    let f = scanned k time J in
    let a : total (chosen (choice J f) f J) ≡ total J - f.weight_change = chosen_total (choice J f) f J in
    let b : total (chosen (choice J f) f J) ≤ total (choose_and_steal k time M.cpus J).state = steal_adds k _ _ _ M.cpus _ _ (omega arith) in
    omega arith

-- Demand 3 of a call that runs `schedule`.
use mathlib.Core.Path.{◌≡◌, ap, ◌∙◌}
use mathlib.Core.Bool.{true}
use Prim.Native.Nat.{ℕ, ◌+◌}
use Rattle.machine.specs.Machine.{Machine, cpu_at}
use Rattle.model.specs.State.{State, at, holder, prev_runnable}
use Rattle.model.specs.Tidy.{Sound, Tidy}
use Rattle.model.specs.Demand3.{HolderRunnable, NobodyEligible, own_advance, Demand3}
use Rattle.model.proofs.Turn.{Turn}
use Rattle.model.proofs.WokenHere.{woken_entry}
use Rattle.model.proofs.Chosen.{
  NobodyOnTime,
  Follows,
  entry_first,
  holder_kept,
  holder_alone,
  holder_least,
  holder_by_deadline,
  entry_least,
  nobody_waits,
}
use Rattle.model.proofs.ReadyIs.{holder_runs, vtime_is}
use Rattle.model.proofs.Assembled.{scheduled_machine, J, waking, chose, follows}
use Rattle.model.proofs.After.{tidied}
use Rattle.model.proofs.Outcomes.{total_after, v_after}
use Rattle.model.proofs.NobodyLost.{nobody_lost}
use Rattle.model.proofs.Contested.{ready_of, v_is, eligible, alone}
use Rattle.model.proofs.IdleLeft.{idle_left, idle_only}
use Rattle.model.proofs.Ruled.{rule}

module _ (turn : Turn) where
  abbrev k : ℕ
  k = turn.k

  abbrev time : ℕ
  time = turn.time

  abbrev M : Machine
  M = turn.M

  abbrev S : Sound M
  S = turn.sound

  abbrev T : Tidy M
  T = turn.tidy

  abbrev M' : Machine
  M' = scheduled_machine k time M

  abbrev here : State
  here = J turn

  abbrev h : ℕ
  h = (cpu_at M k).block.sched_ctxt

  hv : (holder here).vtime ≡ (at here h).vtime
  hv = vtime_is k time M S T (waking turn)

  runs_of : HolderRunnable k time M → prev_runnable here ≡ true
  runs_of = holder_runs k time M S T (waking turn)

  -- where somebody is eligible V was not moved
  v_kept : (NobodyEligible k time M → ⊥) → (cpu_at M' k).block.v ≡ (cpu_at M k).block.v + own_advance k time M M'
  v_kept some-eligible = go (follows turn)
    where
      kept : (chose turn).v ≡ here.cpu.block.v → (cpu_at M' k).block.v ≡ (cpu_at M k).block.v + own_advance k time M M'
      kept z = v_after turn ∙ ap (λ y. y + own_advance k time M M') (z ∙ v_is turn)

      nobody : NobodyOnTime k time here → NobodyEligible k time M
      nobody n =
          record {
            entries = λ e a. rw (v_is turn) at (n.entries e a.is_in (ready_of turn e a));
            holder = λ a. rw (v_is turn, hv) at (n.holder (runs_of a));
          }

      go : Follows k time here (chose turn) → (cpu_at M' k).block.v ≡ (cpu_at M k).block.v + own_advance k time M M'
      go (entry_first e i nb z v) = kept v
      go (holder_kept e i o b z v) = kept v
      go (holder_alone i o z v) = kept v
      go (holder_least i r g z v) = absurd (some-eligible (nobody i))
      go (holder_by_deadline i r e g lt b z v) = absurd (some-eligible (nobody i))
      go (entry_least i e g lt z v) = absurd (some-eligible (nobody i))
      go (nobody_waits i t z v) = kept v

  pub demanded : Demand3 k time M M'
  demanded =
      record {
        tidy = tidied turn;
        woken = woken_entry k time M S T turn.own;
        nobody_lost = nobody_lost turn;
        eligible = eligible turn;
        holder_alone = alone turn;
        nobody_eligible = rule turn;
        v_stays = v_kept;
        total_weight = total_after turn;
        idle_last = (idle_only turn, λ a. idle_left turn a.0 a.1);
      }

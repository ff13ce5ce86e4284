-- Who is in charge where somebody waits, and where nobody does before the stealing.
use Rattle.std.specs.Prelude.{None, Some}
use mathlib.Core.Path.{◌≡◌, ◌∙◌}
use mathlib.Core.Bool.{true, false}
use Prim.Native.Nat.{ℕ, ◌<◌, ◌≤◌}
use native.Mathlib.Omega.{arith}
use Rattle.entries.specs.declared.Entry.{Entry}
use Rattle.machine.specs.Machine.{Machine, cpu_at}
use Rattle.model.specs.State.{State, holder, prev_runnable}
use Rattle.model.specs.Choice.{prev_is_eligible}
use Rattle.model.specs.Tidy.{Sound, Tidy}
use Rattle.model.specs.Demand3.{Ready, Eligible, HolderEligible, NobodyWaits, in_charge, Contest}
use Rattle.model.proofs.Turn.{Turn}
use Rattle.model.proofs.Cases.{never, and_both}
use Rattle.model.proofs.Chosen.{
  is_waiting,
  is_on_time,
  Follows,
  entry_first,
  holder_kept,
  holder_alone,
  holder_least,
  holder_by_deadline,
  entry_least,
  nobody_waits,
}
use Rattle.model.proofs.Firsts.{IsFirst, some_none}
use Rattle.model.proofs.ReadyIs.{
  ready_waits,
  waits_ready,
  both_on_time,
  runs_holder,
  holder_runs,
  eligible_prev,
  first_key,
  key_first,
  least_key,
  vtime_is,
}
use Rattle.model.proofs.Assembled.{scheduled_machine, J, waking, chose, follows, chosen_in_charge, holder_in_charge}
use Rattle.model.proofs.After.{in_charge_is}

module _ (turn : Turn) where
  abbrev k : ℕ
  k = turn.k

  abbrev time : ℕ
  time = turn.time

  abbrev M : Machine
  M = turn.M

  abbrev S : Sound M
  S = turn.sound

  abbrev T : Tidy M
  T = turn.tidy

  abbrev pub M' : Machine
  M' = scheduled_machine k time M

  abbrev pub here : State
  here = J turn

  abbrev pub idle : ℕ
  idle = (cpu_at M k).block.idle_ctxt

  abbrev pub h : ℕ
  h = (cpu_at M k).block.sched_ctxt

  -- who is in charge: the chosen, or a runnable holder
  pub won : (x : ℕ) → (chose turn).winner ≡ Some x → in_charge k time M M' ≡ x
  won x z = in_charge_is turn ∙ chosen_in_charge turn x z

  pub stayed : (chose turn).winner ≡ None → prev_runnable here ≡ true → in_charge k time M M' ≡ h
  stayed z t = in_charge_is turn ∙ holder_in_charge turn z t

  pub runs_if : prev_is_eligible here ≡ true → prev_runnable here ≡ true
  runs_if t = (and_both (prev_runnable here) _ t).0

  pub ready_of : (e : Entry) → Ready k time M e → is_waiting k time here e ≡ true
  ready_of = ready_waits k time M S T (waking turn)

  on_time_of : (e : Entry) → Ready k time M e → Eligible k time M e → is_on_time k time here e ≡ true
  on_time_of = both_on_time k time M S T (waking turn)

  late : (v a : ℕ) → v < a → a ≤ v → ⊥
  late v a x y = omega arith

  -- V before the choice is that of the machine
  pub v_is : here.cpu.block.v ≡ (cpu_at M k).block.v
  v_is = (waking turn).v

  -- the contest of an eligible entry
  pub eligible : (f : Entry) → Ready k time M f → Eligible k time M f → (e : Entry) × Contest k time M M' e
  eligible f a b = go (follows turn)
    where
      eligible_late : here.cpu.block.v < f.vtime → ⊥
      eligible_late m = late here.cpu.block.v f.vtime m (rw v_is b)

      go : Follows k time here (chose turn) → (e : Entry) × Contest k time M M' e
      go (entry_first e i nb z v) = (
        e,
        record {
          least_key = least_key k time M S T (waking turn) e i;
          holder_stayed = λ hf.
              never (first_key k time M S T (waking turn) e hf) (nb (eligible_prev k time M S T (waking turn) hf.eligible));
          entry_won = λ q. won e.context_ref z;
        },
      )
      go (holder_kept e i o b' z v) = (
        e,
        record {
          least_key = least_key k time M S T (waking turn) e i;
          holder_stayed = λ hf. stayed z (runs_if o);
          entry_won = λ q. absurd (q (key_first k time M S T (waking turn) e o b'));
        },
      )
      go (holder_alone i o z v) = never (on_time_of f a b) (i f a.is_in)
      go (holder_least i r g z v) = absurd (eligible_late (i.entries f a.is_in (ready_of f a)))
      go (holder_by_deadline i r e g l' b' z v) = absurd (eligible_late (i.entries f a.is_in (ready_of f a)))
      go (entry_least i e g l' z v) = absurd (eligible_late (i.entries f a.is_in (ready_of f a)))
      go (nobody_waits i r z v) = never (ready_of f a) (i f a.is_in)

  pub alone : HolderEligible k time M → ((e : Entry) → Ready k time M e → Eligible k time M e → ⊥) → in_charge k time M M' ≡ h
  alone a none-ready = go (follows turn)
    where
      first_not : (e : Entry) → IsFirst (is_on_time k time here) here.cpu.queue e → ⊥
      first_not e i = let q = least_key k time M S T (waking turn) e i in none-ready e q.is_ready q.is_eligible

      in_time : (holder here).vtime ≤ here.cpu.block.v
      in_time = rw (vtime_is k time M S T (waking turn), v_is) a.in_time

      go : Follows k time here (chose turn) → in_charge k time M M' ≡ h
      go (entry_first e i nb z v) = absurd (first_not e i)
      go (holder_kept e i o b z v) = absurd (first_not e i)
      go (holder_alone i o z v) = stayed z (runs_if o)
      go (holder_least i r g z v) = stayed z r
      go (holder_by_deadline i r e g l' b z v) = stayed z r
      go (entry_least i e g l' z v) =
          absurd (late here.cpu.block.v (holder here).vtime (i.holder (holder_runs k time M S T (waking turn) a.runnable)) in_time)
      go (nobody_waits i r z v) = never (holder_runs k time M S T (waking turn) a.runnable) r

  -- nobody won before the stealing, and no holder runs: nobody waits
  pub none_waits : (chose turn).winner ≡ None → prev_runnable here ≡ false → NobodyWaits k time M
  none_waits w r = go (follows turn)
    where
      go : Follows k time here (chose turn) → NobodyWaits k time M
      go (entry_first e i nb z v) = absurd (some_none z w)
      go (holder_kept e i o b z v) = never (runs_if o) r
      go (holder_alone i o z v) = never (runs_if o) r
      go (holder_least i t g z v) = never t r
      go (holder_by_deadline i t e g l' b z v) = never t r
      go (entry_least i e g l' z v) = absurd (some_none z w)
      go (nobody_waits i t z v) =
          record {
            entries = λ e a. never (ready_of e a) (i e a.is_in);
            holder = λ a. never (holder_runs k time M S T (waking turn) a) r;
          }

  -- where nobody waits nobody won before the stealing, and no holder runs
  pub waits_none : NobodyWaits k time M → ((chose turn).winner ≡ None) × (prev_runnable here ≡ false)
  waits_none a = go (follows turn)
    where
      not_running : prev_runnable here ≡ true → ⊥
      not_running t = a.holder (runs_holder k time M S T (waking turn) t)

      go : Follows k time here (chose turn) → ((chose turn).winner ≡ None) × (prev_runnable here ≡ false)
      go (entry_first e i nb z v) = absurd (a.entries e (least_key k time M S T (waking turn) e i).is_ready)
      go (holder_kept e i o b z v) = absurd (not_running (runs_if o))
      go (holder_alone i o z v) = absurd (not_running (runs_if o))
      go (holder_least i t g z v) = absurd (not_running t)
      go (holder_by_deadline i t e g l' b z v) = absurd (not_running t)
      go (entry_least i e g l' z v) = absurd (a.entries e (waits_ready k time M S T (waking turn) e g.is_in g.passes))
      go (nobody_waits i t z v) = (z, t)

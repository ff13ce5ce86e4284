-- The rule where nobody is eligible.
use mathlib.Core.Path.{◌≡◌, refl, ap, ◌∙◌}
use mathlib.Core.Bool.{true}
use Prim.Native.Nat.{ℕ, ◌+◌, ◌<◌, ◌≤◌}
use native.Mathlib.Omega.{arith}
use Rattle.entries.specs.declared.Entry.{Entry}
use Rattle.machine.specs.Machine.{Machine, cpu_at}
use Rattle.model.specs.State.{State, at, holder, prev_runnable}
use Rattle.model.specs.Choice.{prev_is_eligible}
use Rattle.model.specs.Tidy.{Sound, Tidy}
use Rattle.model.specs.Demand3.{
  Ready,
  HolderRunnable,
  LeastWaiting,
  MovedTo,
  to_entry,
  to_holder,
  nowhere,
  NobodyEligible,
  in_charge,
  own_advance,
  LateContest,
  Rule,
}
use Rattle.model.proofs.Turn.{Turn}
use Rattle.model.proofs.Cases.{never}
use Rattle.model.proofs.Lists.{In}
use Rattle.model.proofs.Before.{queues, Free}
use Rattle.model.proofs.Chosen.{
  is_waiting,
  is_on_time,
  Follows,
  entry_first,
  holder_kept,
  holder_alone,
  holder_least,
  holder_by_deadline,
  entry_least,
  nobody_waits,
  sorted,
}
use Rattle.model.proofs.Firsts.{IsFirst, IsLeast, least_exists}
use Rattle.model.proofs.ReadyIs.{waits_ready, runs_holder, holder_runs, prev_eligible, least_key, first_least, vtime_is, vd_is}
use Rattle.model.proofs.Assembled.{scheduled_machine, J, waking, chose, follows}
use Rattle.model.proofs.Outcomes.{v_after}
use Rattle.model.proofs.Contested.{won, stayed, ready_of, v_is, none_waits}
use Rattle.model.proofs.IdleLeft.{stolen_first, idle_left}

module _ (turn : Turn) where
  abbrev k : ℕ
  k = turn.k

  abbrev time : ℕ
  time = turn.time

  abbrev M : Machine
  M = turn.M

  abbrev S : Sound M
  S = turn.sound

  abbrev T : Tidy M
  T = turn.tidy

  abbrev M' : Machine
  M' = scheduled_machine k time M

  abbrev here : State
  here = J turn

  abbrev h : ℕ
  h = (cpu_at M k).block.sched_ctxt

  hv : (holder here).vtime ≡ (at here h).vtime
  hv = vtime_is k time M S T (waking turn)

  hd : (holder here).vd ≡ (at here h).vd
  hd = vd_is k time M S T (waking turn)

  runs_of : HolderRunnable k time M → prev_runnable here ≡ true
  runs_of = holder_runs k time M S T (waking turn)

  ready_by : (e : Entry) → In e here.cpu.queue → is_waiting k time here e ≡ true → Ready k time M e
  ready_by = waits_ready k time M S T (waking turn)

  module _ (n : NobodyEligible k time M) where
    first_not : (e : Entry) → IsFirst (is_on_time k time here) here.cpu.queue e → ⊥
    first_not e i =
        let q = least_key k time M S T (waking turn) e i in
        let a : (cpu_at M k).block.v < e.vtime = n.entries e q.is_ready in
        let b : e.vtime ≤ (cpu_at M k).block.v = q.is_eligible in omega arith

    holder_not : prev_is_eligible here ≡ true → ⊥
    holder_not t =
        let q = prev_eligible k time M S T (waking turn) t in
        let a : (cpu_at M k).block.v < (at here h).vtime = n.holder q.runnable in
        let b : (at here h).vtime ≤ (cpu_at M k).block.v = q.in_time in omega arith

    v_moved : (b : ℕ) × MovedTo k time M b × ((cpu_at M' k).block.v ≡ b + own_advance k time M M')
    v_moved = go (follows turn)
      where
        moved : (b : ℕ) → (chose turn).v ≡ b → (cpu_at M' k).block.v ≡ b + own_advance k time M M'
        moved b z = v_after turn ∙ ap (λ y. y + own_advance k time M M') z

        to_the_entry : (e : Entry) → IsLeast (is_waiting k time here) here.cpu.queue e → (prev_runnable here ≡ true → e.vtime < (holder here).vtime) → MovedTo k time M e.vtime
        to_the_entry e g lt =
            to_entry e (ready_by e g.is_in g.passes) refl
            (record {
              entries = λ f a. g.least_vtime f a.is_in (ready_of turn f a);
              holder = λ a. let b : e.vtime < (at here h).vtime = rw hv at (lt (runs_of a)) in omega arith;
            })

        go : Follows k time here (chose turn) → (b : ℕ) × MovedTo k time M b × ((cpu_at M' k).block.v ≡ b + own_advance k time M M')
        go (entry_first e i nb z v) = absurd (first_not e i)
        go (holder_kept e i o b z v) = absurd (first_not e i)
        go (holder_alone i o z v) = absurd (holder_not o)
        go (holder_least i r g z v) = (
          (at here h).vtime,
          to_holder (runs_holder k time M S T (waking turn) r) refl
              (record { entries = λ e a. rw hv at (g e a.is_in (ready_of turn e a)); holder = λ a. omega arith }),
          moved _ (v ∙ hv),
        )
        go (holder_by_deadline i r e g lt b z v) = (e.vtime, to_the_entry e g (λ t. lt), moved _ v)
        go (entry_least i e g lt z v) = (e.vtime, to_the_entry e g (λ t. (lt t).0), moved _ v)
        go (nobody_waits i t z v) = ((cpu_at M k).block.v, nowhere (none_waits turn z t) refl, moved _ (v ∙ v_is turn))

    stays_least : HolderRunnable k time M → LeastWaiting k time M (at here h).vtime → in_charge k time M M' ≡ h
    stays_least a w = go (follows turn)
      where
        go : Follows k time here (chose turn) → in_charge k time M M' ≡ h
        go (entry_first e i nb z v) = absurd (first_not e i)
        go (holder_kept e i o b z v) = absurd (first_not e i)
        go (holder_alone i o z v) = absurd (holder_not o)
        go (holder_least i r g z v) = stayed turn z r
        go (holder_by_deadline i r e g lt b z v) = stayed turn z r
        go (entry_least i e g lt z v) =
            let x : e.vtime < (at here h).vtime = rw hv at (lt (runs_of a)).0 in
            let y : (at here h).vtime ≤ e.vtime = w.entries e (ready_by e g.is_in g.passes) in absurd (omega arith)
        go (nobody_waits i t z v) = never (runs_of a) t

    contest : (f : Entry) → Ready k time M f → (e : Entry) × LateContest k time M M' e
    contest f a = go (follows turn)
      where
        go : Follows k time here (chose turn) → (e : Entry) × LateContest k time M M' e
        go (entry_first e i nb z v) = absurd (first_not e i)
        go (holder_kept e i o b z v) = absurd (first_not e i)
        go (holder_alone i o z v) = absurd (holder_not o)
        go (holder_least i r g z v) =
            let (e, q) = least_exists (is_waiting k time here) here.cpu.queue (sorted (Free M) M.contexts k time (queues M) here (waking turn).kept) f a.is_in (ready_of turn f a) in (
              e,
              record {
                first_least = first_least k time M S T (waking turn) e q;
                holder_stayed = λ x y. stayed turn z r;
                entry_won = λ x.
                    let b : e.vtime < (at here h).vtime = (x (runs_holder k time M S T (waking turn) r)).0 in
                    let d : (at here h).vtime ≤ e.vtime = rw hv at (g e q.is_in q.passes) in absurd (omega arith);
              },
            )
        go (holder_by_deadline i r e g lt b z v) = (
          e,
          record {
            first_least = first_least k time M S T (waking turn) e g;
            holder_stayed = λ x y. stayed turn z r;
            entry_won = λ x.
                let d : e.key.vd < (at here h).vd = (x (runs_holder k time M S T (waking turn) r)).1 in
                let y : (at here h).vd ≤ e.key.vd = rw hd at b in absurd (omega arith);
          },
        )
        go (entry_least i e g lt z v) = (
          e,
          record {
            first_least = first_least k time M S T (waking turn) e g;
            holder_stayed = λ x y.
                let d : e.key.vd < (at here h).vd = rw hd at (lt (runs_of x)).1 in absurd (omega arith);
            entry_won = λ x. won turn e.context_ref z;
          },
        )
        go (nobody_waits i t z v) = never (ready_of turn f a) (i f a.is_in)

    pub rule : Rule k time M M'
    rule =
        record {
          v = v_moved;
          holder_least = stays_least;
          entries = contest;
          stolen = stolen_first turn;
          idle = idle_left turn;
        }

-- A whole decision: its stages put together, and who is in charge at its end.
use Rattle.std.specs.Prelude.{None, Option, Some}
use mathlib.Core.Path.{◌≡◌, refl, subst, sym, ap, ◌∙◌}
use mathlib.Core.Bool.{Bool, true, false, not}
use mathlib.Core.List.{List}
use mathlib.Core.Logic.{◌≢◌}
use Prim.Native.Nat.{ℕ, ◌-◌, ◌<◌}
use lib.ListN.{length}
use borrow.Author.Tests.{eqb-true, eqb-false}
use Rattle.answer.specs.declared.Rule.{Rule}
use Rattle.ticks.specs.Ticks.{ticks}
use Rattle.machine.specs.Machine.{Machine, context_at, cpu_at}
use Rattle.model.specs.State.{State, at, state_of, is_idle, prev_runnable}
use Rattle.model.specs.Turn.{was_idle, before_choice}
use Rattle.model.specs.Choice.{Choice, choice}
use Rattle.model.specs.Steal.{Stealing, steal}
use Rattle.model.specs.Schedule.{locks, scanned, choose_and_steal, selected, select_next_context, picked_as, schedule, after_schedule}
use Rattle.model.specs.Tidy.{Sound, Tidy, Present}
use Rattle.model.specs.Demand3.{judged}
use Rattle.model.proofs.Turn.{Turn}
use Rattle.model.proofs.Cases.{pick, and_both, not_is_true}
use Rattle.model.proofs.Before.{Roles, roles, queues, Free}
use Rattle.model.proofs.Woken.{Waking}
use Rattle.model.proofs.Charged.{before_waking}
use Rattle.model.proofs.Chosen.{Follows, choice_follows}
use Rattle.model.proofs.Dequeued.{AfterChoice, chosen_state, after_choice}
use Rattle.model.proofs.CpuQueues.{present_in_range}
use Rattle.model.proofs.Robbed.{Kept, StealResult, nothing, robbed}
use Rattle.model.proofs.Stolen.{steal_result, result_kept}
use Rattle.model.proofs.Settled.{successor, Settled, settles}
use Rattle.model.proofs.Ended.{Finished, finished_none, finished_some}
use Rattle.model.proofs.Queues.{Fixed}
use Rattle.model.proofs.TidyAfter.{Ending}
use Rattle.model.specs.Handover.{next_context, settled}

-- the machine after `schedule` and what follows it
abbrev pub scheduled_machine : (k time : ℕ) → Machine → Machine
scheduled_machine k time M = (after_schedule k time (schedule k time M.cpus (state_of k M))).machine

module _ (turn : Turn) where
  abbrev k : ℕ
  k = turn.k

  abbrev time : ℕ
  time = turn.time

  abbrev M : Machine
  M = turn.M

  abbrev S : Sound M
  S = turn.sound

  abbrev T : Tidy M
  T = turn.tidy

  abbrev P : Present M k
  P = turn.present

  abbrev pub J : State
  J = judged k time M

  pub waking : Waking k time M S T (judged k time M)
  waking = before_waking k time M S T P turn.own

  abbrev pub chose : Choice
  chose = choice J (scanned k time J)

  abbrev pub C : State
  C = chosen_state k time M S T J waking

  pub chosen_after : AfterChoice k time M S T (judged k time M) waking chose.winner C
  chosen_after = after_choice k time M S T (judged k time M) waking

  pub follows : Follows k time (judged k time M) chose
  follows = choice_follows (Free M) M.contexts k time (queues M) (judged k time M) waking.kept

  abbrev pub runs : Bool
  runs = prev_runnable J

  abbrev pub locked : List ℕ
  locked = locks J chose

  abbrev pub l : Stealing
  l = steal k runs locked M.cpus chose.winner C

  pub in_range : k < length M.cpus
  unfolding cpu_at
  in_range = present_in_range M.cpus k P

  pub stole : StealResult k M runs locked chose.winner C l
  stole = steal_result k M runs locked chose.winner C chosen_after.inv chosen_after.winner in_range

  pub kept : Kept k M runs locked chose.winner C l
  kept = result_kept k M runs locked chose.winner C chosen_after.inv chosen_after.winner l stole

  pub roles_are : roles l.state.cpu ≡ roles (cpu_at M k)
  roles_are = kept.roles_kept ∙ chosen_after.roles_kept

  is_sched : J.cpu.block.sched_ctxt ≡ (cpu_at M k).block.sched_ctxt
  is_sched = ap (λ (z : Roles). z.sched) waking.roles_kept

  is_idle_word : J.cpu.block.idle_ctxt ≡ (cpu_at M k).block.idle_ctxt
  is_idle_word = ap (λ (z : Roles). z.idle) waking.roles_kept

  -- a runnable holder is not idle
  pub awake : runs ≡ true → (cpu_at M k).block.sched_ctxt ≢ (cpu_at M k).block.idle_ctxt
  awake t z = eqb-false _ _ (not_is_true _ (and_both (not (is_idle J)) _ t).0) (is_sched ∙ z ∙ sym is_idle_word)

  abbrev pub n : ℕ
  n = ticks (time - (cpu_at M k).block.schedule_time) (cpu_at M k).remainder

  abbrev pub s : State
  s = settled runs n l

  pub is_settled : Settled k M S T P runs n l kept.inv kept.winner roles_are awake s
  is_settled = settles k M S T P runs n l kept.inv kept.winner roles_are awake time

  -- who is in charge at the end
  abbrev pub c : ℕ
  c = successor k M runs l.winner

  s_sched : s.cpu.block.sched_ctxt ≡ (cpu_at M k).block.sched_ctxt
  s_sched = ap (λ (z : Roles). z.sched) is_settled.roles_kept

  s_idle : s.cpu.block.idle_ctxt ≡ (cpu_at M k).block.idle_ctxt
  s_idle = ap (λ (z : Roles). z.idle) is_settled.roles_kept

  sched_range : s.cpu.block.sched_ctxt < length s.contexts
  sched_range = rw (is_settled.inv.count, s_sched) (S.in_charge_is k P)

  sched_marked : (at s s.cpu.block.sched_ctxt).currently_scheduled ≡ true
  sched_marked =
      ap (λ (z : Fixed). z.currently_scheduled) (is_settled.inv.same s.cpu.block.sched_ctxt)
      ∙ ap (λ y. (context_at M.contexts y).currently_scheduled) s_sched ∙ T.scheduled_if k P

  finished : (was : Bool) (rule : Rule) (b : Bool) (w : Option ℕ) → runs ≡ b → l.winner ≡ w
      → Finished k time s (successor k M b w) l.cpus (after_schedule k time (picked_as time was rule l.cpus (next_context b w s) s)).machine
  unfolding next_context
  finished was rule b (Some x) p q =
      finished_some k time was rule l.cpus x s (rw (is_settled.inv.count, ← kept.inv.count) (kept.winner x q).range) sched_range
  finished was rule true None p q =
      subst (λ y. Finished k time s y l.cpus (after_schedule k time (picked_as time was rule l.cpus None s)).machine) s_sched
      (finished_none k time was rule l.cpus s sched_marked)
  finished was rule false None p q =
      pick (λ o. Finished k time s (cpu_at M k).block.idle_ctxt l.cpus (after_schedule k time (picked_as time was rule l.cpus o s)).machine) (is_idle s)
      (λ t. subst (λ y. Finished k time s y l.cpus (after_schedule k time (picked_as time was rule l.cpus None s)).machine) (eqb-true _ _ t ∙ s_idle)
      (finished_none k time was rule l.cpus s sched_marked))
      (λ t. subst (λ y. Finished k time s y l.cpus (after_schedule k time (picked_as time was rule l.cpus (Some s.cpu.block.idle_ctxt) s)).machine) s_idle
      (finished_some k time was rule l.cpus s.cpu.block.idle_ctxt s (rw (is_settled.inv.count, s_idle) (S.idle_is k P)) sched_range))

  -- c is in charge of no other CPU, and idle only at home
  elsewhere : (b : Bool) (w : Option ℕ) → l.winner ≡ w → (j : ℕ) → Present M j → j ≢ k → successor k M b w ≢ (cpu_at M j).block.sched_ctxt
  elsewhere b (Some x) q j p o m = (kept.winner x q).free.not_in_charge j p m
  elsewhere true None q j p o m = o (sym (T.one_in_charge k j P p m))
  elsewhere false None q j p o m = o (T.idle_at_home j k p P (sym m))

  at_home : (b : Bool) (w : Option ℕ) → l.winner ≡ w → (j : ℕ) → Present M j → successor k M b w ≡ (cpu_at M j).block.idle_ctxt → k ≡ j
  at_home b (Some x) q j p m = absurd ((kept.winner x q).free.not_idle j p m)
  at_home true None q j p m = T.idle_at_home k j P p m
  at_home false None q j p m = T.one_idle k j P p m

  pub ending : Ending k time M S T P in_range c s l.cpus (scheduled_machine k time M)
  unfolding schedule select_next_context selected choose_and_steal before_choice
  ending =
      record {
        inv = is_settled.inv;
        roles_kept = is_settled.roles_kept;
        count = kept.count;
        others = kept.others;
        absent = kept.absent;
        finished = finished (was_idle (cpu_at M k)) _ runs l.winner refl refl;
        not_elsewhere = elsewhere runs l.winner refl;
        idle_at_home = at_home runs l.winner refl;
      }

  -- where somebody was chosen, that one is in charge
  pub chosen_in_charge : (x : ℕ) → chose.winner ≡ Some x → c ≡ x
  chosen_in_charge x z = ap (successor k M runs) (kept.keeps x z)

  -- where nobody was chosen and the holder runs, the holder is
  pub holder_in_charge : chose.winner ≡ None → runs ≡ true → c ≡ (cpu_at M k).block.sched_ctxt
  holder_in_charge z t = go stole
    where
      stays : l.winner ≡ chose.winner → c ≡ (cpu_at M k).block.sched_ctxt
      stays y = ap (successor k M runs) (y ∙ z) ∙ rw t

      go : StealResult k M runs locked chose.winner C l → c ≡ (cpu_at M k).block.sched_ctxt
      go (nothing p) = stays (ap (λ (q : Stealing). q.winner) p)
      go (robbed d t' e es b) = stays (b.second (rw (z, t)))

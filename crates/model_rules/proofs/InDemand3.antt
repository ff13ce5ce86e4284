-- Which rule a decision on a tidy machine reports, in demand 3's words: each scan's condition is theirs. Assumes nothing.
use Rattle.std.specs.Prelude.{None, Option, Some}
use mathlib.Core.Path.{◌≡◌, refl, subst, sym, ap}
use mathlib.Core.Logic.{◌⊎◌, inl, inr}
use Prim.Native.Nat.{ℕ, ◌<◌, ◌≤◌}
use native.Mathlib.Omega.{arith}
use Rattle.entries.specs.declared.Entry.{Entry}
use Rattle.machine.specs.Machine.{Machine}
use Rattle.answer.specs.declared.Rule.{Rule}
use Rattle.answer.specs.declared.Rule.TheVariants.{FirstEligible, HolderDeadline, HolderSlice, HolderAlone, HolderVtime, HolderLateDeadline, EntryVtime, Stolen, Idle}
use Rattle.model.specs.Demand3.{Ready, the_holder, HolderFirst}
use Rattle.model.specs.Schedule.{Outcome}
use Rattle.model.specs.Tidy.{Sound, Tidy}
use Rattle.model.specs.Accepted.{Call, outcome, Accepted, ServesOwn}
use Rattle.model.proofs.Turn.{Turn}
use Rattle.model.proofs.Assembled.{scheduled_machine}
use Rattle.model_rules.specs.Met.{RuleMet}
use Rattle.model_rules.specs.ByScan.{found, prev, ScanCondition}
use Rattle.model_rules.specs.InDemand3.{TidyCondition}
use Rattle.model_rules.proofs.Numbers.{met}
use Rattle.model_rules.proofs.ByScan.{the_rule, holds, only}
use Rattle.model_rules.proofs.Called.{decided_outcome, decided_rule}
use Rattle.model_rules.proofs.Found.{best_least, best_none, least_best, none_best, late_first, late_sooner, late_none, first_late}
use Rattle.model_rules.proofs.Robbed.{done_stole, undone_nothing, stole_done, nothing_undone}
use Rattle.model_rules.proofs.Words.{hv, hd, runnable, runs, eligible, in_time, to_key, of_key, SameWithMore, to_slice, of_slice, nobody_eligible, nobody_on_time, nobody_waits, nobody_found}

module _ (turn : Turn) where
  abbrev k : ℕ
  k = turn.k

  abbrev time : ℕ
  time = turn.time

  abbrev M : Machine
  M = turn.M

  abbrev M' : Machine
  M' = scheduled_machine k time M

  -- what the scan's condition says is what demand 3's words say
  pub to_tidy : (a : Rule) → ScanCondition k time M a → TidyCondition k time M M' a
  to_tidy FirstEligible w = record { entry = w.entry; least_key = best_least turn w.entry w.is_found; not_holder = λ h. go h h.first }
    where
      go : HolderFirst k time M w.entry
          → ((the_holder k time M).vd < w.entry.key.vd) ⊎ SameWithMore turn w.entry → ⊥
      go h (inl l) = w.not_deadline (in_time turn h.eligible) (of_key turn w.entry w.is_found l)
      go h (inr l) = w.not_slice (in_time turn h.eligible) (of_slice turn w.entry w.is_found l)
  to_tidy HolderDeadline w =
      record {
        entry = w.entry;
        least_key = best_least turn w.entry w.is_found;
        eligible = eligible turn w.on_time;
        deadline = to_key turn w.entry w.is_found w.deadline;
      }
  to_tidy HolderSlice w =
      record {
        entry = w.entry;
        least_key = best_least turn w.entry w.is_found;
        eligible = eligible turn w.on_time;
        deadline = (to_slice turn w.entry w.is_found w.slice).0;
        slice = (to_slice turn w.entry w.is_found w.slice).1;
      }
  to_tidy HolderAlone w = record { eligible = eligible turn w.on_time; alone = best_none turn w.none_found }
  to_tidy HolderVtime w =
      record { nobody = nobody_eligible turn w.nobody; runnable = runnable turn w.runs; least = go (found k time M).ineligible_best refl }
    where
      go : (o : Option Entry) → (found k time M).ineligible_best ≡ o → (e : Entry) → Ready k time M e → (the_holder k time M).vtime ≤ e.vtime
      go None b e r = rw (hv turn) at (late_none turn w.nobody b e r).1
      go (Some f) b e r =
          let x : f.vtime < (prev k time M).vtime = late_sooner turn w.nobody f b w.runs in
          let y : (prev k time M).vtime ≤ f.vtime = w.least f b in absurd (omega arith)
  to_tidy HolderLateDeadline w =
      record {
        nobody = nobody_eligible turn w.nobody;
        runnable = runnable turn w.runs;
        entry = w.entry;
        first_least = late_first turn w.nobody w.entry w.is_found;
        sooner = rw (hv turn) at w.sooner;
        deadline = rw (hd turn) at w.deadline;
      }
  to_tidy EntryVtime w =
      record {
        nobody = nobody_eligible turn w.nobody;
        entry = w.entry;
        first_least = late_first turn w.nobody w.entry w.is_found;
        beats = λ h. let (x, y) = w.beats (runs turn h) in (rw (hv turn) at x, rw (hd turn) at y);
      }
  to_tidy Stolen w = let n = nobody_waits turn w.nobody in let (x, y) = done_stole turn n w.stole in record { nobody = n; name = x; stole = y }
  to_tidy Idle w = record { nobody = nobody_waits turn w.nobody; stole_nothing = undone_nothing turn w.stole_nothing }

  pub to_scan : (a : Rule) → TidyCondition k time M M' a → ScanCondition k time M a
  to_scan FirstEligible w =
      let b = least_best turn w.entry w.least_key in
      record {
        entry = w.entry;
        is_found = b;
        not_deadline = λ o l. w.not_holder (record { eligible = eligible turn o; first = inl (to_key turn w.entry b l) });
        not_slice = λ o l. w.not_holder (record { eligible = eligible turn o; first = inr (to_slice turn w.entry b l) });
      }
  to_scan HolderDeadline w =
      let b = least_best turn w.entry w.least_key in
      record { entry = w.entry; is_found = b; on_time = in_time turn w.eligible; deadline = of_key turn w.entry b w.deadline }
  to_scan HolderSlice w =
      let b = least_best turn w.entry w.least_key in
      record { entry = w.entry; is_found = b; on_time = in_time turn w.eligible; slice = of_slice turn w.entry b (w.deadline, w.slice) }
  to_scan HolderAlone w = record { none_found = none_best turn w.alone; on_time = in_time turn w.eligible }
  to_scan HolderVtime w =
      let n = nobody_on_time turn w.nobody in
      record { nobody = n; runs = runs turn w.runnable; least = λ e b. rw (hv turn) (w.least e (late_first turn n e b).is_ready) }
  to_scan HolderLateDeadline w =
      let n = nobody_on_time turn w.nobody in
      record {
        nobody = n;
        runs = runs turn w.runnable;
        entry = w.entry;
        is_found = first_late turn n w.entry w.first_least (λ r. rw (hv turn) w.sooner);
        sooner = rw (hv turn) w.sooner;
        deadline = rw (hd turn) w.deadline;
      }
  to_scan EntryVtime w =
      let n = nobody_on_time turn w.nobody in
      record {
        nobody = n;
        entry = w.entry;
        is_found = first_late turn n w.entry w.first_least (λ r. rw (hv turn) (w.beats (runnable turn r)).0);
        beats = λ r. let (x, y) = w.beats (runnable turn r) in (rw (hv turn) x, rw (hd turn) y);
      }
  to_scan Stolen w = record { nobody = nobody_found turn w.nobody; stole = stole_done turn w.name w.stole }
  to_scan Idle w = record { nobody = nobody_found turn w.nobody; stole_nothing = nothing_undone turn w.nobody w.stole_nothing }

-- an accepted decision on a tidy machine, under the hypotheses of `demand_3`: each number exactly when its condition holds
pub rule_met : (call : Call) (k time : ℕ) (M : Machine) → Sound M → Tidy M → Accepted k time M call → ServesOwn k time M
    → RuleMet (outcome call k time M).rule (TidyCondition k time M (outcome call k time M).machine)
rule_met call k time M S T a own =
    subst (λ (M' : Machine). RuleMet (outcome call k time M).rule (TidyCondition k time M M'))
    (sym (ap (λ (o : Outcome). o.machine) (decided_outcome k time M call a.decision)))
    (met (TidyCondition k time M (scheduled_machine k time M)) (the_rule k time M) (to_tidy turn (the_rule k time M) (holds k time M))
    (λ b c. only k time M b (to_scan turn b c)) (outcome call k time M).rule (decided_rule k time M call a.decision))
  where
    turn : Turn
    turn = record { k = k; time = time; M = M; sound = S; tidy = T; present = a.present; own = own }

-- Every accepted call inside demand 3's condition keeps tidiness, all conditions and the equality; so does a run of any length.
use mathlib.Core.Path.{◌≡◌, refl, subst, sym}
use mathlib.Core.Bool.{true}
use mathlib.Core.List.{List, [], ◌∷◌}
use Prim.Native.Nat.{ℕ}
use Rattle.context.specs.declared.Status.TheVariants.{Blocked, Stopped}
use Rattle.machine.specs.Machine.{Machine}
use Rattle.model.specs.Tidy.{Sound, Present}
use Rattle.model.specs.Accepted.{Call, outcome, decides, ServesOwn}
use Rattle.model.proofs.Cases.{by_test}
use Rattle.model.proofs.Turn.{Turn}
use Rattle.model.proofs.After.{tidied}
use Rattle.model.proofs.Demand.{call_decides}
use Rattle.model_weights.specs.Runs.{Operation, deciding, unblocking, draining, blocking, hard_blocking, group_unblocking, machine_after, Step, after_step, Allowed, after_run, AllowedRun, Steady}
use Rattle.model_weights.proofs.EndWeights.{agrees_after}
use Rattle.model_weights.proofs.Decision.{weighed_after}
use Rattle.model_weights.proofs.Untouched.{Untouched, untouched_tidy, untouched_agree, untouched_weighed}
use Rattle.model_weights.proofs.Undecided.{undecided}
use Rattle.model_weights.proofs.Operations.{block_untouched, drain_untouched, unblock_untouched, group_untouched}

pub untouched_steady : (M M' : Machine) → Untouched M M' → Steady M → Steady M'
untouched_steady M M' u n =
    record { tidy = untouched_tidy M M' u n.tidy; weighed = untouched_weighed M M' u n.weighed; agree = untouched_agree M M' u n.agree }

-- operations 1 to 3, whether they decide or not
pub call_steady : (call : Call) (k time : ℕ) (M : Machine) → Sound M → Present M k → (decides k time M call ≡ true → ServesOwn k time M) → Steady M
    → Steady (outcome call k time M).machine
call_steady call k time M S P own n =
    by_test (decides k time M call)
    (λ t. let turn : Turn = record { k = k; time = time; M = M; sound = S; tidy = n.tidy; present = P; own = own t } in
    subst Steady (sym (call_decides k time call M t))
    (record { tidy = tidied turn; weighed = weighed_after turn n.weighed n.agree; agree = agrees_after turn n.weighed.weighed n.agree }))
    (λ t. untouched_steady M _ (undecided k time M call t) n)

pub step_steady : (M : Machine) (s : Step) → Allowed M s → Steady M → Steady (after_step M s)
step_steady M s a n = go s.operation a.serves_own
  where
    go : (o : Operation) → ((call : Call) → o ≡ deciding call → decides s.cpu s.time M call ≡ true → ServesOwn s.cpu s.time M)
        → Steady (machine_after o s.cpu s.time M)
    go (deciding call) w = call_steady call s.cpu s.time M a.sound a.present (w call refl) n
    go (unblocking x) w = untouched_steady M _ (unblock_untouched s.cpu x M) n
    go draining w = untouched_steady M _ (drain_untouched s.cpu M) n
    go (blocking x) w = untouched_steady M _ (block_untouched Blocked x M) n
    go (hard_blocking x) w = untouched_steady M _ (block_untouched Stopped x M) n
    go (group_unblocking xs) w = untouched_steady M _ (group_untouched s.cpu xs M) n

pub run_steady : (M : Machine) (ss : List Step) → AllowedRun M ss → Steady M → Steady (after_run M ss)
run_steady M [] a n = n
run_steady M (s ∷ ss) a n = run_steady (after_step M s) ss a.1 (step_steady M s a.0 n)

-- Calls one after the other, each on the machine that the one before it left. Assumes nothing.
use Rattle.std.specs.Prelude.{◌≡◌, true, List, [], ◌∷◌, ℕ}
use Rattle.machine.specs.Machine.{Machine}
use Rattle.model.specs.Tidy.{Sound, Tidy, Present}
use Rattle.model.specs.Accepted.{Call, outcome, decides, ServesOwn}
use Rattle.context_ops.specs.Operations.{unblock_context, drain_ipi_context_wakeups, block, hard_block}
use Rattle.group_ops.specs.Group.{unblock_each}
use Rattle.model_weights.specs.Weighed.{WeighedAlways, Agree}

-- operations 1 to 3, 4, 5, 6, 7, and the group, with what each names
pub data Operation : Type 0 where
  deciding : Call → Operation
  unblocking : ℕ → Operation
  draining : Operation
  blocking : ℕ → Operation
  hard_blocking : ℕ → Operation
  group_unblocking : List ℕ → Operation

abbrev pub machine_after : Operation → (k time : ℕ) → Machine → Machine
machine_after (deciding call) k time M = (outcome call k time M).machine
machine_after (unblocking x) k time M = (unblock_context k x M).machine
machine_after draining k time M = (drain_ipi_context_wakeups k M).machine
machine_after (blocking x) k time M = (block x M).machine
machine_after (hard_blocking x) k time M = (hard_block x M).machine
machine_after (group_unblocking xs) k time M = (unblock_each k xs M).machine

pub record Step : Type 0 where
  pub operation : Operation
  pub cpu : ℕ
  pub time : ℕ

abbrev pub after_step : Machine → Step → Machine
after_step M s = machine_after s.operation s.cpu s.time M

-- a call that is accepted, and where it decides inside demand 3's condition
pub record Allowed (M : Machine) (s : Step) : Type 0 where
  pub sound : Sound M
  pub present : Present M s.cpu
  pub serves_own : (call : Call) → s.operation ≡ deciding call → decides s.cpu s.time M call ≡ true → ServesOwn s.cpu s.time M

abbrev pub after_run : Machine → List Step → Machine
after_run M [] = M
after_run M (s ∷ ss) = after_run (after_step M s) ss

abbrev pub AllowedRun : Machine → List Step → Type 0
AllowedRun M [] = Unit {0}
AllowedRun M (s ∷ ss) = Allowed M s × AllowedRun (after_step M s) ss

-- tidy, every condition with the stronger word, and the equality on every present CPU
pub record Steady (M : Machine) : Type 0 where
  pub tidy : Tidy M
  pub weighed : WeighedAlways M
  pub agree : Agree M

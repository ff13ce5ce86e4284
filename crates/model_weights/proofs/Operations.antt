-- Operations 4 to 7 and the group write nothing of what tidy and the weights read.
use Rattle.std.specs.Prelude.{None, Option, Some}
use mathlib.Core.Path.{◌≡◌, refl}
use mathlib.Core.List.{List}
use Prim.Native.Nat.{ℕ}
use lib.ListN.{length-set}
use Rattle.context.specs.declared.Context.{Context}
use Rattle.context.specs.Block.{Changed}
use Rattle.context.specs.declared.Status.{Status}
use Rattle.context.specs.Status.{is_runnable, is_soft_blocked}
use Rattle.context.specs.Block.{blocked_as, unblocked}
use Rattle.machine.specs.Machine.{Machine, cpu_at, set_context, set_cpu}
use Rattle.machine.specs.Outcome.{Outcome, finished}
use Rattle.percpu.specs.Cpu.{Cpu}
use Rattle.model.specs.Tidy.{context}
use Rattle.model.proofs.Cases.{pick}
use Rattle.model.proofs.Lists.{fold_keeps}
use Rattle.model.proofs.Queues.{set_view}
use Rattle.context_ops.specs.Wakeup.{other_cpu, push_local, push_ipi, wakeup_on, wakeup_context}
use Rattle.context_ops.specs.Operations.{unblock_context, drain_ipi_context_wakeups, block_with}
use Rattle.group_ops.specs.Group.{also_unblock, unblock_each}
use Rattle.model_weights.proofs.Untouched.{seen, watched, Untouched, untouched_then, cpus_set}

module _ (M : Machine) where
  nothing : Untouched M M
  nothing = record { count = refl; contexts = λ x. refl; cpus = λ i. refl }

  one_context : (x : ℕ) (c : Context) → seen c ≡ seen (context M x) → Untouched M (set_context x c M)
  unfolding cpu_at
  one_context x c e = record { count = length-set M.contexts x c; contexts = set_view seen M.contexts x c e; cpus = λ i. refl }

  one_cpu : (k : ℕ) (p : Cpu) → watched p ≡ watched (cpu_at M k) → Untouched M (set_cpu k p M)
  one_cpu k p e = record { count = refl; contexts = λ x. refl; cpus = cpus_set M M.contexts k p e }

blocked_seen : (s : Status) (c : Context) → seen (blocked_as s c).context ≡ seen c
unfolding blocked_as
blocked_seen s c = pick (λ (d : Changed). seen d.context ≡ seen c) (is_runnable c.status) (λ t. refl) (λ t. refl)

unblocked_seen : (c : Context) → seen (unblocked c).context ≡ seen c
unfolding unblocked
unblocked_seen c = pick (λ (d : Changed). seen d.context ≡ seen c) (is_soft_blocked c.status) (λ t. refl) (λ t. refl)

-- 6 and 7
pub block_untouched : (s : Status) (x : ℕ) (M : Machine) → Untouched M (block_with s x M).machine
unfolding block_with
block_untouched s x M = one_context M x _ (blocked_seen s (context M x))

-- 5
pub drain_untouched : (k : ℕ) (M : Machine) → Untouched M (drain_ipi_context_wakeups k M).machine
unfolding drain_ipi_context_wakeups
drain_untouched k M = one_cpu M k _ refl

wakes : (k x r : ℕ) (M : Machine) (p : Option ℕ) → Untouched M (wakeup_on k x r M p).machine
unfolding wakeup_on push_local push_ipi
wakes k x r M (Some t) = one_cpu M t _ refl
wakes k x r M None = one_cpu M k _ refl

wakeup_untouched : (k x r : ℕ) (M : Machine) → Untouched M (wakeup_context k x r M).machine
unfolding wakeup_context
wakeup_untouched k x r M = wakes k x r M (other_cpu k (context M x).cpu_id M)

-- 4
pub unblock_untouched : (k x : ℕ) (M : Machine) → Untouched M (unblock_context k x M).machine
unfolding unblock_context
unblock_untouched k x M =
    pick (λ (o : Outcome). Untouched M o.machine) (unblocked (context M x)).done
    (λ t. untouched_then (one_context M x _ (unblocked_seen (context M x))) (wakeup_untouched k x 1 _))
    (λ t. pick (λ (o : Outcome). Untouched M o.machine) (is_runnable (context M x).status) (λ u. wakeup_untouched k x 0 M) (λ u. nothing M))

-- the group
pub group_untouched : (k : ℕ) (xs : List ℕ) (M : Machine) → Untouched M (unblock_each k xs M).machine
unfolding unblock_each also_unblock
group_untouched k xs M =
    fold_keeps (λ (o : Outcome). Untouched M o.machine) (also_unblock k) (λ o x u. untouched_then u (unblock_untouched k x o.machine)) (finished 0 M) xs (nothing M)

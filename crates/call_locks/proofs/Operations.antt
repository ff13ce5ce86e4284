-- Operations 4 to 7 with other words where they do not look. Assumes nothing.
use Rattle.std.specs.Prelude.{if◌then◌else◌, None, Option, Some}
use mathlib.Core.Path.{◌≡◌, refl, ap, ◌∙◌}
use mathlib.Core.Bool.{Bool, true, false}
use mathlib.Core.List.{List, [], ◌++◌}
use Prim.Native.Nat.{ℕ, ◌-◌}
use lib.Dec.{leb, ltb, eqb}
use lib.ListN.{length}
use Rattle.columns.specs.Common.{mark}
use Rattle.context.specs.declared.Context.{Context}
use Rattle.context.specs.declared.Status.{Status}
use Rattle.context.specs.Status.{is_runnable}
use Rattle.context.specs.Block.{blocked_as, unblocked}
use Rattle.percpu.specs.Cpu.{Cpu}
use Rattle.percpu.specs.Lists.{cpu_push_local, cpu_push_ipi}
use Rattle.percpu.specs.With.{cpu_local_wakeup_list, cpu_ipi_context_wakeup_list}
use Rattle.machine.specs.Machine.{Machine, context_at, cpu_at, set_context}
use Rattle.machine.specs.LookUp.{get_percpu_block}
use Rattle.machine.specs.Outcome.{Outcome, finished}
use Rattle.context_ops.specs.Wakeup.{other_cpu, push_local, push_ipi, wakeup_on, wakeup_context}
use Rattle.context_ops.specs.Operations.{unblock_context, drain_ipi_context_wakeups, block_with}
use Rattle.model_local.specs.Local.{with_others}
use Rattle.model_local.proofs.Others.{branch, others_at, others_set}
use Rattle.call_locks.specs.Locks.{Locks}
use Rattle.call_locks.proofs.Relocked.{cpus_count, cpus_read, cpus_change}
use Rattle.call_locks.proofs.Calling.{elsewhere, outcome_elsewhere}

module _ (S Q : ℕ → Bool) (l : Locks) (ds : List Context) where
  abbrev E : Machine → Machine
  E = elsewhere S Q l ds

  abbrev R : Outcome → Outcome
  R = outcome_elsewhere S Q l ds

  pub present_same : (M : Machine) (j : ℕ) → (cpu_at (E M) j).block.present ≡ (cpu_at M j).block.present
  unfolding cpu_at
  present_same M j = cpus_read l Q (λ (p : Cpu). p.block.present) (λ b p. refl) M.cpus j

  pub block_same : (M : Machine) (j : ℕ) → get_percpu_block (E M) j ≡ get_percpu_block M j
  unfolding get_percpu_block
  block_same M j = λ i. if leb (cpus_count l Q M.cpus i) j then None else if present_same M j i then Some j else None

  other_same : (k id : ℕ) (M : Machine) → other_cpu k id (E M) ≡ other_cpu k id M
  unfolding other_cpu
  other_same k id M = λ i. if eqb id 0 then None else if eqb (id - 1) k then None else block_same M (id - 1) i

  on_moves : (k x r : ℕ) (M : Machine) (t : Option ℕ) → wakeup_on k x r (E M) t ≡ R (wakeup_on k x r M t)
  unfolding wakeup_on push_local push_ipi cpu_at
  on_moves k x r M (Some t) =
      λ i. record {
        machine = record { contexts = with_others S ds M.contexts; cpus = cpus_change l Q (cpu_push_ipi x) (λ p. refl) (λ b p. refl) M.cpus t i };
        result = r;
        interrupt = true;
        rule = 0;
        no_room = leb 64 (length (cpus_read l Q (λ (p : Cpu). p.ipi_context_wakeup_list) (λ b p. refl) M.cpus t i));
      }
  on_moves k x r M None =
      λ i. record {
        machine = record { contexts = with_others S ds M.contexts; cpus = cpus_change l Q (cpu_push_local x) (λ p. refl) (λ b p. refl) M.cpus k i };
        result = r;
        interrupt = false;
        rule = 0;
        no_room = leb 64 (length (cpus_read l Q (λ (p : Cpu). p.local_wakeup_list) (λ b p. refl) M.cpus k i));
      }

  -- x: a context of the set
  module _ (x : ℕ) (t : S x ≡ true) where
    wakeup_moves : (k r : ℕ) (M : Machine) → wakeup_context k x r (E M) ≡ R (wakeup_context k x r M)
    unfolding wakeup_context
    wakeup_moves k r M =
        let id = (context_at M.contexts x).cpu_id in
        ap (λ (c : Context). wakeup_on k x r (E M) (other_cpu k c.cpu_id (E M))) (others_at S ds M.contexts x t)
        ∙ ap (wakeup_on k x r (E M)) (other_same k id M)
        ∙ on_moves k x r M (other_cpu k id M)

    set_moves : (c : Context) (M : Machine) → set_context x c (E M) ≡ E (set_context x c M)
    set_moves c M = λ i. record { contexts = others_set S ds M.contexts x c t i; cpus = (E M).cpus }

    pub unblock_moves : (k : ℕ) (M : Machine) → unblock_context k x (E M) ≡ R (unblock_context k x M)
    unfolding unblock_context
    unblock_moves k M =
        let c = context_at M.contexts x in
        let c' = (unblocked c).context in
        ap (λ (d : Context). if (unblocked d).done then wakeup_context k x 1 (set_context x (unblocked d).context (E M)) else
        if is_runnable d.status then wakeup_context k x 0 (E M) else finished 0 (E M)) (others_at S ds M.contexts x t)
        ∙ branch R (unblocked c).done {x = wakeup_context k x 1 (set_context x c' M)} (ap (wakeup_context k x 1) (set_moves c' M) ∙ wakeup_moves k 1 (set_context x c' M))
        (branch R (is_runnable c.status) {x = wakeup_context k x 0 M} {y = finished 0 M} (wakeup_moves k 0 M) refl)

    pub block_moves : (s : Status) (M : Machine) → block_with s x (E M) ≡ R (block_with s x M)
    unfolding block_with
    block_moves s M =
        let b = blocked_as s (context_at M.contexts x) in
        ap (λ (c : Context). finished (mark (blocked_as s c).done) (set_context x (blocked_as s c).context (E M))) (others_at S ds M.contexts x t)
        ∙ ap (finished (mark b.done)) (set_moves b.context M)

  pub drain_moves : (k : ℕ) (M : Machine) → drain_ipi_context_wakeups k (E M) ≡ R (drain_ipi_context_wakeups k M)
  unfolding drain_ipi_context_wakeups cpu_at
  drain_moves k M =
      λ i. record {
        machine = record {
          contexts = with_others S ds M.contexts;
          cpus = cpus_change l Q (λ (p : Cpu). cpu_local_wakeup_list (p.local_wakeup_list ++ p.ipi_context_wakeup_list) (cpu_ipi_context_wakeup_list [] p)) (λ p. refl) (λ b p. refl) M.cpus k i;
        };
        result = 0;
        interrupt = false;
        rule = 0;
        no_room = ltb 64 (length (cpus_read l Q (λ (p : Cpu). p.local_wakeup_list ++ p.ipi_context_wakeup_list) (λ b p. refl) M.cpus k i));
      }

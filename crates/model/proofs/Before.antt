-- A tidy machine: its queues keep the invariant, and what the stages before the choice work with.
use mathlib.Core.Path.{refl}
use mathlib.Core.Bool.{Bool}
use mathlib.Core.List.{List}
use mathlib.Core.Logic.{◌≢◌}
use Prim.Native.Nat.{ℕ}
use lib.Dec.{eqb}
use borrow.Author.Tests.{eqb-true}
use Rattle.columns.specs.Common.{In}
use Rattle.entries.specs.declared.Entry.{Entry}
use Rattle.percpu.specs.Cpu.{Cpu}
use Rattle.machine.specs.Machine.{Machine, cpu_at}
use Rattle.model.specs.State.{State, state_of}
use Rattle.model.specs.Tidy.{Sound, Tidy, Queued, Present}
use Rattle.model.proofs.Cases.{by_test, never}
use Rattle.model.proofs.Queues.{Inv, inv_ext, on}
use Rattle.model.proofs.Places.{one_value}

-- a view: the words that only a switch writes
pub record Roles : Type 0 where
  pub present : Bool
  pub current : ℕ
  pub sched : ℕ
  pub idle : ℕ

abbrev pub roles : Cpu → Roles
roles p =
    record {
      present = p.block.present;
      current = p.block.current_ctxt;
      sched = p.block.sched_ctxt;
      idle = p.block.idle_ctxt;
    }

module _ (M : Machine) where
  -- the queues as they are before the call
  abbrev pub queues : ℕ → List Entry
  queues i = (cpu_at M i).queue

  -- idle nowhere and in charge nowhere
  pub record Free (x : ℕ) : Type 0 where
    pub not_in_charge : (j : ℕ) → Present M j → x ≢ (cpu_at M j).block.sched_ctxt
    pub not_idle : (j : ℕ) → Present M j → x ≢ (cpu_at M j).block.idle_ctxt

  pub is_queued : Sound M → (e : Entry) (i : ℕ) → In e (queues i) → Queued M e i
  is_queued s e i h =
      by_test (cpu_at M i).block.present (λ t. record { present = t; is_in = h }) (λ t. absurd (rw (s.absent_empty i t) at h))

  pub tidy_inv : Sound M → Tidy M → Inv Free M.contexts M.contexts queues
  tidy_inv s t =
      record {
        count = refl;
        same = λ x. refl;
        ids = s.ids_differ;
        sorted = s.keys_rise;
        range = s.entry_is;
        id = s.entry_id;
        one = λ e f i j h g m. one_value M t e f i j (is_queued s e i h) (is_queued s f j g) m;
        agrees = λ e i h l. t.agrees e i (is_queued s e i h) l;
        keyed_queued = λ x r l h w. never h (t.no_entry_no_key x r l (λ e i g. w e i g.is_in));
        free = λ e i h. record {
          not_in_charge = λ j p. t.in_charge_not_queued e i j (is_queued s e i h) p;
          not_idle = λ j p. t.idle_not_queued e i j (is_queued s e i h) p;
        };
      }

  -- the invariant on CPU k's state
  abbrev pub Kept : ℕ → State → Type 0
  Kept k s = Inv Free M.contexts s.contexts (on k s.cpu.queue queues)

  pub start_kept : Sound M → Tidy M → (k : ℕ) → Kept k (state_of k M)
  start_kept s t k =
      inv_ext Free M.contexts M.contexts queues (on k (queues k) queues)
      (λ i. by_test (eqb i k) (λ e. rw (e, eqb-true i k e)) (λ e. rw e)) (tidy_inv s t)

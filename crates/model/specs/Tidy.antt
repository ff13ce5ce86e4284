-- Document 01's words for a machine, its structure, and tidy. Assumes nothing.
use Rattle.std.specs.Prelude.{◌≡◌, ◌≢◌, true, false, List, [], ◌∷◌, ℕ, zero, suc, ◌<◌, length}
use Rattle.columns.specs.Common.{In}
use Rattle.context.specs.declared.Context.{Context}
use Rattle.context.specs.Status.{is_runnable}
use Rattle.entries.specs.declared.Entry.{Entry}
use Rattle.entries.specs.declared.Timer.{Timer}
use Rattle.entries.specs.Order.{entry_before}
pub use Rattle.entries.specs.Sorted.{Sorted}
use Rattle.machine.specs.Machine.{Machine, context_at, cpu_at}

-- e is the entry at a place of a queue; places count from 0
abbrev pub At : Entry → List Entry → ℕ → Type 0
At e [] p = ⊥
At e (f ∷ q) zero = e ≡ f
At e (f ∷ q) (suc p) = At e q p

module _ (M : Machine) where
  abbrev pub context : ℕ → Context
  context x = context_at M.contexts x

  abbrev pub IsContext : ℕ → Type 0
  IsContext x = x < length M.contexts

  -- gone mark 0
  abbrev pub Live : ℕ → Type 0
  Live x = (context x).gone ≡ false

  -- status 0
  abbrev pub Runnable : ℕ → Type 0
  Runnable x = is_runnable (context x).status ≡ true

  abbrev pub Present : ℕ → Type 0
  Present i = (cpu_at M i).block.present ≡ true

  -- e is an entry of the queue of CPU i, which is present
  pub record Queued (e : Entry) (i : ℕ) : Type 0 where
    pub present : Present i
    pub is_in : In e (cpu_at M i).queue

  -- e is the entry at place p of that queue
  pub record QueuedAt (e : Entry) (i p : ℕ) : Type 0 where
    pub present : Present i
    pub stands : At e (cpu_at M i).queue p

  -- x is named by the in-charge word of CPU i, which is present
  pub record InCharge (x i : ℕ) : Type 0 where
    pub present : Present i
    pub named : (cpu_at M i).block.sched_ctxt ≡ x

  -- x is named by the idle word of CPU i, which is present
  pub record Idle (x i : ℕ) : Type 0 where
    pub present : Present i
    pub named : (cpu_at M i).block.idle_ctxt ≡ x

-- has_key, key, vd, rem_slice and vtime of a record agree with an entry
pub record Agrees (c : Context) (e : Entry) : Type 0 where
  pub has_key : c.has_queue_key ≡ true
  pub key_vd : c.queue_key_vd ≡ e.key.vd
  pub key_rem_slice : c.queue_key_rem_slice ≡ e.key.rem_slice
  pub key_id : c.debug_id ≡ e.key.ctxt_id
  pub vd : c.vd ≡ e.key.vd
  pub rem_slice : c.rem_slice ≡ e.key.rem_slice
  pub vtime : c.vtime ≡ e.vtime

-- what refusals 3 and 4 rule out, as far as demand 3 needs it
pub record Sound (M : Machine) : Type 0 where
  pub ids_differ : (x y : ℕ) → IsContext M x → IsContext M y → (context M x).debug_id ≡ (context M y).debug_id → x ≡ y
  pub in_charge_is : (i : ℕ) → Present M i → IsContext M (cpu_at M i).block.sched_ctxt
  pub idle_is : (i : ℕ) → Present M i → IsContext M (cpu_at M i).block.idle_ctxt
  pub in_charge_live : (i : ℕ) → Present M i → Live M (cpu_at M i).block.sched_ctxt
  pub entry_is : (e : Entry) (i : ℕ) → In e (cpu_at M i).queue → IsContext M e.context_ref
  pub entry_id : (e : Entry) (i : ℕ) → In e (cpu_at M i).queue → (context M e.context_ref).debug_id ≡ e.key.ctxt_id
  pub timer_is : (t : Timer) (i : ℕ) → In t (cpu_at M i).timers → IsContext M t.context_ref
  pub name_is : (x i : ℕ) → In x (cpu_at M i).local_wakeup_list → IsContext M x
  pub keys_rise : (i : ℕ) → Sorted entry_before (cpu_at M i).queue
  pub absent_empty : (i : ℕ) → (cpu_at M i).block.present ≡ false → (cpu_at M i).queue ≡ []

pub record Tidy (M : Machine) : Type 0 where
  -- each context has at most one entry over all queues: two places with entries of one context are the same place
  pub one_entry : (e f : Entry) (i j p q : ℕ) → QueuedAt M e i p → QueuedAt M f j q → e.context_ref ≡ f.context_ref → (i ≡ j) × (p ≡ q)
  -- a live one's has_key, key, vd, rem_slice and vtime agree with it
  pub agrees : (e : Entry) (i : ℕ) → Queued M e i → Live M e.context_ref → Agrees (context M e.context_ref) e
  -- a live context without an entry has no key
  pub no_entry_no_key : (x : ℕ) → IsContext M x → Live M x → ((e : Entry) (i : ℕ) → Queued M e i → e.context_ref ≢ x)
      → (context M x).has_queue_key ≡ false
  -- no idle or in-charge context of a present CPU is queued
  pub idle_not_queued : (e : Entry) (i j : ℕ) → Queued M e i → Present M j → e.context_ref ≢ (cpu_at M j).block.idle_ctxt
  pub in_charge_not_queued : (e : Entry) (i j : ℕ) → Queued M e i → Present M j → e.context_ref ≢ (cpu_at M j).block.sched_ctxt
  -- none is in charge of two
  pub one_in_charge : (i j : ℕ) → Present M i → Present M j → (cpu_at M i).block.sched_ctxt ≡ (cpu_at M j).block.sched_ctxt → i ≡ j
  -- present CPUs have different idle contexts, not userspace and never in charge of another CPU
  pub one_idle : (i j : ℕ) → Present M i → Present M j → (cpu_at M i).block.idle_ctxt ≡ (cpu_at M j).block.idle_ctxt → i ≡ j
  pub idle_not_userspace : (i : ℕ) → Present M i → (context M (cpu_at M i).block.idle_ctxt).userspace ≡ false
  pub idle_at_home : (i j : ℕ) → Present M i → Present M j → (cpu_at M i).block.sched_ctxt ≡ (cpu_at M j).block.idle_ctxt → i ≡ j
  -- currently scheduled is set for those in charge and no other
  pub scheduled_if : (i : ℕ) → Present M i → (context M (cpu_at M i).block.sched_ctxt).currently_scheduled ≡ true
  pub scheduled_only : (x : ℕ) → IsContext M x → (context M x).currently_scheduled ≡ true → (i : ℕ) × InCharge M x i

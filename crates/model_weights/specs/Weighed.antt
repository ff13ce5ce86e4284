-- Document 02, No. 7: the conditions under which the stored total weight is the weight added up from the contexts. Assumes nothing.
use Rattle.std.specs.Prelude.{◌≡◌, true, false, ℕ}
use Rattle.context.specs.Status.{is_runnable}
use Rattle.entries.specs.declared.Entry.{Entry}
use Rattle.weights.specs.Weights.{weight}
use Rattle.machine.specs.Machine.{Machine, cpu_at}
use Rattle.model.specs.Tidy.{Sound, Tidy, Live, Runnable, Present, Queued, InCharge, Idle, IsContext, context}
use Rattle.model.specs.Accepted.{by_switch, outcome, Accepted, ServesOwn}
use Rattle.total_weight.specs.TotalWeight.{total_weight_of}

module _ (M : Machine) where
  abbrev pub Active : ℕ → Type 0
  Active x = (context M x).is_active ≡ true

  abbrev pub NotIdle : ℕ → Type 0
  NotIdle x = (j : ℕ) → Idle M x j → ⊥

  -- who may be active
  pub data MayBeActive (x : ℕ) : Type 0 where
    queued : (e : Entry) (i : ℕ) → Queued M e i → e.context_ref ≡ x → Live M x → MayBeActive x
    runs : (i : ℕ) → InCharge M x i → Runnable M x → NotIdle x → MayBeActive x
    -- in charge, and has just stopped being runnable
    stopped : (i : ℕ) → InCharge M x i → is_runnable (context M x).status ≡ false → MayBeActive x

  -- each live entry has its priority's weight
  abbrev pub EntryWeight : Type 0
  EntryWeight = (e : Entry) (i : ℕ) → Queued M e i → Live M e.context_ref → e.weight ≡ weight (context M e.context_ref).prio

  -- every live queued context is active, and every runnable non-idle one in charge
  abbrev pub QueuedActive : Type 0
  QueuedActive = (e : Entry) (i : ℕ) → Queued M e i → Live M e.context_ref → Active e.context_ref

  abbrev pub InChargeActive : Type 0
  InChargeActive = (x i : ℕ) → InCharge M x i → Runnable M x → NotIdle x → Active x

  abbrev pub NobodyElse : Type 0
  NobodyElse = (x : ℕ) → IsContext M x → Active x → MayBeActive x

  abbrev pub IdleNotActive : Type 0
  IdleNotActive = (x i : ℕ) → Idle M x i → (context M x).is_active ≡ false

  -- the ticket's conditions, in its order
  pub record Weighed : Type 0 where
    pub entry_weight : EntryWeight
    pub queued_active : QueuedActive
    pub in_charge_active : InChargeActive
    pub nobody_else : NobodyElse
    pub idle_not_active : IdleNotActive

  -- with the one stronger word: every non-idle context in charge is active, runnable or not
  pub record WeighedAlways : Type 0 where
    pub weighed : Weighed
    pub in_charge_active : (x i : ℕ) → InCharge M x i → NotIdle x → Active x

  -- the stored total of every present CPU is the weight added up
  abbrev pub Agree : Type 0
  Agree = (i : ℕ) → Present M i → (cpu_at M i).block.total_weight ≡ total_weight_of M i

-- a decision on a machine where all but one condition hold, which breaks the equality
pub record Breaks (Others : Machine → Type 0) : Type 0 where
  pub M : Machine
  pub time : ℕ
  pub sound : Sound M
  pub tidy : Tidy M
  pub accepted : Accepted 0 time M by_switch
  pub own : ServesOwn 0 time M
  pub agree : Agree M
  pub others : Others M
  pub broken : Agree (outcome by_switch 0 time M).machine → ⊥

-- a decision on a machine where all conditions hold, which leaves one where they do not
pub record NotKept : Type 0 where
  pub M : Machine
  pub time : ℕ
  pub sound : Sound M
  pub tidy : Tidy M
  pub accepted : Accepted 0 time M by_switch
  pub own : ServesOwn 0 time M
  pub weighed : Weighed M
  pub agree : Agree M
  pub lost : InChargeActive (outcome by_switch 0 time M).machine → ⊥

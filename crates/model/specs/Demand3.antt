-- Demand 3: what a decision on a tidy machine leaves, in document 01's words. Assumes nothing.
use Rattle.std.specs.Prelude.{◌≡◌, ◌≢◌, ◌⊎◌, ◌↔◌, true, false, ◌||◌, ℕ, ◌+◌, ◌-◌, ◌/◌, ◌<◌, ◌≤◌, eqb, if◌then◌else◌}
use Rattle.columns.specs.Common.{In}
use Rattle.context.specs.declared.Context.{Context}
use Rattle.context.specs.Status.{is_runnable, is_soft_blocked}
use Rattle.ticks.specs.Ticks.{ticks}
use Rattle.entries.specs.declared.Entry.{Entry}
use Rattle.entries.specs.declared.Timer.{Timer}
use Rattle.entries.specs.Order.{before}
use Rattle.runnable.specs.Runnable.{update_runnable}
use Rattle.percpu.specs.Cpu.{Cpu}
use Rattle.machine.specs.Machine.{Machine, context_at, cpu_at}
use Rattle.model.specs.State.{State, state_of}
use Rattle.model.specs.Turn.{before_choice}
use Rattle.model.specs.Choice.{choice, chosen}
use Rattle.model.specs.Schedule.{scanned, choose_and_steal}
use Rattle.model.specs.Tidy.{Tidy, Live, Runnable, Queued, QueuedAt, InCharge, Idle, IsContext, context}
use Rattle.model.specs.Accepted.{can_switch}

-- the call is on CPU k, document 01's 'here', in machine M
module _ (k time : ℕ) (M : Machine) where
  abbrev pub here : Cpu
  here = cpu_at M k

  -- entries, deadlines, slices and vtimes are judged after wake-ups and charging
  abbrev pub judged : State
  judged = before_choice time (state_of k M)

  abbrev pub record_of : ℕ → Context
  record_of x = context_at judged.contexts x

  -- total weight, by demand 2's definitions: that after wake-ups and charging, less what the scan gives up, and what stealing adds
  abbrev pub total_weight_here : ℕ
  total_weight_here =
      let f = scanned k time judged in
      let unstolen = (chosen (choice judged f) f judged).cpu.block.total_weight in
      let stolen = (choose_and_steal k time M.cpus judged).state.cpu.block.total_weight - unstolen in
      judged.cpu.block.total_weight - f.weight_change + stolen

  -- x is runnable and named by the local list, or waits for the wake of a due timer
  pub data Wakes (x : ℕ) : Type 0 where
    by_name : In x here.local_wakeup_list → Runnable M x → Wakes x
    by_timer : (t : Timer) → In t here.timers → t.context_ref ≡ x → t.wake ≤ time + 1 → is_soft_blocked (context M x).status ≡ true
        → (context M x).has_wake ≡ true → (context M x).wake ≡ t.wake → Wakes x

  -- x wakes here: it is free, a user context, in charge nowhere, and runs nowhere but perhaps here
  pub record WakesHere (x : ℕ) : Type 0 where
    pub wakes : Wakes x
    pub live : Live M x
    pub unlocked : (context M x).lock ≡ 0
    pub not_in_charge : x ≢ here.block.sched_ctxt
    pub not_scheduled : (context M x).currently_scheduled ≡ false
    pub userspace : (context M x).userspace ≡ true
    pub not_running : ((context M x).running ≡ false) ⊎ (x ≡ here.block.current_ctxt)

  -- an entry here that is ready
  pub record Ready (e : Entry) : Type 0 where
    pub is_in : In e judged.cpu.queue
    pub alive : (record_of e.context_ref).gone ≡ false
    pub not_idle : e.context_ref ≢ here.block.idle_ctxt
    pub not_in_charge : e.context_ref ≢ here.block.sched_ctxt
    -- of the locks that the decision takes only the holder's could be that of an entry: a tidy context has one entry
    pub unlocked : (record_of e.context_ref).lock ≡ 0
    pub addr_space_free : (record_of e.context_ref).addr_space ≢ 2
    pub runnable : can_switch (update_runnable k time false (eqb e.context_ref here.block.current_ctxt) (record_of e.context_ref)) ≡ true

  abbrev pub v_here : ℕ
  v_here = here.block.v

  -- stored vtime at most V
  abbrev pub Eligible : Entry → Type 0
  Eligible e = e.vtime ≤ v_here

  -- the context in charge before the decision
  abbrev pub holder_number : ℕ
  holder_number = here.block.sched_ctxt

  abbrev pub the_holder : Context
  the_holder = record_of holder_number

  -- an idle holder never counts as runnable
  pub record HolderRunnable : Type 0 where
    pub not_idle : holder_number ≢ here.block.idle_ctxt
    pub runnable : is_runnable the_holder.status ≡ true

  pub record HolderEligible : Type 0 where
    pub runnable : HolderRunnable
    pub in_time : the_holder.vtime ≤ v_here

  -- a ready, eligible entry, and no other such entry has a lesser key
  pub record LeastKey (e : Entry) : Type 0 where
    pub is_ready : Ready e
    pub is_eligible : Eligible e
    pub least : (f : Entry) → Ready f → Eligible f → (f ≡ e) ⊎ (before e.key f.key ≡ true)

  -- the holder had an earlier deadline than e, or an equal one with more slice left
  pub record HolderFirst (e : Entry) : Type 0 where
    pub eligible : HolderEligible
    pub first : (the_holder.vd < e.key.vd) ⊎ ((the_holder.vd ≡ e.key.vd) × (e.key.rem_slice < the_holder.rem_slice))

  pub record NobodyEligible : Type 0 where
    pub entries : (e : Entry) → Ready e → v_here < e.vtime
    pub holder : HolderRunnable → v_here < the_holder.vtime

  pub record NobodyWaits : Type 0 where
    pub entries : (e : Entry) → Ready e → ⊥
    pub holder : HolderRunnable → ⊥

  -- a ready entry of the least vtime of the ready entries, the first of them in key order
  pub record FirstLeast (e : Entry) : Type 0 where
    pub is_ready : Ready e
    pub least : (f : Entry) → Ready f → e.vtime ≤ f.vtime
    pub first : (f : Entry) → Ready f → f.vtime ≡ e.vtime → (f ≡ e) ⊎ (before e.key f.key ≡ true)

  -- b is at most the vtime of everybody who waits
  pub record LeastWaiting (b : ℕ) : Type 0 where
    pub entries : (e : Entry) → Ready e → b ≤ e.vtime
    pub holder : HolderRunnable → b ≤ the_holder.vtime

  -- b is the least vtime of those waiting, if any, else V
  pub data MovedTo (b : ℕ) : Type 0 where
    to_entry : (e : Entry) → Ready e → b ≡ e.vtime → LeastWaiting b → MovedTo b
    to_holder : HolderRunnable → b ≡ the_holder.vtime → LeastWaiting b → MovedTo b
    nowhere : NobodyWaits → b ≡ v_here → MovedTo b

  -- queued anywhere or in charge here; or woken here, as such a context is then an entry
  pub data QueuedOrInCharge (x : ℕ) : Type 0 where
    was_queued : (e : Entry) (i : ℕ) → Queued M e i → e.context_ref ≡ x → QueuedOrInCharge x
    was_in_charge : holder_number ≡ x → QueuedOrInCharge x
    was_woken : WakesHere x → QueuedOrInCharge x

  module _ (M' : Machine) where
    abbrev pub in_charge : ℕ
    in_charge = (cpu_at M' k).block.sched_ctxt

    -- x was queued on another CPU and is queued or in charge here
    pub record Stole (x : ℕ) : Type 0 where
      pub entry : Entry
      pub cpu : ℕ
      pub was_queued : Queued M entry cpu
      pub elsewhere : cpu ≢ k
      pub of : entry.context_ref ≡ x
      pub is_here : ((e : Entry) × In e (cpu_at M' k).queue × (e.context_ref ≡ x)) ⊎ (in_charge ≡ x)

    -- the first in key order where they were stolen
    pub record FirstStolen (x : ℕ) : Type 0 where
      pub stolen : Stole x
      pub first : (y : ℕ) (s : Stole y) → (y ≡ x) ⊎ ((s.cpu ≡ stolen.cpu) × (before stolen.entry.key s.entry.key ≡ true))

    abbrev pub StoleNothing : Type 0
    StoleNothing = (x : ℕ) → Stole x → ⊥

    -- the turn's own advance: idle is left in charge exactly where nobody won and no runnable holder stays
    abbrev pub own_advance : ℕ
    own_advance =
        if eqb in_charge here.block.idle_ctxt || eqb total_weight_here 0 then 0 else ticks (time - here.block.schedule_time) here.remainder / total_weight_here

    -- who is in charge where e is the entry of the least key
    pub record Contest (e : Entry) : Type 0 where
      pub least_key : LeastKey e
      pub holder_stayed : HolderFirst e → in_charge ≡ holder_number
      pub entry_won : (HolderFirst e → ⊥) → in_charge ≡ e.context_ref

    -- who is in charge where nobody is eligible and e is the first ready entry of the least vtime
    pub record LateContest (e : Entry) : Type 0 where
      pub first_least : FirstLeast e
      pub holder_stayed : HolderRunnable → the_holder.vd ≤ e.key.vd → in_charge ≡ holder_number
      pub entry_won : (HolderRunnable → (e.vtime < the_holder.vtime) × (e.key.vd < the_holder.vd)) → in_charge ≡ e.context_ref

    -- the rule where nobody is eligible
    pub record Rule : Type 0 where
      pub v : (b : ℕ) × MovedTo b × ((cpu_at M' k).block.v ≡ b + own_advance)
      pub holder_least : HolderRunnable → LeastWaiting the_holder.vtime → in_charge ≡ holder_number
      pub entries : (f : Entry) → Ready f → (e : Entry) × LateContest e
      pub stolen : NobodyWaits → (x : ℕ) → Stole x → (y : ℕ) × FirstStolen y × (in_charge ≡ y)
      pub idle : NobodyWaits → StoleNothing → in_charge ≡ here.block.idle_ctxt

    -- queued at one place and in charge nowhere, or in charge and not queued
    pub data Kept (x : ℕ) : Type 0 where
      queued_once : (e : Entry) (i p : ℕ) → QueuedAt M' e i p → e.context_ref ≡ x
          → ((f : Entry) (j q : ℕ) → QueuedAt M' f j q → f.context_ref ≡ x → (j ≡ i) × (q ≡ p)) → ((j : ℕ) → InCharge M' x j → ⊥) → Kept x
      put_in_charge : (i : ℕ) → InCharge M' x i → ((e : Entry) (j : ℕ) → Queued M' e j → e.context_ref ≢ x) → Kept x

    pub record Demand3 : Type 0 where
      pub tidy : Tidy M'
      -- the entries here are those after wake-ups: none of them is dropped
      pub woken : (x : ℕ) → WakesHere x → (e : Entry) × In e judged.cpu.queue × (e.context_ref ≡ x)
      pub nobody_lost : (x : ℕ) → IsContext M' x → Live M' x → Runnable M' x → ((j : ℕ) → Idle M' x j → ⊥) → QueuedOrInCharge x → Kept x
      pub eligible : (f : Entry) → Ready f → Eligible f → (e : Entry) × Contest e
      pub holder_alone : HolderEligible → ((e : Entry) → Ready e → Eligible e → ⊥) → in_charge ≡ holder_number
      pub nobody_eligible : NobodyEligible → Rule
      -- where somebody is eligible V gains the turn's own advance only
      pub v_stays : (NobodyEligible → ⊥) → (cpu_at M' k).block.v ≡ v_here + own_advance
      pub total_weight : (cpu_at M' k).block.total_weight ≡ total_weight_here
      pub idle_last : (in_charge ≡ here.block.idle_ctxt) ↔ (NobodyWaits × StoleNothing)

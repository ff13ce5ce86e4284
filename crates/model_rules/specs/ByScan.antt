-- When each rule decides, on every image: by what the scan found and whether a victim was found to steal from. Assumes nothing.
use Rattle.std.specs.Prelude.{◌≡◌, ◌≢◌, true, false, ℕ, ◌<◌, ◌≤◌, None, Some}
use Rattle.answer.specs.declared.Rule.{Rule}
use Rattle.answer.specs.declared.Rule.TheVariants.{FirstEligible, HolderDeadline, HolderSlice, HolderAlone, HolderVtime, HolderLateDeadline, EntryVtime, Stolen, Idle}
use Rattle.columns.specs.Common.{In}
use Rattle.context.specs.declared.Context.{Context}
use Rattle.entries.specs.declared.Entry.{Entry}
use Rattle.machine.specs.Machine.{Machine, context_at, cpu_at}
use Rattle.model.specs.State.{holder, prev_runnable}
use Rattle.model.specs.Scan.{Scan}
use Rattle.model.specs.Steal.{Stealing}
use Rattle.model.specs.Schedule.{scanned, choose_and_steal}
use Rattle.model.specs.Demand3.{judged}

-- an earlier deadline; or the same one with more slice left
abbrev pub Earlier : Context → Context → Type 0
Earlier a b = a.vd < b.vd

abbrev pub MoreSlice : Context → Context → Type 0
MoreSlice a b = (a.vd ≡ b.vd) × (b.rem_slice < a.rem_slice)

-- the decision is on CPU k of machine M; wake-ups are served and the holder is charged
module _ (k time : ℕ) (M : Machine) where
  abbrev pub found : Scan
  found = scanned k time (judged k time M)

  abbrev pub stealing : Stealing
  stealing = choose_and_steal k time M.cpus (judged k time M)

  abbrev pub prev : Context
  prev = holder (judged k time M)

  -- an idle holder never counts as runnable
  abbrev pub Runs : Type 0
  Runs = prev_runnable (judged k time M) ≡ true

  pub record OnTime : Type 0 where
    pub runs : Runs
    pub in_time : prev.vtime ≤ (judged k time M).cpu.block.v

  -- the record of an entry's context, as the scan left it
  abbrev pub record_of : Entry → Context
  record_of e = context_at found.contexts e.context_ref

  -- no eligible entry was found, and the holder is none that is eligible
  pub record NobodyOnTime : Type 0 where
    pub entries : found.eligible_best ≡ None
    pub holder : OnTime → ⊥

  pub record NobodyFound : Type 0 where
    pub eligible : found.eligible_best ≡ None
    pub ineligible : found.ineligible_best ≡ None
    pub holder : prev_runnable (judged k time M) ≡ false

  -- an entry of another CPU was stolen, and its context wins: where nobody waits, what it is that a victim was found
  pub record Theft : Type 0 where
    pub cpu : ℕ
    pub elsewhere : cpu ≢ k
    pub entry : Entry
    pub was_queued : In entry (cpu_at M cpu).queue
    pub wins : stealing.winner ≡ Some entry.context_ref

  -- 1: an eligible entry was found, and not 2 or 3
  pub record IfFirstEligible : Type 0 where
    pub entry : Entry
    pub is_found : found.eligible_best ≡ Some entry
    pub not_deadline : OnTime → Earlier prev (record_of entry) → ⊥
    pub not_slice : OnTime → MoreSlice prev (record_of entry) → ⊥

  -- 2: the holder is eligible too, and its deadline is earlier
  pub record IfHolderDeadline : Type 0 where
    pub entry : Entry
    pub is_found : found.eligible_best ≡ Some entry
    pub on_time : OnTime
    pub deadline : Earlier prev (record_of entry)

  -- 3: the same with equal deadlines and more slice left
  pub record IfHolderSlice : Type 0 where
    pub entry : Entry
    pub is_found : found.eligible_best ≡ Some entry
    pub on_time : OnTime
    pub slice : MoreSlice prev (record_of entry)

  -- 4: the holder is eligible, and no entry was found that is
  pub record IfHolderAlone : Type 0 where
    pub none_found : found.eligible_best ≡ None
    pub on_time : OnTime

  -- 5: nobody is eligible, the holder runs, and no entry of a smaller vtime was found
  pub record IfHolderVtime : Type 0 where
    pub nobody : NobodyOnTime
    pub runs : Runs
    pub least : (e : Entry) → found.ineligible_best ≡ Some e → prev.vtime ≤ e.vtime

  -- 6: one was, and the holder's deadline is at most that of its key
  pub record IfHolderLateDeadline : Type 0 where
    pub nobody : NobodyOnTime
    pub runs : Runs
    pub entry : Entry
    pub is_found : found.ineligible_best ≡ Some entry
    pub sooner : entry.vtime < prev.vtime
    pub deadline : prev.vd ≤ entry.key.vd

  -- 7: nobody is eligible, an entry was found, and not 5 or 6
  pub record IfEntryVtime : Type 0 where
    pub nobody : NobodyOnTime
    pub entry : Entry
    pub is_found : found.ineligible_best ≡ Some entry
    pub beats : Runs → (entry.vtime < prev.vtime) × (entry.key.vd < prev.vd)

  -- 8: nobody waits, and a victim was found to steal from
  pub record IfStolen : Type 0 where
    pub nobody : NobodyFound
    pub stole : stealing.done ≡ true

  -- 9: nobody waits, and none was
  pub record IfIdle : Type 0 where
    pub nobody : NobodyFound
    pub stole_nothing : stealing.done ≡ false

  abbrev pub ScanCondition : Rule → Type 0
  ScanCondition FirstEligible = IfFirstEligible
  ScanCondition HolderDeadline = IfHolderDeadline
  ScanCondition HolderSlice = IfHolderSlice
  ScanCondition HolderAlone = IfHolderAlone
  ScanCondition HolderVtime = IfHolderVtime
  ScanCondition HolderLateDeadline = IfHolderLateDeadline
  ScanCondition EntryVtime = IfEntryVtime
  ScanCondition Stolen = IfStolen
  ScanCondition Idle = IfIdle

-- When each rule decides on a tidy machine, in document 01's words as demand 3 has them. Assumes nothing.
use Rattle.std.specs.Prelude.{◌≡◌, ℕ, ◌<◌, ◌≤◌}
use Rattle.answer.specs.declared.Rule.{Rule}
use Rattle.answer.specs.declared.Rule.TheVariants.{FirstEligible, HolderDeadline, HolderSlice, HolderAlone, HolderVtime, HolderLateDeadline, EntryVtime, Stolen, Idle}
use Rattle.entries.specs.declared.Entry.{Entry}
use Rattle.machine.specs.Machine.{Machine}
use Rattle.model.specs.Demand3.{
  Ready,
  Eligible,
  the_holder,
  HolderRunnable,
  HolderEligible,
  LeastKey,
  HolderFirst,
  NobodyEligible,
  NobodyWaits,
  FirstLeast,
  Stole,
  StoleNothing,
}

-- the decision is on CPU k of machine M; M' is the machine after it
module _ (k time : ℕ) (M M' : Machine) where
  -- 1: some ready entry is eligible, and the holder does not go before the first of them
  pub record WhenFirstEligible : Type 0 where
    pub entry : Entry
    pub least_key : LeastKey k time M entry
    pub not_holder : HolderFirst k time M entry → ⊥

  -- 2: the holder is eligible, with an earlier deadline than the first such entry
  pub record WhenHolderDeadline : Type 0 where
    pub entry : Entry
    pub least_key : LeastKey k time M entry
    pub eligible : HolderEligible k time M
    pub deadline : (the_holder k time M).vd < entry.key.vd

  -- 3: the same with equal deadlines and more slice left
  pub record WhenHolderSlice : Type 0 where
    pub entry : Entry
    pub least_key : LeastKey k time M entry
    pub eligible : HolderEligible k time M
    pub deadline : (the_holder k time M).vd ≡ entry.key.vd
    pub slice : entry.key.rem_slice < (the_holder k time M).rem_slice

  -- 4: the holder is eligible, and no ready entry is
  pub record WhenHolderAlone : Type 0 where
    pub eligible : HolderEligible k time M
    pub alone : (e : Entry) → Ready k time M e → Eligible k time M e → ⊥

  -- 5: nobody is eligible, the holder is runnable, and no ready entry has a smaller vtime
  pub record WhenHolderVtime : Type 0 where
    pub nobody : NobodyEligible k time M
    pub runnable : HolderRunnable k time M
    pub least : (e : Entry) → Ready k time M e → (the_holder k time M).vtime ≤ e.vtime

  -- 6: one has, and the holder's deadline is at most that of the first one with the least
  pub record WhenHolderLateDeadline : Type 0 where
    pub nobody : NobodyEligible k time M
    pub runnable : HolderRunnable k time M
    pub entry : Entry
    pub first_least : FirstLeast k time M entry
    pub sooner : entry.vtime < (the_holder k time M).vtime
    pub deadline : (the_holder k time M).vd ≤ entry.key.vd

  -- 7: nobody is eligible, an entry is ready, and not 5 or 6
  pub record WhenEntryVtime : Type 0 where
    pub nobody : NobodyEligible k time M
    pub entry : Entry
    pub first_least : FirstLeast k time M entry
    pub beats : HolderRunnable k time M → (entry.vtime < (the_holder k time M).vtime) × (entry.key.vd < (the_holder k time M).vd)

  -- 8: nobody waits, and somebody was stolen
  pub record WhenStolen : Type 0 where
    pub nobody : NobodyWaits k time M
    pub name : ℕ
    pub stole : Stole k time M M' name

  -- 9: nobody waits, and nobody was stolen
  pub record WhenIdle : Type 0 where
    pub nobody : NobodyWaits k time M
    pub stole_nothing : StoleNothing k time M M'

  abbrev pub TidyCondition : Rule → Type 0
  TidyCondition FirstEligible = WhenFirstEligible
  TidyCondition HolderDeadline = WhenHolderDeadline
  TidyCondition HolderSlice = WhenHolderSlice
  TidyCondition HolderAlone = WhenHolderAlone
  TidyCondition HolderVtime = WhenHolderVtime
  TidyCondition HolderLateDeadline = WhenHolderLateDeadline
  TidyCondition EntryVtime = WhenEntryVtime
  TidyCondition Stolen = WhenStolen
  TidyCondition Idle = WhenIdle

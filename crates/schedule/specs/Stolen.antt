-- The rule of the choice where somebody may have been stolen. Assumes nothing.
use Rattle.std.specs.Prelude.{Bool, if◌then◌else◌}
use Rattle.answer.specs.declared.Rule.{Rule}
use Rattle.answer.specs.declared.Rule.TheVariants.{FirstEligible, HolderDeadline, HolderSlice, HolderAlone, HolderVtime, HolderLateDeadline, EntryVtime, Stolen, Idle}

-- only where nobody waits: `won` says that somebody was stolen
unfoldable pub stolen_rule : (won : Bool) → Rule → Rule
stolen_rule won FirstEligible = FirstEligible
stolen_rule won HolderDeadline = HolderDeadline
stolen_rule won HolderSlice = HolderSlice
stolen_rule won HolderAlone = HolderAlone
stolen_rule won HolderVtime = HolderVtime
stolen_rule won HolderLateDeadline = HolderLateDeadline
stolen_rule won EntryVtime = EntryVtime
stolen_rule won Stolen = Stolen
stolen_rule won Idle = if won then Stolen else Idle

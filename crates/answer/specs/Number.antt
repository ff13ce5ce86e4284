-- The number of each result of a switch, and of each rule. Assumes nothing.
use Rattle.std.specs.Prelude.{ℕ}
use Rattle.answer.specs.declared.SwitchResult.{SwitchResult}
use Rattle.answer.specs.declared.SwitchResult.TheVariants.{Switched, AllContextsIdle}
use Rattle.answer.specs.declared.Rule.{Rule}
use Rattle.answer.specs.declared.Rule.TheVariants.{FirstEligible, HolderDeadline, HolderSlice, HolderAlone, HolderVtime, HolderLateDeadline, EntryVtime, Stolen, Idle}

abbrev pub result_number : SwitchResult → ℕ
result_number Switched = 1
result_number AllContextsIdle = 2

-- 0 is that of a call that decides nothing
abbrev pub rule_number : Rule → ℕ
rule_number FirstEligible = 1
rule_number HolderDeadline = 2
rule_number HolderSlice = 3
rule_number HolderAlone = 4
rule_number HolderVtime = 5
rule_number HolderLateDeadline = 6
rule_number EntryVtime = 7
rule_number Stolen = 8
rule_number Idle = 9

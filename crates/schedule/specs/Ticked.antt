-- The numbers of a call's result and rule; where there was no room nothing is said of them. Assumes nothing.
use Rattle.std.specs.Prelude.{ℕ, Option, Some, None, Result, Ok, Err}
use Rattle.answer.specs.Number.{result_number, rule_number}
use Rattle.answer.specs.declared.Rule.{Rule}
use Rattle.table.specs.declared.NoRoom.{NoRoom}
use Rattle.schedule.specs.Decides.{Told, told, undecided}
use Rattle.schedule.specs.declared.switching.Decided.{Decided}

-- 0 where nothing was decided
abbrev pub decided_rule : Option Rule → ℕ
decided_rule None = 0
decided_rule (Some rule) = rule_number rule

abbrev pub decided_told : Decided → Told
decided_told d = told (result_number d.result) (decided_rule d.rule)

abbrev pub told_of : Result Decided NoRoom → Told
told_of (Ok d) = decided_told d
told_of (Err e) = undecided 0

-- no switch was due, or the switch
abbrev pub ticked_told : Result (Option Decided) NoRoom → Told
ticked_told (Ok None) = undecided 0
ticked_told (Ok (Some d)) = decided_told d
ticked_told (Err e) = undecided 0

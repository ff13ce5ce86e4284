-- Which rule left whom in charge (document 02, No. 3), by what the scan found and what was stolen. Assumes nothing.
use Rattle.std.specs.Prelude.{Bool, not, ◌&&◌, ltb, leb, if◌then◌else◌, None, Option, Some}
use Rattle.entries.specs.declared.Entry.{Entry}
use Rattle.machine.specs.Machine.{context_at}
use Rattle.answer.specs.declared.Rule.{Rule}
use Rattle.answer.specs.declared.Rule.TheVariants.{FirstEligible, HolderDeadline, HolderSlice, HolderAlone, HolderVtime, HolderLateDeadline, EntryVtime, Stolen, Idle}
use Rattle.model.specs.State.{State, holder, prev_runnable}
use Rattle.model.specs.Scan.{Scan}
use Rattle.model.specs.Choice.{goes_before, prev_is_eligible}

-- s: the state before the choice
module _ (s : State) where
  -- an eligible entry was found, whose record decides
  abbrev pub rule_against : Scan → Entry → Rule
  rule_against f e =
      let c = context_at f.contexts e.context_ref in
      if not (prev_is_eligible s && goes_before (holder s) c) then FirstEligible else
      if ltb (holder s).vd c.vd then HolderDeadline else HolderSlice

  -- nobody is eligible; an entry's key decides. stole: somebody was stolen where nobody waits
  abbrev pub rule_nobody : (stole : Bool) → Option Entry → Rule
  rule_nobody stole None = if prev_runnable s then HolderVtime else if stole then Stolen else Idle
  rule_nobody stole (Some e) =
      if prev_runnable s && leb (holder s).vtime e.vtime then HolderVtime else
      if prev_runnable s && leb (holder s).vd e.key.vd then HolderLateDeadline else EntryVtime

  abbrev pub rule_by : (stole : Bool) → Scan → Option Entry → Rule
  rule_by stole f (Some e) = rule_against f e
  rule_by stole f None = if prev_is_eligible s then HolderAlone else rule_nobody stole f.ineligible_best

  unfoldable pub rule_of : (stole : Bool) → Scan → Rule
  rule_of stole f = rule_by stole f f.eligible_best

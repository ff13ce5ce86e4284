-- The table of rules, of the holder as the choice sees it; `is_choice` in proofs/ says that it is the plain engine's. Assumes nothing.
use Rattle.std.specs.Prelude.{◌&&◌, [], ◌∷◌, ltb, leb, eqb, if◌then◌else◌, None, Option, Some, option_to_list}
use Rattle.context.specs.declared.Context.{Context}
use Rattle.entries.specs.declared.Entry.{Entry}
use Rattle.answer.specs.declared.Rule.TheVariants.{FirstEligible, HolderDeadline, HolderSlice, HolderAlone, HolderVtime, HolderLateDeadline, EntryVtime, Idle}
use Rattle.model.specs.Choice.{named}
use Rattle.select_judge.specs.declared.Holder.{Holder}
use Rattle.plain_model.specs.Choice as plain
use Rattle.plain_model.specs.Choice.{nobody_wins, wins_by}
use Rattle.plain_choice.specs.declared.Choice.{Choice}

-- what the code's answer stands for
abbrev pub choice_of : Choice → plain.Choice
choice_of c = record { winner = c.winner; v = c.v; locked = option_to_list c.locked; rule = c.rule }

module _ (h : Holder) where
  unfoldable pub against : Option Entry → Entry → Context → plain.Choice
  against late e q =
      if h.eligible && ltb h.vd q.vd then nobody_wins HolderDeadline h.v (named late) else
      if h.eligible && (eqb h.vd q.vd && ltb q.rem_slice h.rem_slice) then nobody_wins HolderSlice h.v (named late)
      else wins_by FirstEligible e.context_ref h.v (named late)

  unfoldable pub late_entry : Entry → plain.Choice
  late_entry e =
      if h.runnable && leb h.vtime e.vtime then nobody_wins HolderVtime e.vtime (e.context_ref ∷ []) else
      if h.runnable && leb h.vd e.key.vd then nobody_wins HolderLateDeadline e.vtime (e.context_ref ∷ [])
      else wins_by EntryVtime e.context_ref e.vtime []

  unfoldable pub alone : plain.Choice
  alone = if h.runnable then nobody_wins HolderVtime h.vtime [] else nobody_wins Idle h.v []

  abbrev pub nobody : Option Entry → plain.Choice
  nobody None = alone
  nobody (Some e) = late_entry e

  unfoldable pub without_entry : Option Entry → plain.Choice
  without_entry late = if h.eligible then nobody_wins HolderAlone h.v (named late) else nobody late

  abbrev pub choice : Option Entry → Option Entry → Context → plain.Choice
  choice None late q = without_entry late
  choice (Some e) late q = against late e q

-- The choice by the written rule, and what it takes out of the queue. Assumes nothing.
use Rattle.std.specs.Prelude.{Bool, ◌&&◌, List, [], ◌∷◌, ℕ, ◌-◌, ltb, leb, eqb, length, if◌then◌else◌, None, Option, Some}
use Rattle.columns.specs.Common.{fold}
use Rattle.context.specs.Key.{queue_key, without_key}
use Rattle.entries.specs.declared.Key.{Key}
use Rattle.entries.specs.declared.Entry.{Entry}
use Rattle.percpu.specs.With.{cpu_queue, cpu_total_weight, cpu_queue_len, cpu_published_weight, cpu_v}
use Rattle.machine.specs.Machine.{context_at}
use Rattle.answer.specs.declared.Rule.{Rule}
use Rattle.answer.specs.declared.Rule.TheVariants.{FirstEligible, HolderDeadline, HolderSlice, HolderAlone, HolderVtime, HolderLateDeadline, EntryVtime, Stolen, Idle}
use Rattle.answer.specs.Number.{rule_number}
use Rattle.model.specs.State.{State, at, put_context, on_cpu, holder, prev_runnable}
use Rattle.model.specs.Scan.{Scan}
use Rattle.model.specs.Choice.{named, prev_is_eligible}
use Rattle.plain_model.specs.State.{queue_without, remove_key}

-- who won, if anybody; V; the contexts that stay locked, the holder and the winner aside; and the rule, where nothing is stolen
pub record Choice : Type 0 where
  pub winner : Option ℕ
  pub v : ℕ
  pub locked : List ℕ
  pub rule : Rule

-- the holder, or idle, keeps the CPU; or the entry of x wins
abbrev pub nobody_wins : Rule → ℕ → List ℕ → Choice
nobody_wins rule v locked = record { winner = None; v = v; locked = locked; rule = rule }

abbrev pub wins_by : Rule → ℕ → ℕ → List ℕ → Choice
wins_by rule x v locked = record { winner = Some x; v = v; locked = locked; rule = rule }

-- s: the state before the choice; f: what the scan found
module _ (s : State) (f : Scan) where
  -- an eligible entry: an eligible holder stays for an earlier deadline, or at the same one for more slice left
  abbrev pub against : Entry → Choice
  against e =
      let c = context_at f.contexts e.context_ref in
      if prev_is_eligible s && ltb (holder s).vd c.vd
      then nobody_wins HolderDeadline s.cpu.block.v (named f.ineligible_best) else
      if prev_is_eligible s && (eqb (holder s).vd c.vd && ltb c.rem_slice (holder s).rem_slice)
      then nobody_wins HolderSlice s.cpu.block.v (named f.ineligible_best)
      else wins_by FirstEligible e.context_ref s.cpu.block.v (named f.ineligible_best)

  -- nobody is eligible: V becomes the least vtime, and stays where nobody waits
  abbrev pub nobody : Option Entry → Choice
  nobody None =
      if prev_runnable s then nobody_wins HolderVtime (holder s).vtime [] else nobody_wins Idle s.cpu.block.v []
  nobody (Some e) =
      if prev_runnable s && leb (holder s).vtime e.vtime
      then nobody_wins HolderVtime e.vtime (e.context_ref ∷ []) else
      if prev_runnable s && leb (holder s).vd e.key.vd
      then nobody_wins HolderLateDeadline e.vtime (e.context_ref ∷ [])
      else wins_by EntryVtime e.context_ref e.vtime []

  abbrev pub choice_by : Option Entry → Choice
  choice_by (Some e) = against e
  choice_by None =
      if prev_is_eligible s then nobody_wins HolderAlone s.cpu.block.v (named f.ineligible_best) else nobody f.ineligible_best

  unfoldable pub choice : Choice
  choice = choice_by f.eligible_best

-- nobody waited, and the first stolen runs
abbrev pub rule_after : (stole : Bool) → Rule → Rule
rule_after stole rule = if eqb (rule_number rule) (rule_number Idle) && stole then Stolen else rule

-- what the scan gave up leaves; length and weight are published
abbrev pub without_keys : List Entry → List Key → List Entry
without_keys q ks = fold (λ (l : List Entry) (k : Key). queue_without k l) q ks

unfoldable pub cleaned_up : Scan → State → State
cleaned_up f s =
    let q = without_keys s.cpu.queue f.contexts_to_remove in
    let n = s.cpu.block.total_weight - f.weight_change in
    record {
      contexts = f.contexts;
      cpu = cpu_queue_len (length q) (cpu_queue q (cpu_total_weight n (cpu_published_weight n s.cpu)));
      no_room = s.no_room;
    }

-- the winner's key leaves the queue
abbrev pub dequeued : ℕ → State → State
dequeued x s =
    let c = at s x in
    if c.has_queue_key then remove_key (queue_key c) (put_context x (without_key c) s) else s

abbrev pub taken_out : Option ℕ → State → State
taken_out None s = s
taken_out (Some x) s = dequeued x s

unfoldable pub chosen : Choice → Scan → State → State
chosen w f s = taken_out w.winner (on_cpu (cpu_v w.v) (cleaned_up f s))

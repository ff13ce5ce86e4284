-- Cleaning up after the scan, and the choice. Assumes nothing.
use Rattle.std.specs.Prelude.{Bool, not, ◌&&◌, ◌||◌, List, [], ◌∷◌, ℕ, ◌-◌, ltb, leb, eqb, length, if◌then◌else◌, None, Option, Some}
use Rattle.columns.specs.Common.{fold}
use Rattle.context.specs.declared.Context.{Context}
use Rattle.entries.specs.declared.Key.{Key}
use Rattle.entries.specs.declared.Entry.{Entry}
use Rattle.entries.specs.Queue.{queue_remove}
use Rattle.percpu.specs.With.{cpu_queue, cpu_total_weight, cpu_queue_len, cpu_published_weight, cpu_v}
use Rattle.machine.specs.Machine.{context_at}
use Rattle.model.specs.State.{State, at, put_context, on_cpu, remove_key, holder, prev_runnable}
use Rattle.model.specs.Scan.{Scan}
use Rattle.context.specs.Key.{queue_key, without_key}

-- a queue without the keys that the scan gave up
abbrev pub without_keys : List Entry → List Key → List Entry
without_keys q ks = fold (λ (l : List Entry) (k : Key). queue_remove k l) q ks

-- the weight and the keys that the scan gave up leave; length and weight are published
unfoldable pub cleaned_up : Scan → State → State
cleaned_up f s =
    let q = without_keys s.cpu.queue f.contexts_to_remove in
    let n = s.cpu.block.total_weight - f.weight_change in
    record {
      contexts = f.contexts;
      cpu = cpu_queue_len (length q) (cpu_queue q (cpu_total_weight n (cpu_published_weight n s.cpu)));
      no_room = s.no_room;
    }

-- who won, if anybody; V; and the contexts that the decision keeps locked, the holder and the winner aside
pub record Choice : Type 0 where
  pub winner : Option ℕ
  pub v : ℕ
  pub locked : List ℕ

abbrev pub named : Option Entry → List ℕ
named None = []
named (Some e) = e.context_ref ∷ []

-- an earlier deadline, or the same one with more slice left
abbrev pub goes_before : Context → Context → Bool
goes_before a b = ltb a.vd b.vd || eqb a.vd b.vd && ltb b.rem_slice a.rem_slice

module _ (s : State) where
  abbrev pub prev_is_eligible : Bool
  prev_is_eligible = prev_runnable s && leb (holder s).vtime s.cpu.block.v

  -- the vtime of a runnable holder that is not eligible
  abbrev pub ineligible_holder : Option ℕ
  ineligible_holder = if prev_runnable s && not prev_is_eligible then Some (holder s).vtime else None

  -- an eligible entry was found
  abbrev pub against : Scan → Entry → Choice
  against f e =
      if prev_is_eligible && goes_before (holder s) (context_at f.contexts e.context_ref)
      then record { winner = None; v = s.cpu.block.v; locked = named f.ineligible_best }
      else record { winner = Some e.context_ref; v = s.cpu.block.v; locked = named f.ineligible_best }

  -- nobody is eligible: V becomes the least vtime
  abbrev pub nobody : Option Entry → Choice
  nobody None =
      record { winner = None; v = if prev_runnable s then (holder s).vtime else s.cpu.block.v; locked = [] }
  nobody (Some e) =
      if prev_runnable s && (leb (holder s).vtime e.vtime || leb (holder s).vd e.key.vd)
      then record { winner = None; v = e.vtime; locked = e.context_ref ∷ [] }
      else record { winner = Some e.context_ref; v = e.vtime; locked = [] }

  abbrev pub without_entry : Scan → Choice
  without_entry f =
      if prev_is_eligible
      then record { winner = None; v = s.cpu.block.v; locked = named f.ineligible_best }
      else nobody f.ineligible_best

  abbrev pub choice_by : Scan → Option Entry → Choice
  choice_by f None = without_entry f
  choice_by f (Some e) = against f e

  unfoldable pub choice : Scan → Choice
  choice f = choice_by f f.eligible_best

-- the winner's key leaves the queue
abbrev pub dequeued : ℕ → State → State
dequeued x s =
    let c = at s x in
    if c.has_queue_key then remove_key (queue_key c) (put_context x (without_key c) s) else s

abbrev pub taken_out : Option ℕ → State → State
taken_out None s = s
taken_out (Some x) s = dequeued x s

-- the state after the scan and the choice
unfoldable pub chosen : Choice → Scan → State → State
chosen w f s = taken_out w.winner (on_cpu (cpu_v w.v) (cleaned_up f s))

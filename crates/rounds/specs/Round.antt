-- A round of writer against rival (document 02, No. 13): the image after it. Assumes nothing.
use Rattle.std.specs.Prelude.{◌≡◌, Bool, true, List, ℕ, ◌+◌, eqb, set, if◌then◌else◌, None, Option, Some, is_some}
use Rattle.machine.specs.Encode.{context_place}
use Rattle.context_ops.specs.Reply.{Reply}
use Rattle.calls.specs.Call.{switch_call, block_call}
use Rattle.rounds.specs.declared.Choice.{Choice}
use Rattle.rounds.specs.declared.Choice.TheVariants.{GoOn, Yield, Block}

-- from a round's beginning: to the switch of one that goes on, to that of one that yields or blocks, to the wake of one that blocks
abbrev pub go_on_nanos : ℕ
go_on_nanos = 6750000

abbrev pub yield_nanos : ℕ
yield_nanos = 1000000

abbrev pub wake_nanos : ℕ
wake_nanos = 4500000

abbrev pub nanos : Choice → ℕ
nanos GoOn = go_on_nanos
nanos Yield = yield_nanos
nanos Block = yield_nanos

-- the image that an accepted call leaves; none: the call was refused
abbrev pub left_by : Reply → Option (List ℕ)
left_by y = if eqb y.answer.refusal 0 then Some y.image else None

abbrev pub and_then : Option (List ℕ) → (List ℕ → Option (List ℕ)) → Option (List ℕ)
and_then None f = None
and_then (Some m) f = f m

-- two words of a record
abbrev pub has_wake_place : ℕ
has_wake_place = 12

abbrev pub wake_place : ℕ
wake_place = 13

-- a wake stored in the record of context x
abbrev pub with_wake : (x wake : ℕ) → List ℕ → List ℕ
with_wake x wake m = set (set m (context_place x + has_wake_place) 1) (context_place x + wake_place) wake

module _ (cpu : ℕ) where
  abbrev pub switched : (time : ℕ) → List ℕ → Option (List ℕ)
  switched time m = left_by (switch_call m cpu time)

  -- context x goes to sleep at that time
  abbrev pub asleep : (x time : ℕ) → List ℕ → Option (List ℕ)
  asleep x time m = left_by (block_call (with_wake x (time + wake_nanos) m) cpu time x)

  -- the image after a round that began at that time with x in charge; none: a call in it was refused
  unfoldable pub played : (x time : ℕ) → Choice → List ℕ → Option (List ℕ)
  played x time GoOn m = switched (time + go_on_nanos) m
  played x time Yield m = switched (time + yield_nanos) m
  played x time Block m = and_then (asleep x time m) (switched (time + yield_nanos))

-- r: whether every call was accepted; if so, m' is the image after the last
pub record Plays (o : Option (List ℕ)) (m' : List ℕ) (r : Bool) : Type 0 where
  pub told : r ≡ is_some o
  pub leaves : r ≡ true → o ≡ Some m'

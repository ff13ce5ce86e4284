-- The definition's tests, on a record and on numbers. Assumes nothing.
use Rattle.std.specs.Prelude.{ℕ, ◌+◌, Bool, not, ◌&&◌, List, ◌==◌, nat_le, if◌then◌else◌, Option}
use Rattle.context.specs.declared.Context.{Context}
use Rattle.context.specs.Status.{is_runnable}
use Rattle.cpu_set.specs.Set.{contains}
use Rattle.entries.specs.declared.Entry.{Entry}
use Rattle.model.specs.Steal.{steal_threshold, steal_interval, idle_steal_interval, member, wins, contexts_of}

-- nothing of the decision's own holds its lock
unfoldable pub is_free : List ℕ → Option ℕ → List Entry → ℕ → Bool
is_free locked w got x = not (member x locked) && not (wins w x) && not (member x (contexts_of got))

-- what its record says
unfoldable pub may_move : (k : ℕ) → Context → Bool
may_move k c =
    contains c.sched_affinity k && is_runnable c.status && not c.running && not c.currently_scheduled
    && not (c.addr_space == 2)

-- c is the record of context x, which is live
unfoldable pub stolen_record : (k : ℕ) (locked : List ℕ) → Option ℕ → List Entry → ℕ → Context → Bool
stolen_record k locked w got x c = c.lock == 0 && is_free locked w got x && may_move k c

-- from numbers, of a CPU that is present: its marks, its length as published and as it is, and this CPU's load
unfoldable pub has_enough : (stealable : Bool) (published : ℕ) (locked : Bool) (len load : ℕ) → Bool
has_enough stealable published locked len load =
    stealable && nat_le (load + steal_threshold) (published + 1) && not locked && nat_le (load + steal_threshold) (len + 1)

abbrev pub interval : Bool → Bool → ℕ
interval idle some = if idle && not some then idle_steal_interval else steal_interval

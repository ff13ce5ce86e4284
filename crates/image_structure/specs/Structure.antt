-- Document 01's structure of an image whose words are in their ranges: refusal 4. Assumes nothing.
use Rattle.std.specs.Prelude.{Bool, true, ◌&&◌, not, ℕ, ◌+◌, ◌-◌, List, eqb, get_or, if◌then◌else◌}
use Rattle.columns.specs.Common.{every}
use Rattle.columns.specs.Blocks.{part}
use Rattle.entries.specs.Order.{before, sooner}
use Rattle.percpu.specs.Layout.{entry_at, timer_at}
use Rattle.machine.specs.Encode.{context_place, cpu_place}
use Rattle.percpu.specs.Places.{current_ctxt_place, sched_ctxt_place, idle_ctxt_place, queue_count, timers_count, key_ctxt_id_column, entry_context_ref_column, block_size}

-- the debug id of context x, and whether it is not gone
unfoldable pub id_of : List ℕ → ℕ → ℕ
id_of m x = get_or m (context_place x + 1) 0

unfoldable pub is_live : List ℕ → ℕ → Bool
is_live m x = eqb (get_or m (context_place x) 0) 0

-- the id of context y is no id of one before it, gone ones too
unfoldable pub is_new : List ℕ → ℕ → Bool
is_new m y = every (λ (x : ℕ). not (eqb (id_of m x) (id_of m y))) y

unfoldable pub ids_differ : List ℕ → ℕ → Bool
ids_differ m n = every (is_new m) n

-- current, in charge and idle are not gone; b is a block of m
unfoldable pub names_live : List ℕ → List ℕ → Bool
names_live m b = is_live m (get_or b current_ctxt_place 0) && (is_live m (get_or b sched_ctxt_place 0) && is_live m (get_or b idle_ctxt_place 0))

-- an entry's id is its context's
unfoldable pub entry_ids : List ℕ → List ℕ → Bool
entry_ids m b = every (λ (i : ℕ). eqb (get_or b (key_ctxt_id_column + i) 0) (id_of m (get_or b (entry_context_ref_column + i) 0))) (get_or b queue_count 0)

-- keys, and (wake, context) pairs, rise strictly
unfoldable pub keys_rise : List ℕ → Bool
keys_rise b = every (λ (i : ℕ). before (entry_at b i).key (entry_at b (i + 1)).key) (get_or b queue_count 0 - 1)

unfoldable pub timers_rise : List ℕ → Bool
timers_rise b = every (λ (i : ℕ). sooner (timer_at b i) (timer_at b (i + 1))) (get_or b timers_count 0 - 1)

-- the context of timer i is that of no timer before it
unfoldable pub is_first_timer : List ℕ → ℕ → Bool
is_first_timer b i = every (λ (j : ℕ). not (eqb (timer_at b j).context_ref (timer_at b i).context_ref)) i

-- no context has two timers
unfoldable pub timers_differ : List ℕ → Bool
timers_differ b = every (is_first_timer b) (get_or b timers_count 0)

-- an absent block has no structure
unfoldable pub block_structure : List ℕ → List ℕ → Bool
block_structure m b =
    if eqb (get_or b 0 0) 0 then true else names_live m b && (entry_ids m b && (keys_rise b && (timers_rise b && timers_differ b)))

unfoldable pub structure : ℕ → ℕ → List ℕ → Bool
structure c n m = ids_differ m n && every (λ (k : ℕ). block_structure m (part m (cpu_place n k) block_size)) c

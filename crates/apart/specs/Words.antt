-- The contexts that a CPU names, as the words of its block have them. Assumes nothing.
use Rattle.std.specs.Prelude.{◌≡◌, Bool, true, not, ℕ, ◌+◌, ◌<◌, ◌≤◌, List, eqb, length, get_or, if◌then◌else◌}
use Rattle.columns.specs.Common.{every}
use Rattle.percpu.specs.Places.{current_ctxt_place, sched_ctxt_place, idle_ctxt_place, queue_count, timers_count, local_count, ipi_count, entry_context_ref_column, timer_context_ref_column, local_wakeup_list_column, ipi_context_wakeup_list_column, front_size, block_size}

-- x is current, in charge or idle
unfoldable pub has_seat : List ℕ → ℕ → Bool
has_seat b x =
    if eqb x (get_or b current_ctxt_place 0) then true else
    if eqb x (get_or b sched_ctxt_place 0) then true else eqb x (get_or b idle_ctxt_place 0)

-- x is one of the words from `start` on that the word `counter` counts
unfoldable pub is_listed : List ℕ → (counter start x : ℕ) → Bool
is_listed b counter start x = not (every (λ (i : ℕ). not (eqb x (get_or b (start + i) 0))) (get_or b counter 0))

unfoldable pub is_named_in : List ℕ → ℕ → Bool
is_named_in b x =
    if has_seat b x then true else
    if is_listed b queue_count entry_context_ref_column x then true else
    if is_listed b timers_count timer_context_ref_column x then true else
    if is_listed b local_count local_wakeup_list_column x then true else is_listed b ipi_count ipi_context_wakeup_list_column x

-- an array of the block b that holds what is counted
pub record Column (b : List ℕ) (counter start : ℕ) : Type 0 where
  pub size : length b ≡ block_size
  pub counted : counter < front_size
  pub inside : start + 64 ≤ block_size
  pub count : get_or b counter 0 ≤ 64

-- all arrays of the block do
pub record Counted (b : List ℕ) : Type 0 where
  pub size : length b ≡ block_size
  pub queue : get_or b queue_count 0 ≤ 64
  pub timers : get_or b timers_count 0 ≤ 64
  pub local : get_or b local_count 0 ≤ 64
  pub ipi : get_or b ipi_count 0 ≤ 64

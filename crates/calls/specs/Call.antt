-- What each call answers and the image it leaves, of any words, CPU, time and context. Assumes nothing.
use Rattle.std.specs.Prelude.{Bool, true, false, ℕ, List, eqb, if◌then◌else◌, Err, Ok, Result}
use Rattle.machine.specs.Machine.{Machine}
use Rattle.machine.specs.Encode.{decode}
use Rattle.machine.specs.LookUp.{get_percpu_block}
use Rattle.image.specs.Refusal.{size_c, size_n, image_refusal}
use Rattle.model.specs.Accepted.{by_tick, by_switch}
use Rattle.switch_ops.specs.Reply.{decide, direct_switch}
use Rattle.context_ops.specs.Named.{named}
use Rattle.context_ops.specs.Operations.{unblock_context, drain_ipi_context_wakeups, block, hard_block}
use Rattle.context_ops.specs.Reply.{Reply, reply, refuse, reply_to, reply_on}
use Rattle.group_ops.specs.Group.{unblock_group}
use Rattle.total_weight.specs.TotalWeight.{total_weight_answer}

-- refusals 1 to 4, or the counts of CPUs and contexts
unfoldable pub check : List ℕ → ℕ → Result (ℕ × ℕ) ℕ
check m time = if eqb (image_refusal time m) 0 then Ok (size_c m, size_n m) else Err (image_refusal time m)

-- refusals 1 to 4 come first; then f answers, of the machine that the image stands for
unfoldable pub checked_by : List ℕ → (Machine → Reply) → Result (ℕ × ℕ) ℕ → Reply
checked_by m f (Err r) = refuse r m
checked_by m f (Ok (c, n)) = f (decode m)

abbrev pub checked : List ℕ → ℕ → (Machine → Reply) → Reply
checked m time f = checked_by m f (check m time)

abbrev pub tick_call : List ℕ → (cpu time : ℕ) → Reply
tick_call m cpu time = checked m time (λ (M : Machine). decide m M cpu time by_tick)

abbrev pub switch_call : List ℕ → (cpu time : ℕ) → Reply
switch_call m cpu time = checked m time (λ (M : Machine). decide m M cpu time by_switch)

abbrev pub direct_switch_to_call : List ℕ → (cpu time context : ℕ) → Reply
direct_switch_to_call m cpu time context = checked m time (λ (M : Machine). direct_switch m M cpu time context)

abbrev pub unblock_context_call : List ℕ → (cpu time context : ℕ) → Reply
unblock_context_call m cpu time context =
    checked m time (λ (M : Machine). reply_to m (λ (k x : ℕ). unblock_context k x M) (named M cpu context))

abbrev pub drain_ipi_context_wakeups_call : List ℕ → (cpu time : ℕ) → Reply
drain_ipi_context_wakeups_call m cpu time =
    checked m time (λ (M : Machine). reply_on m (λ (k : ℕ). drain_ipi_context_wakeups k M) (get_percpu_block M cpu))

abbrev pub block_call : List ℕ → (cpu time context : ℕ) → Reply
block_call m cpu time context = checked m time (λ (M : Machine). reply_to m (λ (k x : ℕ). block x M) (named M cpu context))

abbrev pub hard_block_call : List ℕ → (cpu time context : ℕ) → Reply
hard_block_call m cpu time context =
    checked m time (λ (M : Machine). reply_to m (λ (k x : ℕ). hard_block x M) (named M cpu context))

-- operation 4 for every context that the mask names, or for none
abbrev pub unblock_group_call : List ℕ → (cpu time mask : ℕ) → Reply
unblock_group_call m cpu time mask = checked m time (λ (M : Machine). unblock_group m M cpu mask)

-- the weight of a CPU, added up from its contexts; there is no time
abbrev pub total_weight_call : List ℕ → (cpu : ℕ) → Reply
total_weight_call m cpu = checked m 0 (λ (M : Machine). reply (total_weight_answer M (get_percpu_block M cpu)) m)

-- no such operation
abbrev pub no_operation_call : List ℕ → (time : ℕ) → Reply
no_operation_call m time = checked m time (λ (M : Machine). refuse 5 m)

-- any operation, by its number
unfoldable pub call : List ℕ → (operation cpu time context : ℕ) → Reply
call m operation cpu time context =
    if eqb operation 1 then tick_call m cpu time else
    if eqb operation 2 then switch_call m cpu time else
    if eqb operation 3 then direct_switch_to_call m cpu time context else
    if eqb operation 4 then unblock_context_call m cpu time context else
    if eqb operation 5 then drain_ipi_context_wakeups_call m cpu time else
    if eqb operation 6 then block_call m cpu time context else
    if eqb operation 7 then hard_block_call m cpu time context else no_operation_call m time

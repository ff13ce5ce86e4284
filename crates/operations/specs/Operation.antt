-- What any operation answers of the machine M of an image m, by its number. Assumes nothing.
use Rattle.std.specs.Prelude.{ℕ, List, eqb, if◌then◌else◌}
use Rattle.machine.specs.Machine.{Machine}
use Rattle.machine.specs.LookUp.{get_percpu_block}
use Rattle.model.specs.Accepted.{by_tick, by_switch}
use Rattle.switch_ops.specs.Reply.{decide, direct_switch}
use Rattle.context_ops.specs.Named.{named}
use Rattle.context_ops.specs.Operations.{unblock_context, drain_ipi_context_wakeups, block, hard_block}
use Rattle.context_ops.specs.Reply.{Reply, refuse, reply_to, reply_on}

unfoldable pub operation_reply : List ℕ → Machine → (operation cpu time context : ℕ) → Reply
operation_reply m M operation cpu time context =
    if eqb operation 1 then decide m M cpu time by_tick else
    if eqb operation 2 then decide m M cpu time by_switch else
    if eqb operation 3 then direct_switch m M cpu time context else
    if eqb operation 4 then reply_to m (λ (k x : ℕ). unblock_context k x M) (named M cpu context) else
    if eqb operation 5 then reply_on m (λ (k : ℕ). drain_ipi_context_wakeups k M) (get_percpu_block M cpu) else
    if eqb operation 6 then reply_to m (λ (k x : ℕ). block x M) (named M cpu context) else
    if eqb operation 7 then reply_to m (λ (k x : ℕ). hard_block x M) (named M cpu context) else refuse 5 m

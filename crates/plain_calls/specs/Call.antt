-- What a plain call answers and the image it leaves, of any words, operation, CPU, time and context. Assumes nothing.
use Rattle.std.specs.Prelude.{ℕ, List, eqb, if◌then◌else◌, None, Option, Some}
use Rattle.machine.specs.Machine.{Machine}
use Rattle.machine.specs.LookUp.{look_up, get_percpu_block}
use Rattle.model.specs.Accepted.{Call, by_tick, by_switch, by_direct_switch}
use Rattle.context_ops.specs.Reply.{Reply, refuse, replied}
use Rattle.switch_ops.specs.Reply.{refusal}
use Rattle.calls.specs.Call.{checked, call}
use Rattle.plain_model.specs.Schedule.{plain_outcome}

-- refusals 6 to 8 come first; an outcome without room is refusal 9
unfoldable pub decide_on : List ℕ → Machine → (k time : ℕ) → Call → Reply
decide_on m M k time call =
    if eqb (refusal call M k time) 0 then replied m (plain_outcome call k time M) else refuse (refusal call M k time) m

-- refusal 5 comes before them
unfoldable pub decide_by : List ℕ → Machine → (time : ℕ) → Call → Option ℕ → Reply
decide_by m M time call None = refuse 5 m
decide_by m M time call (Some k) = decide_on m M k time call

abbrev pub decide : List ℕ → Machine → (cpu time : ℕ) → Call → Reply
decide m M cpu time call = decide_by m M time call (get_percpu_block M cpu)

unfoldable pub direct_switch_by : List ℕ → Machine → (cpu time : ℕ) → Option ℕ → Reply
direct_switch_by m M cpu time None = refuse 5 m
direct_switch_by m M cpu time (Some x) = decide m M cpu time (by_direct_switch x)

-- refusals 1 to 4 come before all; what decides nothing is delegated
unfoldable pub plain_call : List ℕ → (operation cpu time context : ℕ) → Reply
plain_call m operation cpu time context =
    if eqb operation 1 then checked m time (λ (M : Machine). decide m M cpu time by_tick) else
    if eqb operation 2 then checked m time (λ (M : Machine). decide m M cpu time by_switch) else
    if eqb operation 3 then checked m time (λ (M : Machine). direct_switch_by m M cpu time (look_up M context)) else
    call m operation cpu time context

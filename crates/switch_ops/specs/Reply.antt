-- Operations 1 to 3: what a call answers of the machine M of an image m, and the image it leaves. Assumes nothing.
use Rattle.std.specs.Prelude.{◌≡◌, ℕ, ◌<◌, List, eqb, if◌then◌else◌, None, Option, Some}
use Rattle.machine.specs.Machine.{Machine}
use Rattle.machine.specs.Encode.{decode}
use Rattle.machine.specs.LookUp.{look_up, get_percpu_block}
use Rattle.model.specs.Accepted.{Call, by_tick, by_switch, by_direct_switch, outcome}
use Rattle.admission.specs.Refusals.{decision_refusal, direct_refusal}
use Rattle.answer.specs.declared.Answer.{Answer}
use Rattle.context_ops.specs.Reply.{Reply, reply, refuse, replied}
use Rattle.switch_ops.specs.declared.Decision.{Decision}
use Rattle.switch_ops.specs.declared.Decision.TheVariants.{Tick, Switch, DirectSwitchTo}

-- the call that the code's enum names
abbrev pub call_of : Decision → Call
call_of Tick = by_tick
call_of Switch = by_switch
call_of (DirectSwitchTo x) = by_direct_switch x

-- refusals 6 to 8 of a call on CPU k, which is present; 0 for none
abbrev pub refusal : Call → Machine → (k time : ℕ) → ℕ
refusal by_tick M k time = decision_refusal M k time
refusal by_switch M k time = decision_refusal M k time
refusal (by_direct_switch x) M k time = direct_refusal M k time x

-- refusals 6 to 8 come first; an outcome without room is refusal 9
unfoldable pub decide_on : List ℕ → Machine → (k time : ℕ) → Call → Reply
decide_on m M k time call =
    if eqb (refusal call M k time) 0 then replied m (outcome call k time M) else refuse (refusal call M k time) m

-- refusal 5 comes before them
unfoldable pub decide_by : List ℕ → Machine → (time : ℕ) → Call → Option ℕ → Reply
decide_by m M time call None = refuse 5 m
decide_by m M time call (Some k) = decide_on m M k time call

-- operations 1 and 2
abbrev pub decide : List ℕ → Machine → (cpu time : ℕ) → Call → Reply
decide m M cpu time call = decide_by m M time call (get_percpu_block M cpu)

-- operation 3
unfoldable pub direct_switch_by : List ℕ → Machine → (cpu time : ℕ) → Option ℕ → Reply
direct_switch_by m M cpu time None = refuse 5 m
direct_switch_by m M cpu time (Some x) = decide m M cpu time (by_direct_switch x)

abbrev pub direct_switch : List ℕ → Machine → (cpu time context : ℕ) → Reply
direct_switch m M cpu time context = direct_switch_by m M cpu time (look_up M context)

-- a was answered and the image became m': that is the reply y, and an accepted call left the machine M'
pub record Replies (m' : List ℕ) (a : Answer) (y : Reply) (M' : Machine) : Type 0 where
  pub replies : reply a m' ≡ y
  pub leaves : a.refusal ≡ 0 → decode m' ≡ M'

-- the same where a refused call may have left the image half-way
pub record Attempts (m' : List ℕ) (a : Answer) (y : Reply) (M' : Machine) : Type 0 where
  pub answers : a ≡ y.answer
  pub replies : a.refusal ≡ 0 → Replies m' a y M'

-- the context that a call switches to is one of n
abbrev pub TargetBelow : ℕ → Decision → Type 0
TargetBelow n d = (x : ℕ) → d ≡ DirectSwitchTo x → x < n

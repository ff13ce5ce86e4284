-- What a call by its number promises, and one in a window: an accepted one is the call, of which demand 3 holds. Assumes nothing.
use mathlib.Core.Path.{◌≡◌}
use Prim.Native.Nat.{ℕ}
use mathlib.Core.List.{List}
use lib.ListN.{get_or}
use mir.Syntax.{w64}
use mir.Val.{Fits}
use Rattle.answer.specs.declared.Answer.{Answer}
use Rattle.context_ops.specs.Reply.{reply}
use Rattle.calls.specs.Call.{call}
use Rattle.call_in_window.specs.CallInWindow.{window_reply, call_in_window}
use Rattle.call_in_window.proofs.Accepted.{accepted_is_call}
use Rattle.ronthuyal.specs.Demand.{DemandMet}
use Rattle.ronthuyal.specs.Leaves.{Leaves}
use Rattle.ronthuyal.proofs.Deciding.{call_demand}
use Rattle.ronthuyal.proofs.Left.{call_promises, leaves}
use Rattle.numbers.specs.Limits.{max_word}

-- words: those of the image after
module _ {a : Answer} {m' : List ℕ} (m : List ℕ) (operation cpu time context : ℕ) (words : (i : ℕ) → Fits w64 (get_or m' i 0)) where
  pub operation_promises : reply a m' ≡ call m operation cpu time context
      → record { image_after : reply a m' ≡ call m operation cpu time context; demand_met : DemandMet m m' operation cpu time context a.refusal; leaves : Leaves max_word m m' a.refusal }
  operation_promises e = call_promises m cpu time context words operation e (call_demand m cpu time operation context e)

  pub window_promises : {w' : List ℕ} (w : List ℕ) → window_reply a m' w' ≡ call_in_window m w operation cpu time context
      → record { window_after : window_reply a m' w' ≡ call_in_window m w operation cpu time context; demand_met : DemandMet m m' operation cpu time context a.refusal; leaves : Leaves max_word m m' a.refusal }
  window_promises {w'} w e =
      let s : a.refusal ≡ 0 → reply a m' ≡ call m operation cpu time context = accepted_is_call m w operation cpu time context e
      in record { window_after = e; demand_met = record { met = λ d y z. (call_demand m cpu time operation context (s z)).met d y z }; leaves = record { left = λ z. (leaves m operation cpu time context (s z) words).left z } }

-- A call by its operation's number. Assumes nothing.
use mathlib.Core.Path.{◌≡◌}
use Prim.Native.Nat.{ℕ}
use mathlib.Core.List.{List}
use Rattle.context_ops.specs.Reply.{Reply}
use Rattle.calls.specs.Call.{tick_call, switch_call, direct_switch_to_call, call}

module _ {y : Reply} (m : List ℕ) (operation cpu time context : ℕ) where
  pub is_tick : operation ≡ 1 → y ≡ tick_call m cpu time → y ≡ call m operation cpu time context
  unfolding call
  is_tick e h = rw e h

  pub is_switch : operation ≡ 2 → y ≡ switch_call m cpu time → y ≡ call m operation cpu time context
  unfolding call
  is_switch e h = rw e h

  pub is_direct_switch_to : operation ≡ 3 → y ≡ direct_switch_to_call m cpu time context → y ≡ call m operation cpu time context
  unfolding call
  is_direct_switch_to e h = rw e h

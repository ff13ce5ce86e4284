-- A state in which every insertion found room, and how long its lists are. Assumes nothing.
use mathlib.Core.Path.{◌≡◌}
use mathlib.Core.Bool.{Bool, false, ◌||◌}
use mathlib.Core.List.{[], ◌∷◌, ◌++◌}
use Prim.Native.Nat.{ℕ, ◌+◌, ◌<◌, ◌≤◌}
use native.Mathlib.Omega.{arith}
use lib.Dec.{ltb}
use lib.ListN.{length, length-append}
use borrow.Author.Tests.{le-ltb}
use Rattle.entries.specs.declared.Key.{Key}
use Rattle.entries.specs.declared.Entry.{Entry}
use Rattle.entries.specs.declared.Timer.{Timer}
use Rattle.entries.specs.Order.{entry_before, sooner}
use Rattle.entries.specs.Queue.{keyed, queue_insert, timer_insert}
use Rattle.model.specs.State.{State, insert_entry, insert_timer, push_local, remove_key}
use Rattle.model_room.proofs.Lengths.{length_insert, length_remove}

-- over the mark and the three lengths alone: a state that differs in other things is within by the same proof
pub record Lengths (q t l : ℕ) (full : Bool) (queue-length timers-length local-length : ℕ) : Type 0 where
  pub room : full ≡ false
  pub queue : queue-length ≤ q
  pub timers : timers-length ≤ t
  pub local : local-length ≤ l

-- no insertion found a list full; at most q entries, t timers and l local names
abbrev pub Within : (q t l : ℕ) → State → Type 0
Within q t l s = Lengths q t l s.no_room (length s.cpu.queue) (length s.cpu.timers) (length s.cpu.local_wakeup_list)

module _ {q t l q' t' l' x y z : ℕ} {full : Bool} where
  pub weaker : q ≤ q' → t ≤ t' → l ≤ l' → Lengths q t l full x y z → Lengths q' t' l' full x y z
  weaker a b d h = record { room = h.room; queue = omega arith; timers = omega arith; local = omega arith }

-- an insertion after which a list has at most 64 items leaves the mark
still_room : {full : Bool} (n : ℕ) → full ≡ false → n ≤ 64 → (full || ltb 64 n) ≡ false
still_room n e h = rw e (le-ltb 64 n h)

module _ {q t l : ℕ} (s : State) (h : Within q t l s) where
  pub entry_inserted : (e : Entry) → q < 64 → Within (q + 1) t l (insert_entry e s)
  entry_inserted e r =
      let n = length_insert entry_before e s.cpu.queue in
      record { room = still_room (length (queue_insert e s.cpu.queue)) h.room (omega (arith, h.queue)); queue = omega (arith, h.queue); timers = h.timers; local = h.local }

  pub timer_inserted : (x : Timer) → t < 64 → Within q (t + 1) l (insert_timer x s)
  timer_inserted x r =
      let n = length_insert sooner x s.cpu.timers in
      record { room = still_room (length (timer_insert x s.cpu.timers)) h.room (omega (arith, h.timers)); queue = h.queue; timers = omega (arith, h.timers); local = h.local }

  pub name_pushed : (x : ℕ) → l < 64 → Within q t (l + 1) (push_local x s)
  name_pushed x r =
      let n : length (s.cpu.local_wakeup_list ++ (x ∷ [])) ≡ length s.cpu.local_wakeup_list + 1 = rw length-append in
      record { room = still_room (length (s.cpu.local_wakeup_list ++ (x ∷ []))) h.room (omega (arith, h.local)); queue = h.queue; timers = h.timers; local = omega (arith, h.local) }

  pub key_removed : (k : Key) → Within q t l (remove_key k s)
  key_removed k =
      let n = length_remove entry_before (keyed k) s.cpu.queue in
      record { room = h.room; queue = omega (arith, h.queue); timers = h.timers; local = h.local }

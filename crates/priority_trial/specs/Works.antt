-- Which priorities leave a context in charge (document 02, No. 12). Assumes nothing.
use Rattle.std.specs.Prelude.{Bool, true, false, ◌&&◌, ℕ, ◌+◌, List, ltb, eqb, length, get_or}
use Rattle.context.specs.With.{with_prio}
use Rattle.percpu.specs.Places.{sched_ctxt_place}
use Rattle.machine.specs.Machine.{Machine, context_at, cpu_at, set_context}
use Rattle.machine.specs.Encode.{encode, decode, cpu_place}
use Rattle.image.specs.Refusal.{size_n}
use Rattle.context_ops.specs.Wakeup.{push_local}
use Rattle.context_ops.specs.Reply.{Reply}
use Rattle.calls.specs.Call.{switch_call}

-- priority p stored in context x's record, and the name x put last on CPU k's local list
unfoldable pub tried_machine : (k x p : ℕ) → Machine → Machine
tried_machine k x p M = push_local k x (set_context x (with_prio p (context_at M.contexts x)) M)

abbrev pub tried_image : List ℕ → (k x p : ℕ) → List ℕ
tried_image m k x p = encode (tried_machine k x p (decode m))

-- CPU k's local list has room for one name more
abbrev pub has_room : Machine → (k : ℕ) → Bool
has_room M k = ltb (length (cpu_at M k).local_wakeup_list) 64

-- a reply of an image of n contexts is accepted, and context x is then in charge of CPU k
unfoldable pub in_charge_after : (n k x : ℕ) → Reply → Bool
in_charge_after n k x y = eqb y.answer.refusal 0 && eqb (get_or y.image (cpu_place n k + sched_ctxt_place) 0) x

-- a switch of the changed image leaves x in charge
unfoldable pub works : List ℕ → (k time x p : ℕ) → Bool
works m k time x p = has_room (decode m) k && in_charge_after (size_n m) k x (switch_call (tried_image m k x p) k time)

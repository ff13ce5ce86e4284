-- A mask of one bit is operation 4 itself. Assumes nothing.
use Rattle.std.specs.Prelude.{Err, Ok, Result}
use mathlib.Core.Path.{◌≡◌, refl, sym, ap, ◌∙◌}
use mathlib.Core.Bool.{false}
use mathlib.Core.List.{List, [], ◌∷◌}
use Prim.Native.Nat.{ℕ, zero, suc, ◌/◌, ◌%◌, ◌-◌, ◌^◌, ◌<◌}
use native.Mathlib.Omega.{arith}
use native.Mathlib.Nat.{pow-suc, zero-add}
use lib.Count.{count_trailing_zeros}
use lib.Dec.{eqb}
use lib.Pow.{pow_pos, pow-lt}
use Rattle.group_ops.proofs.Unblocking.{unblock_rule}
use Rattle.cpu_set.specs.Members.{members, next_cpu, rest_cpus}
use Rattle.cpu_set.proofs.Members.{members_step, members_none}
use Rattle.machine.specs.Machine.{Machine}
use Rattle.machine.specs.Encode.{encode, decode}
use Rattle.machine.specs.Outcome.{Outcome}
use Rattle.model.proofs.Cases.{pick}
use Rattle.context_ops.specs.Named.{named}
use Rattle.context_ops.specs.Reply.{Reply, reply, refuse, replied, reply_to}
use Rattle.group_ops.specs.Group.{first_check, unblock_group}
use Rattle.calls.specs.Call.{check, checked_by, unblock_context_call, unblock_group_call}
use Rattle.ronthuyal.specs.Singles.{singles, image_after, joined_answer, joined}
use Rattle.ronthuyal.proofs.Reached.{given}
use Rattle.group_ops.proofs.Unblocking.{mark_either}
use Rattle.ronthuyal.proofs.Grouped.{group_of, list_is_singles}

-- the members of one bit
bit_zeros : (k x : ℕ) → x < k → count_trailing_zeros k (2 ^ x) ≡ x
unfolding count_trailing_zeros
bit_zeros zero x h = absurd (omega arith)
bit_zeros (suc k) zero h = refl
bit_zeros (suc k) (suc x) h =
    let w = pow-suc 2 x in
    let d : 2 ^ suc x % 2 ≡ 0 = omega arith in
    let q : 2 ^ suc x / 2 ≡ 2 ^ x = omega arith in
    rw (d, q) (ap suc (bit_zeros k x (omega arith)))

bit_members : (x : ℕ) → x < 64 → members (2 ^ x) ≡ x ∷ []
unfolding next_cpu rest_cpus
bit_members x h =
    let e : count_trailing_zeros 64 (2 ^ x) ≡ x = bit_zeros 64 x h in
    let z : 2 ^ x - 2 ^ count_trailing_zeros 64 (2 ^ x) ≡ 0 = rw e (omega arith) in
    members_step (2 ^ x) (pow_pos x) (omega (arith, pow-lt h)) ∙ (λ i. e i ∷ members (z i)) ∙ ap (λ (xs : List ℕ). x ∷ xs) members_none

-- one call's reply, joined with no other
module _ (m : List ℕ) where
  abbrev Whole : Reply → Type 0
  Whole u = joined m (u.answer ∷ []) u.image ≡ u

  refuse_whole : (r : ℕ) → Whole (refuse r m)
  unfolding joined joined_answer first_check
  refuse_whole r = pick (λ (y : Reply). y ≡ refuse r m) (eqb r 0) (λ t. refl) (λ t. refl)

  given_whole : (o : Outcome) (m' : List ℕ) → o.rule ≡ 0 → Whole (reply (given o) m')
  unfolding joined joined_answer first_check
  given_whole o m' z = λ i. reply (record { refusal = 0; result = zero-add o.result i; interrupt = mark_either false o.interrupt i; rule = sym z i }) m'

  replied_whole : (o : Outcome) → o.rule ≡ 0 → Whole (replied m o)
  unfolding replied
  replied_whole o z = pick Whole o.no_room (λ t. refuse_whole 9) (λ t. given_whole o (encode o.machine) z)

  to_whole : (f : ℕ → ℕ → Outcome) → ((k x : ℕ) → (f k x).rule ≡ 0) → (v : Result (ℕ × ℕ) ℕ) → Whole (reply_to m f v)
  unfolding reply_to
  to_whole f h (Err r) = refuse_whole r
  to_whole f h (Ok (k, x)) = replied_whole (f k x) (h k x)

  checked_whole : (f : Machine → Reply) → ((M : Machine) → Whole (f M)) → (w : Result (ℕ × ℕ) ℕ) → Whole (checked_by m f w)
  unfolding checked_by
  checked_whole f g (Err r) = refuse_whole r
  checked_whole f g (Ok (c, n)) = g (decode m)

-- a mask of one bit is `unblock_context`, refused or not
pub one_bit : (m : List ℕ) (cpu time x : ℕ) → x < 64 → unblock_group_call m cpu time (2 ^ x) ≡ unblock_context_call m cpu time x
unfolding unblock_group singles image_after
one_bit m cpu time x h =
    ap (group_of m cpu time) (bit_members x h)
    ∙ list_is_singles m cpu time x []
    ∙ checked_whole m _ (λ M. to_whole m _ (λ k y. unblock_rule k y M) (named M cpu x)) (check m time)

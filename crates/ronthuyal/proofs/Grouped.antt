-- The call for a set: it is the single calls one by one; the empty set; what the call leaves. Assumes nothing.
use Rattle.std.specs.Prelude.{if◌then◌else◌, None, Option, Some, Err, Ok, Result}
use mathlib.Core.Path.{◌≡◌, refl, sym, ap, ◌∙◌, subst}
use mathlib.Core.List.{List, [], ◌∷◌}
use Prim.Native.Nat.{ℕ, ◌<◌, ◌≤◌}
use native.Mathlib.Omega.{arith}
use lib.Dec.{ltb, eqb}
use borrow.Author.Tests.{ne_eqb}
use Rattle.columns.specs.Common.{fold}
use Rattle.cpu_set.specs.Members.{members, next_cpu, rest_cpus}
use Rattle.cpu_set.proofs.Members.{members_step, members_none}
use Rattle.machine.specs.Machine.{Machine}
use Rattle.machine.specs.Encode.{encode, decode}
use Rattle.machine.specs.LookUp.{get_percpu_block}
use Rattle.machine.specs.Outcome.{Outcome}
use Rattle.model.proofs.Cases.{pick}
use Rattle.image.specs.Refusal.{size_c, size_n, image_refusal}
use Rattle.image.proofs.Admitted as admitted
use Rattle.answer.specs.declared.Answer.{Answer}
use Rattle.context_ops.specs.Named.{named}
use Rattle.context_ops.specs.Operations.{unblock_context}
use Rattle.context_ops.specs.Reply.{Reply, reply, refuse, replied, reply_to}
use Rattle.context_ops.proofs.Resolved.{absent_cpu}
use Rattle.group_ops.specs.Group.{first_check, names_refusal, unblock_each, group_on, unblock_group}
use Rattle.calls.specs.Call.{check, checked, checked_by, unblock_context_call, unblock_group_call}
use Rattle.ronthuyal.specs.Leaves.{Leaves}
use Rattle.ronthuyal.specs.Singles.{singles, image_after, zero_answer, joined_answer, joined, none_named}
use Rattle.calls.proofs.Called.{is_refused, call_none, call_refused}
use Rattle.calls.proofs.Accepts.{refused_not}
use Rattle.ronthuyal.proofs.Leaving.{Unraised}
use Rattle.ronthuyal.proofs.Left.{unraised_left}
use Rattle.ronthuyal.proofs.Reached.{start, call_on}
use Rattle.ronthuyal.proofs.OneByOne.{Alike, accepted, crowded, refused, group_alike, not_joined, same_reply}
use Rattle.numbers.specs.Limits.{max_number, max_word}

-- the call for the contexts of a list
abbrev pub group_of : List ℕ → (cpu time : ℕ) → List ℕ → Reply
group_of m cpu time xs = checked m time (λ (M : Machine). group_on m M cpu xs (get_percpu_block M cpu))

-- every call is refused by the same number
module _ (m : List ℕ) (cpu time r : ℕ) (n : r ≡ 0 → ⊥) (each : (x : ℕ) → unblock_context_call m cpu time x ≡ refuse r m) where
  same_check : first_check r r ≡ r
  unfolding first_check
  same_check = rw (ne_eqb r 0 n) (pick (λ (y : ℕ). y ≡ r) (ltb r r) (λ t. refl) (λ t. refl))

  stays : (xs : List ℕ) (a : Answer) (m' : List ℕ) → m' ≡ m → a.refusal ≡ r → (fold joined_answer a (singles m' cpu time xs)).refusal ≡ r
  unfolding singles joined_answer
  stays [] a m' h e = e
  stays (x ∷ xs) a m' h e =
      let u : unblock_context_call m' cpu time x ≡ refuse r m = ap (λ (y : List ℕ). unblock_context_call y cpu time x) h ∙ each x in
      stays xs _ _ (λ i. (u i).image) ((λ i. first_check (e i) (u i).answer.refusal) ∙ same_check)

  all_refused : (x : ℕ) (xs : List ℕ) → refuse r m ≡ joined m (singles m cpu time (x ∷ xs)) (image_after m cpu time (x ∷ xs))
  unfolding joined singles joined_answer first_check
  all_refused x xs = not_joined m _ r _ n (stays xs _ _ (λ i. (each x i).image) (λ i. first_check 0 (each x i).answer.refusal))

-- a list that is not empty
module _ (m : List ℕ) (cpu time x : ℕ) (xs : List ℕ) where
  abbrev one_by_one : Reply
  one_by_one = joined m (singles m cpu time (x ∷ xs)) (image_after m cpu time (x ∷ xs))

  absent : (y : ℕ) → None ≡ get_percpu_block (decode m) cpu → reply_to m (λ (i j : ℕ). unblock_context i j (decode m)) (named (decode m) cpu y) ≡ refuse 5 m
  unfolding reply_to
  absent y h = rw (← absent_cpu (decode m) cpu y None h refl)

  by_cpu : image_refusal time m ≡ 0 → (l : Option ℕ) → l ≡ get_percpu_block (decode m) cpu → group_on m (decode m) cpu (x ∷ xs) l ≡ one_by_one
  unfolding group_on joined
  by_cpu none None h =
      all_refused m cpu time 5 (λ w. omega arith) (λ y. call_on m cpu time none (decode m) m (start m cpu time none) y ∙ absent y h) x xs
  by_cpu none (Some k) h = same_reply m cpu _ _ _ _ (group_alike m cpu time none k h (x ∷ xs))

  by_check : (w : Result (ℕ × ℕ) ℕ) → w ≡ check m time → checked_by m (λ (M : Machine). group_on m M cpu (x ∷ xs) (get_percpu_block M cpu)) w ≡ one_by_one
  unfolding checked_by
  by_check (Err r) e = all_refused m cpu time r (is_refused m time r e) (λ y. sym (call_refused m time (Err r) e r (λ (M : Machine). reply_to m (λ (k j : ℕ). unblock_context k j M) (named M cpu y)) refl refl)) x xs
  by_check (Ok (c, n)) e = by_cpu (call_none m time (Ok (c, n)) e c n refl) (get_percpu_block (decode m) cpu) refl

  pub list_is_singles : group_of m cpu time (x ∷ xs) ≡ one_by_one
  list_is_singles = by_check (check m time) refl

-- the call for a set that is not empty is the single calls one by one, by rising number: accepted, it has their image, the sum of their results
-- and a mark if any has one; refused, it has the least number that any of them meets and keeps every word
pub group_is_singles : (m : List ℕ) (cpu time mask : ℕ) → 0 < mask → mask ≤ max_word
    → unblock_group_call m cpu time mask ≡ joined m (singles m cpu time (members mask)) (image_after m cpu time (members mask))
unfolding unblock_group
group_is_singles m cpu time mask p h =
    subst (λ (xs : List ℕ). group_of m cpu time xs ≡ joined m (singles m cpu time xs) (image_after m cpu time xs)) (sym (members_step mask p (omega arith)))
    (list_is_singles m cpu time (next_cpu mask) (members (rest_cpus mask)))

-- no name is looked at
module _ (m : List ℕ) (cpu time : ℕ) where
  none_on : m ≡ encode (decode m) → (l : Option ℕ) → group_on m (decode m) cpu [] l ≡ none_named m l
  unfolding group_on names_refusal unblock_each replied
  none_on e None = refl
  none_on e (Some k) = ap (reply zero_answer) (sym e)

  none_checked : (w : Result (ℕ × ℕ) ℕ) → w ≡ check m time
      → checked_by m (λ (M : Machine). group_on m M cpu [] (get_percpu_block M cpu)) w ≡ checked_by m (λ (M : Machine). none_named m (get_percpu_block M cpu)) w
  unfolding checked_by
  none_checked (Err r) e = refl
  none_checked (Ok (c, n)) e = none_on (admitted.decoded m (admitted.passed time m (call_none m time (Ok (c, n)) e c n refl))) (get_percpu_block (decode m) cpu)

  -- the empty set: the refusals of the image, the time and the CPU, else nothing changes
  pub empty_group : unblock_group_call m cpu time 0 ≡ checked m time (λ (M : Machine). none_named m (get_percpu_block M cpu))
  unfolding unblock_group
  empty_group = ap (group_of m cpu time) members_none ∙ none_checked (check m time) refl

-- what the call leaves
module _ (a : Answer) (m m' : List ℕ) (cpu time mask : ℕ) (z : a.refusal ≡ 0) where
  left_by : (r : ℕ) (o : Outcome) (b : Answer) (l : List ℕ) → Alike m cpu r o b l → reply a m' ≡ (if eqb r 0 then replied m o else refuse r m) → Unraised (size_c m) (size_n m) m'
  unfolding replied
  left_by r o b l (accepted y t w s) e = record { M = o.machine; is = ap (λ (u : Reply). u.image) (rw (y, t) at e); holds = s.in_range }
  left_by r o b l (crowded y t w N s) e = refused_not 9 m (λ v. omega arith) (rw (y, t) at e) z
  left_by r o b l (refused i w N s) e = refused_not r m (λ v. omega arith) (rw (ne_eqb r 0 (λ v. omega arith)) at e) z

  left_on : image_refusal time m ≡ 0 → (l : Option ℕ) → l ≡ get_percpu_block (decode m) cpu → reply a m' ≡ group_on m (decode m) cpu (members mask) l → Unraised (size_c m) (size_n m) m'
  unfolding group_on
  left_on none None h e = refused_not 5 m (λ v. omega arith) e z
  left_on none (Some k) h e = left_by _ _ _ _ (group_alike m cpu time none k h (members mask)) e

  left_checked : (w : Result (ℕ × ℕ) ℕ) → w ≡ check m time → reply a m' ≡ checked_by m (λ (M : Machine). unblock_group m M cpu mask) w → Unraised (size_c m) (size_n m) m'
  unfolding checked_by unblock_group
  left_checked (Err r) h e = refused_not r m (is_refused m time r h) e z
  left_checked (Ok (c, n)) h e = left_on (call_none m time (Ok (c, n)) h c n refl) (get_percpu_block (decode m) cpu) refl e

pub group_promises : {a : Answer} {m' : List ℕ} (m : List ℕ) (cpu time mask : ℕ) → reply a m' ≡ unblock_group_call m cpu time mask
    → record { image_after : reply a m' ≡ unblock_group_call m cpu time mask; leaves : Leaves max_number m m' a.refusal }
group_promises {a} {m'} m cpu time mask e = record { image_after = e; leaves = record { left = λ z. unraised_left (left_checked a m m' cpu time mask z (check m time) refl e) } }

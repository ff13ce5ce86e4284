-- Operation 4 for a set, and the calls one by one, go through the names side by side. Assumes nothing.
use Rattle.std.specs.Prelude.{if◌then◌else◌, Some}
use mathlib.Core.Path.{◌≡◌, refl, sym, ap, ◌∙◌, subst}
use mathlib.Core.Bool.{Bool, true, false, ◌||◌}
use mathlib.Core.List.{List, [], ◌∷◌}
use Prim.Native.Nat.{ℕ, ◌+◌}
use native.Mathlib.Omega.{arith}
use lib.Dec.{ltb, eqb}
use borrow.Author.Tests.{ne_eqb, lt-ltb, le-ltb}
use Rattle.columns.specs.Common.{mark, fold}
use Rattle.model.proofs.Cases.{pick}
use Rattle.machine.specs.Machine.{Machine}
use Rattle.machine.specs.Encode.{decode}
use Rattle.machine.specs.LookUp.{get_percpu_block}
use Rattle.machine.specs.Outcome.{Outcome, finished}
use Rattle.image.specs.Refusal.{image_refusal}
use Rattle.answer.specs.declared.Answer.{Answer}
use Rattle.context_ops.specs.Named.{named}
use Rattle.context_ops.specs.Operations.{unblock_context}
use Rattle.context_ops.specs.Reply.{Reply, reply, refuse, replied}
use Rattle.group_ops.specs.Group.{first_check, name_refusal, names_refusal, also_unblock, unblock_each}
use Rattle.group_ops.proofs.Unblocking.{mark_either}
use Rattle.calls.specs.Call.{unblock_context_call}
use Rattle.ronthuyal.specs.Singles.{singles, image_after, zero_answer, joined_answer}
use Rattle.ronthuyal.proofs.Reached.{Reached, start, OfName, given, Ends, misnamed, full, done, ends}

-- the order of the checks: names before room
module _ (r q : ℕ) where
  pub check_second : r ≡ 0 → first_check r q ≡ q
  unfolding first_check
  check_second z = rw z

  check_none : OfName r → q ≡ 0 → first_check r q ≡ r
  unfolding first_check
  check_none l z = rw (ne_eqb r 0 (λ w. omega arith), z)

  check_both : OfName r → OfName q → OfName (first_check r q)
  unfolding first_check
  check_both l m = rw (ne_eqb r 0 (λ w. omega arith), ne_eqb q 0 (λ w. omega arith)) (pick OfName (ltb r q) (λ t. l) (λ t. m))

name_before_room : (q : ℕ) → OfName q → first_check 9 q ≡ q
unfolding first_check
name_before_room q l = rw (ne_eqb q 0 (λ w. omega arith), le-ltb 9 q (omega arith))

room_after_name : (r : ℕ) → OfName r → first_check r 9 ≡ r
unfolding first_check
room_after_name r l = rw (ne_eqb r 0 (λ w. omega arith), lt-ltb r 9 (omega arith))

-- once there was no room, the set has no room
stays_full : (k x : ℕ) (o : Outcome) → o.no_room ≡ true → (also_unblock k o x).no_room ≡ true
unfolding also_unblock
stays_full k x o t = ap (λ (b : Bool). b || (unblock_context k x o.machine).no_room) t

joined_given : (o p : Outcome) → joined_answer (given o) (given p) ≡ record { refusal = 0; result = o.result + p.result; interrupt = mark (o.interrupt || p.interrupt); rule = 0 }
unfolding first_check joined_answer
joined_given o p = λ i. record { refusal = 0; result = o.result + p.result; interrupt = mark_either o.interrupt p.interrupt i; rule = 0 }

-- after some of the names. The set has the names' refusal r and the outcome o; the calls have the joined answer a and the image m'
pub data Alike (m : List ℕ) (cpu r : ℕ) (o : Outcome) (a : Answer) (m' : List ℕ) : Type 0 where
  accepted : r ≡ 0 → o.no_room ≡ false → a ≡ given o → Reached m cpu o.machine m' → Alike m cpu r o a m'
  crowded : r ≡ 0 → o.no_room ≡ true → a.refusal ≡ 9 → (N : Machine) → Reached m cpu N m' → Alike m cpu r o a m'
  refused : OfName r → a.refusal ≡ r → (N : Machine) → Reached m cpu N m' → Alike m cpu r o a m'

-- one call more, by how it ends
module _ (m : List ℕ) (cpu k x q : ℕ) (u : Reply) (r : ℕ) (o : Outcome) (a : Answer) where
  abbrev Next : Type 0
  Next = Alike m cpu (first_check r q) (also_unblock k o x) (joined_answer a u.answer) u.image

  after_accepted : r ≡ 0 → o.no_room ≡ false → a ≡ given o → Ends m cpu o.machine k x q u → Next
  unfolding first_check also_unblock joined_answer
  after_accepted z t e (misnamed l w s) =
      refused (subst OfName (sym (check_second r q z)) l) (λ i. first_check ((ap (λ (b : Answer). b.refusal) e ∙ sym z) i) (w i)) o.machine s
  after_accepted z t e (full y f w s) =
      crowded (λ i. first_check (z i) (y i)) (λ i. t i || f i) (λ i. first_check (e i).refusal (w i)) o.machine s
  after_accepted z t e (done y f w s) =
      accepted (λ i. first_check (z i) (y i)) (λ i. t i || f i) ((λ i. joined_answer (e i) (w i)) ∙ joined_given o (unblock_context k x o.machine)) s

  after_crowded : (N : Machine) → r ≡ 0 → o.no_room ≡ true → a.refusal ≡ 9 → Ends m cpu N k x q u → Next
  unfolding first_check joined_answer
  after_crowded N z t e (misnamed l w s) =
      refused (subst OfName (sym (check_second r q z)) l) ((λ i. first_check (e i) (w i)) ∙ name_before_room q l ∙ sym (check_second r q z)) N s
  after_crowded N z t e (full y f w s) = crowded (λ i. first_check (z i) (y i)) (stays_full k x o t) (λ i. first_check (e i) (w i)) N s
  after_crowded N z t e (done y f w s) =
      crowded (λ i. first_check (z i) (y i)) (stays_full k x o t) (λ i. first_check (e i) (w i).refusal) (unblock_context k x N).machine s

  after_refused : (N : Machine) → OfName r → a.refusal ≡ r → Ends m cpu N k x q u → Next
  unfolding joined_answer
  after_refused N l e (misnamed j w s) = refused (check_both r q l j) (λ i. first_check (e i) (w i)) N s
  after_refused N l e (full y f w s) =
      refused (subst OfName (sym (check_none r q l y)) l) ((λ i. first_check (e i) (w i)) ∙ room_after_name r l ∙ sym (check_none r q l y)) N s
  after_refused N l e (done y f w s) =
      refused (subst OfName (sym (check_none r q l y)) l) (λ i. first_check (e i) ((ap (λ (b : Answer). b.refusal) w ∙ sym y) i)) (unblock_context k x N).machine s

module _ (m : List ℕ) (cpu time : ℕ) (none : image_refusal time m ≡ 0) (k : ℕ) (h : Some k ≡ get_percpu_block (decode m) cpu) where
  one_more : (r : ℕ) (o : Outcome) (a : Answer) (m' : List ℕ) (x : ℕ) → Alike m cpu r o a m'
      → Alike m cpu (first_check r (name_refusal (named (decode m) cpu x))) (also_unblock k o x) (joined_answer a (unblock_context_call m' cpu time x).answer) (unblock_context_call m' cpu time x).image
  one_more r o a m' x (accepted z t e s) = after_accepted m cpu k x _ _ r o a z t e (ends m cpu time none o.machine m' s k x h)
  one_more r o a m' x (crowded z t e N s) = after_crowded m cpu k x _ _ r o a N z t e (ends m cpu time none N m' s k x h)
  one_more r o a m' x (refused l e N s) = after_refused m cpu k x _ _ r o a N l e (ends m cpu time none N m' s k x h)

  side_by_side : (xs : List ℕ) (r : ℕ) (o : Outcome) (a : Answer) (m' : List ℕ) → Alike m cpu r o a m'
      → Alike m cpu (fold (λ (i x : ℕ). first_check i (name_refusal (named (decode m) cpu x))) r xs) (fold (also_unblock k) o xs) (fold joined_answer a (singles m' cpu time xs)) (image_after m' cpu time xs)
  unfolding singles image_after
  side_by_side [] r o a m' s = s
  side_by_side (x ∷ xs) r o a m' s = side_by_side xs _ _ _ _ (one_more r o a m' x s)

  pub group_alike : (xs : List ℕ) → Alike m cpu (names_refusal (decode m) cpu xs) (unblock_each k xs (decode m)) (fold joined_answer zero_answer (singles m cpu time xs)) (image_after m cpu time xs)
  unfolding names_refusal unblock_each
  group_alike xs = side_by_side xs 0 (finished 0 (decode m)) zero_answer m (accepted refl refl refl (start m cpu time none))

-- a refused call's reply
pub not_joined : (m m' : List ℕ) (r : ℕ) (a : Answer) → (r ≡ 0 → ⊥) → a.refusal ≡ r → refuse r m ≡ (if eqb a.refusal 0 then reply a m' else refuse a.refusal m)
not_joined m m' r a n e = rw (e, ne_eqb r 0 n)

-- after all of the names: the two replies are one
pub same_reply : (m : List ℕ) (cpu r : ℕ) (o : Outcome) (a : Answer) (m' : List ℕ) → Alike m cpu r o a m'
    → (if eqb r 0 then replied m o else refuse r m) ≡ (if eqb a.refusal 0 then reply a m' else refuse a.refusal m)
unfolding replied
same_reply m cpu r o a m' (accepted z t e s) = rw (z, t, e) (ap (reply (given o)) (sym s.is))
same_reply m cpu r o a m' (crowded z t e N s) = rw (z, t, e)
same_reply m cpu r o a m' (refused l e N s) = rw (e, ne_eqb r 0 (λ w. omega arith))

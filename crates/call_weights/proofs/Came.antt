-- From the reply of an accepted call to the machine that its image stands for. Assumes nothing.
use Rattle.std.specs.Prelude.{if◌then◌else◌, None, Option, Some}
use mathlib.Core.Path.{◌≡◌, refl, ap, ◌∙◌, subst}
use mathlib.Core.Bool.{true, false}
use mathlib.Core.List.{List}
use Prim.Native.Nat.{ℕ, ◌<◌}
use native.Mathlib.Omega.{arith}
use lib.Dec.{eqb}
use borrow.Author.Tests.{eqb-false, ne_eqb}
use Rattle.columns.proofs.Tests.{by_test}
use Rattle.cpu_set.specs.Members.{members}
use Rattle.answer.specs.declared.Answer.{Answer}
use Rattle.machine.specs.Machine.{Machine, context_at, cpu_at}
use Rattle.machine.specs.Encode.{encode, decode}
use Rattle.machine.specs.LookUp.{look_up, get_percpu_block}
use Rattle.machine.specs.Outcome.{Outcome}
use Rattle.machine.proofs.Decoded.{decode_encode}
use Rattle.machine.proofs.LookUps.{IsPresent, live, present}
use Rattle.image.specs.Refusal.{size_c, size_n, image_refusal}
use Rattle.image.proofs.Admitted as admitted
use Rattle.model.specs.Accepted.{Call, by_direct_switch, outcome}
use Rattle.model_leaves.proofs.WellFormed.{LiveName, WellFormed}
use Rattle.model_leaves.proofs.Deciding.{TargetFormed, decision_leaves}
use Rattle.model_leaves.proofs.Operations.{drain_leaves}
use Rattle.model_leaves.proofs.Decoding.{well_formed}
use Rattle.context_ops.specs.Named.{named_on, named_context}
use Rattle.context_ops.specs.Operations.{drain_ipi_context_wakeups}
use Rattle.context_ops.specs.Reply.{reply, refuse, replied, reply_to, reply_on}
use Rattle.group_ops.specs.Group.{unblock_each, group_on}
use Rattle.switch_ops.specs.Reply.{refusal, decide_on, decide_by, direct_switch_by}
use Rattle.calls.proofs.Accepts.{refused_not}
use Rattle.ronthuyal.proofs.Leaving.{after, here, is_present, live_name}
use Rattle.ronthuyal.proofs.Reached.{short}
use Rattle.ronthuyal.proofs.OneByOne.{Alike, accepted, crowded, refused, group_alike}

-- an image that passed was left as m', which stands for N; the CPU of the call is present
pub record Came (m m' : List ℕ) (cpu time : ℕ) (N : Machine) : Type 0 where
  pub passed : admitted.Passed time m
  pub present : (cpu_at (decode m) cpu).block.present ≡ true
  pub is : decode m' ≡ N

decodes : {c n : ℕ} (N : Machine) → WellFormed c n N → decode (encode N) ≡ N
decodes N W = decode_encode N (λ k h. short (cpu_at N k) (W.cpu k (omega (arith, W.cpus))))

module _ (a : Answer) (m m' : List ℕ) (time : ℕ) (z : a.refusal ≡ 0) (p : admitted.Passed time m) where
  abbrev c : ℕ
  c = size_c m

  abbrev n : ℕ
  n = size_n m

  abbrev M : Machine
  M = decode m

  W : WellFormed (size_c m) (size_n m) (decode m)
  W = well_formed m p

  -- an operation that leaves the machine well-formed where there was room
  made : (cpu : ℕ) → (cpu_at M cpu).block.present ≡ true → (o : Outcome) → (o.no_room ≡ false → WellFormed c n o.machine) → reply a m' ≡ replied m o → Came m m' cpu time o.machine
  made cpu h o f e =
      let s = after a m m' time z p (λ (N : Machine). WellFormed c n N × (N ≡ o.machine)) o (λ t. (f t, refl)) e in
      record { passed = p; present = h; is = ap decode s.is ∙ decodes s.M s.holds.0 ∙ s.holds.1 }

  -- operations 1 to 3
  on : (cpu k : ℕ) → IsPresent M cpu k → (call : Call) → TargetFormed n M.contexts call → reply a m' ≡ decide_on m M k time call → Came m m' k time (outcome call k time M).machine
  unfolding decide_on
  on cpu k i call t e =
      by_test (eqb (refusal call M k time) 0)
      (λ y. made k (is_present a m m' time z p cpu k i) (outcome call k time M)
      (decision_leaves c n M W k time (here a m m' time z p cpu k i) (is_present a m m' time z p cpu k i) p.words.time_most call t) (rw y at e))
      (λ y. refused_not (refusal call M k time) m (eqb-false (refusal call M k time) 0 y) (rw y at e) z)

  pub by : (cpu : ℕ) (call : Call) → TargetFormed n M.contexts call → (l : Option ℕ) → l ≡ get_percpu_block M cpu → reply a m' ≡ decide_by m M time call l
      → Came m m' cpu time (outcome call cpu time M).machine
  unfolding decide_by
  by cpu call t None h e = refused_not 5 m (λ w. omega arith) e z
  by cpu call t (Some k) h e =
      let i = present M cpu k h in subst (λ (j : ℕ). Came m m' j time (outcome call j time M).machine) i.is (on cpu k i call t e)

  pub to : (cpu context : ℕ) (l : Option ℕ) → l ≡ look_up M context → reply a m' ≡ direct_switch_by m M cpu time l → Came m m' cpu time (outcome (by_direct_switch context) cpu time M).machine
  unfolding direct_switch_by
  to cpu context None h e = refused_not 5 m (λ w. omega arith) e z
  to cpu context (Some x) h e =
      let i = live M context x h in
      subst (λ (y : ℕ). Came m m' cpu time (outcome (by_direct_switch y) cpu time M).machine) i.is
      (by cpu (by_direct_switch x) (live_name a m m' time z p context x i) (get_percpu_block M cpu) refl e)

  -- operation 5
  pub drained : (cpu : ℕ) (l : Option ℕ) → l ≡ get_percpu_block M cpu → reply a m' ≡ reply_on m (λ (k : ℕ). drain_ipi_context_wakeups k M) l → Came m m' cpu time (drain_ipi_context_wakeups cpu M).machine
  unfolding reply_on
  drained cpu None h e = refused_not 5 m (λ w. omega arith) e z
  drained cpu (Some k) h e =
      let i = present M cpu k h in
      subst (λ (j : ℕ). Came m m' j time (drain_ipi_context_wakeups j M).machine) i.is
      (made k (is_present a m m' time z p cpu k i) _ (drain_leaves c n M W k (here a m m' time z p cpu k i) (is_present a m m' time z p cpu k i)) e)

  -- f: operation 4, 6 or 7
  module _ (cpu context : ℕ) (f : ℕ → ℕ → Outcome)
      (g : (k x : ℕ) → k < c → (cpu_at M k).block.present ≡ true → LiveName n M.contexts x → (f k x).no_room ≡ false → WellFormed c n (f k x).machine) where
    named_so : (k : ℕ) (i : IsPresent M cpu k) (l : Option ℕ) → l ≡ look_up M context → reply a m' ≡ reply_to m f (named_context M k l) → Came m m' k time (f k context).machine
    unfolding named_context reply_to
    named_so k i None h e = refused_not 5 m (λ w. omega arith) e z
    named_so k i (Some x) h e =
        let j = live M context x h in
        by_test (eqb (context_at M.contexts x).lock 0)
        (λ t. subst (λ (y : ℕ). Came m m' k time (f k y).machine) j.is
        (made k (is_present a m m' time z p cpu k i) (f k x) (g k x (here a m m' time z p cpu k i) (is_present a m m' time z p cpu k i) (live_name a m m' time z p context x j)) (rw t at e)))
        (λ t. refused_not 6 m (λ w. omega arith) (rw t at e) z)

    pub called : (l : Option ℕ) → l ≡ get_percpu_block M cpu → reply a m' ≡ reply_to m f (named_on M context l) → Came m m' cpu time (f cpu context).machine
    unfolding named_on reply_to
    called None h e = refused_not 5 m (λ w. omega arith) e z
    called (Some k) h e =
        let i = present M cpu k h in subst (λ (j : ℕ). Came m m' j time (f j context).machine) i.is (named_so k i (look_up M context) refl e)

  -- the group
  grouped_by : (cpu k : ℕ) → IsPresent M cpu k → (r : ℕ) (o : Outcome) (b : Answer) (l : List ℕ) → Alike m cpu r o b l → reply a m' ≡ (if eqb r 0 then replied m o else refuse r m) → Came m m' k time o.machine
  unfolding replied
  grouped_by cpu k i r o b l (accepted y t w s) e =
      made k (is_present a m m' time z p cpu k i) o (λ u. s.in_range.formed) (rw y at e)
  grouped_by cpu k i r o b l (crowded y t w N s) e = refused_not 9 m (λ v. omega arith) (rw (y, t) at e) z
  grouped_by cpu k i r o b l (refused j w N s) e = refused_not r m (λ v. omega arith) (rw (ne_eqb r 0 (λ v. omega arith)) at e) z

  pub grouped : image_refusal time m ≡ 0 → (cpu mask : ℕ) (l : Option ℕ) → l ≡ get_percpu_block M cpu → reply a m' ≡ group_on m M cpu (members mask) l
      → Came m m' cpu time (unblock_each cpu (members mask) M).machine
  unfolding group_on
  grouped none cpu mask None h e = refused_not 5 m (λ v. omega arith) e z
  grouped none cpu mask (Some k) h e =
      let i = present M cpu k h in
      subst (λ (j : ℕ). Came m m' j time (unblock_each j (members mask) M).machine) i.is (grouped_by cpu k i _ _ _ _ (group_alike m cpu time none k h (members mask)) e)

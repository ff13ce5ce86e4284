-- What an operation leaves of an image that passed the check: the image of a well-formed machine. Assumes nothing.
use Rattle.std.specs.Prelude.{None, Option, Some}
use mathlib.Core.Path.{◌≡◌, refl, sym, ap, subst}
use mathlib.Core.Bool.{true, false}
use Prim.Native.Nat.{ℕ, ◌<◌}
use native.Mathlib.Omega.{arith}
use mathlib.Core.List.{List}
use lib.Dec.{eqb}
use borrow.Author.Tests.{eqb-false}
use Rattle.columns.proofs.Tests.{by_test}
use Rattle.context.specs.declared.Status.{Status}
use Rattle.machine.specs.Machine.{Machine, context_at, cpu_at}
use Rattle.machine.specs.Encode.{encode, decode}
use Rattle.machine.specs.LookUp.{look_up, get_percpu_block}
use Rattle.machine.specs.Outcome.{Outcome}
use Rattle.machine.proofs.LookUps.{IsLive, IsPresent, live, present}
use Rattle.image.specs.Refusal.{size_c, size_n}
use Rattle.image.proofs.Admitted as admitted
use Rattle.model.specs.Accepted.{Call, by_direct_switch, outcome}
use Rattle.model_leaves.proofs.WellFormed.{LiveName, WellFormed}
use Rattle.model_leaves.proofs.Deciding.{TargetFormed, decision_leaves}
use Rattle.model_leaves.proofs.Operations.{unblock_leaves, drain_leaves, block_leaves}
use Rattle.model_leaves.proofs.Decoding.{well_formed}
use Rattle.model_leaves.proofs.Passing.{MachineRaised}
use Rattle.model_leaves.proofs.Raising.{decoded_raised, block_raises_none, drain_raises_none, unblock_raises_none}
use Rattle.answer.specs.declared.Answer.{Answer}
use Rattle.context_ops.specs.Named.{named_on, named_context}
use Rattle.context_ops.specs.Operations.{unblock_context, drain_ipi_context_wakeups, block_with}
use Rattle.context_ops.specs.Reply.{Reply, reply, replied, reply_to, reply_on}
use Rattle.switch_ops.specs.Reply.{refusal, decide_on, decide_by, direct_switch_by}
use Rattle.calls.proofs.Accepts.{refused_not}
use Rattle.numbers.specs.Limits.{max_number}

-- m' stands for a machine of which P holds
pub record StandsFor (P : Machine → Type 0) (m' : List ℕ) : Type 0 where
  pub M : Machine
  pub is : m' ≡ encode M
  pub holds : P M

-- a well-formed machine, and one in which besides no number is over 2^62 - 1
abbrev pub Formed : ℕ → ℕ → List ℕ → Type 0
Formed c n m' = StandsFor (WellFormed c n) m'

pub record InRange (c n : ℕ) (M : Machine) : Type 0 where
  pub formed : WellFormed c n M
  pub raised : MachineRaised max_number c n M

abbrev pub Unraised : ℕ → ℕ → List ℕ → Type 0
Unraised c n m' = StandsFor (InRange c n) m'

abbrev pub unraised_formed : {c n : ℕ} {m' : List ℕ} → Unraised c n m' → Formed c n m'
unraised_formed f = record { M = f.M; is = f.is; holds = f.holds.formed }

-- a call of the image m, which passed, was answered a and left m'
module _ (a : Answer) (m m' : List ℕ) (time : ℕ) (z : a.refusal ≡ 0) (p : admitted.Passed time m) where
  abbrev c : ℕ
  c = size_c m

  abbrev n : ℕ
  n = size_n m

  abbrev M : Machine
  M = decode m

  W : WellFormed c n M
  W = well_formed m p

  -- what a call makes of the machine, if there was room
  pub after : (P : Machine → Type 0) (o : Outcome) → (o.no_room ≡ false → P o.machine) → reply a m' ≡ replied m o → StandsFor P m'
  unfolding replied
  after P o f e =
      by_test o.no_room (λ t. refused_not 9 m (λ w. omega arith) (rw t at e) z)
      (λ t. record { M = o.machine; is = ap (λ (y : Reply). y.image) (rw t at e); holds = f t })

  -- CPU k and context x, as the look-ups found them
  module _ (cpu k : ℕ) (i : IsPresent M cpu k) where
    pub here : k < c
    here = omega (arith, i.is, i.below, W.cpus)

    pub is_present : (cpu_at M k).block.present ≡ true
    is_present = subst (λ (j : ℕ). (cpu_at M j).block.present ≡ true) (sym i.is) i.present

    decided : (call : Call) → TargetFormed n M.contexts call → reply a m' ≡ decide_on m M k time call → Formed c n m'
    unfolding decide_on
    decided call t e =
        by_test (eqb (refusal call M k time) 0)
        (λ y. after (WellFormed c n) (outcome call k time M) (decision_leaves c n M W k time here is_present p.words.time_most call t) (rw y at e))
        (λ y. refused_not (refusal call M k time) m (eqb-false (refusal call M k time) 0 y) (rw y at e) z)

  pub live_name : (context x : ℕ) → IsLive M context x → LiveName n M.contexts x
  live_name context x i = rw i.is (record { below = omega (arith, i.below, W.contexts); live = i.alive })

  -- operations 1 to 3
  pub by : (cpu : ℕ) (call : Call) → TargetFormed n M.contexts call → (l : Option ℕ) → l ≡ get_percpu_block M cpu → reply a m' ≡ decide_by m M time call l → Formed c n m'
  unfolding decide_by
  by cpu call t None h e = refused_not 5 m (λ w. omega arith) e z
  by cpu call t (Some k) h e = decided cpu k (present M cpu k h) call t e

  pub directly : (cpu context : ℕ) (l : Option ℕ) → l ≡ look_up M context → reply a m' ≡ direct_switch_by m M cpu time l → Formed c n m'
  unfolding direct_switch_by
  directly cpu context None h e = refused_not 5 m (λ w. omega arith) e z
  directly cpu context (Some x) h e = by cpu (by_direct_switch x) (live_name context x (live M context x h)) (get_percpu_block M cpu) refl e

  -- operation 5
  pub on : (cpu : ℕ) (l : Option ℕ) → l ≡ get_percpu_block M cpu → reply a m' ≡ reply_on m (λ (k : ℕ). drain_ipi_context_wakeups k M) l → Unraised c n m'
  unfolding reply_on
  on cpu None h e = refused_not 5 m (λ w. omega arith) e z
  on cpu (Some k) h e =
      let i = present M cpu k h in
      after (InRange c n) _
      (λ y. record { formed = drain_leaves c n M W k (here cpu k i) (is_present cpu k i) y; raised = drain_raises_none max_number c n k M (here cpu k i) (decoded_raised m p) }) e

  -- f: operation 4, 6 or 7
  module _ (cpu context : ℕ) (f : ℕ → ℕ → Outcome)
      (g : (k x : ℕ) → k < c → (cpu_at M k).block.present ≡ true → LiveName n M.contexts x → (f k x).no_room ≡ false → InRange c n (f k x).machine) where
    to_context : (k : ℕ) → IsPresent M cpu k → (l : Option ℕ) → l ≡ look_up M context → reply a m' ≡ reply_to m f (named_context M k l) → Unraised c n m'
    unfolding named_context reply_to
    to_context k i None h e = refused_not 5 m (λ w. omega arith) e z
    to_context k i (Some x) h e =
        by_test (eqb (context_at M.contexts x).lock 0)
        (λ t. after (InRange c n) (f k x) (g k x (here cpu k i) (is_present cpu k i) (live_name context x (live M context x h))) (rw t at e))
        (λ t. refused_not 6 m (λ w. omega arith) (rw t at e) z)

    pub to : (l : Option ℕ) → l ≡ get_percpu_block M cpu → reply a m' ≡ reply_to m f (named_on M context l) → Unraised c n m'
    unfolding named_on reply_to
    to None h e = refused_not 5 m (λ w. omega arith) e z
    to (Some k) h e = to_context k (present M cpu k h) (look_up M context) refl e

  pub block_in_range : (s : Status) (k x : ℕ) → LiveName n M.contexts x → InRange c n (block_with s x M).machine
  block_in_range s k x o =
      record { formed = block_leaves c n M W s x o; raised = block_raises_none max_number c n s x M o.below (decoded_raised m p) }

  pub unblock_in_range : (k x : ℕ) → k < c → (cpu_at M k).block.present ≡ true → LiveName n M.contexts x → (unblock_context k x M).no_room ≡ false → InRange c n (unblock_context k x M).machine
  unblock_in_range k x h e o y =
      record { formed = unblock_leaves c n k x M W h e o y; raised = unblock_raises_none max_number c n k x M W.cpus h o.below (decoded_raised m p) }

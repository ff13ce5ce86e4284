-- An accepted call's image passed the check, and its CPU is one of the image's. Assumes nothing.
use Rattle.std.specs.Prelude.{if◌then◌else◌, None, Option, Some, Err, Ok, Result}
use mathlib.Core.Path.{◌≡◌, refl, sym, ap, ◌∙◌}
use mathlib.Core.Bool.{Bool, true, false}
use Prim.Native.Nat.{ℕ, ◌<◌}
use native.Mathlib.Omega.{arith}
use mathlib.Core.List.{List}
use lib.Dec.{eqb}
use lib.ListN.{length}
use Rattle.machine.specs.Machine.{Machine}
use Rattle.machine.specs.Encode.{decode}
use Rattle.machine.specs.LookUp.{look_up, get_percpu_block}
use Rattle.machine.specs.Outcome.{Outcome}
use Rattle.machine.proofs.LookUps.{present}
use Rattle.image.specs.Refusal.{size_c, image_refusal}
use Rattle.image.proofs.Admitted.{passed, decoded_fits}
use Rattle.model.specs.Accepted.{Call, by_tick, by_switch, by_direct_switch}
use Rattle.answer.specs.declared.Answer.{Answer}
use Rattle.context_ops.specs.Named.{named, named_on}
use Rattle.context_ops.specs.Reply.{Reply, reply, refuse, reply_to, reply_on}
use Rattle.switch_ops.specs.Reply.{decide_by, decide, direct_switch_by, direct_switch}
use Rattle.calls.specs.Call.{check, checked, checked_by, switch_call, call}
use Rattle.calls.proofs.Called.{is_refused, call_none}

-- a refused call answers its number
pub refused_not : {C : Type 0} {a : Answer} {m' : List ℕ} (r : ℕ) (m : List ℕ) → (r ≡ 0 → ⊥) → reply a m' ≡ refuse r m → a.refusal ≡ 0 → C
refused_not r m n e z = absurd (n (sym (ap (λ (y : Reply). y.answer.refusal) e) ∙ z))

pub record Accepts (m : List ℕ) (cpu time : ℕ) : Type 0 where
  pub none : image_refusal time m ≡ 0
  pub below : cpu < size_c m

abbrev Below : ℕ → Machine → Type 0
Below cpu M = cpu < length M.cpus

module _ {a : Answer} {m' : List ℕ} (m : List ℕ) (cpu time context : ℕ) (z : a.refusal ≡ 0) where
  on : (M : Machine) (f : ℕ → Outcome) (p : Option ℕ) → p ≡ get_percpu_block M cpu → reply a m' ≡ reply_on m f p → Below cpu M
  unfolding reply_on
  on M f None h e = refused_not 5 m (λ w. omega arith) e z
  on M f (Some k) h e = (present M cpu k h).below

  to : (M : Machine) (f : ℕ → ℕ → Outcome) (p : Option ℕ) → p ≡ get_percpu_block M cpu → reply a m' ≡ reply_to m f (named_on M context p) → Below cpu M
  unfolding reply_to named_on
  to M f None h e = refused_not 5 m (λ w. omega arith) e z
  to M f (Some k) h e = (present M cpu k h).below

  pub by : (M : Machine) (call : Call) (p : Option ℕ) → p ≡ get_percpu_block M cpu → reply a m' ≡ decide_by m M time call p → Below cpu M
  unfolding decide_by
  by M call None h e = refused_not 5 m (λ w. omega arith) e z
  by M call (Some k) h e = (present M cpu k h).below

  directly : (M : Machine) (l : Option ℕ) → reply a m' ≡ direct_switch_by m M cpu time l → Below cpu M
  unfolding direct_switch_by
  directly M None e = refused_not 5 m (λ w. omega arith) e z
  directly M (Some x) e = by M (by_direct_switch x) (get_percpu_block M cpu) refl e

  past_check : (f : Machine → Reply) → ((M : Machine) → reply a m' ≡ f M → Below cpu M) → (w : Result (ℕ × ℕ) ℕ) → w ≡ check m time → reply a m' ≡ checked_by m f w → Accepts m cpu time
  unfolding checked_by
  past_check f g (Err r) h e = refused_not r m (is_refused m time r h) e z
  past_check f g (Ok (c, n)) h e =
      let o = call_none m time (Ok (c, n)) h c n refl
      in record { none = o; below = rw (decoded_fits m (passed time m o)).cpus at (g (decode m) e) }

  through : (f : Machine → Reply) → ((M : Machine) → reply a m' ≡ f M → Below cpu M) → reply a m' ≡ checked m time f → Accepts m cpu time
  through f g e = past_check f g (check m time) refl e

  one_of : (b : Bool) (x y : Reply) → (reply a m' ≡ x → Accepts m cpu time) → (reply a m' ≡ y → Accepts m cpu time) → reply a m' ≡ (if b then x else y) → Accepts m cpu time
  one_of true x y f g e = f e
  one_of false x y f g e = g e

  pub switch_accepts : reply a m' ≡ switch_call m cpu time → Accepts m cpu time
  switch_accepts = through _ (λ M. by M by_switch (get_percpu_block M cpu) refl)

  pub accepts : (operation : ℕ) → reply a m' ≡ call m operation cpu time context → Accepts m cpu time
  unfolding call named
  accepts operation =
      one_of (eqb operation 1) _ _ (through _ (λ M. by M by_tick (get_percpu_block M cpu) refl))
      (one_of (eqb operation 2) _ _ (through _ (λ M. by M by_switch (get_percpu_block M cpu) refl))
      (one_of (eqb operation 3) _ _ (through _ (λ M. directly M (look_up M context)))
      (one_of (eqb operation 4) _ _ (through _ (λ M. to M _ (get_percpu_block M cpu) refl))
      (one_of (eqb operation 5) _ _ (through _ (λ M. on M _ (get_percpu_block M cpu) refl))
      (one_of (eqb operation 6) _ _ (through _ (λ M. to M _ (get_percpu_block M cpu) refl))
      (one_of (eqb operation 7) _ _ (through _ (λ M. to M _ (get_percpu_block M cpu) refl))
      (through _ (λ M e. refused_not 5 m (λ w. omega arith) e z))))))))

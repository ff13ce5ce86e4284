-- A plain call is the call: answer and every word, of any words, operation, CPU, time and context. Assumes nothing.
use Rattle.std.specs.Prelude.{if◌then◌else◌, None, Option, Some, Err, Ok, Result}
use mathlib.Core.Path.{◌≡◌, refl}
use mathlib.Core.Bool.{Bool, true, false}
use mathlib.Core.List.{List, [], ◌∷◌}
use Prim.Native.Nat.{ℕ, suc, ◌<◌}
use native.Mathlib.Omega.{arith}
use lib.Dec.{eqb}
use lib.ListN.{length, get_or}
use Rattle.columns.specs.Common.{All}
use Rattle.percpu.specs.Cpu.{Cpu}
use Rattle.machine.specs.Machine.{Machine, cpu_at, no_cpu}
use Rattle.machine.specs.Encode.{decode}
use Rattle.machine.specs.LookUp.{look_up, get_percpu_block}
use Rattle.machine.specs.Shape.{Fits}
use Rattle.image.proofs.Admitted.{passed, decoded_fits}
use Rattle.model.specs.Accepted.{Call, by_tick, by_switch, by_direct_switch}
use Rattle.context_ops.specs.Reply.{Reply}
use Rattle.switch_ops.specs.Reply.{decide_on, decide_by, direct_switch_by}
use Rattle.calls.specs.Call.{check, checked, checked_by, call}
use Rattle.calls.proofs.Called.{call_none}
use Rattle.plain_model.proofs.Sorted.{Rises, sorted_is}
use Rattle.plain_calls.specs.Call as plain

-- the keys and the timers of a machine that fits rise
all_rise : (ps : List Cpu) → ((i : ℕ) → i < length ps → Rises (get_or ps i no_cpu)) → All Rises ps
all_rise [] h = tt
all_rise (p ∷ ps) h = (h 0 (omega arith), all_rise ps (λ i b. h (suc i) (omega arith)))

rises : {c n : ℕ} (M : Machine) → Fits c n M → All Rises M.cpus
unfolding cpu_at
rises {c} M f =
    all_rise M.cpus
    (λ i b.
    let e : length M.cpus ≡ c = f.cpus in
    let p = f.cpu i (omega arith) in
    record { keys = p.keys_rise; timers = p.timers_rise })

-- on such a machine
module _ (m : List ℕ) (M : Machine) (a : All Rises M.cpus) (cpu time : ℕ) where
  by_is : (call : Call) (p : Option ℕ) → plain.decide_by m M time call p ≡ decide_by m M time call p
  unfolding plain.decide_by decide_by plain.decide_on decide_on
  by_is call None = refl
  by_is call (Some k) = rw (sorted_is call k time M a)

  direct_is : (l : Option ℕ) → plain.direct_switch_by m M cpu time l ≡ direct_switch_by m M cpu time l
  unfolding plain.direct_switch_by direct_switch_by
  direct_is None = refl
  direct_is (Some x) = by_is (by_direct_switch x) (get_percpu_block M cpu)

module _ (m : List ℕ) (time : ℕ) (f g : Machine → Reply) (h : (M : Machine) → All Rises M.cpus → f M ≡ g M) where
  past_check : (w : Result (ℕ × ℕ) ℕ) → w ≡ check m time → checked_by m f w ≡ checked_by m g w
  unfolding checked_by
  past_check (Err r) e = refl
  past_check (Ok (c, n)) e = h (decode m) (rises (decode m) (decoded_fits m (passed time m (call_none m time (Ok (c, n)) e c n refl))))

  checked_is : checked m time f ≡ checked m time g
  checked_is = past_check (check m time) refl

-- the same in the first three cases, and delegated in all others
delegated : (a b c : Bool) {x y z u v w : Reply} (r : Reply) → x ≡ u → y ≡ v → z ≡ w
    → if a then x else if b then y else if c then z else if a then u else if b then v else if c then w else r ≡ if a then u else if b then v else if c then w else r
delegated true b c r p q s = p
delegated false true c r p q s = q
delegated false false true r p q s = s
delegated false false false r p q s = refl

pub plain_is_call : (m : List ℕ) (operation cpu time context : ℕ) → plain.plain_call m operation cpu time context ≡ call m operation cpu time context
unfolding plain.plain_call call
plain_is_call m operation cpu time context =
    delegated (eqb operation 1) (eqb operation 2) (eqb operation 3) _ (checked_is m time _ _ (λ M a. by_is m M a cpu time by_tick (get_percpu_block M cpu)))
    (checked_is m time _ _ (λ M a. by_is m M a cpu time by_switch (get_percpu_block M cpu))) (checked_is m time _ _ (λ M a. direct_is m M a cpu time (look_up M context)))

-- What was read of the image decides whether a call is refused. Assumes nothing.
use mathlib.Core.Path.{◌≡◌}
use mathlib.Core.Bool.{Bool}
use Prim.Native.Nat.{ℕ}
use mathlib.Core.List.{List}
use Rattle.context.specs.declared.Context.{Context}
use Rattle.percpu.specs.declared.PercpuBlock.{PercpuBlock}
use Rattle.machine.specs.Machine.{Machine, context_at, cpu_at}
use Rattle.machine.specs.Encode.{encode}
use Rattle.machine.specs.Shape.{Fits}
use Rattle.admission.specs.Refusals.{is_locked, decision_locked}

module _ {c n : ℕ} {m : List ℕ} {p : PercpuBlock} (k : ℕ) (hp : (M : Machine) → m ≡ encode M → Fits c n M → p ≡ (cpu_at M k).block) where
  module _ {current sched idle : ℕ} (hc : current ≡ p.current_ctxt) (hs : sched ≡ p.sched_ctxt) (hi : idle ≡ p.idle_ctxt) {a s i : Context}
      (ha : (M : Machine) → m ≡ encode M → Fits c n M → a ≡ context_at M.contexts current)
      (ht : (M : Machine) → m ≡ encode M → Fits c n M → s ≡ context_at M.contexts sched)
      (hj : (M : Machine) → m ≡ encode M → Fits c n M → i ≡ context_at M.contexts idle) where
    pub locked : {r : Bool} → r ≡ is_locked p a s i → (M : Machine) → m ≡ encode M → Fits c n M → r ≡ decision_locked M k
    locked e M f o = let b = hp M f o in rw (e, ha M f o, ht M f o, hj M f o, hc, hs, hi, b)

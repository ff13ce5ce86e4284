-- The bounds after a call, from what the code has read. Assumes nothing.
use mathlib.Core.Path.{◌≡◌, refl, ap, ◌∙◌}
use mathlib.Core.Bool.{Bool}
use Prim.Native.Nat.{ℕ, ◌-◌, ◌<◌, ◌≤◌, min}
use native.Mathlib.Omega.{arith}
use lib.Dec.{ltb}
use borrow.Author.Tests.{lt-ltb, le-ltb, le-leb, lt-leb, ltb-true, ltb-false}
use Rattle.columns.proofs.Tests.{by_test}
use Rattle.percpu.specs.declared.PercpuBlock.{PercpuBlock}
use Rattle.machine.specs.Machine.{Machine, cpu_at}
use Rattle.numbers.specs.Limits.{max_elapsed}
use Rattle.growth.specs.declared.Bounds.{Bounds}
use Rattle.growth.specs.Growth.{after_turn, capped, may_steal, call_bounds}

pub capped_is : (e : ℕ) {r : ℕ} → r ≡ min e max_elapsed → (r ≡ capped e) × (r ≤ max_elapsed)
capped_is e h =
    (h ∙ by_test (ltb max_elapsed e) (λ t. rw t (omega (arith, ltb-true max_elapsed e t))) (λ t. rw t (omega (arith, ltb-false max_elapsed e t))), omega (arith, h))

module _ (c : ℕ) (M : Machine) (operation cpu time : ℕ) (b : Bounds) (k : ℕ) (is : k ≡ cpu) where
  pub no_such_cpu : c ≤ k → b ≡ call_bounds c M operation cpu time b
  unfolding call_bounds
  no_such_cpu h = rw (le-leb c cpu (omega arith)) refl

  pub no_turn : k < c → 3 < operation → b ≡ call_bounds c M operation cpu time b
  unfolding call_bounds
  no_turn h o = rw (lt-leb c cpu (omega arith), lt-ltb 3 operation o) refl

  pub a_turn : k < c → operation ≤ 3 → (p : PercpuBlock) (d e : ℕ) (s : Bool) (r : Bounds) → p ≡ (cpu_at M k).block → d ≡ time - p.schedule_time → e ≡ capped d → s ≡ may_steal c p
      → r ≡ after_turn b time e s → r ≡ call_bounds c M operation cpu time b
  unfolding call_bounds
  a_turn h o p d e s r hp hd he hs hr =
      rw (lt-leb c cpu (omega arith), le-ltb 3 operation o)
      (hr ∙ (λ i. after_turn b time ((he ∙ ap capped hd) i) (hs i)) ∙ ap (λ (q : PercpuBlock). after_turn b time (capped (time - q.schedule_time)) (may_steal c q)) (hp ∙ ap (λ (j : ℕ). (cpu_at M j).block) is))

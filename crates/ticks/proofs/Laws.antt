-- Laws of the tick count. Assumes nothing.
use mathlib.Core.Path.{◌≡◌, refl, sym, ap, ◌∙◌}
use Prim.Native.Nat.{ℕ, ◌+◌, ◌*◌, ◌/◌, ◌%◌, ◌<◌, ◌≤◌}
use native.Mathlib.Omega.{arith}
use native.Mathlib.Nat.{div-add-mod', mul-add-div_right, mul-add-mod_self_right, add-mul, mul_assoc, mul_comm}
use Rattle.ticks.specs.Ticks.{ticks, remainder, nanos_per_tick, scale, max_ticks, max_remainder}
use Rattle.numbers.specs.Limits.{max_elapsed}

-- no time and nothing carried give nothing
pub ticks_zero : ticks 0 0 ≡ 0
unfolding ticks
ticks_zero = refl

-- nothing is lost: what was given and what is left are what came in
pub conserved : (elapsed carried : ℕ) → ticks elapsed carried * nanos_per_tick + remainder elapsed carried ≡ elapsed * scale + carried
unfolding ticks remainder
conserved elapsed carried = div-add-mod' (elapsed * scale + carried) nanos_per_tick

-- for every elapsed time that is not refused
pub ticks_high : (e c : ℕ) → e ≤ max_elapsed → c ≤ max_remainder → ticks e c ≤ max_ticks
unfolding ticks
ticks_high e c h l = omega arith

pub remainder_low : (e c : ℕ) → remainder e c ≤ max_remainder
unfolding remainder
remainder_low e c = omega arith

-- a quotient and a remainder may be scaled apart
module _ (e s n c : ℕ) where
  regroup : (q r : ℕ) → q * s * n + (r * s + c) ≡ (q * n + r) * s + c
  regroup q r = rw (add-mul, mul_assoc, mul_comm s n, ← mul_assoc) (omega arith)

  apart : e / n * s * n + (e % n * s + c) ≡ e * s + c
  apart = regroup (e / n) (e % n) ∙ ap (λ (x : ℕ). x * s + c) (div-add-mod' e n)

  pub scaled : 0 < n → e / n * s + (e % n * s + c) / n ≡ (e * s + c) / n
  scaled h = sym (mul-add-div_right h (e / n * s) (e % n * s + c)) ∙ ap (λ (x : ℕ). x / n) apart

  pub left_over : (e % n * s + c) % n ≡ (e * s + c) % n
  left_over = sym (mul-add-mod_self_right (e / n * s) n (e % n * s + c)) ∙ ap (λ (x : ℕ). x % n) apart

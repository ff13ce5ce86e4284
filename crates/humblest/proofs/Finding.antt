-- The answer, from what the check, the look-ups and the search said. Assumes nothing.
use Rattle.std.specs.Prelude.{Err, Ok, Result}
use mathlib.Core.Path.{◌≡◌, refl, sym, ap, ◌∙◌, subst}
use mathlib.Core.Bool.{true, false}
use mathlib.Core.List.{List}
use Prim.Native.Nat.{ℕ, ◌<◌, ◌≤◌}
use native.Mathlib.Omega.{arith}
use lib.ListN.{length}
use Rattle.machine.specs.Machine.{Machine, context_at, cpu_at}
use Rattle.machine.specs.Encode.{encode, decode, max_image_size}
use Rattle.machine.specs.Shape.{Fits, Image}
use Rattle.machine.proofs.Steps.{sized}
use Rattle.image.specs.Refusal.{size_c, size_n, image_refusal}
use Rattle.image.proofs.Admitted.{passed, decoded, decoded_fits, admitted}
use Rattle.calls.specs.Call.{check}
use Rattle.calls.proofs.Called.{is_passed}
use Rattle.candidate.specs.Candidate.{candidate}
use Rattle.candidate.proofs.Apart.{IsCandidate, is_candidate}
use Rattle.priority_trial.specs.Ready.{Ready}
use Rattle.priority_trial.specs.Works.{works}
use Rattle.humblest.specs.declared.Humblest.{Humblest}
use Rattle.humblest.specs.Humblest.{refused, priorities, greatest, humblest_of, humblest_by, humblest}

-- what `Found` says of an image that passed
pub ready_for : {c n k x : ℕ} (m : List ℕ) (time cpu context : ℕ) → image_refusal time m ≡ 0 → c ≡ size_c m → n ≡ size_n m
    → Ok (k, x) ≡ candidate (decode m) cpu context → Ready m c n k time x
ready_for {c} {n} {k} {x} m time cpu context z hc hn e =
    let o = is_candidate (decode m) cpu context k x e in
    let f = decoded_fits m (passed time m z) in
    record {
      none = z;
      cpus = hc;
      contexts = hn;
      cpu_below = omega (arith, o.cpu_is.is, o.cpu_is.below, f.cpus);
      present = subst (λ (j : ℕ). (cpu_at (decode m) j).block.present ≡ true) (sym o.cpu_is.is) o.cpu_is.present;
      below = omega (arith, o.context_is.is, o.context_is.below, f.contexts);
      live = subst (λ (j : ℕ). (context_at (decode m).contexts j).gone ≡ false) (sym o.context_is.is) o.context_is.alive;
    }

-- of an image that passed
module _ {c n : ℕ} (m : List ℕ) (time : ℕ) (p : (image_refusal time m ≡ 0) × (c ≡ size_c m) × (n ≡ size_n m)) where
  pub checked_image : Image c n m
  checked_image = rw (p.1, p.2) (admitted m (passed time m p.0))

  pub fits_longest : length m ≤ max_image_size
  fits_longest = let s = sized checked_image in omega (arith, s.size, s.cpus, s.contexts)

  -- w: the CPU and the context, as the code found them
  module _ (cpu context : ℕ) (w : Result (ℕ × ℕ) ℕ) (f : (M : Machine) → m ≡ encode M → Fits c n M → w ≡ candidate M cpu context) where
    here : w ≡ candidate (decode m) cpu context
    here = let o = passed time m p.0 in f (decode m) (decoded m o) (rw (p.1, p.2) (decoded_fits m o))

    pub not_candidate : (r : ℕ) → w ≡ Err r → {a : Humblest} → a ≡ refused r → a ≡ humblest_of m time (candidate (decode m) cpu context)
    unfolding humblest_of
    not_candidate r e g = rw (← here, e) g

    module _ (k x : ℕ) (e : w ≡ Ok (k, x)) where
      pub ready : Ready m c n k time x
      ready = ready_for m time cpu context p.0 p.1 p.2 (sym e ∙ here)

      pub searched : {a : Humblest} → a ≡ greatest (works m k time x) priorities → a ≡ humblest_of m time (candidate (decode m) cpu context)
      unfolding humblest_of
      searched g = rw (← here, e) g

-- w: what the code's check gave
pub check_passed : (m : List ℕ) (time : ℕ) (w : Result (ℕ × ℕ) ℕ) → w ≡ check m time → (c n : ℕ) → w ≡ Ok (c, n)
    → (image_refusal time m ≡ 0) × (c ≡ size_c m) × (n ≡ size_n m)
check_passed m time w e c n f = let p = is_passed m time c n (sym f ∙ e) in (p.none, p.cpus, p.names)

module _ (m : List ℕ) (cpu time context : ℕ) (w : Result (ℕ × ℕ) ℕ) (e : w ≡ check m time) where
  pub check_refused : (r : ℕ) → w ≡ Err r → {a : Humblest} → a ≡ refused r → a ≡ humblest m cpu time context
  unfolding humblest_by
  check_refused r f g = rw (← e, f) g

  pub check_found : (c n : ℕ) → w ≡ Ok (c, n) → {a : Humblest} → a ≡ humblest_of m time (candidate (decode m) cpu context) → a ≡ humblest m cpu time context
  unfolding humblest_by
  check_found c n f g = rw (← e, f) g

-- The scan's records, and what leaves. Assumes nothing.
use Rattle.std.specs.Prelude.{if◌then◌else◌}
use mathlib.Core.Path.{◌≡◌, refl, sym, ap, ◌∙◌}
use mathlib.Core.Bool.{Bool, true, false}
use Prim.Native.Nat.{ℕ, ◌≤◌}
use native.Mathlib.Omega.{arith}
use lib.ListN.{set, length-set}
use Rattle.context.specs.declared.Context.{Context}
use Rattle.entries.specs.declared.Entry.{Entry}
use Rattle.plain_model.specs.Scan.{stored, given_up, taken, looked_at, scan_step}
use Rattle.select_judge.specs.declared.Visit.{Visit}
use Rattle.select_judge.specs.declared.Visit.TheVariants.{Pass, Gone, Blocked, NoAddrSpace, Ready}
use Rattle.plain_lists.proofs.Arrays.{take_set}
use Rattle.plain_scan.specs.declared.Scan.{Scan}
use Rattle.plain_scan.specs.Scanned.{scan_of, record_in, passed_over, Sound, Grows}
use Rattle.select_judge.specs.declared.Scanner.{Scanner}
use Rattle.select_judge.specs.Values.{visit_of, scanner_cpu}
use Rattle.model.specs.Scan as model
use Rattle.model.specs.Scan.{judge}

pub stored_is : (n : ℕ) (s : Scan) (e : Entry) (x : ℕ) (q : Context) → Sound n s → x ≡ e.context_ref
    → (scan_of n (record { contexts = set s.contexts x q; eligible_best = s.eligible_best; ineligible_best = s.ineligible_best; weight_change = s.weight_change; leaving = s.leaving }) ≡ stored e q (scan_of n s))
    × Grows n 0 0 s (record { contexts = set s.contexts x q; eligible_best = s.eligible_best; ineligible_best = s.ineligible_best; weight_change = s.weight_change; leaving = s.leaving })
stored_is n s e x q o h = (
  rw (take_set s.contexts n x q, h),
  record {
    sound = record { contexts = length-set s.contexts x q ∙ o.contexts; few = o.few; leaving = o.leaving; best = o.best; late = o.late };
    leaving = omega arith;
    weight = omega arith;
  },
)

-- an entry that is looked at
module _ (n : ℕ) (t : Scanner) (e : Entry) (s : Scan) where
  abbrev Looked : Visit → Scan → Type 0
  Looked v r =
      (scan_of n r ≡ looked_at t.cpu_id t.time (scanner_cpu t) t.ineligible_holder (scan_of n s) e (visit_of v)) × Grows n 1 e.weight s r

  pub look_pass : (v : Visit) → v ≡ Pass → Sound n s → Looked v s
  unfolding looked_at
  look_pass v p o = rw p (refl, record { sound = o; leaving = omega arith; weight = omega arith })

  pub look_gone : (v : Visit) {r : Scan} → v ≡ Gone → (scan_of n r ≡ given_up e.weight e (scan_of n s)) × Grows n 1 e.weight s r → Looked v r
  unfolding looked_at
  look_gone v p h = rw p h

  pub look_blocked : (v : Visit) (q : Context) {u r : Scan} (x w : ℕ) (was : Context) → v ≡ Blocked q → (scan_of n u ≡ stored e q (scan_of n s)) × Grows n 0 0 s u
      → was ≡ record_in n s x → x ≡ e.context_ref → w ≡ (if was.is_active then e.weight else 0) → w ≤ e.weight
      → (scan_of n r ≡ given_up w e (scan_of n u)) × Grows n 1 w u r → Looked v r
  unfolding looked_at
  look_blocked v q {u} {r} x w was p (a, g) k y z b (c, h) =
      rw p (
        c ∙ ap (λ (f : model.Scan). given_up w e f) a
            ∙ ap (λ (m : ℕ). given_up m e (stored e q (scan_of n s))) (z ∙ ap (λ (o : Context). if o.is_active then e.weight else 0) (k ∙ ap (record_in n s) y)),
        record { sound = h.sound; leaving = omega (arith, g.leaving, h.leaving); weight = omega (arith, g.weight, h.weight) },
      )

  pub look_space : (v : Visit) (q : Context) {r : Scan} → v ≡ NoAddrSpace q → (scan_of n r ≡ stored e q (scan_of n s)) × Grows n 0 0 s r → Looked v r
  unfolding looked_at
  look_space v q p (a, g) = rw p (a, record { sound = g.sound; leaving = omega (arith, g.leaving); weight = omega (arith, g.weight) })

  pub look_ready : (v : Visit) (q : Context) {u r : Scan} → v ≡ Ready q → (scan_of n u ≡ stored e q (scan_of n s)) × Grows n 0 0 s u
      → (scan_of n r ≡ taken t.cpu_id t.time (scanner_cpu t) t.ineligible_holder e (scan_of n u)) × Grows n 0 0 u r → Looked v r
  unfolding looked_at
  look_ready v q {u} {r} p (a, g) (c, h) =
      rw p (
        c ∙ ap (λ (f : model.Scan). taken t.cpu_id t.time (scanner_cpu t) t.ineligible_holder e f) a,
        record { sound = h.sound; leaving = omega (arith, g.leaving, h.leaving); weight = omega (arith, g.weight, h.weight) },
      )

  abbrev Stepped : Scan → Type 0
  Stepped r = (scan_of n r ≡ scan_step t.cpu_id t.time (scanner_cpu t) t.ineligible_holder (scan_of n s) e) × Grows n 1 e.weight s r

  pub step_passes : {b : Bool} → Sound n s → b ≡ passed_over n t s e → b ≡ true → Stepped s
  unfolding passed_over scan_step
  step_passes o p q = (rw (sym p ∙ q), record { sound = o; leaving = omega arith; weight = omega arith })

  pub step_looks : {b : Bool} (v : Visit) {r : Scan} (q : Context) → b ≡ passed_over n t s e → b ≡ false → q ≡ record_in n s e.context_ref
      → visit_of v ≡ judge t.cpu_id t.time (scanner_cpu t) q e → Looked v r → Stepped r
  unfolding passed_over scan_step
  step_looks v q p f k j (a, g) = (a ∙ rw (sym p ∙ f, j, k), g)

-- Refusals 10 and 11 with one more cue in line, which is offered. Assumes nothing.
use Rattle.std.specs.Prelude.{if◌then◌else◌}
use mathlib.Core.Path.{◌≡◌, sym, ap, ◌∙◌}
use mathlib.Core.Bool.{Bool, true, false, ◌&&◌, ◌||◌, not}
use Prim.Native.Nat.{ℕ, ◌-◌}
use native.Mathlib.Omega.{arith}
use mathlib.Core.List.{List, [], ◌∷◌, ◌++◌}
use lib.Dec.{ltb, leb, eqb}
use lib.ListN.{length}
use borrow.Author.Tests.{eqb-false, not-false}
use Rattle.columns.specs.Common.{tabulate}
use Rattle.columns.proofs.Tests.{by_test, and_no, past}
use Rattle.columns.proofs.Tabulate.{length_tabulate}
use Rattle.board.specs.Board.{Cue, row_size}
use Rattle.cue_line.specs.Line.{rows_fit, all_rows_fit, starts_rise, line_refusal}
use Rattle.cue_line.proofs.Lined.{last_start, fit_snoc, rise_snoc, last_at}

-- a line that is not refused
pub record Orderly (l : List Cue) : Type 0 where
  pub fit : all_rows_fit l ≡ true
  pub rise : starts_rise l ≡ true

pub orderly : (l : List Cue) → line_refusal l ≡ 0 → Orderly l
unfolding line_refusal
orderly l e =
    let p = past (not (all_rows_fit l)) 10 (if not (starts_rise l) then 11 else 0) (λ z. omega arith) e in
    let q = past (not (starts_rise l)) 11 0 (λ z. omega arith) p.1 in
    record { fit = not-false _ p.0; rise = not-false _ q.0 }

pub orderly_refusal : (l : List Cue) → Orderly l → line_refusal l ≡ 0
unfolding line_refusal
orderly_refusal l o = rw (o.fit, o.rise)

later_is : (n start : ℕ) (f : ℕ → Cue) → (eqb n 0 || ltb (f (n - 1)).start start) ≡ (eqb (length (tabulate n f)) 0 || ltb (last_start (tabulate n f)) start)
later_is n start f =
    by_test (eqb n 0) (λ t. rw (length_tabulate n f, t))
    (λ t. let z : n ≡ 0 → ⊥ = eqb-false n 0 t in rw (length_tabulate n f, t, last_at f n (omega arith)))

-- the tests of the code: fits, of the two lengths; later, of the start
module _ (n : ℕ) (f : ℕ → Cue) (start first second : ℕ) (q : Cue) (a : q.start ≡ start) (b : q.first_length ≡ first) (c : q.second_length ≡ second) (fits : Bool) (g : fits ≡ (leb first row_size && leb second row_size)) where
  rows_are : rows_fit q ≡ fits
  unfolding rows_fit
  rows_are = rw (b, c) (sym g)

  pub offered_long : fits ≡ false → 10 ≡ line_refusal (tabulate n f ++ (q ∷ []))
  unfolding line_refusal
  offered_long z = rw (fit_snoc (tabulate n f) q ∙ and_no (all_rows_fit (tabulate n f)) (rows_fit q) (rows_are ∙ z))

  module _ (z : fits ≡ true) (r : ℕ) (s : r ≡ line_refusal (tabulate n f)) where
    fit_with : all_rows_fit (tabulate n f ++ (q ∷ [])) ≡ (all_rows_fit (tabulate n f) && true)
    fit_with = fit_snoc (tabulate n f) q ∙ ap (λ (t : Bool). all_rows_fit (tabulate n f) && t) (rows_are ∙ z)

    pub stored_refused : (r ≡ 0 → ⊥) → r ≡ line_refusal (tabulate n f ++ (q ∷ []))
    unfolding line_refusal
    stored_refused u =
        by_test (all_rows_fit (tabulate n f))
        (λ t. by_test (starts_rise (tabulate n f)) (λ v. absurd (u (s ∙ rw (t, v)))) (λ v. s ∙ rw (t, v, fit_with, t, rise_snoc (tabulate n f) q, v)))
        (λ t. s ∙ rw (t, fit_with, t))

    module _ (u : r ≡ 0) (later : Bool) (w : later ≡ (eqb n 0 || ltb (f (n - 1)).start start)) where
      rise_with : starts_rise (tabulate n f ++ (q ∷ [])) ≡ later
      rise_with = rise_snoc (tabulate n f) q ∙ rw ((orderly (tabulate n f) (sym s ∙ u)).rise, a, ← later_is n start f) (sym w)

      pub offered_early : later ≡ false → 11 ≡ line_refusal (tabulate n f ++ (q ∷ []))
      unfolding line_refusal
      offered_early v = rw (fit_with, (orderly (tabulate n f) (sym s ∙ u)).fit, rise_with, v)

      pub offered_well : later ≡ true → 0 ≡ line_refusal (tabulate n f ++ (q ∷ []))
      unfolding line_refusal
      offered_well v = rw (fit_with, (orderly (tabulate n f) (sym s ∙ u)).fit, rise_with, v)

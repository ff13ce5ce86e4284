-- One more cue in line. Assumes nothing.
use mathlib.Core.Path.{◌≡◌, refl, sym, ap, ◌∙◌}
use mathlib.Core.Bool.{Bool, true, false, ◌&&◌, ◌||◌}
use Prim.Native.Nat.{ℕ, zero, suc, ◌+◌, ◌-◌, ◌<◌}
use native.Mathlib.Omega.{arith}
use native.Mathlib.Numerals.{add-one}
use mathlib.Core.List.{List, [], ◌∷◌, ◌++◌}
use lib.Dec.{ltb, eqb, eqb-suc-zero}
use lib.ListN.{length}
use Rattle.columns.specs.Common.{tabulate, every}
use Rattle.columns.proofs.Tabulate.{length_tabulate}
use Rattle.board.specs.Board.{Cue}
use Rattle.cue_line.specs.Line.{rows_fit, all_rows_fit, is_before, starts_rise}

and_true : (a : Bool) → (a && true) ≡ a
and_true true = refl
and_true false = refl

and_assoc : (a b c : Bool) → (a && (b && c)) ≡ ((a && b) && c)
and_assoc true b c = refl
and_assoc false b c = refl

pub tabulate_snoc : {A : Type 0} (n : ℕ) (f : ℕ → A) → tabulate (suc n) f ≡ tabulate n f ++ (f n ∷ [])
unfolding tabulate
tabulate_snoc zero f = refl
tabulate_snoc (suc n) f = ap (λ (l : List _). f zero ∷ l) (tabulate_snoc n (λ (i : ℕ). f (suc i)))

pub fit_snoc : (l : List Cue) (q : Cue) → all_rows_fit (l ++ (q ∷ [])) ≡ (all_rows_fit l && rows_fit q)
unfolding all_rows_fit
fit_snoc [] q = and_true (rows_fit q)
fit_snoc (p ∷ l) q = ap (λ (t : Bool). rows_fit p && t) (fit_snoc l q) ∙ and_assoc (rows_fit p) (all_rows_fit l) (rows_fit q)

-- the start of the last in line, 0 if there is none
unfoldable pub last_start : List Cue → ℕ
last_start [] = 0
last_start (p ∷ []) = p.start
last_start (p ∷ (r ∷ l)) = last_start (r ∷ l)

pub last_snoc : (l : List Cue) (q : Cue) → last_start (l ++ (q ∷ [])) ≡ q.start
unfolding last_start
last_snoc [] q = refl
last_snoc (p ∷ []) q = refl
last_snoc (p ∷ (r ∷ l)) q = last_snoc (r ∷ l) q

pub rise_snoc : (l : List Cue) (q : Cue) → starts_rise (l ++ (q ∷ [])) ≡ (starts_rise l && (eqb (length l) 0 || ltb (last_start l) q.start))
unfolding starts_rise is_before last_start
rise_snoc [] q = refl
rise_snoc (p ∷ []) q = and_true (ltb p.start q.start)
rise_snoc (p ∷ (r ∷ l)) q =
    let later : Bool = ltb (last_start (r ∷ l)) q.start
    in let e : (eqb (suc (length l)) 0 || later) ≡ (eqb (suc (suc (length l))) 0 || later) = rw (eqb-suc-zero (length l), eqb-suc-zero (suc (length l)))
    in ap (λ (t : Bool). ltb p.start r.start && t) (rise_snoc (r ∷ l) q ∙ ap (λ (t : Bool). starts_rise (r ∷ l) && t) e)
    ∙ and_assoc (ltb p.start r.start) (starts_rise (r ∷ l)) (eqb (suc (suc (length l))) 0 || later)

-- of n cues that are found one by one
module _ (f : ℕ → Cue) where
  pub fit_every : (n : ℕ) → all_rows_fit (tabulate n f) ≡ every (λ (i : ℕ). rows_fit (f i)) n
  unfolding all_rows_fit tabulate every
  fit_every zero = refl
  fit_every (suc n) = ap all_rows_fit (tabulate_snoc n f) ∙ fit_snoc (tabulate n f) (f n) ∙ ap (λ (t : Bool). t && rows_fit (f n)) (fit_every n)

  pub rise_next : (i last start : ℕ) (rise r : Bool) → rise ≡ starts_rise (tabulate i f) → last ≡ last_start (tabulate i f) → start ≡ (f i).start
      → r ≡ (rise && (eqb i 0 || ltb last start)) → r ≡ starts_rise (tabulate (i + 1) f)
  rise_next i last start rise r a b c e =
      e ∙ rw (a, b, c)
      (sym (rw (add-one i, tabulate_snoc i f) (rise_snoc (tabulate i f) (f i) ∙ rw (length_tabulate i f))))

  pub last_next : (i start : ℕ) → start ≡ (f i).start → start ≡ last_start (tabulate (i + 1) f)
  last_next i start e = e ∙ sym (rw (add-one i, tabulate_snoc i f) (last_snoc (tabulate i f) (f i)))

  pub last_at : (n : ℕ) → 0 < n → last_start (tabulate n f) ≡ (f (n - 1)).start
  last_at zero h = absurd (omega arith)
  last_at (suc m) h = let e : suc m - 1 ≡ m = omega arith in rw (tabulate_snoc m f) (last_snoc (tabulate m f) (f m) ∙ sym (ap (λ (j : ℕ). (f j).start) e))

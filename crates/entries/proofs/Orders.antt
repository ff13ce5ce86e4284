-- Orders that go by one number and then by the next. Assumes nothing.
use mathlib.Core.Path.{◌≡◌, refl}
use mathlib.Core.Bool.{Bool, true, false, ◌&&◌, ◌||◌}
use Prim.Native.Nat.{ℕ, ◌≤◌}
use native.Mathlib.Omega.{arith}
use Rattle.std.proofs.lemmas.Bool.Decides.{nat_tests}
use Rattle.std.specs.Prelude.{Option, Some}
use Rattle.std.specs.Ordering.{is_some_and, is_lt, partial_ordering_then}
use Rattle.std.specs.declared.cmp.Ordering.{Ordering}
use Rattle.std.specs.declared.cmp.Ordering.TheVariants.{Less, Equal, Greater}
use mathlib.Core.Bool.{cond}
use lib.Dec.{ltb, eqb}
use borrow.Author.Tests.{ltb-true, eqb-true, lt-ltb, le-ltb, eq-eqb, ne_eqb}
use Rattle.entries.specs.declared.Key.{Key}
use Rattle.entries.specs.declared.Timer.{Timer}
use Rattle.entries.specs.Order.{before, sooner}

-- what the library's order of rows of numbers says: where the first are the same the rest decides, else they do
abbrev compared : Bool → Bool → Option Ordering
compared less same = Some (cond less Less (cond same Equal Greater))

last_lt : (l e : Bool) → is_some_and is_lt (compared l e) ≡ l
last_lt true e = refl
last_lt false true = refl
last_lt false false = refl

pub lt_of_two : (l e m f : Bool) → is_some_and is_lt (partial_ordering_then (compared l e) (compared m f)) ≡ (l || (e && m))
lt_of_two true e m f = refl
lt_of_two false true m f = last_lt m f
lt_of_two false false m f = refl

pub lt_of_three : (l e m f n g : Bool) → is_some_and is_lt (partial_ordering_then (partial_ordering_then (compared l e) (compared m f)) (compared n g)) ≡ (l || (e && (m || (f && n))))
lt_of_three true e m f n g = refl
lt_of_three false true true f n g = refl
lt_of_three false true false true n g = last_lt n g
lt_of_three false true false false n g = refl
lt_of_three false false m f n g = refl

pub same_swapped : (x y : ℕ) → eqb x y ≡ eqb y x
same_swapped x y = grind (arith, nat_tests)

lex_asym : (l l' e e' p p' : Bool) → (l ≡ true → (l' ≡ false) × (e' ≡ false)) → (e ≡ true → l' ≡ false) → (p ≡ true → p' ≡ false) → (l || (e && p)) ≡ true → (l' || (e' && p')) ≡ false
lex_asym true l' e e' p p' f g k h = rw ((f refl).0, (f refl).1)
lex_asym false l' true e' p p' f g k h = rw (g refl, k h) (none e')
  where
    none : (b : Bool) → (b && false) ≡ false
    none true = refl
    none false = refl
lex_asym false l' false e' p p' f g k h = let z : ◌≡◌ {A = ℕ} 0 1 = cc in absurd (omega arith)

or_true : (b : Bool) → (b || true) ≡ true
or_true true = refl
or_true false = refl

lex_trans : (l e p l' e' p' l'' e'' p'' : Bool) → (l ≡ true → l' ≡ true → l'' ≡ true) → (l ≡ true → e' ≡ true → l'' ≡ true) → (e ≡ true → l' ≡ true → l'' ≡ true) → (e ≡ true → e' ≡ true → e'' ≡ true) → (p ≡ true → p' ≡ true → p'' ≡ true) → (l || (e && p)) ≡ true → (l' || (e' && p')) ≡ true → (l'' || (e'' && p'')) ≡ true
lex_trans true e p true e' p' l'' e'' p'' ll le el ee pp h k = rw (ll refl refl)
lex_trans true e p false true p' l'' e'' p'' ll le el ee pp h k = rw (le refl refl)
lex_trans true e p false false p' l'' e'' p'' ll le el ee pp h k = let z : ◌≡◌ {A = ℕ} 0 1 = cc in absurd (omega arith)
lex_trans false true p true e' p' l'' e'' p'' ll le el ee pp h k = rw (el refl refl)
lex_trans false true p false true p' l'' e'' p'' ll le el ee pp h k = rw (ee refl refl, pp h k) (or_true l'')
lex_trans false true p false false p' l'' e'' p'' ll le el ee pp h k = let z : ◌≡◌ {A = ℕ} 0 1 = cc in absurd (omega arith)
lex_trans false false p l' e' p' l'' e'' p'' ll le el ee pp h k = let z : ◌≡◌ {A = ℕ} 0 1 = cc in absurd (omega arith)

module _ (x y : ℕ) where
  less : ltb x y ≡ true → (ltb y x ≡ false)
  less h = le-ltb y x (omega (arith, ltb-true x y h))

  less_apart : ltb x y ≡ true → (eqb y x ≡ false)
  less_apart h = ne_eqb y x (λ e. omega (arith, ltb-true x y h))

  less_apart' : ltb x y ≡ true → (eqb x y ≡ false)
  less_apart' h = ne_eqb x y (λ e. omega (arith, ltb-true x y h))

  same : eqb x y ≡ true → ltb y x ≡ false
  same h = le-ltb y x (omega (arith, eqb-true x y h))

  same' : eqb x y ≡ true → ltb x y ≡ false
  same' h = le-ltb x y (omega (arith, eqb-true x y h))

module _ (x y z : ℕ) where
  less_less : ltb x y ≡ true → ltb y z ≡ true → ltb x z ≡ true
  less_less h k = lt-ltb x z (omega (arith, ltb-true x y h, ltb-true y z k))

  less_same : ltb x y ≡ true → eqb y z ≡ true → ltb x z ≡ true
  less_same h k = lt-ltb x z (omega (arith, ltb-true x y h, eqb-true y z k))

  same_less : eqb x y ≡ true → ltb y z ≡ true → ltb x z ≡ true
  same_less h k = lt-ltb x z (omega (arith, eqb-true x y h, ltb-true y z k))

  same_same : eqb x y ≡ true → eqb y z ≡ true → eqb x z ≡ true
  same_same h k = eq-eqb x z (omega (arith, eqb-true x y h, eqb-true y z k))

  -- the same for an order that falls
  fall_fall : ltb y x ≡ true → ltb z y ≡ true → ltb z x ≡ true
  fall_fall h k = lt-ltb z x (omega (arith, ltb-true y x h, ltb-true z y k))

  fall_level : ltb y x ≡ true → eqb y z ≡ true → ltb z x ≡ true
  fall_level h k = lt-ltb z x (omega (arith, ltb-true y x h, eqb-true y z k))

  level_fall : eqb x y ≡ true → ltb z y ≡ true → ltb z x ≡ true
  level_fall h k = lt-ltb z x (omega (arith, eqb-true x y h, ltb-true z y k))

pub before_asym : (a b : Key) → before a b ≡ true → before b a ≡ false
unfolding before
before_asym a b =
    lex_asym _ _ _ _ _ _ (λ h. (less a.vd b.vd h, less_apart a.vd b.vd h)) (same a.vd b.vd)
    (lex_asym _ _ _ _ _ _ (λ h. (less b.rem_slice a.rem_slice h, less_apart' b.rem_slice a.rem_slice h)) (same' a.rem_slice b.rem_slice)
    (less a.ctxt_id b.ctxt_id))

pub sooner_asym : (a b : Timer) → sooner a b ≡ true → sooner b a ≡ false
unfolding sooner
sooner_asym a b =
    lex_asym _ _ _ _ _ _ (λ h. (less a.wake b.wake h, less_apart a.wake b.wake h)) (same a.wake b.wake)
    (less a.context_ref b.context_ref)

pub before_trans : (a b c : Key) → before a b ≡ true → before b c ≡ true → before a c ≡ true
unfolding before
before_trans a b c =
    lex_trans _ _ _ _ _ _ _ _ _ (less_less a.vd b.vd c.vd) (less_same a.vd b.vd c.vd) (same_less a.vd b.vd c.vd) (same_same a.vd b.vd c.vd)
    (lex_trans _ _ _ _ _ _ _ _ _ (fall_fall a.rem_slice b.rem_slice c.rem_slice) (fall_level a.rem_slice b.rem_slice c.rem_slice) (level_fall a.rem_slice b.rem_slice c.rem_slice) (same_same a.rem_slice b.rem_slice c.rem_slice)
    (less_less a.ctxt_id b.ctxt_id c.ctxt_id))

pub sooner_trans : (a b c : Timer) → sooner a b ≡ true → sooner b c ≡ true → sooner a c ≡ true
unfolding sooner
sooner_trans a b c =
    lex_trans _ _ _ _ _ _ _ _ _ (less_less a.wake b.wake c.wake) (less_same a.wake b.wake c.wake) (same_less a.wake b.wake c.wake) (same_same a.wake b.wake c.wake)
    (less_less a.context_ref b.context_ref c.context_ref)

-- the sooner timer has no later wake
pub sooner_wake : (a b : Timer) → sooner a b ≡ true → a.wake ≤ b.wake
unfolding sooner
sooner_wake a b = wakes (ltb a.wake b.wake) (eqb a.wake b.wake) refl refl
  where
    wakes : (l e : Bool) → ltb a.wake b.wake ≡ l → eqb a.wake b.wake ≡ e → (l || (e && ltb a.context_ref b.context_ref)) ≡ true → a.wake ≤ b.wake
    wakes true e hl he h = omega (arith, ltb-true a.wake b.wake hl)
    wakes false true hl he h = omega (arith, eqb-true a.wake b.wake he)
    wakes false false hl he h = let z : ◌≡◌ {A = ℕ} 0 1 = cc in absurd (omega arith)

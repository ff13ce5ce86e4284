-- The test of a victim and the candidates that are listed, by value. Assumes nothing.
use Rattle.std.proofs.Common.{◌≡◌, ℕ, ◌+◌, ◌<◌, ◌≤◌, Bool, true, false, leb, [], ◌∷◌, ◌++◌, length, arith, le-leb}
use Rattle.entries.specs.declared.Entry.{Entry}
use Rattle.steal_judge.specs.declared.Candidates.{Candidates}
use Rattle.steal_judge.specs.declared.Candidates.TheVariants.{Nothing, Single, Pair}
use Rattle.steal_judge.specs.Names.{entries_of}
use Rattle.steal_judge.specs.Judged.{has_enough}

module _ (stealable : Bool) (published : ℕ) (locked : Bool) (len load : ℕ) where
  abbrev Enough : Bool → Type 0
  Enough r = r ≡ has_enough stealable published locked len load

  published_enough : load + 1 ≤ published → leb (load + 2) (published + 1) ≡ true
  published_enough f = le-leb (load + 2) (published + 1) (omega arith)

  pub queue_locked : stealable ≡ true → load + 1 ≤ published → locked ≡ true → Enough false
  unfolding has_enough
  queue_locked e f g = rw (e, published_enough f, g)

module _ {got : Candidates} (e : Entry) where
  pub with_none : got ≡ Nothing → entries_of (Single e) ≡ entries_of got ++ (e ∷ [])
  with_none z = rw z

  pub with_single : {a : Entry} → got ≡ Single a → entries_of (Pair a e) ≡ entries_of got ++ (e ∷ [])
  with_single z = rw z

  pub with_pair : {a b : Entry} → got ≡ Pair a b → length (entries_of got) < 2 → entries_of (Pair a b) ≡ entries_of got ++ (e ∷ [])
  with_pair z h = absurd (let y : 2 < 2 = rw z at h in omega arith)

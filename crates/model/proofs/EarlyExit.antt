-- Loops that may be left early: once their end is found, the folds of the definitions stand still.
use Rattle.std.specs.Prelude.{Option}
use mathlib.Core.Path.{◌≡◌, refl}
use mathlib.Core.Bool.{Bool, true, false}
use mathlib.Core.List.{List, [], ◌∷◌}
use Prim.Native.Nat.{ℕ}
use lib.Dec.{ltb}
use lib.ListN.{length}
use Rattle.columns.specs.Common.{fold}
use Rattle.context.specs.declared.Context.{Context}
use Rattle.entries.specs.declared.Entry.{Entry}
use Rattle.model.specs.Steal.{Stealing, take_candidate, steal_from}
-- the scan's: `found_stays` and `scan_until_found_is_fold`
pub use Rattle.model.proofs.Scanned.{found_stays, scan_until_found, scan_until_found_is_fold}

-- a state that no step changes
pub fold_still : {A B : Type 0} (f : B → A → B) (b : B) (l : List A) → ((a : A) → f b a ≡ b) → fold f b l ≡ b
fold_still f b [] k = refl
fold_still f b (x ∷ xs) k = rw (k x) (fold_still f b xs k)

-- enough entries are found
pub enough_stays : (k : ℕ) (locked : List ℕ) (cs : List Context) (w : Option ℕ) (n : ℕ) (got q : List Entry) → ltb (length got) n ≡ false
    → fold (take_candidate k locked cs w n) got q ≡ got
enough_stays k locked cs w n got q t = fold_still (take_candidate k locked cs w n) got q (λ e. rw t)

-- a victim was found
pub done_stays : (k : ℕ) (runs : Bool) (locked : List ℕ) (l : Stealing) (ts : List ℕ) → l.done ≡ true → fold (steal_from k runs locked) l ts ≡ l
unfolding steal_from
done_stays k runs locked l ts t = fold_still (steal_from k runs locked) l ts (λ v. rw t)

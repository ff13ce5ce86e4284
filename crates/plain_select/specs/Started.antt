-- A scan that has not looked at an entry yet. Assumes nothing.
use Rattle.std.specs.Prelude.{◌≡◌, ℕ, ◌<◌, take, [], None, Option, Some}
use Rattle.entries.specs.declared.Entry.{Entry}
use Rattle.select_judge.specs.Values.{BestBelow}
use Rattle.plain_state.specs.declared.State.{State}
use Rattle.plain_scan.specs.declared.Scan.{Scan}
use Rattle.plain_scan.specs.Scanned.{scan_of, Sound}

pub record Started (n : ℕ) (s : State) (r : Scan) : Type 0 where
  pub sound : Sound n r
  pub is : scan_of n r ≡ record { contexts = take n s.contexts; eligible_best = None; ineligible_best = None; weight_change = 0; contexts_to_remove = [] }
  pub none_leave : r.leaving.len ≡ 0
  pub no_weight : r.weight_change ≡ 0

-- x is the context of the best entry, if there is one
pub record BestContext (best : Option Entry) (x : ℕ) : Type 0 where
  pub below : (n : ℕ) → 0 < n → BestBelow n best → x < n
  pub is : (e : Entry) → best ≡ Some e → x ≡ e.context_ref

-- What the code's scan stands for. Assumes nothing.
use Rattle.std.specs.Prelude.{◌≡◌, Bool, ◌||◌, List, map, ℕ, ◌+◌, ◌*◌, ◌≤◌, length, take}
use Rattle.columns.specs.Common.{fold}
use Rattle.weights.specs.Weights.{max_weight}
use Rattle.context.specs.declared.Context.{Context}
use Rattle.entries.specs.declared.Entry.{Entry}
use Rattle.machine.specs.Machine.{context_at}
use Rattle.model.specs.Scan as model
use Rattle.select_judge.specs.declared.Scanner.{Scanner}
use Rattle.select_judge.specs.Values.{BestBelow, scanner_cpu}
use Rattle.plain_model.specs.Scan.{is_over, is_later, is_locked, scan_step}
use Rattle.plain_lists.specs.Lists.{entries_of, Sized}
use Rattle.plain_scan.specs.declared.Scan.{Scan}

-- of n contexts
abbrev pub scan_of : ℕ → Scan → model.Scan
scan_of n s =
    record {
      contexts = take n s.contexts;
      eligible_best = s.eligible_best;
      ineligible_best = s.ineligible_best;
      weight_change = s.weight_change;
      contexts_to_remove = map (λ (e : Entry). e.key) (entries_of s.leaving);
    }

abbrev pub record_in : ℕ → Scan → ℕ → Context
record_in n s x = context_at (take n s.contexts) x

-- the three flags of the scan, on a CPU at a time
unfoldable pub passed_over : ℕ → Scanner → Scan → Entry → Bool
passed_over n t s e =
    let h = t.ineligible_holder in
    is_over t.cpu_id t.time (scanner_cpu t) h (scan_of n s)
    || (is_later t.cpu_id t.time (scanner_cpu t) h (scan_of n s) e || is_locked t.cpu_id t.time (scanner_cpu t) h (scan_of n s) e)

pub record Sound (n : ℕ) (s : Scan) : Type 0 where
  pub contexts : length s.contexts ≡ 64
  pub few : n ≤ 64
  pub leaving : Sized s.leaving
  pub best : BestBelow n s.eligible_best
  pub late : BestBelow n s.ineligible_best

-- so many entries more leave at most, and so much weight
pub record Grows (n k w : ℕ) (s r : Scan) : Type 0 where
  pub sound : Sound n r
  pub leaving : r.leaving.len ≤ s.leaving.len + k
  pub weight : r.weight_change ≤ s.weight_change + w

-- r is what the scan makes of these entries, one after the other
pub record Ran (n : ℕ) (t : Scanner) (start : model.Scan) (es : List Entry) (r : Scan) : Type 0 where
  pub sound : Sound n r
  pub is : scan_of n r ≡ fold (scan_step t.cpu_id t.time (scanner_cpu t) t.ineligible_holder) start es
  pub leaving : r.leaving.len ≤ length es
  pub weight : r.weight_change ≤ max_weight * length es

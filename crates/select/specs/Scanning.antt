-- What the code's values say of the scan. Assumes nothing.
use Rattle.std.specs.Prelude.{◌≡◌, List, [], ℕ, ◌+◌, ◌*◌, ◌<◌, ◌≤◌, take, None, Option}
use Rattle.context.specs.declared.Context.{Context}
use Rattle.entries.specs.declared.Key.{Key}
use Rattle.entries.specs.declared.Entry.{Entry}
use Rattle.machine.specs.Machine.{Machine, with_contexts}
use Rattle.machine.specs.Encode.{encode}
use Rattle.machine.specs.Shape.{ContextFits, Fits, Image}
use Rattle.model.specs.Scan.{Scan, Visit, pass, gone, blocked, no_addr_space, ready, visit, visited, scan_step, scan}
use Rattle.select_judge.specs.declared.Scanner.{Scanner}
use Rattle.select_judge.specs.declared.Scanned.{Scanned}
use Rattle.select_judge.specs.Values.{BestBelow, scanner_cpu}
use Rattle.weights.specs.Weights.{max_weight}

-- the scan by what the code goes by
module _ (t : Scanner) where
  abbrev pub visit_by : Scan → Entry → Visit
  visit_by s e = visit t.cpu_id t.time (scanner_cpu t) t.ineligible_holder s e

  abbrev pub visited_by : Scan → Entry → Visit → Scan
  visited_by s e v = visited t.cpu_id t.time (scanner_cpu t) t.ineligible_holder s e v

  abbrev pub step_by : Scan → Entry → Scan
  step_by s e = scan_step t.cpu_id t.time (scanner_cpu t) t.ineligible_holder s e

  abbrev pub scan_by : List Context → List Entry → Scan
  scan_by cs q = scan t.cpu_id t.time (scanner_cpu t) t.ineligible_holder cs q

-- what a visit goes by of a scan
abbrev pub seen : List Context → Option Entry → Scan
seen cs late =
    record { contexts = cs; eligible_best = None; ineligible_best = late; weight_change = 0; contexts_to_remove = [] }

-- a record to store is within its ranges
abbrev pub VisitFits : ℕ → Visit → Type 0
VisitFits c pass = Unit {0}
VisitFits c gone = Unit {0}
VisitFits c (blocked q) = ContextFits c q
VisitFits c (no_addr_space q) = ContextFits c q
VisitFits c (ready q) = ContextFits c q

-- the first n of them
abbrev pub keys_in : List Key → ℕ → List Key
keys_in d n = take n d

-- the scan that the code's values stand for, over contexts cs
unfoldable pub found : List Context → Scanned → List Key → Scan
found cs w d =
    record {
      contexts = cs;
      eligible_best = w.eligible_best;
      ineligible_best = w.ineligible_best;
      weight_change = w.weight_change;
      contexts_to_remove = keys_in d w.contexts_to_remove;
    }

-- of one machine M that m stood for: m' stands for M with the contexts of the scan s, and what was found is what s has found
pub record ScansAt (c n : ℕ) (m' : List ℕ) (d : List Key) (w : Scanned) (s : Scan) (M : Machine) : Type 0 where
  pub after : m' ≡ encode (with_contexts s.contexts M)
  pub fits : Fits c n (with_contexts s.contexts M)
  pub same : found s.contexts w d ≡ s

-- m became m', the scratch d, and w was returned
pub record Scans (c n : ℕ) (m m' : List ℕ) (d : List Key) (w : Scanned) (s : Machine → Scan) : Type 0 where
  pub image : Image c n m'
  pub scans : (M : Machine) → m ≡ encode M → Fits c n M → ScansAt c n m' d w (s M) M

-- what was found, with a key more to remove
abbrev pub given_up : Scanned → ℕ → Scanned
given_up w x =
    record {
      eligible_best = w.eligible_best;
      ineligible_best = w.ineligible_best;
      weight_change = w.weight_change + x;
      contexts_to_remove = w.contexts_to_remove + 1;
    }

-- what one entry needs: room for a key, and a sum that cannot wrap
pub record Room (n : ℕ) (w : Scanned) : Type 0 where
  pub nobody : w.eligible_best ≡ None
  pub late : BestBelow n w.ineligible_best
  pub keys : w.contexts_to_remove < 64
  pub sum : w.weight_change ≤ (64 * max_weight)

-- what it may add
pub record Grown (n : ℕ) (w r : Scanned) : Type 0 where
  pub best : BestBelow n r.eligible_best
  pub late : BestBelow n r.ineligible_best
  pub keys : r.contexts_to_remove ≤ w.contexts_to_remove + 1
  pub sum : r.weight_change ≤ w.weight_change + max_weight

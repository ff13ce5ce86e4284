-- The scan goes through all entries. Assumes nothing.
use mathlib.Core.Path.{◌≡◌, refl, sym, ap, ◌∙◌, subst}
use mathlib.Core.List.{List}
use Prim.Native.Nat.{ℕ, ◌≤◌}
use native.Mathlib.Omega.{arith}
use lib.ListN.{length, take}
use Rattle.columns.specs.Common.{All}
use Rattle.entries.specs.declared.Entry.{Entry}
use Rattle.entries.specs.Order.{entry_before}
use Rattle.entries.proofs.Ordered.{entries_ordered}
use Rattle.machine.specs.Shape.{EntryFits}
use Rattle.model.specs.Scan as model
use Rattle.model.proofs.Lists.{all_at, all_in}
use Rattle.select_judge.specs.declared.Scanner.{Scanner}
use Rattle.plain_model.specs.Rank.{by_rank}
use Rattle.plain_model.proofs.Ranked.{in_by_rank}
use Rattle.plain_lists.specs.Lists.{Queue}
use Rattle.plain_lists.specs.Lists.{entries_of, Stands}
use Rattle.plain_lists.proofs.Listing.{length_items}
use Rattle.plain_scan.specs.declared.Scan.{Scan}
use Rattle.plain_scan.specs.Scanned.{scan_of, Sound, Ran}

-- s: the scan after the first i of xs
pub record Running (n : ℕ) (t : Scanner) (start : model.Scan) (xs : List Entry) (s : Scan) (i : ℕ) : Type 0 where
  pub few : length xs ≤ 64
  pub fit : All (EntryFits n) xs
  pub ran : Ran n t start (take i xs) s

by_rank_fits : (n : ℕ) (q : List Entry) → All (EntryFits n) q → All (EntryFits n) (by_rank entry_before q)
by_rank_fits n q a = all_in (EntryFits n) (by_rank entry_before q) (λ e i. all_at (EntryFits n) q a e (in_by_rank entries_ordered q e i))

-- w: the entries in their turns
pub runs : (n : ℕ) (t : Scanner) (s : Scan) (q w : Queue) (xs : List Entry) → Sound n s → s.leaving.len ≡ 0 → s.weight_change ≡ 0 → All (EntryFits n) (entries_of q)
    → Stands w (by_rank entry_before (entries_of q)) → xs ≡ entries_of w → Running n t (scan_of n s) xs s 0
runs n t s q w xs o l z a p e =
    let u : w.len ≤ 64 = p.sized.used in
    let m : length xs ≡ w.len = ap length e ∙ length_items w p.sized in
    record {
      few = omega arith;
      fit = subst (λ (x : List Entry). All (EntryFits n) x) (sym (e ∙ p.is)) (by_rank_fits n (entries_of q) a);
      ran = record { sound = o; is = refl; leaving = omega arith; weight = omega arith };
    }

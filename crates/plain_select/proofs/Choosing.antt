-- The choice of what the scan found, and the whole of it. Assumes nothing.
use Rattle.std.specs.Prelude.{None, Option, Some}
use mathlib.Core.Path.{◌≡◌, refl, ap, ◌∙◌}
use mathlib.Core.Bool.{◌&&◌}
use Prim.Native.Nat.{ℕ, ◌<◌}
use lib.Dec.{ltb, leb, eqb}
use Rattle.context.specs.declared.Context.{Context}
use Rattle.entries.specs.declared.Entry.{Entry}
use Rattle.model.specs.State as model
use Rattle.model.proofs.Cases.{pick}
use Rattle.select_judge.specs.declared.Holder.{Holder}
use Rattle.select_judge.specs.Values.{BestBelow, WinnerBelow}
use Rattle.select_judge.specs.Holding.{Holding}
use Rattle.plain_model.specs.Choice as plain
use Rattle.plain_choice.specs.declared.Choice.{Choice}
use Rattle.plain_choice.specs.Table.{choice_of, against, late_entry, alone, nobody, without_entry, choice}
use Rattle.plain_choice.proofs.Ruling.{is_choice}
use Rattle.plain_scan.specs.declared.Scan.{Scan}
use Rattle.plain_scan.specs.Scanned as scans
use Rattle.plain_select.specs.Started.{BestContext}

-- whoever wins is one of the entries found
Below : ℕ → Option ℕ → Type 0
Below n None = Unit {0}
Below n (Some x) = x < n

EntryBelow : (n : ℕ) → Option Entry → Type 0
EntryBelow n None = Unit {0}
EntryBelow n (Some e) = e.context_ref < n

module _ (n : ℕ) (h : Holder) (q : Context) where
  Wins : plain.Choice → Type 0
  Wins w = Below n w.winner

  against_below : (late : Option Entry) (e : Entry) → e.context_ref < n → Wins (against h late e q)
  unfolding against Below Wins
  against_below late e b =
      pick Wins (h.eligible && ltb h.vd q.vd) (λ t. tt)
      (λ t. pick Wins (h.eligible && (eqb h.vd q.vd && ltb q.rem_slice h.rem_slice)) (λ u. tt) (λ u. b))

  nobody_below : (late : Option Entry) → EntryBelow n late → Wins (nobody h late)
  unfolding alone late_entry Below Wins EntryBelow
  nobody_below None b = pick Wins h.runnable (λ t. tt) (λ t. tt)
  nobody_below (Some e) b =
      pick Wins (h.runnable && leb h.vtime e.vtime) (λ t. tt) (λ t. pick Wins (h.runnable && leb h.vd e.key.vd) (λ u. tt) (λ u. b))

  table_below : (best late : Option Entry) → EntryBelow n best → EntryBelow n late → Wins (choice h best late q)
  unfolding without_entry Below Wins EntryBelow
  table_below None late a b = pick Wins h.eligible (λ t. tt) (λ t. nobody_below late b)
  table_below (Some e) late a b = against_below late e a

best_is : (n : ℕ) (b : (Option Entry)) → BestBelow n b → EntryBelow n b
unfolding EntryBelow
best_is n None h = tt
best_is n (Some e) h = h

winner_is : (n : ℕ) (w : Option ℕ) → Below n w → WinnerBelow n w
unfolding Below
winner_is n None h = tt
winner_is n (Some x) h = h

module _ (n : ℕ) (f : Scan) (h : Holder) (o : scans.Sound n f) (q : Context) (r : Choice) (e : choice_of r ≡ choice h f.eligible_best f.ineligible_best q) where
  pub winner_fits : WinnerBelow n r.winner
  unfolding Wins
  winner_fits =
      winner_is n r.winner
      (rw (← (ap (λ (c : plain.Choice). c.winner) e)) at (table_below n h q f.eligible_best f.ineligible_best (best_is n f.eligible_best o.best) (best_is n f.ineligible_best o.late)))

  pub chooses : {x : ℕ} → BestContext f.eligible_best x → q ≡ scans.record_in n f x → (s : model.State) → Holding h s → choice_of r ≡ plain.choice s (scans.scan_of n f)
  chooses {x} b k s g =
      e
      ∙ is_choice h s (scans.scan_of n f) g f.eligible_best f.ineligible_best q refl refl
      (λ d m. k ∙ ap (scans.record_in n f) (b.is d m))

-- the scan, the choice and the clean-up together

-- The scan stays with the contexts of the queue's entries. Assumes nothing.
use Rattle.std.specs.Prelude.{None, Option, Some, is_some}
use mathlib.Core.Path.{◌≡◌, refl, ap, ◌∙◌}
use mathlib.Core.Bool.{Bool, true}
use mathlib.Core.List.{List}
use Prim.Native.Nat.{ℕ}
use lib.ListN.{length, length-set}
use Rattle.columns.specs.Common.{All}
use Rattle.context.specs.declared.Context.{Context}
use Rattle.entries.specs.declared.Entry.{Entry}
use Rattle.percpu.specs.Cpu.{Cpu}
use Rattle.model.specs.Scan.{Scan, Visit, pass, gone, blocked, no_addr_space, ready, below, is_eligible, ineligible_min_vtime, visit, visited, scan_step, scan_start, scan}
use Rattle.model.proofs.Cases.{pick}
use Rattle.model_local.specs.Local.{with_others}
use Rattle.model_local.proofs.Others.{branch, fold_through, fold_holds, others_at, others_set}
use Rattle.model_local.proofs.Owned.{OfEntry}

-- an entry that was found is of the set
abbrev pub Found : (ℕ → Bool) → Option Entry → Type 0
Found S None = Unit {0}
Found S (Some e) = S e.context_ref ≡ true

pub record ScanOwns (S : ℕ → Bool) (n : ℕ) (f : Scan) : Type 0 where
  pub count : length f.contexts ≡ n
  pub eligible : Found S f.eligible_best
  pub ineligible : Found S f.ineligible_best

abbrev pub scan_others : (ℕ → Bool) → List Context → Scan → Scan
scan_others S ds f =
    record {
      contexts = with_others S ds f.contexts;
      eligible_best = f.eligible_best;
      ineligible_best = f.ineligible_best;
      weight_change = f.weight_change;
      contexts_to_remove = f.contexts_to_remove;
    }

module _ (S : ℕ → Bool) (n : ℕ) (ds : List Context) (k time : ℕ) (p : Cpu) (h : Option ℕ) where
  abbrev H : Scan → Scan
  H = scan_others S ds

  visited_owns : (f : Scan) (e : Entry) (v : Visit) → S e.context_ref ≡ true → ScanOwns S n f → ScanOwns S n (visited k time p h f e v)
  unfolding visited
  visited_owns f e pass t o = o
  visited_owns f e gone t o = record { count = o.count; eligible = o.eligible; ineligible = o.ineligible }
  visited_owns f e (blocked c) t o = record { count = length-set f.contexts e.context_ref c ∙ o.count; eligible = o.eligible; ineligible = o.ineligible }
  visited_owns f e (no_addr_space c) t o = record { count = length-set f.contexts e.context_ref c ∙ o.count; eligible = o.eligible; ineligible = o.ineligible }
  visited_owns f e (ready c) t o =
      record {
        count = length-set f.contexts e.context_ref c ∙ o.count;
        eligible = pick (Found S) (is_eligible p e) (λ y. t) (λ y. o.eligible);
        ineligible = pick (Found S) (is_eligible p e) (λ y. o.ineligible) (λ y. pick (Found S) (below (ineligible_min_vtime f.ineligible_best h) e.vtime) (λ z. t) (λ z. o.ineligible));
      }

  step_owns : (f : Scan) (e : Entry) → S e.context_ref ≡ true → ScanOwns S n f → ScanOwns S n (scan_step k time p h f e)
  unfolding scan_step
  step_owns f e t o = pick (ScanOwns S n) (is_some f.eligible_best) (λ y. o) (λ y. visited_owns f e (visit k time p h f e) t o)

  pub scan_owns : (cs : List Context) (q : List Entry) → length cs ≡ n → All (OfEntry S n) q → ScanOwns S n (scan k time p h cs q)
  unfolding scan
  scan_owns cs q c a =
      fold_holds (OfEntry S n) (ScanOwns S n) (λ f. f) (scan_step k time p h) (λ f e t o. refl) (λ f e t o. step_owns f e t o) q a (scan_start k time p h cs) (record { count = c; eligible = tt; ineligible = tt })

  visit_same : (f : Scan) (e : Entry) → S e.context_ref ≡ true → visit k time p h (H f) e ≡ visit k time p h f e
  unfolding visit
  visit_same f e t = rw (others_at S ds f.contexts e.context_ref t)

  visited_moves : (f : Scan) (e : Entry) (v : Visit) → S e.context_ref ≡ true → visited k time p h (H f) e v ≡ H (visited k time p h f e v)
  unfolding visited
  visited_moves f e pass t = refl
  visited_moves f e gone t = refl
  visited_moves f e (blocked c) t = rw (others_at S ds f.contexts e.context_ref t, others_set S ds f.contexts e.context_ref c t)
  visited_moves f e (no_addr_space c) t = rw (others_set S ds f.contexts e.context_ref c t)
  visited_moves f e (ready c) t = rw (others_set S ds f.contexts e.context_ref c t)

  step_moves : (f : Scan) (e : Entry) → S e.context_ref ≡ true → scan_step k time p h (H f) e ≡ H (scan_step k time p h f e)
  unfolding scan_step
  step_moves f e t =
      branch H (is_some f.eligible_best) refl (ap (visited k time p h (H f) e) (visit_same f e t) ∙ visited_moves f e (visit k time p h f e) t)

  pub scan_moves : (cs : List Context) (q : List Entry) → length cs ≡ n → All (OfEntry S n) q → scan k time p h (with_others S ds cs) q ≡ H (scan k time p h cs q)
  unfolding scan
  scan_moves cs q c a =
      fold_through (OfEntry S n) (ScanOwns S n) H (scan_step k time p h) (λ f e t o. step_moves f e t) (λ f e t o. step_owns f e t o) q a (scan_start k time p h cs) (record { count = c; eligible = tt; ineligible = tt })

-- The loop over the queue. Assumes nothing.
use Rattle.std.specs.Prelude.{None, Option, Some, is_some}
use Rattle.entries.specs.declared.Key.{Key}
use mathlib.Core.Path.{◌≡◌, refl, sym, ap, ◌∙◌, subst}
use mathlib.Core.Bool.{true, false}
use mathlib.Core.List.{List, [], ◌∷◌, ◌++◌}
use Prim.Native.Nat.{ℕ, suc, ◌+◌, ◌*◌, ◌<◌, ◌≤◌}
use native.Mathlib.Omega.{arith}
use native.Mathlib.Numerals.{add-one}
use lib.ListN.{length, get_or, take, drop, take-append-drop}
use lib.Seq.{take-suc, take_all}
use Rattle.columns.specs.Common.{fold}
use Rattle.context.specs.declared.Context.{Context}
use Rattle.entries.specs.declared.Entry.{Entry}
use Rattle.cpu_stats.specs.Words.{stats_words}
use Rattle.percpu.specs.Words.{block_words}
use Rattle.percpu.specs.Layout.{no_entry, cpu_words, counts}
use Rattle.machine.specs.Machine.{Machine, cpu_at, with_contexts}
use Rattle.machine.specs.Encode.{encode, cpu_place}
use Rattle.machine.specs.Shape.{Fits, Image}
use Rattle.machine.proofs.LookUps.{block_word}
use Rattle.model.proofs.EarlyExit.{fold_still}
use Rattle.model.specs.Scan.{Scan, Visit, visit, scan_step, scan_start, scan}
use Rattle.select_judge.specs.declared.Scanner.{Scanner}
use Rattle.select_judge.specs.declared.Scanned.{Scanned}
use Rattle.select_judge.specs.Values.{BestBelow, scanner_cpu}
use Rattle.select.specs.Scanning.{visit_by, visited_by, step_by, scan_by, seen, found, Scans, Room, Grown}
use Rattle.select.proofs.Visited.{scans, at_as, scans_as}
use Rattle.weights.specs.Weights.{max_weight}
use Rattle.percpu.specs.Places.{queue_count}

module _ {A B : Type 0} where
  pub fold_append : (f : B → A → B) (b : B) (xs ys : List A) → fold f b (xs ++ ys) ≡ fold f (fold f b xs) ys
  fold_append f b [] ys = refl
  fold_append f b (x ∷ xs) ys = fold_append f (f b x) xs ys

  -- one item more
  fold_take : (f : B → A → B) (b : B) (l : List A) (i : ℕ) (d : A) → i < length l → fold f b (take (suc i) l) ≡ f (fold f b (take i l)) (get_or l i d)
  fold_take f b l i d h = rw (take-suc l i d h, fold_append f b (take i l) (get_or l i d ∷ []))

  fold_early : (f : B → A → B) (b : B) (l : List A) (i : ℕ) → ((x : A) → f (fold f b (take i l)) x ≡ fold f b (take i l)) → fold f b (take i l) ≡ fold f b l
  fold_early f b l i h =
      sym (ap (λ (y : List A). fold f b y) (sym (take-append-drop i l)) ∙ fold_append f b (take i l) (drop i l) ∙ fold_still f (fold f b (take i l)) (drop i l) h)

nobody_none : {b : (Option Entry)} → b ≡ None → is_some b ≡ false
nobody_none e = ap (λ (y : (Option Entry)). is_some y) e

-- what was made of a visit is a step, before the best is found
pub step_is : (t : Scanner) (cs : List Context) (w : Scanned) (d : List Key) (e : Entry) {v : Visit} → w.eligible_best ≡ None → v ≡ visit_by t (seen cs w.ineligible_best) e
    → visited_by t (found cs w d) e v ≡ step_by t (found cs w d) e
unfolding scan_step visit found
step_is t cs w d e b h = rw (nobody_none b, h)

best_stays : (t : Scanner) (s : Scan) → is_some s.eligible_best ≡ true → (e : Entry) → step_by t s e ≡ s
unfolding scan_step
best_stays t s h e = rw h

-- the first i entries of CPU k's queue
abbrev start : Scanner → Machine → Scan
start t M = scan_start t.cpu_id t.time (scanner_cpu t) t.ineligible_holder M.contexts

unfoldable pub scanned_to : Scanner → ℕ → ℕ → Machine → Scan
scanned_to t k i M = fold (step_by t) (start t M) (take i (cpu_at M k).queue)

pub scanned_none : {c n : ℕ} {m : List ℕ} {d : List Key} (t : Scanner) (k : ℕ) → Image c n m
    → Scans c n m m d (record { eligible_best = None; ineligible_best = None; weight_change = 0; contexts_to_remove = 0 }) (scanned_to t k 0)
unfolding scanned_to found
scanned_none t k i = scans i (λ M e o. record { after = e; fits = o; same = refl })

-- the length of the queue stands in the image
pub count_is : {c n : ℕ} (m : List ℕ) (k : ℕ) → k < c → (M : Machine) → m ≡ encode M → Fits c n M → get_or m (cpu_place n k + queue_count) 0 ≡ length (cpu_at M k).queue
unfolding cpu_words block_words stats_words counts
count_is m k h M e o = block_word m k M e o 21 h (omega arith)

-- and is that of before
count_kept : {c n : ℕ} {m m' : List ℕ} {d : List Key} {w : Scanned} {s : Machine → Scan} (k : ℕ) → k < c → (i : Image c n m) → Scans c n m m' d w s → get_or m' (cpu_place n k + queue_count) 0 ≡ length (cpu_at i.M k).queue
unfolding cpu_at
count_kept {m' = m'} {s = s} k h i a = let z = a.scans i.M i.eq i.fits in count_is m' k h (with_contexts (s i.M).contexts i.M) z.after z.fits

-- a turn of the loop
module _ {c n : ℕ} {m₀ m m' : List ℕ} {d d' : List Key} {w w' : Scanned} (t : Scanner) (k i : ℕ) {e : Entry} where
  pub scanned_next : ((M : Machine) → m₀ ≡ encode M → Fits c n M → i < length (cpu_at M k).queue) → Scans c n m₀ m d w (scanned_to t k i)
      → ((M : Machine) → m ≡ encode M → Fits c n M → e ≡ get_or (cpu_at M k).queue i no_entry) → Scans c n m m' d' w' (λ (M : Machine). step_by t (found M.contexts w d) e)
      → Scans c n m₀ m' d' w' (scanned_to t k (i + 1))
  unfolding scanned_to cpu_at
  scanned_next b a r u =
      record {
        image = u.image;
        scans = λ M q o.
            let y = a.scans M q o
            in let M' = with_contexts (scanned_to t k i M).contexts M
            in let p : step_by t (found (scanned_to t k i M).contexts w d) e ≡ scanned_to t k (i + 1) M =
            ap (λ (s : Scan). step_by t s e) y.same
            ∙ ap (step_by t (scanned_to t k i M)) (r M' y.after y.fits)
            ∙ sym (rw (add-one i) (fold_take (step_by t) (start t M) (cpu_at M k).queue i no_entry (b M q o)))
            in let z = at_as p (u.scans M' y.after y.fits)
            in record { after = z.after; fits = z.fits; same = z.same };
      }

-- the end of the queue
pub scanned_all : {c n : ℕ} {m₀ m : List ℕ} {d : List Key} {w : Scanned} (t : Scanner) (k i : ℕ) → ((M : Machine) → m₀ ≡ encode M → Fits c n M → length (cpu_at M k).queue ≤ i) → Scans c n m₀ m d w (scanned_to t k i)
    → Scans c n m₀ m d w (λ (M : Machine). scan_by t M.contexts (cpu_at M k).queue)
unfolding scanned_to scan
scanned_all t k i b a = scans_as a (λ M q o. ap (λ (l : List Entry). fold (step_by t) (start t M) l) (take_all i (cpu_at M k).queue (b M q o)))

-- the early end
pub scanned_best : {c n : ℕ} {m₀ m : List ℕ} {d : List Key} {w : Scanned} (t : Scanner) (k i : ℕ) → is_some w.eligible_best ≡ true → Scans c n m₀ m d w (scanned_to t k i)
    → Scans c n m₀ m d w (λ (M : Machine). scan_by t M.contexts (cpu_at M k).queue)
unfolding scanned_to scan found
scanned_best {w = w} t k i h a =
    scans_as a (λ M q o.
    let z : is_some (scanned_to t k i M).eligible_best ≡ true = subst (λ (y : Scan). is_some y.eligible_best ≡ true) (a.scans M q o).same h
    in fold_early (step_by t) (start t M) (cpu_at M k).queue i (best_stays t (scanned_to t k i M) z))

found_nobody : (b : (Option Entry)) → is_some b ≡ false → b ≡ None
found_nobody None h = refl
found_nobody (Some e) h = let z : ◌≡◌ {A = ℕ} 0 1 = cc in absurd (omega arith)

-- the invariant of the loop: m₀ and m are the image where it begins and now
pub record Loop (c n k len : ℕ) (m₀ m : List ℕ) (d : List Key) (t : Scanner) (w : Scanned) (i : ℕ) : Type 0 where
  pub few : len ≤ 64
  pub same : length m ≡ length m₀
  pub size : length d ≡ 64
  pub keys : w.contexts_to_remove ≤ i
  pub sum : w.weight_change ≤ max_weight * i
  pub nobody : w.eligible_best ≡ None
  pub late : BestBelow n w.ineligible_best
  pub scans : Scans c n m₀ m d w (scanned_to t k i)

module _ {c n k len : ℕ} {m₀ m m' : List ℕ} {d d' : List Key} {t : Scanner} {w w' : Scanned} {i : ℕ} {e : Entry} (f : (M : Machine) → m₀ ≡ encode M → Fits c n M → len ≡ length (cpu_at M k).queue)
    (l : Loop c n k len m₀ m d t w i) (b : i < len) where
  pub loop_scans : ((M : Machine) → m ≡ encode M → Fits c n M → e ≡ get_or (cpu_at M k).queue i no_entry) → Scans c n m m' d' w' (λ (M : Machine). step_by t (found M.contexts w d) e)
      → Scans c n m₀ m' d' w' (scanned_to t k (i + 1))
  loop_scans r u = scanned_next t k i (λ M q o. subst (λ (y : ℕ). i < y) (f M q o) b) l.scans r u

  pub loop_next : ((M : Machine) → m ≡ encode M → Fits c n M → e ≡ get_or (cpu_at M k).queue i no_entry) → Scans c n m m' d' w' (λ (M : Machine). step_by t (found M.contexts w d) e)
      → Grown n w w' → length m' ≡ length m → length d' ≡ length d → is_some w'.eligible_best ≡ false → Loop c n k len m₀ m' d' t w' (i + 1)
  loop_next r u g p q z =
      let a : w'.contexts_to_remove ≤ w.contexts_to_remove + 1 = g.keys
      in let y : w'.weight_change ≤ w.weight_change + max_weight = g.sum
      in let j : w.contexts_to_remove ≤ i = l.keys
      in let x : w.weight_change ≤ max_weight * i = l.sum
      in record {
        few = l.few;
        same = p ∙ l.same;
        size = q ∙ l.size;
        keys = omega arith;
        sum = omega arith;
        nobody = found_nobody w'.eligible_best z;
        late = g.late;
        scans = loop_scans r u;
      }

-- what the calls of a turn need, and what the returns ask
module _ {c n k len : ℕ} {m₀ m : List ℕ} {d : List Key} {t : Scanner} {w : Scanned} {i : ℕ} (l : Loop c n k len m₀ m d t w i) where
  pub loop_count : k < c → (j : Image c n m₀) → ((M : Machine) → m₀ ≡ encode M → Fits c n M → len ≡ length (cpu_at M k).queue) → i < len → i < get_or m (cpu_place n k + queue_count) 0
  loop_count h j f b = subst (λ y. i < y) (f j.M j.eq j.fits ∙ sym (count_kept k h j l.scans)) b

  pub loop_room : i < len → Room n w
  loop_room b =
      let j : w.contexts_to_remove ≤ i = l.keys
      in let x : w.weight_change ≤ max_weight * i = l.sum
      in record { nobody = l.nobody; late = l.late; keys = omega (arith, l.few); sum = omega (arith, l.few) }

  pub loop_found : {w' : Scanned} → i < len → Grown n w w' → (w'.contexts_to_remove ≤ 64) × (BestBelow n w'.eligible_best) × (BestBelow n w'.ineligible_best)
  loop_found {w'} b g =
      let a : w'.contexts_to_remove ≤ w.contexts_to_remove + 1 = g.keys
      in let j : w.contexts_to_remove ≤ i = l.keys
      in (omega (arith, l.few), g.best, g.late)

  pub loop_end : i ≤ len → (w.contexts_to_remove ≤ 64) × (BestBelow n w.eligible_best) × (BestBelow n w.ineligible_best)
  loop_end h =
      let j : w.contexts_to_remove ≤ i = l.keys
      in (omega (arith, l.few), subst (BestBelow n) (sym l.nobody) tt, l.late)

-- What the scan makes of a visit: image and answer, from what the calls ensure. Assumes nothing.
use Rattle.std.specs.Prelude.{if◌then◌else◌, None, Option, Some}
use mathlib.Core.Path.{◌≡◌, refl, sym, ap, ◌∙◌, subst}
use mathlib.Core.Bool.{Bool, true, false}
use mathlib.Core.List.{List, [], ◌∷◌, ◌++◌}
use Prim.Native.Nat.{ℕ, ◌+◌, ◌<◌, ◌≤◌}
use native.Mathlib.Omega.{arith}
use lib.ListN.{set}
use Rattle.context.specs.declared.Context.{Context}
use Rattle.entries.specs.declared.Key.{Key}
use Rattle.entries.specs.declared.Entry.{Entry}
use Rattle.machine.specs.Machine.{Machine, context_at, set_context}
use Rattle.machine.specs.Encode.{encode}
use Rattle.machine.specs.Shape.{Fits, Image, Went}
use Rattle.model.specs.Scan.{Scan, below, ineligible_min_vtime, is_eligible, pass, gone, blocked, no_addr_space, ready, visited}
use Rattle.model.specs.Scan as scan
use Rattle.select_judge.specs.declared.Visit.{Visit}
use Rattle.select_judge.specs.declared.Scanner.{Scanner}
use Rattle.select_judge.specs.declared.Scanned.{Scanned}
use Rattle.select_judge.specs.Values.{BestBelow, visit_of, scanner_cpu, picked}
use Rattle.select.specs.Scanning.{VisitFits, visited_by, keys_in, found, ScansAt, Scans, given_up, Room, Grown}
use Rattle.weights.specs.Weights.{max_weight}

-- a scan's step, from what it does to each machine
pub scans : {c n : ℕ} {m m' : List ℕ} {d : List Key} {r : Scanned} {s : Machine → Scan} → Image c n m → ((M : Machine) → m ≡ encode M → Fits c n M → ScansAt c n m' d r (s M) M) → Scans c n m m' d r s
scans i t = let z = t i.M i.eq i.fits in record { image = record { M = _; eq = z.after; fits = z.fits }; scans = t }

-- the same step in other words
pub at_as : {c n : ℕ} {m' : List ℕ} {d : List Key} {r : Scanned} {s s' : Scan} {M : Machine} → s ≡ s' → ScansAt c n m' d r s M → ScansAt c n m' d r s' M
at_as {c} {n} {m'} {d} {r} {M = M} p a = subst (λ (y : Scan). ScansAt c n m' d r y M) p a

pub scans_as : {c n : ℕ} {m m' : List ℕ} {d : List Key} {r : Scanned} {s s' : Machine → Scan} → Scans c n m m' d r s → ((M : Machine) → m ≡ encode M → Fits c n M → s M ≡ s' M) → Scans c n m m' d r s'
scans_as t h = record { image = t.image; scans = λ M e o. at_as (h M e o) (t.scans M e o) }

-- a context stored at x, which is y
stored : {c n : ℕ} {m m' : List ℕ} {x y : ℕ} {q : Context} → x ≡ y → Went c n m m' (λ (M : Machine). set_context x q M)
    → (M : Machine) → m ≡ encode M → Fits c n M → (m' ≡ encode (set_context y q M)) × (Fits c n (set_context y q M))
stored {c} {n} {m' = m'} {q = q} hx p M e o =
    let z = p.step M e o in (subst (λ (j : ℕ). m' ≡ encode (set_context j q M)) hx z.0, subst (λ (j : ℕ). Fits c n (set_context j q M)) hx z.1)

-- the code's values after a key more
given_found : (cs : List Context) (w r : Scanned) (d d' : List Key) (x : ℕ) (k : Key) → r ≡ given_up w x
    → keys_in d' (w.contexts_to_remove + 1) ≡ keys_in d w.contexts_to_remove ++ (k ∷ [])
    → found cs r d'
    ≡ record {
      contexts = cs;
      eligible_best = w.eligible_best;
      ineligible_best = w.ineligible_best;
      weight_change = w.weight_change + x;
      contexts_to_remove = keys_in d w.contexts_to_remove ++ (k ∷ []);
    }
unfolding found
given_found cs w r d d' x k e h =
    ap (λ (u : Scanned). found cs u d') e
    ∙ (λ j. record {
      contexts = cs;
      eligible_best = w.eligible_best;
      ineligible_best = w.ineligible_best;
      weight_change = w.weight_change + x;
      contexts_to_remove = h j;
    })

best_choice : (b : Bool) (e : Entry) (l : (Option Entry)) → (if b then Some e else l) ≡ if b then Some e else l
best_choice true e l = refl
best_choice false e l = refl

late_choice : (a b : Bool) (e : Entry) (l : (Option Entry)) → (if a then l else if b then Some e else l) ≡ if a then l else if b then Some e else l
late_choice true b e l = refl
late_choice false b e l = best_choice b e l

module _ {c n : ℕ} {m : List ℕ} (d : List Key) (t : Scanner) (w : Scanned) (e : Entry) (v : scan.Visit) (i : Image c n m) where
  pub visited_pass : v ≡ pass → Scans c n m m d w (λ (M : Machine). visited_by t (found M.contexts w d) e v)
  unfolding visited found
  visited_pass h = rw h (scans i (λ M q o. record { after = q; fits = o; same = refl }))

  pub visited_gone : {d' : List Key} {r : Scanned} → v ≡ gone → r ≡ given_up w e.weight → keys_in d' (w.contexts_to_remove + 1) ≡ keys_in d w.contexts_to_remove ++ (e.key ∷ [])
      → Scans c n m m d' r (λ (M : Machine). visited_by t (found M.contexts w d) e v)
  unfolding visited found
  visited_gone {d'} {r} h u k = rw h (scans i (λ M q o. record { after = q; fits = o; same = given_found M.contexts w r d d' e.weight e.key u k }))

  -- those that store the context
  module _ {m' : List ℕ} {x : ℕ} (a : Context) (hx : x ≡ e.context_ref) (p : Went c n m m' (λ (M : Machine). set_context x a M)) where
    pub visited_blocked : {d' : List Key} {r : Scanned} {old : Context} {y : ℕ} → v ≡ blocked a → ((M : Machine) → m ≡ encode M → Fits c n M → old ≡ context_at M.contexts x)
        → y ≡ if old.is_active then e.weight else 0 → r ≡ given_up w y → keys_in d' (w.contexts_to_remove + 1) ≡ keys_in d w.contexts_to_remove ++ (e.key ∷ [])
        → Scans c n m m' d' r (λ (M : Machine). visited_by t (found M.contexts w d) e v)
    unfolding visited found
    visited_blocked {d'} {r} {old} {y} h l g u k =
        rw h (scans i (λ M q o.
        let z = stored hx p M q o
        in let b : y ≡ if (context_at M.contexts e.context_ref).is_active then e.weight else 0 =
        g ∙ ap (λ (j : Context). if j.is_active then e.weight else 0) (l M q o ∙ ap (context_at M.contexts) hx)
        in record { after = z.0; fits = z.1; same = given_found _ w r d d' _ e.key (u ∙ ap (given_up w) b) k }))

    pub visited_no_addr_space : v ≡ no_addr_space a → Scans c n m m' d w (λ (M : Machine). visited_by t (found M.contexts w d) e v)
    unfolding visited found
    visited_no_addr_space h = rw h (scans i (λ M q o. let z = stored hx p M q o in record { after = z.0; fits = z.1; same = refl }))

    pub visited_ready : {r : Scanned} → v ≡ ready a → r ≡ picked t w e → Scans c n m m' d r (λ (M : Machine). visited_by t (found M.contexts w d) e v)
    unfolding visited found picked
    visited_ready {r} h u =
        rw h (scans i (λ M q o.
        let z = stored hx p M q o
        in record {
          after = z.0;
          fits = z.1;
          same = ap (λ (y : Scanned). found (set M.contexts e.context_ref a) y d) u
              ∙ (λ j. record {
                contexts = set M.contexts e.context_ref a;
                eligible_best = best_choice (is_eligible (scanner_cpu t) e) e w.eligible_best j;
                ineligible_best = late_choice (is_eligible (scanner_cpu t) e) (below (ineligible_min_vtime w.ineligible_best t.ineligible_holder) e.vtime) e w.ineligible_best j;
                weight_change = w.weight_change;
                contexts_to_remove = keys_in d w.contexts_to_remove;
              });
        }))

  -- the visit in other words
  pub visited_as : {m' : List ℕ} {d' : List Key} {r : Scanned} {v' : scan.Visit} → v ≡ v' → Scans c n m m' d' r (λ (M : Machine). visited_by t (found M.contexts w d) e v')
      → Scans c n m m' d' r (λ (M : Machine). visited_by t (found M.contexts w d) e v)
  visited_as h a = rw h a

pub fits_as : (c : ℕ) {v v' : Visit} → v ≡ v' → VisitFits c (visit_of v) → VisitFits c (visit_of v')
fits_as c h f = subst (λ (y : Visit). VisitFits c (visit_of y)) h f

-- what was found grows by one entry
nobody_below : (n : ℕ) (b : (Option Entry)) → b ≡ None → BestBelow n b
nobody_below n b e = subst (BestBelow n) (sym e) tt

below_choice : (n : ℕ) (b : Bool) (e : Entry) (l : (Option Entry)) → e.context_ref < n → BestBelow n l → BestBelow n (if b then Some e else l)
below_choice n true e l h k = h
below_choice n false e l h k = k

below_late : (n : ℕ) (a b : Bool) (e : Entry) (l : (Option Entry)) → e.context_ref < n → BestBelow n l → BestBelow n (if a then l else if b then Some e else l)
below_late n true b e l h k = k
below_late n false b e l h k = below_choice n b e l h k

module _ {n : ℕ} {w : Scanned} (o : Room n w) where
  pub grown_none : Grown n w w
  grown_none = record { best = nobody_below n _ o.nobody; late = o.late; keys = omega arith; sum = omega arith }

  pub grown_given_up : {r : Scanned} (x : ℕ) → r ≡ given_up w x → x ≤ max_weight → Grown n w r
  grown_given_up {r} x e h =
      subst (Grown n w) (sym e) (record { best = nobody_below n _ o.nobody; late = o.late; keys = omega arith; sum = omega arith })

  pub grown_picked : {r : Scanned} (t : Scanner) (e : Entry) → e.context_ref < n → r ≡ picked t w e → Grown n w r
  unfolding picked
  grown_picked t e h p =
      subst (Grown n w) (sym p) (record {
        best = below_choice n (is_eligible (scanner_cpu t) e) e w.eligible_best h (nobody_below n _ o.nobody);
        late = below_late n (is_eligible (scanner_cpu t) e) (below (ineligible_min_vtime w.ineligible_best t.ineligible_holder) e.vtime) e w.ineligible_best h o.late;
        keys = omega arith;
        sum = omega arith;
      })

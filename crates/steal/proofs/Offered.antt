-- The search's inner loop, over the entries that one CPU offers. Assumes nothing.
use Rattle.std.specs.Prelude.{if◌then◌else◌, Option}
use mathlib.Core.Path.{◌≡◌, refl, sym, ap, ◌∙◌, subst}
use mathlib.Core.Bool.{Bool, true, false}
use mathlib.Core.List.{List, [], ◌∷◌, ◌++◌}
use Prim.Native.Nat.{ℕ, suc, ◌+◌, ◌<◌, ◌≤◌}
use native.Mathlib.Omega.{arith}
use native.Mathlib.Numerals.{add-one}
use lib.Dec.{ltb}
use lib.ListN.{length, get_or, take, drop, take-append-drop}
use lib.Seq.{take-suc, take_all}
use borrow.Author.Tests.{le-ltb}
use Rattle.columns.specs.Common.{fold, All}
use Rattle.columns.proofs.Tests.{by_test}
use Rattle.entries.specs.declared.Entry.{Entry}
use Rattle.percpu.specs.Layout.{no_entry}
use Rattle.machine.specs.Machine.{Machine, cpu_at}
use Rattle.machine.specs.Encode.{encode}
use Rattle.machine.specs.Shape.{EntryFits, Fits}
use Rattle.model.specs.State.{state_of}
use Rattle.model.specs.Steal.{can_steal_from, want, candidates, take_candidate}
use Rattle.model.proofs.EarlyExit.{enough_stays}
use Rattle.stages.specs.Read.{EntryRead}
use Rattle.steal_judge.specs.declared.Locked.{Locked}
use Rattle.steal_judge.specs.declared.Candidates.{Candidates}
use Rattle.steal_judge.specs.Names.{locked_of, entries_of}
use Rattle.steal.specs.Search.{offers}

module _ {A B : Type 0} where
  fold_append : (f : B → A → B) (b : B) (xs ys : List A) → fold f b (xs ++ ys) ≡ fold f (fold f b xs) ys
  fold_append f b [] ys = refl
  fold_append f b (x ∷ xs) ys = fold_append f (f b x) xs ys

  -- one item more
  pub fold_take : (f : B → A → B) (b : B) (l : List A) (i : ℕ) (d : A) → i < length l → fold f b (take (suc i) l) ≡ f (fold f b (take i l)) (get_or l i d)
  fold_take f b l i d h = rw (take-suc l i d h, fold_append f b (take i l) (get_or l i d ∷ []))

-- the invariant, at entry j of CPU t
pub record Inner (c n k len want : ℕ) (m : List ℕ) (w : Option ℕ) (locked : Locked) (got : Candidates) (t j : ℕ) : Type 0 where
  pub few : length (entries_of got) < want
  pub entries : All (EntryFits n) (entries_of got)
  pub is : (M : Machine) → m ≡ encode M → Fits c n M → entries_of got ≡ fold (take_candidate k (locked_of locked) M.contexts w want) [] (take j (cpu_at M t).queue)

pub inner_first : {c n k len want : ℕ} {m : List ℕ} {w : Option ℕ} {locked : Locked} {got : Candidates} {t : ℕ} → entries_of got ≡ [] → 1 ≤ want → Inner c n k len want m w locked got t 0
inner_first {n = n} {want = want} e h =
    record {
      few = subst (λ (l : List Entry). length l < want) (sym e) (omega arith);
      entries = subst (All (EntryFits n)) (sym e) tt;
      is = λ M z o. e;
    }

some_offered : (len : ℕ) (b : Bool) (x : ℕ) → len ≡ (if b then x else 0) → 0 < len → (b ≡ true) × (len ≡ x)
some_offered len true x e h = (refl, e)
some_offered len false x e h = absurd (omega arith)

module _ {c n k len want' : ℕ} {m : List ℕ} {w : Option ℕ} {locked : Locked} {got : Candidates} {t j : ℕ} (got' : Candidates)
    (a : Inner c n k len want' m w locked got t j) (b : j < len)
    (off : (M : Machine) → m ≡ encode M → Fits c n M → len ≡ (if can_steal_from (state_of k M) (cpu_at M t) then length (cpu_at M t).queue else 0)) where
  -- one entry more
  inner_step : {e : Entry} → EntryRead c n t j m e
      → ((M : Machine) → m ≡ encode M → Fits c n M → entries_of got' ≡ take_candidate k (locked_of locked) M.contexts w want' (entries_of got) e)
      → (M : Machine) → m ≡ encode M → Fits c n M → entries_of got' ≡ fold (take_candidate k (locked_of locked) M.contexts w want') [] (take (j + 1) (cpu_at M t).queue)
  inner_step {e} r s M z o =
      let d = some_offered len (can_steal_from (state_of k M) (cpu_at M t)) (length (cpu_at M t).queue) (off M z o) (omega arith) in
      let q : j < length (cpu_at M t).queue = subst (λ (x : ℕ). j < x) d.1 b in
      s M z o
      ∙ ap (λ (g : List Entry). take_candidate k (locked_of locked) M.contexts w want' g e) (a.is M z o)
      ∙ ap (take_candidate k (locked_of locked) M.contexts w want' (fold (take_candidate k (locked_of locked) M.contexts w want') [] (take j (cpu_at M t).queue))) (r.is M z o)
      ∙ sym (rw (add-one j) (fold_take (take_candidate k (locked_of locked) M.contexts w want') [] (cpu_at M t).queue j no_entry q))

  pub inner_next : {e : Entry} → EntryRead c n t j m e → All (EntryFits n) (entries_of got')
      → ((M : Machine) → m ≡ encode M → Fits c n M → entries_of got' ≡ take_candidate k (locked_of locked) M.contexts w want' (entries_of got) e)
      → length (entries_of got') < want' → Inner c n k len want' m w locked got' t (j + 1)
  inner_next r f s l = record { few = l; entries = f; is = inner_step r s }

  -- enough are found
  pub inner_enough : {e : Entry} → EntryRead c n t j m e
      → ((M : Machine) → m ≡ encode M → Fits c n M → entries_of got' ≡ take_candidate k (locked_of locked) M.contexts w want' (entries_of got) e)
      → ((M : Machine) → m ≡ encode M → Fits c n M → want' ≡ want (state_of k M) (cpu_at M t)) → want' ≤ length (entries_of got')
      → (M : Machine) → m ≡ encode M → Fits c n M → entries_of got' ≡ offers k (locked_of locked) w (state_of k M) (cpu_at M t)
  unfolding offers candidates
  inner_enough r s v l M z o =
      let d = some_offered len (can_steal_from (state_of k M) (cpu_at M t)) (length (cpu_at M t).queue) (off M z o) (omega arith) in
      let f : List Entry → Entry → List Entry = take_candidate k (locked_of locked) M.contexts w want' in
      let y : entries_of got' ≡ fold f [] (take (j + 1) (cpu_at M t).queue) = inner_step r s M z o in
      let g : ltb (length (entries_of got')) want' ≡ false = le-ltb (length (entries_of got')) want' l in
      let u : fold f (entries_of got') (drop (j + 1) (cpu_at M t).queue) ≡ entries_of got' =
      enough_stays k (locked_of locked) M.contexts w want' (entries_of got') (drop (j + 1) (cpu_at M t).queue) g in
      let x : fold f [] (cpu_at M t).queue ≡ entries_of got' =
      ap (fold f []) (sym (take-append-drop (j + 1) (cpu_at M t).queue)) ∙ fold_append f [] (take (j + 1) (cpu_at M t).queue) (drop (j + 1) (cpu_at M t).queue)
      ∙ ap (λ (i : List Entry). fold f i (drop (j + 1) (cpu_at M t).queue)) (sym y) ∙ u in
      rw (d.0, ← v M z o) (sym x)

-- all entries were looked at
pub inner_all : {c n k len want' : ℕ} {m : List ℕ} {w : Option ℕ} {locked : Locked} {got : Candidates} {t j : ℕ} → Inner c n k len want' m w locked got t j → j ≤ len → len ≤ j
    → ((M : Machine) → m ≡ encode M → Fits c n M → len ≡ (if can_steal_from (state_of k M) (cpu_at M t) then length (cpu_at M t).queue else 0))
    → ((M : Machine) → m ≡ encode M → Fits c n M → want' ≡ want (state_of k M) (cpu_at M t))
    → (M : Machine) → m ≡ encode M → Fits c n M → entries_of got ≡ offers k (locked_of locked) w (state_of k M) (cpu_at M t)
unfolding offers candidates
inner_all {k = k} {len = len} {want' = want'} {w = w} {locked = locked} {t = t} {j = j} a g b off v M z o =
    by_test (can_steal_from (state_of k M) (cpu_at M t))
    (λ y. let l : len ≡ length (cpu_at M t).queue = rw y at (off M z o) in
    rw (y, ← v M z o) (a.is M z o ∙ ap (fold (take_candidate k (locked_of locked) M.contexts w want') []) (take_all j (cpu_at M t).queue (omega (arith, l)))))
    (λ y. let l : len ≡ 0 = rw y at (off M z o) in let e : j ≡ 0 = omega arith in
    rw y (a.is M z o ∙ rw e))

-- The search's outer loop, round the CPUs. Assumes nothing.
use Rattle.std.specs.Prelude.{Option, None}
use mathlib.Core.Path.{◌≡◌, refl, sym, ap, ◌∙◌}
use mathlib.Core.Bool.{Bool, true}
use mathlib.Core.List.{List, [], ◌∷◌}
use mathlib.Core.Logic.{◌≢◌}
use Prim.Native.Nat.{ℕ, zero, suc, ◌+◌, ◌-◌, ◌%◌, ◌<◌, ◌≤◌}
use native.Mathlib.Omega.{arith}
use native.Mathlib.Nat.{mod-eq_of_lt, mod-eq-sub-mod}
use lib.Dec.{ltb}
use lib.ListN.{length}
use borrow.Author.Tests.{ltb-true, ltb-false}
use Rattle.columns.specs.Common.{fold, tabulate, All}
use Rattle.columns.proofs.Tests.{by_test}
use Rattle.entries.specs.declared.Entry.{Entry}
use Rattle.percpu.specs.Cpu.{Cpu}
use Rattle.machine.specs.Machine.{Machine, cpu_at}
use Rattle.machine.specs.Encode.{encode}
use Rattle.machine.specs.Shape.{EntryFits, Fits}
use Rattle.model.specs.State.{state_of}
use Rattle.model.specs.Steal.{Stealing, can_steal_from, targets, steal_entries, steal_from}
use Rattle.model.proofs.EarlyExit.{fold_still}
use Rattle.steal_judge.specs.declared.Locked.{Locked}
use Rattle.steal_judge.specs.declared.Candidates.{Candidates}
use Rattle.steal_judge.specs.Names.{locked_of, entries_of}
use Rattle.steal.specs.Search.{offers, Begins, Passed, Found, Searched}

-- a fold over 0, 1, .., of which the first i change nothing
module _ {B : Type 0} (f : B → ℕ → B) (b b' : B) where
  fold_found : (N i : ℕ) (g : ℕ → ℕ) → i < N → ((j : ℕ) → j < i → f b (g j) ≡ b) → f b (g i) ≡ b' → ((t : ℕ) → f b' t ≡ b') → fold f b (tabulate N g) ≡ b'
  unfolding tabulate
  fold_found zero i g h p e s = absurd (omega arith)
  fold_found (suc N) zero g h p e s = ap (λ (x : B). fold f x (tabulate N (λ (j : ℕ). g (suc j)))) e ∙ fold_still f b' (tabulate N (λ (j : ℕ). g (suc j))) s
  fold_found (suc N) (suc i) g h p e s =
      ap (λ (x : B). fold f x (tabulate N (λ (j : ℕ). g (suc j)))) (p 0 (omega arith))
      ∙ fold_found N i (λ (j : ℕ). g (suc j)) (omega arith) (λ j l. p (suc j) (omega arith)) e s

  fold_none : (N : ℕ) (g : ℕ → ℕ) → ((j : ℕ) → j < N → f b (g j) ≡ b) → fold f b (tabulate N g) ≡ b
  unfolding tabulate
  fold_none zero g p = refl
  fold_none (suc N) g p =
      ap (λ (x : B). fold f x (tabulate N (λ (j : ℕ). g (suc j)))) (p 0 (omega arith)) ∙ fold_none N (λ (j : ℕ). g (suc j)) (λ j l. p (suc j) (omega arith))

-- a CPU of the round: below c, and not k
pub round_is : (k c i : ℕ) → k < c → i < c - 1 → ((k + (i + 1)) % c < c) × ((k + (i + 1)) % c ≢ k)
round_is k c i h l =
    by_test (ltb (k + (i + 1)) c)
    (λ t. let a : k + (i + 1) < c = ltb-true _ _ t in let b : (k + (i + 1)) % c ≡ k + (i + 1) = mod-eq_of_lt a in (omega arith, λ z. omega arith))
    (λ t. let a : c ≤ k + (i + 1) = ltb-false _ _ t in
    let d : k + (i + 1) - c < c = omega arith in
    let b : (k + (i + 1)) % c ≡ k + (i + 1) - c = mod-eq-sub-mod a ∙ mod-eq_of_lt d in (omega arith, λ z. omega arith))

module _ {c k : ℕ} {M : Machine} {w : Option ℕ} (locked : List ℕ) (runs : Bool) (l : Stealing) (b : Begins c k M w l) (t : ℕ) (o : t ≢ k) where
  from_is : steal_from k runs locked l t ≡ steal_entries runs l t (cpu_at M t) (offers k locked w (state_of k M) (cpu_at M t))
  unfolding steal_from offers steal_entries
  from_is =
      rw (b.done, b.others t o, b.state, b.winner)
      (by_test (can_steal_from (state_of k M) (cpu_at M t)) (λ z. rw z) (λ z. rw z))

  from_nothing : offers k locked w (state_of k M) (cpu_at M t) ≡ [] → steal_from k runs locked l t ≡ l
  unfolding steal_entries
  from_nothing e = from_is ∙ rw e

entries_done : (runs : Bool) (l : Stealing) (t : ℕ) (v : Cpu) (es : List Entry) → (es ≡ [] → ⊥) → (steal_entries runs l t v es).done ≡ true
unfolding steal_entries
entries_done runs l t v [] h = absurd (h refl)
entries_done runs l t v (e ∷ es) h = refl

pub done_still : (k : ℕ) (runs : Bool) (locked : List ℕ) (l : Stealing) → l.done ≡ true → (t : ℕ) → steal_from k runs locked l t ≡ l
unfolding steal_from
done_still k runs locked l e t = rw e

module _ {c n k : ℕ} {m : List ℕ} {w : Option ℕ} {locked : Locked} {got : Candidates} {t i : ℕ} (h : k < c) (p : Passed c n k i m w locked) where
  -- a victim was found
  pub found : i < c - 1 → t ≡ (k + (i + 1)) % c → ((M : Machine) → m ≡ encode M → Fits c n M → entries_of got ≡ offers k (locked_of locked) w (state_of k M) (cpu_at M t))
      → (entries_of got ≡ [] → ⊥) → All (EntryFits n) (entries_of got) → Found c n k m w locked (record { cpu = t; got = got })
  unfolding targets
  found l z o y a =
      record {
        is = λ M e u runs s b. whole M e u runs s b;
        cpu = rw z (round_is k c i h l).0;
        other = rw z (round_is k c i h l).1;
        some = y;
        entries = a;
      }
    where
      whole : (M : Machine) → m ≡ encode M → Fits c n M → (runs : Bool) (s : Stealing) → Begins c k M w s
          → fold (steal_from k runs (locked_of locked)) s (targets k c) ≡ steal_entries runs s t (cpu_at M t) (entries_of got)
      whole M e u runs s b =
          fold_found (steal_from k runs (locked_of locked)) s (steal_entries runs s t (cpu_at M t) (entries_of got)) (c - 1) i (λ (j : ℕ). (k + (j + 1)) % c) l
          (λ j g. from_nothing (locked_of locked) runs s b _ (round_is k c j h (omega arith)).1 (p.none M e u j g))
          (rw (← z) (from_is (locked_of locked) runs s b t (rw z (round_is k c i h l).1) ∙ ap (steal_entries runs s t (cpu_at M t)) (sym (o M e u))))
          (done_still k runs (locked_of locked) _ (entries_done runs s t (cpu_at M t) (entries_of got) y))

module _ {c n k : ℕ} {m : List ℕ} {w : Option ℕ} {locked : Locked} {i : ℕ} (p : Passed c n k i m w locked) where
  -- one CPU more gives up nothing
  pub passed_next : ((M : Machine) → m ≡ encode M → Fits c n M → [] ≡ offers k (locked_of locked) w (state_of k M) (cpu_at M ((k + (i + 1)) % c))) → Passed c n k (i + 1) m w locked
  passed_next o =
      record {
        none = λ M e u j l.
            by_test (ltb j i) (λ q. p.none M e u j (ltb-true j i q))
            (λ q. let g : i ≤ j = ltb-false j i q in let r : i ≡ j = omega arith in rw (← r) (sym (o M e u)));
      }

  -- nothing was found
  pub not_found : k < c → c - 1 ≤ i → Searched c n k m w locked None
  unfolding targets
  not_found h l M z u runs s b =
      fold_none (steal_from k runs (locked_of locked)) s s (c - 1) (λ (j : ℕ). (k + (j + 1)) % c)
      (λ j r. from_nothing (locked_of locked) runs s b _ (round_is k c j h r).1 (p.none M z u j (omega arith)))

pub passed_none : {c n k : ℕ} {m : List ℕ} {w : Option ℕ} {locked : Locked} → Passed c n k 0 m w locked
passed_none = record { none = λ M e u j l. absurd (omega arith) }

pub not_empty : (l : List Entry) → 0 < length l → (l ≡ [] → ⊥)
not_empty l h e = let z : length l ≡ 0 = ap length e in omega arith

pub is_empty_list : (l : List Entry) → length l ≤ 0 → l ≡ []
is_empty_list [] h = refl
is_empty_list (x ∷ xs) h = absurd (omega arith)

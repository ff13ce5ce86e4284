-- The tests of a record are the definition's. Assumes nothing.
use Rattle.std.specs.Prelude.{Option}
use mathlib.Core.Path.{◌≡◌, refl}
use mathlib.Core.Bool.{Bool, true, false, not, ◌&&◌}
use mathlib.Core.List.{List, [], ◌∷◌}
use Prim.Native.Nat.{ℕ, ◌+◌}
use native.Mathlib.Omega.{arith}
use lib.Dec.{eqb}
use borrow.Author.Tests.{ne_eqb}
use Rattle.context.specs.declared.Context.{Context}
use Rattle.context.specs.Status.{is_runnable}
use Rattle.cpu_set.specs.Set as set
use Rattle.entries.specs.declared.Entry.{Entry}
use Rattle.machine.specs.Machine.{context_at}
use Rattle.model.specs.Steal.{member, contexts_of}
use Rattle.model.proofs.Cases.{by_test}
use Rattle.steal_judge.specs.Judged.{may_move}
use Rattle.plain_model.specs.Rank.{count}
use Rattle.plain_model.specs.Steal.{is_held, can_be_stolen}
use Rattle.plain_candidates.specs.Stolen.{stolen_record}

gathered : (p a b c d e : Bool) → (p && (a && b && c && d && e)) ≡ (p && a && b && c && d && e)
gathered true a b c d e = refl
gathered false a b c d e = refl

pub stolen_is : (k : ℕ) (locked : List ℕ) (cs : List Context) (w : Option ℕ) (got : List Entry) (e : Entry)
    → stolen_record k locked w got e.context_ref (context_at cs e.context_ref) ≡ can_be_stolen k locked cs w got e
unfolding stolen_record can_be_stolen may_move
stolen_is k locked cs w got e =
    let c : Context = context_at cs e.context_ref in
    gathered (not c.gone && eqb c.lock 0 && not (is_held locked w got e.context_ref)) (set.contains c.sched_affinity k) (is_runnable c.status) (not c.running) (not c.currently_scheduled) (not (eqb c.addr_space 2))

-- whether an entry is context x's, by how many are
module _ (x : ℕ) where
  abbrev pub names_it : Entry → Bool
  names_it e = eqb x e.context_ref

  pub taken_is : (l : List Entry) → not (eqb (count names_it l) 0) ≡ member x (contexts_of l)
  unfolding count
  taken_is [] = refl
  taken_is (e ∷ l) =
      let n : 0 + count names_it l ≡ count names_it l = omega arith in
      by_test (names_it e) (λ t. rw (t, ne_eqb (1 + count names_it l) 0 (λ z. omega arith)) refl) (λ t. rw (t, n) (taken_is l))

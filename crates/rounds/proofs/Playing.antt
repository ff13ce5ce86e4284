-- A round, from what its calls said. Assumes nothing.
use Rattle.std.specs.Prelude.{if◌then◌else◌, None, Option, Some, is_some}
use mathlib.Core.Path.{◌≡◌, refl, sym, ap, ◌∙◌, subst}
use mathlib.Core.Bool.{Bool, true, false}
use mathlib.Core.List.{List}
use Prim.Native.Nat.{ℕ, ◌+◌}
use lib.Dec.{eqb}
use lib.ListN.{set}
use Rattle.machine.specs.Encode.{context_place}
use borrow.Author.Tests.{eqb-true}
use Rattle.columns.proofs.Tests.{clash}
use Rattle.answer.specs.declared.Answer.{Answer}
use Rattle.context_ops.specs.Reply.{Reply, reply}
use Rattle.calls.specs.Call.{switch_call, block_call}
use Rattle.trial.specs.Trial.{Tried}
use Rattle.rounds.specs.declared.Choice.TheVariants.{GoOn, Yield, Block}
use Rattle.rounds.specs.Round.{go_on_nanos, yield_nanos, wake_nanos, left_by, and_then, switched, asleep, played, Plays}

by_refusal : (b : Bool) (m m' : List ℕ) → (b ≡ true → m' ≡ m) → Plays (if b then Some m else None) m' b
by_refusal true m m' f = record { told = refl; leaves = λ t. ap Some (sym (f refl)) }
by_refusal false m m' f = record { told = refl; leaves = λ t. clash t refl }

own : (m' : List ℕ) (y : Reply) → (y.answer.refusal ≡ 0 → m' ≡ y.image) → Plays (left_by y) m' (eqb y.answer.refusal 0)
own m' y f = by_refusal (eqb y.answer.refusal 0) y.image m' (λ t. f (eqb-true y.answer.refusal 0 t))

-- an accepted call leaves m'
pub plays : (a : Answer) (m' : List ℕ) (y : Reply) → a ≡ y.answer → (a.refusal ≡ 0 → m' ≡ y.image) → Plays (left_by y) m' (eqb a.refusal 0)
plays a m' y e f =
    subst (λ (b : Answer). Plays (left_by y) m' (eqb b.refusal 0)) (sym e) (own m' y (λ z. f (ap (λ (b : Answer). b.refusal) e ∙ z)))

pub tried_plays : (a : Answer) (m m' : List ℕ) (cpu time : ℕ) → Tried m m' cpu time a → Plays (switched cpu time m) m' (eqb a.refusal 0)
tried_plays a m m' cpu time t = plays a m' (switch_call m cpu time) t.answers t.leaves

pub replied_plays : (a : Answer) (m' : List ℕ) (y : Reply) → reply a m' ≡ y → Plays (left_by y) m' (eqb a.refusal 0)
replied_plays a m' y e = plays a m' y (ap (λ (z : Reply). z.answer) e) (λ z. ap (λ (z : Reply). z.image) e)

-- the wake stored at its place: at is where the record of x begins
pub asleep_plays : (a : Answer) (m m' : List ℕ) (cpu x w at time : ℕ) → at ≡ context_place x → w ≡ x → reply a m' ≡ block_call (set (set m (at + 12) 1) (at + 13) (time + wake_nanos)) cpu time w
    → Plays (asleep cpu x time m) m' (eqb a.refusal 0)
asleep_plays a m m' cpu x w at time p q e = replied_plays a m' _ (rw (p, q) at e)

module _ (cpu x time : ℕ) (m : List ℕ) where
  pub plays_go_on : (m' : List ℕ) (r : Bool) → Plays (switched cpu (time + go_on_nanos) m) m' r → Plays (played cpu x time GoOn m) m' r
  unfolding played
  plays_go_on m' r h = h

  pub plays_yield : (m' : List ℕ) (r : Bool) → Plays (switched cpu (time + yield_nanos) m) m' r → Plays (played cpu x time Yield m) m' r
  unfolding played
  plays_yield m' r h = h

  -- it went to sleep, which left n, and then the switch came
  pub plays_block : (n m' : List ℕ) (b r : Bool) → Plays (asleep cpu x time m) n b → b ≡ true → Plays (switched cpu (time + yield_nanos) n) m' r → Plays (played cpu x time Block m) m' r
  unfolding played
  plays_block n m' b r s t h = rw (s.leaves t) h

  pub refused_block : (n : List ℕ) (b : Bool) → Plays (asleep cpu x time m) n b → b ≡ false → Plays (played cpu x time Block m) n false
  unfolding played
  refused_block n b s t = not_asleep (asleep cpu x time m) s.told
    where
      not_asleep : (o : Option (List ℕ)) → b ≡ is_some o → Plays (and_then o (switched cpu (time + yield_nanos))) n false
      not_asleep None e = record { told = refl; leaves = λ z. clash z refl }
      not_asleep (Some l) e = clash e t

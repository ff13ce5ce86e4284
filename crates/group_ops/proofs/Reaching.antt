-- The loop over a set's names: what it has reached, and what that comes to. Assumes nothing.
use Rattle.std.specs.Prelude.{None, Option, Some}
use mathlib.Core.Path.{◌≡◌, refl, sym, ap, ◌∙◌}
use mathlib.Core.Bool.{Bool, true, false, ◌||◌}
use mathlib.Core.List.{List, [], ◌∷◌}
use Prim.Native.Nat.{ℕ, ◌+◌, ◌<◌, ◌≤◌, max}
use native.Mathlib.Omega.{arith}
use lib.ListN.{length}
use borrow.Author.Tests.{eq-eqb, ne_eqb}
use Rattle.columns.specs.Common.{mark, fold, All}
use Rattle.columns.proofs.Tests.{by_test, clash}
use Rattle.cpu_set.specs.Members.{members}
use Rattle.answer.specs.declared.Answer.{Answer}
use Rattle.machine.specs.Machine.{Machine}
use Rattle.machine.specs.Encode.{encode}
use Rattle.machine.specs.LookUp.{get_percpu_block}
use Rattle.machine.specs.Outcome.{Outcome}
use Rattle.machine.specs.Shape.{Fits, Image}
use Rattle.context_ops.specs.Operations.{unblock_context}
use Rattle.context_ops.specs.Reply.{Reply, reply, replied, refuse}
use Rattle.group_ops.proofs.Roomy.{count_small}
use Rattle.group_ops.specs.Group.{also_unblock, unblock_each, names_refusal, group_on, unblock_group, Unblocked}
use Rattle.group_ops.proofs.Unblocking.{full_stays, unblock_fits, result_small, mark_either}

-- an answer to a single call, by whether there was room
pub record Single (m m' : List ℕ) (a : Answer) (p : Outcome) : Type 0 where
  pub full : p.no_room ≡ true → a ≡ record { refusal = 9; result = 0; interrupt = 0; rule = 0 }
  pub answer : p.no_room ≡ false → a ≡ record { refusal = 0; result = p.result; interrupt = mark p.interrupt; rule = p.rule }
  pub image : p.no_room ≡ false → m' ≡ encode p.machine

pub single : {m m' : List ℕ} {a : Answer} {p : Outcome} → reply a m' ≡ replied m p → Single m m' a p
unfolding replied
single {m} {m'} {a} {p} e =
    record {
      full = λ t. let f : reply a m' ≡ refuse 9 m = rw t at e in ap (λ (y : Reply). y.answer) f;
      answer = λ t. ap (λ (y : Reply). y.answer) (rw t at e);
      image = λ t. ap (λ (y : Reply). y.image) (rw t at e);
    }

-- whether there was room, by the refusal
pub room_of : {m m' : List ℕ} {a : Answer} {p : Outcome} → Single m m' a p → a.refusal ≡ 0 → p.no_room ≡ false
room_of {p = p} s z =
    by_test p.no_room (λ t. let e = ap (λ (b : Answer). b.refusal) (s.full t) in absurd (omega arith)) (λ t. t)

pub full_of : {m m' : List ℕ} {a : Answer} {p : Outcome} → Single m m' a p → (a.refusal ≡ 0 → ⊥) → p.no_room ≡ true
full_of {p = p} s z =
    by_test p.no_room (λ t. t) (λ t. absurd (z (ap (λ (b : Answer). b.refusal) (s.answer t))))

-- the words m are those of a machine N, from which the names xs come to the outcome o
pub record Reached (c n k count interrupt : ℕ) (m xs : List ℕ) (o : Outcome) : Type 0 where
  pub N : Machine
  pub bit : Bool
  pub eq : m ≡ encode N
  pub fits : Fits c n N
  pub marked : interrupt ≡ mark bit
  pub comes : fold (also_unblock k) (record { machine = N; result = count; interrupt = bit; rule = 0; no_room = false }) xs ≡ o

pub reached_start : {c n : ℕ} (k : ℕ) (m xs : List ℕ) (M : Machine) → m ≡ encode M → Fits c n M → Reached c n k 0 0 m xs (unblock_each k xs M)
unfolding unblock_each
reached_start k m xs M e o = record { N = M; bit = false; eq = e; fits = o; marked = refl; comes = refl }

module _ {c n k count interrupt : ℕ} {m m' : List ℕ} {o : Outcome} {a : Answer} (rest x rest' : ℕ) (here : k < c) (s : members rest ≡ x ∷ members rest')
    (r : Reached c n k count interrupt m (members rest) o) (each : (M : Machine) → m ≡ encode M → Fits c n M → reply a m' ≡ replied m (unblock_context k x M)) where
  abbrev before : Outcome
  before = record { machine = r.N; result = count; interrupt = r.bit; rule = 0; no_room = false }

  abbrev woken : Outcome
  woken = unblock_context k x r.N

  said : Single m m' a woken
  said = single (each r.N r.eq r.fits)

  steps : fold (also_unblock k) (also_unblock k before x) (members rest') ≡ o
  steps = sym (ap (fold (also_unblock k) before) s) ∙ r.comes

  pub result_at_most : a.refusal ≡ 0 → a.result ≤ 1
  result_at_most z = rw (ap (λ (y : Answer). y.result) (said.answer (room_of said z))) (result_small k x r.N)

  pub reached_next : (count' interrupt' : ℕ) → x < n → a.refusal ≡ 0 → count' ≡ count + a.result → interrupt' ≡ max interrupt a.interrupt
      → Reached c n k count' interrupt' m' (members rest') o
  unfolding also_unblock
  reached_next count' interrupt' l z hc hi =
      let f = room_of said z in
      let w = said.answer f in
      let v : count' ≡ count + woken.result = hc ∙ ap (λ (y : Answer). count + y.result) w in
      record {
        N = woken.machine;
        bit = r.bit || woken.interrupt;
        eq = said.image f;
        fits = unblock_fits k x r.N r.fits here l f;
        marked = hi ∙ rw (r.marked, w) (mark_either r.bit woken.interrupt);
        comes = rw v (sym (ap (λ (y : Bool). fold (also_unblock k) (record { machine = woken.machine; result = count + woken.result; interrupt = r.bit || woken.interrupt; rule = 0; no_room = y }) (members rest')) f) ∙ steps);
      }

  pub reached_full : (a.refusal ≡ 0 → ⊥) → Unblocked m' a o
  unfolding also_unblock
  reached_full z =
      let f = full_of said z in
      let g : o.no_room ≡ true = sym (ap (λ (y : Outcome). y.no_room) steps) ∙ full_stays k (members rest') (also_unblock k before x) f in
      record { full = λ t. said.full f; image = λ t. clash g t; answer = λ t. clash g t }

pub reached_end : {c n k count interrupt : ℕ} {m : List ℕ} {o : Outcome} (rest : ℕ) → members rest ≡ [] → Reached c n k count interrupt m (members rest) o
    → Unblocked m (record { refusal = 0; result = count; interrupt = interrupt; rule = 0 }) o
reached_end {k = k} {count = count} {o = o} rest z r =
    let e : record { machine = r.N; result = count; interrupt = r.bit; rule = 0; no_room = false } ≡ o = sym (ap (fold (also_unblock k) _) z) ∙ r.comes in
    record {
      full = λ t. clash t (sym (ap (λ (y : Outcome). y.no_room) e));
      image = λ t. r.eq ∙ ap (λ (y : Outcome). encode y.machine) e;
      answer = λ t. λ i. record { refusal = 0; result = (ap (λ (y : Outcome). y.result) e) i; interrupt = (r.marked ∙ ap (λ (y : Outcome). mark y.interrupt) e) i; rule = (ap (λ (y : Outcome). y.rule) e) i };
    }

-- the loop over the mask: `rest` is left of it
pub record Left (c n k mask : ℕ) (m₀ m : List ℕ) (count interrupt rest : ℕ) : Type 0 where
  pub long : length m ≡ length m₀
  pub few : count + length (members rest) ≤ 64
  pub below : All (λ (x : ℕ). x < n) (members rest)
  pub reached : (M : Machine) → m₀ ≡ encode M → Fits c n M → Reached c n k count interrupt m (members rest) (unblock_each k (members mask) M)

pub left_start : {c n k mask : ℕ} {m : List ℕ} → All (λ (x : ℕ). x < n) (members mask) → Left c n k mask m m 0 0 mask
left_start {mask = mask} a = record { long = refl; few = omega (arith, count_small mask); below = a; reached = λ M e o. reached_start _ _ _ M e o }

module _ {c n k mask count interrupt rest : ℕ} {m₀ m : List ℕ} (i : Image c n m₀) (l : Left c n k mask m₀ m count interrupt rest) where
  at_start : Reached c n k count interrupt m (members rest) (unblock_each k (members mask) i.M)
  at_start = l.reached i.M i.eq i.fits

  pub image_here : Image c n m
  image_here = record { M = at_start.N; eq = at_start.eq; fits = at_start.fits }

  -- x comes next, and rest' is left then
  module _ (x rest' : ℕ) (s : members rest ≡ x ∷ members rest') where
    names : All (λ (y : ℕ). y < n) (x ∷ members rest')
    names = rw s at l.below

    pub name_here : x < n
    name_here = names.0

    module _ {m' : List ℕ} {a : Answer} (here : k < c) (each : (M : Machine) → m ≡ encode M → Fits c n M → reply a m' ≡ replied m (unblock_context k x M)) where
      pub left_full : (a.refusal ≡ 0 → ⊥) → (M : Machine) → m₀ ≡ encode M → Fits c n M → Unblocked m' a (unblock_each k (members mask) M)
      left_full z M e o = reached_full rest x rest' here s (l.reached M e o) each z

      pub left_result : a.refusal ≡ 0 → a.result ≤ 1
      left_result = result_at_most rest x rest' here s at_start each

      pub left_next : (count' interrupt' : ℕ) → a.refusal ≡ 0 → length m' ≡ length m → count' ≡ count + a.result → interrupt' ≡ max interrupt a.interrupt
          → Left c n k mask m₀ m' count' interrupt' rest'
      left_next count' interrupt' z t hc hi =
          record {
            long = t ∙ l.long;
            few = omega (arith, l.few, left_result z, hc, ap length s);
            below = names.1;
            reached = λ M e o. reached_next rest x rest' here s (l.reached M e o) each count' interrupt' name_here z hc hi;
          }

-- the reply, with the words put back where there was no room
module _ {m' : List ℕ} {a : Answer} {o : Outcome} (m : List ℕ) (u : Unblocked m' a o) where
  unblocked_room : a.refusal ≡ 0 → o.no_room ≡ false
  unblocked_room z = by_test o.no_room (λ t. let e = ap (λ (b : Answer). b.refusal) (u.full t) in absurd (omega arith)) (λ t. t)

  pub with_room : o.no_room ≡ false → reply a m' ≡ replied m o
  unfolding replied
  with_room f = rw f (λ i. record { answer = u.answer f i; image = u.image f i })

  pub accepted : a.refusal ≡ 0 → reply a m' ≡ replied m o
  accepted z = with_room (unblocked_room z)

  pub given_up : {b : Answer} {m'' : List ℕ} → (a.refusal ≡ 0 → ⊥) → b ≡ record { refusal = 9; result = 0; interrupt = 0; rule = 0 } → m'' ≡ m → reply b m'' ≡ replied m o
  unfolding replied
  given_up z e w =
      let f : o.no_room ≡ true = by_test o.no_room (λ t. t) (λ t. absurd (z (ap (λ (y : Answer). y.refusal) (u.answer t))))
      in rw f (λ i. record { answer = e i; image = w i })

-- the whole call, by what the look-up and the names gave
module _ (m : List ℕ) (M : Machine) (cpu mask : ℕ) (p : Option ℕ) (hp : p ≡ get_percpu_block M cpu) where
  pub absent_group : {a : Answer} → p ≡ None → a ≡ record { refusal = 5; result = 0; interrupt = 0; rule = 0 } → reply a m ≡ unblock_group m M cpu mask
  unfolding unblock_group group_on
  absent_group e z = rw (← hp, e) (ap (λ (b : Answer). reply b m) z)

  module _ (k : ℕ) (e : p ≡ Some k) (r : ℕ) (hr : r ≡ names_refusal M cpu (members mask)) where
    pub refused_group : {a : Answer} → (r ≡ 0 → ⊥) → a ≡ record { refusal = r; result = 0; interrupt = 0; rule = 0 } → reply a m ≡ unblock_group m M cpu mask
    unfolding unblock_group group_on
    refused_group f z = rw (← hp, e, ← hr, ne_eqb r 0 f) (ap (λ (b : Answer). reply b m) z)

    pub woken_group : {a : Answer} {m' : List ℕ} → r ≡ 0 → reply a m' ≡ replied m (unblock_each k (members mask) M) → reply a m' ≡ unblock_group m M cpu mask
    unfolding unblock_group group_on
    woken_group f z = rw (← hp, e, ← hr, eq-eqb r 0 f) z

-- Where every wake-up list has room for all names of a set, the set is woken. Assumes nothing.
use Rattle.std.specs.Prelude.{None, Option, Some}
use mathlib.Core.Path.{◌≡◌, refl, ◌∙◌}
use mathlib.Core.Bool.{false}
use mathlib.Core.List.{List, [], ◌∷◌}
use Prim.Native.Nat.{ℕ, suc, ◌+◌, ◌<◌, ◌≤◌, max}
use native.Mathlib.Omega.{arith}
use lib.Dec.{ltb}
use lib.ListN.{length, get_or, length-append}
use borrow.Author.Tests.{lt-leb, ltb-true, ltb-false}
use Rattle.columns.specs.Common.{fold, tabulate}
use Rattle.columns.proofs.Keep.{length_keep}
use Rattle.columns.proofs.Tests.{by_test}
use Rattle.columns.proofs.Tabulate.{get_d_past}
use Rattle.cpu_set.specs.Set.{contains}
use Rattle.cpu_set.specs.Members.{members}
use Rattle.percpu.specs.Cpu.{Cpu}
use Rattle.percpu.specs.Places.{local_count, ipi_count}
use Rattle.machine.specs.Machine.{Machine, cpu_at, no_cpu}
use Rattle.machine.specs.Encode.{encode, cpu_place}
use Rattle.machine.specs.Outcome.{Outcome}
use Rattle.machine.specs.Shape.{Fits, Image}
use Rattle.machine.proofs.Steps.{get_d_set}
use Rattle.context_ops.specs.Wakeup.{push_local, push_ipi, wakeup_on, wakeup_context}
use Rattle.context_ops.specs.Operations.{unblock_context}
use Rattle.wakeup_lists.specs.declared.WakeupList.TheVariants.{Local, Ipi}
use Rattle.context_ops.proofs.Waking.{counted}
use Rattle.context_ops.proofs.Operated.{counts_small}
use Rattle.numbers.specs.Limits.{word_range}
use Rattle.group_ops.specs.Room.{HasRoom}
use Rattle.group_ops.specs.Group.{also_unblock, unblock_each}
use Rattle.group_ops.proofs.Unblocking.{by_unblock}

abbrev pub Roomy : ℕ → Machine → Type 0
Roomy count M = (t : ℕ) → HasRoom count (cpu_at M t)

-- an outcome that found room, and leaves room for `count` names more
record Went (count : ℕ) (o : Outcome) : Type 0 where
  room : o.no_room ≡ false
  more : Roomy count o.machine

less_room : (count : ℕ) (p : Cpu) → HasRoom (suc count) p → HasRoom count p
less_room count p h = record { local = omega (arith, h.local); ipi = omega (arith, h.ipi) }

woken_goes : (count k x r : ℕ) (M : Machine) (p : Option ℕ) → Roomy (suc count) M → Went count (wakeup_on k x r M p)
unfolding wakeup_on push_local push_ipi cpu_at
woken_goes count k x r M None h =
    record {
      room = lt-leb 64 (length (cpu_at M k).local_wakeup_list) (omega (arith, (h k).local));
      more = λ t. get_d_set M.cpus k t _ no_cpu (HasRoom count) (record { local = rw length-append (omega (arith, (h k).local)); ipi = omega (arith, (h k).ipi) }) (less_room count (cpu_at M t) (h t));
    }
woken_goes count k x r M (Some u) h =
    record {
      room = lt-leb 64 (length (cpu_at M u).ipi_context_wakeup_list) (omega (arith, (h u).ipi));
      more = λ t. get_d_set M.cpus u t _ no_cpu (HasRoom count) (record { local = omega (arith, (h u).local); ipi = rw length-append (omega (arith, (h u).ipi)) }) (less_room count (cpu_at M t) (h t));
    }

unblock_goes : (count k x : ℕ) (M : Machine) → Roomy (suc count) M → Went count (unblock_context k x M)
unfolding wakeup_context cpu_at
unblock_goes count k x M h =
    by_unblock (Went count) k x M (woken_goes count k x 1 _ _ h) (woken_goes count k x 0 M _ h) (record { room = refl; more = λ t. less_room count (cpu_at M t) (h t) })

each_goes : (k : ℕ) (xs : List ℕ) (o : Outcome) → o.no_room ≡ false → Roomy (length xs) o.machine → (fold (also_unblock k) o xs).no_room ≡ false
unfolding also_unblock
each_goes k [] o e h = e
each_goes k (x ∷ xs) o e h =
    let w = unblock_goes (length xs) k x o.machine h in each_goes k xs (also_unblock k o x) (rw (e, w.room)) w.more

pub roomy : (k count : ℕ) (xs : List ℕ) (M : Machine) → count ≡ length xs → Roomy count M → (unblock_each k xs M).no_room ≡ false
unfolding unblock_each
roomy k count xs M e h = each_goes k xs _ refl (rw e at h)

-- a set has at most 64 members
pub count_small : (mask : ℕ) → length (members mask) ≤ 64
unfolding members tabulate
count_small mask = length_keep (contains mask) (tabulate 64 (λ (i : ℕ). i))

-- the counts as the code reads them are small
pub counted_small : {c n : ℕ} {m : List ℕ} (i : Image c n m) (t : ℕ) {at most count : ℕ} → at ≡ cpu_place n t → t < c → most ≡ max (get_or m (at + local_count) 0) (get_or m (at + ipi_count) 0) → count ≤ 64
    → most + count < word_range
counted_small i t p h w s = let (a, b) = counts_small i t p h in omega arith

-- the loop over the CPUs: those below t have room
module _ {c n : ℕ} (m : List ℕ) (count : ℕ) (M : Machine) (e : m ≡ encode M) (o : Fits c n M) where
  abbrev pub Below : ℕ → Type 0
  Below t = (u : ℕ) → u < t → HasRoom count (cpu_at M u)

  pub below_none : Below 0
  below_none u h = absurd (omega arith)

  pub below_next : (t at most : ℕ) → t < c → at ≡ cpu_place n t → most ≡ max (get_or m (at + local_count) 0) (get_or m (at + ipi_count) 0) → most + count ≤ 64 → Below t → Below (t + 1)
  below_next t at most h p w s b u l =
      by_test (ltb u t) (λ y. b u (ltb-true u t y)) (λ y. here (let z = ltb-false u t y in omega arith))
    where
      here : u ≡ t → HasRoom count (cpu_at M u)
      here z =
          let f = counted m M e o Local t h in
          let g = counted m M e o Ipi t h in
          let v : most ≡ max (length (cpu_at M t).local_wakeup_list) (length (cpu_at M t).ipi_context_wakeup_list) = w ∙ rw (p, f, g) in
          rw z (record { local = omega arith; ipi = omega arith })

  empty : count ≤ 64 → HasRoom count no_cpu
  unfolding no_cpu
  empty s = record { local = omega arith; ipi = omega arith }

  pub below_all : (t : ℕ) → c ≤ t → count ≤ 64 → Below t → Roomy count M
  unfolding cpu_at
  below_all t h s b u =
      by_test (ltb u t) (λ y. b u (ltb-true u t y)) (λ y. rw (past (let z = ltb-false u t y in omega (arith, o.cpus))) (empty s))
    where
      past : length M.cpus ≤ u → cpu_at M u ≡ no_cpu
      past z = get_d_past M.cpus u no_cpu z

pub record RoomBelow (c n count t : ℕ) (m : List ℕ) : Type 0 where
  pub few : t ≤ c
  pub room : (M : Machine) (e : m ≡ encode M) (o : Fits c n M) → Below m count M e o t

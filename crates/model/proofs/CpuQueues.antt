-- The queues of a list of CPUs.
use mathlib.Core.Path.{◌≡◌, refl, ap, ◌∙◌}
use mathlib.Core.Bool.{true, false}
use mathlib.Core.List.{List}
use Prim.Native.Nat.{ℕ, ◌<◌}
use lib.Dec.{eqb, ltb}
use lib.ListN.{length, get_or, set, get_or-eq_default}
use lib.Seq.{get_or-set_same, get_or-set_other}
use borrow.Author.Tests.{eqb-true, eqb-false, ltb-true, ltb-false}
use Rattle.entries.specs.declared.Entry.{Entry}
use Rattle.percpu.specs.Cpu.{Cpu}
use Rattle.percpu.specs.Words.{block_of}
use Rattle.machine.specs.Machine.{no_cpu}
use Rattle.model.specs.State.{State}
use Rattle.model.specs.Steal.{can_steal_from}
use Rattle.model.proofs.Cases.{by_test, never}
use Rattle.model.proofs.Queues.{on}

abbrev pub queue_list : List Cpu → ℕ → List Entry
queue_list cpus i = (get_or cpus i no_cpu).queue

-- a CPU past the end is absent
pub present_in_range : (cpus : List Cpu) (t : ℕ) → (get_or cpus t no_cpu).block.present ≡ true → t < length cpus
unfolding no_cpu block_of
present_in_range cpus t h =
    by_test (ltb t (length cpus)) (λ z. ltb-true t (length cpus) z)
    (λ z. never {b = false} (rw (get_or-eq_default cpus no_cpu (ltb-false t (length cpus) z)) at h) refl)

pub stealable_present : (s : State) (v : Cpu) → can_steal_from s v ≡ true → v.block.present ≡ true
unfolding can_steal_from
stealable_present s v h = by_test v.block.present (λ t. t) (λ t. never {b = false} (rw t at h) refl)

pub queue_set : (cpus : List Cpu) (t : ℕ) (v : Cpu) → t < length cpus → (i : ℕ) → queue_list (set cpus t v) i ≡ on t v.queue (queue_list cpus) i
queue_set cpus t v r i =
    by_test (eqb i t)
    (λ z. rw z (ap (λ j. (get_or (set cpus t v) j no_cpu).queue) (eqb-true i t z) ∙ ap (λ (c : Cpu). c.queue) (get_or-set_same cpus t v no_cpu r)))
    (λ z. rw z (ap (λ (c : Cpu). c.queue) (get_or-set_other cpus t i v no_cpu (eqb-false i t z))))

pub on_on : (k : ℕ) (q : List Entry) (Q P : ℕ → List Entry) → ((i : ℕ) → Q i ≡ P i) → (i : ℕ) → on k q Q i ≡ on k q P i
on_on k q Q P p i = by_test (eqb i k) (λ z. rw z) (λ z. rw (z, p i))

pub on_own : (t : ℕ) (R : ℕ → List Entry) (i : ℕ) → on t (R t) R i ≡ R i
on_own t R i = by_test (eqb i t) (λ z. rw (z, eqb-true i t z)) (λ z. rw z)

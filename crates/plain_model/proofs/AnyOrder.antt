-- The plain engine decides the same of entries and timers in any order, where their keys differ. Assumes nothing.
use mathlib.Core.Path.{◌≡◌, refl, sym, ap, ◌∙◌, subst}
use mathlib.Core.Bool.{Bool, true, false, ◌||◌}
use mathlib.Core.List.Permᴰ
use mathlib.Core.List.{List, [], ◌∷◌, map, Permᴰ}
use mathlib.Core.Logic.{inl, inr}
use Prim.Native.Nat.{ℕ}
use Rattle.columns.specs.Common.{All, In}
use Rattle.entries.specs.Order.{entry_before, sooner}
use Rattle.entries.proofs.Ordered.{entries_ordered, timers_ordered}
use Rattle.percpu.specs.Cpu.{Cpu}
use Rattle.percpu.specs.With.{cpu_queue, cpu_timers}
use Rattle.machine.specs.Machine.{Machine}
use Rattle.model.specs.Accepted.{Call, outcome}
use Rattle.model.proofs.Cases.{by_test, never}
use Rattle.model.proofs.Lists.{all_at, all_in}
use Rattle.plain_model.specs.Rank.{other_key, Differ}
use Rattle.plain_model.specs.State.{placed_cpu, placed_machine, Different}
use Rattle.plain_model.specs.Schedule.{plain_outcome}
use Rattle.plain_model.specs.Decision.{decision}
use Rattle.plain_model.specs.Reordered.{Reordered, AllReordered, ReorderedMachine}
use Rattle.plain_model.proofs.Placing.{by_rank_same}
use Rattle.plain_model.proofs.Decided.{decision_in, decision_is, plain_is}

module _ {A : Type 0} where
  there : {xs ys : List A} → Permᴰ xs ys → (a : A) → In a xs → In a ys
  there Permᴰ.nil a i = i
  there (Permᴰ.cons e p) a (inl f) = inl (f ∙ e)
  there (Permᴰ.cons e p) a (inr i) = inr (there p a i)
  there (Permᴰ.swap e f) a (inl g) = inr (inl (g ∙ e))
  there (Permᴰ.swap e f) a (inr (inl g)) = inl (g ∙ f)
  there (Permᴰ.swap e f) a (inr (inr i)) = inr (inr i)
  there (Permᴰ.trans p q) a i = there q a (there p a i)

module _ {A : Type 0} (lt : A → A → Bool) where
  turned : (a b : A) → other_key lt a b ≡ true → other_key lt b a ≡ true
  turned a b e = by_test (lt b a) (λ t. rw t) (λ t. rw (t, go (lt a b) (lt b a) t e))
    where
      go : (x y : Bool) → y ≡ false → (x || y) ≡ true → x ≡ true
      go true y f h = refl
      go false y f h = never h f

  pub permuted_differs : {xs ys : List A} → Permᴰ xs ys → Differ lt xs → Differ lt ys
  permuted_differs Permᴰ.nil d = d
  permuted_differs (Permᴰ.cons {a = x} {b = y} {l₁ = xs} {l₂ = ys} e p) d = (
    all_in (λ (z : A). other_key lt y z ≡ true) ys
        (λ z i. subst (λ (w : A). other_key lt w z ≡ true) e (all_at (λ (w : A). other_key lt x w ≡ true) xs d.0 z (there (Permᴰ.symm p) z i))),
    permuted_differs p d.1,
  )
  permuted_differs (Permᴰ.swap {a = x} {b = y} {l = l} e f) d = (
    (rw (← e, ← f) (turned x y d.0.0), subst (λ (w : A). All (λ (z : A). other_key lt w z ≡ true) l) f d.1.0),
    (subst (λ (w : A). All (λ (z : A). other_key lt w z ≡ true) l) e d.0.1, d.1.1),
  )
  permuted_differs (Permᴰ.trans p q) d = permuted_differs q (permuted_differs p d)

-- a CPU and a machine, placed
cpu_same : (p q : Cpu) → Reordered p q → Different p → placed_cpu p ≡ placed_cpu q
cpu_same p q r d =
    let a = by_rank_same entries_ordered p.queue q.queue d.queue (permuted_differs entry_before r.queue d.queue) (there r.queue) (there (Permᴰ.symm r.queue)) in
    let b = by_rank_same timers_ordered p.timers q.timers d.timers (permuted_differs sooner r.timers d.timers) (there r.timers) (there (Permᴰ.symm r.timers)) in
    λ i. cpu_queue (a i) (cpu_timers (b i) (r.rest i))

reordered_differs : (p q : Cpu) → Reordered p q → Different p → Different q
reordered_differs p q r d =
    record { queue = permuted_differs entry_before r.queue d.queue; timers = permuted_differs sooner r.timers d.timers }

module _ where
  cpus_same : (ps qs : List Cpu) → AllReordered ps qs → All Different ps → map placed_cpu ps ≡ map placed_cpu qs
  cpus_same [] [] r a = refl
  cpus_same [] (q ∷ qs) r a = absurd r
  cpus_same (p ∷ ps) [] r a = absurd r
  cpus_same (p ∷ ps) (q ∷ qs) r a = λ i. cpu_same p q r.0 a.0 i ∷ cpus_same ps qs r.1 a.1 i

  cpus_differ : (ps qs : List Cpu) → AllReordered ps qs → All Different ps → All Different qs
  cpus_differ [] [] r a = tt
  cpus_differ [] (q ∷ qs) r a = absurd r
  cpus_differ (p ∷ ps) [] r a = absurd r
  cpus_differ (p ∷ ps) (q ∷ qs) r a = (reordered_differs p q r.0 a.0, cpus_differ ps qs r.1 a.1)

pub machine_same : (M M' : Machine) → ReorderedMachine M M' → All Different M.cpus → placed_machine M ≡ placed_machine M'
machine_same M M' r a = λ i. record { contexts = r.contexts i; cpus = cpus_same M.cpus M'.cpus r.cpus a i }

-- who wins, the rule, V, which records are woken or cleaned up, the weight given up, what is stolen, no room
pub same_decision : (k time : ℕ) (M M' : Machine) → ReorderedMachine M M' → All Different M.cpus → decision k time M ≡ decision k time M'
same_decision k time M M' r a =
    decision_is k time M a ∙ ap (decision_in k time) (machine_same M M' r a) ∙ sym (decision_is k time M' (cpus_differ M.cpus M'.cpus r.cpus a))

-- answer and next machine, whatever order the entries and the timers of each CPU are handed over in
pub any_order : (call : Call) (k time : ℕ) (M M' : Machine) → ReorderedMachine M M' → All Different M.cpus → plain_outcome call k time M ≡ plain_outcome call k time M'
any_order call k time M M' r a =
    plain_is call k time M a ∙ ap (outcome call k time) (machine_same M M' r a) ∙ sym (plain_is call k time M' (cpus_differ M.cpus M'.cpus r.cpus a))

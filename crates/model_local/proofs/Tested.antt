-- The test over a machine's contexts is the condition, where all that the CPU names are contexts of the machine. Assumes nothing.
use mathlib.Core.Path.{◌≡◌, refl, sym, ap, ◌∙◌, subst}
use mathlib.Core.Bool.{Bool, true, false, not, ◌&&◌}
use mathlib.Core.List.{List, [], ◌∷◌, map}
use Prim.Native.Nat.{ℕ, zero, suc, ◌<◌}
use native.Mathlib.Omega.{arith}
use lib.Dec.{eqb}
use lib.ListN.{length, get_or}
use borrow.Author.Tests.{eqb-true}
use Rattle.columns.specs.Common.{All, every}
use Rattle.columns.proofs.Tests.{every_at}
use Rattle.entries.specs.declared.Entry.{Entry}
use Rattle.entries.specs.declared.Timer.{Timer}
use Rattle.percpu.specs.Cpu.{Cpu}
use Rattle.percpu.specs.Layout.{no_entry, no_timer}
use Rattle.machine.specs.Machine.{Machine, cpu_at}
use Rattle.machine.specs.Shape.{CpuFits, Fits}
use Rattle.model.specs.Steal.{member, contexts_of}
use Rattle.model.proofs.Cases.{by_test, never}
use Rattle.model_local.specs.Names.{names, timed_contexts, named_contexts, is_named}
use Rattle.model_local.specs.Apart.{names_context, Apart, are_apart}
use Rattle.model_local.proofs.Others.{all_append}

-- what holds of each item by its place
all_placed : {A : Type 0} (P : ℕ → Type 0) (f : A → ℕ) (d : A) (l : List A) → ((i : ℕ) → i < length l → P (f (get_or l i d))) → All P (map f l)
all_placed P f d [] h = tt
all_placed P f d (x ∷ xs) h = (h zero (omega arith), all_placed P f d xs (λ i g. h (suc i) (omega arith)))

all_of : (P : ℕ → Type 0) (l : List ℕ) → ((i : ℕ) → i < length l → P (get_or l i 0)) → All P l
all_of P [] h = tt
all_of P (x ∷ xs) h = (h zero (omega arith), all_of P xs (λ i g. h (suc i) (omega arith)))

member_at : (P : ℕ → Type 0) (l : List ℕ) → All P l → (x : ℕ) → member x l ≡ true → P x
member_at P [] h x t = never {b = false} t refl
member_at P (y ∷ ys) h x t =
    by_test (eqb x y) (λ e. let z : x ≡ y = eqb-true x y e in subst P (sym z) h.0) (λ e. member_at P ys h.1 x (rw e at t))

-- a name is a context's number
pub named_below : (n : ℕ) (p : Cpu) → CpuFits n p → (x : ℕ) → is_named (names p) x ≡ true → x < n
unfolding is_named
named_below n p o x t =
    let P : ℕ → Type 0 = λ y. y < n in
    member_at P (named_contexts (names p)) (
      o.current,
      (
        o.sched,
        (
          o.idle,
          all_append P (contexts_of p.queue) _ (all_placed P (λ (e : Entry). e.context_ref) no_entry p.queue (λ i h. (o.entry i h).name))
              (all_append P (timed_contexts p.timers) _ (all_placed P (λ (u : Timer). u.context_ref) no_timer p.timers o.timer)
              (all_append P p.local_wakeup_list p.ipi_context_wakeup_list (all_of P p.local_wakeup_list o.local_name) (all_of P p.ipi_context_wakeup_list o.ipi_name))),
        ),
      ),
    ) x t

every_of : (f : ℕ → Bool) (n : ℕ) → ((i : ℕ) → f i ≡ true) → every f n ≡ true
unfolding every
every_of f zero h = refl
every_of f (suc n) h = rw (every_of f n h, h n)

not_and : (a b : Bool) → (a ≡ true → b ≡ true → ⊥) → not (a && b) ≡ true
not_and true true h = absurd (h refl refl)
not_and true false h = refl
not_and false b h = refl

module _ (M : Machine) (one other : ℕ) where
  pub apart_tests : Apart M one other → are_apart M one other ≡ true
  unfolding are_apart
  apart_tests h = every_of _ (length M.contexts) (λ x. not_and (names_context M one x) (names_context M other x) (h x))

  pub tests_apart : {c n : ℕ} → Fits c n M → one < c → are_apart M one other ≡ true → Apart M one other
  unfolding are_apart
  tests_apart {c} {n} o h t x p q =
      let b : x < n = named_below n (cpu_at M one) (o.cpu one h) x p in
      let e : not (names_context M one x && names_context M other x) ≡ true = every_at _ (length M.contexts) x t (rw o.contexts b) in
      never {b = false} (sym (ap not (both (names_context M one x) (names_context M other x) p q)) ∙ e) refl
    where
      both : (a b : Bool) → a ≡ true → b ≡ true → (a && b) ≡ true
      both true b p q = q
      both false b p q = p

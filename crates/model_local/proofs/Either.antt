-- Two switches of CPUs that are apart leave the same machine in either order, and answer the same. Assumes nothing.
use mathlib.Core.Path.{◌≡◌, refl, sym, ◌∙◌, subst}
use mathlib.Core.Logic.{◌≢◌}
use mathlib.Core.Bool.{Bool, true, false}
use Prim.Native.Nat.{ℕ, ◌<◌}
use lib.Dec.{eqb}
use lib.ListN.{length}
use lib.Seq.{ext_get_or}
use borrow.Author.Tests.{eqb-true, eqb-false}
use Rattle.machine.specs.Machine.{Machine, context_at, cpu_at, no_context, no_cpu}
use Rattle.model.specs.Schedule.{switch}
use Rattle.model.proofs.Cases.{by_test}
use Rattle.model_local.specs.Names.{names, is_named}
use Rattle.model_local.specs.Local.{Alike, Elsewhere, Local}
use Rattle.model_local.specs.Apart.{Apart, falls_on_stealing_turn, EitherOrder}
use Rattle.model_local.proofs.Named.{within_named}
use Rattle.model_local.proofs.Switching.{switch_local}

-- two machines with the same contexts and CPUs, found one by one
pub machine_same : (M N : Machine) → length M.contexts ≡ length N.contexts → length M.cpus ≡ length N.cpus
    → ((x : ℕ) → context_at M.contexts x ≡ context_at N.contexts x) → ((k : ℕ) → cpu_at M k ≡ cpu_at N k) → M ≡ N
unfolding cpu_at
machine_same M N a b f g =
    λ j. record { contexts = ext_get_or no_context M.contexts N.contexts a (λ x h. f x) j; cpus = ext_get_or no_cpu M.cpus N.cpus b (λ k h. g k) j }

-- N, which differs from M in CPU a and the set A, is as M in CPU b and a set B apart from A
pub alike_apart : (A B : ℕ → Bool) (a b : ℕ) (M N : Machine) → b ≢ a → ((x : ℕ) → B x ≡ true → A x ≡ false) → Elsewhere A a M N → Alike B b M N
alike_apart A B a b M N d h e = record { count = e.count; here = e.there b d; inside = λ x t. e.outside x (h x t) }

pub not_both : (p q : Bool) → (p ≡ true → q ≡ true → ⊥) → q ≡ true → p ≡ false
not_both true q h t = absurd (h refl t)
not_both false q h t = refl

module _ (M : Machine) (a s b t : ℕ) (distinct : a ≢ b) (below-a : a < length M.cpus) (below-b : b < length M.cpus) (apart : Apart M a b)
    (quiet-a : falls_on_stealing_turn a s M ≡ false) (quiet-b : falls_on_stealing_turn b t M ≡ false) where
  abbrev A : ℕ → Bool
  A = is_named (names (cpu_at M a))

  abbrev B : ℕ → Bool
  B = is_named (names (cpu_at M b))

  abbrev Ma : Machine
  Ma = (switch a s M).machine

  abbrev Mb : Machine
  Mb = (switch b t M).machine

  self : (S : ℕ → Bool) (k : ℕ) → Alike S k M M
  self S k = record { count = refl; here = refl; inside = λ x h. refl }

  -- each alone
  first_a : Local A a M M (switch a s M) (switch a s M)
  first_a = switch_local A a s M M (self A a) (within_named (names (cpu_at M a))) quiet-a below-a below-a

  first_b : Local B b M M (switch b t M) (switch b t M)
  first_b = switch_local B b t M M (self B b) (within_named (names (cpu_at M b))) quiet-b below-b below-b

  -- each after the other
  then_b : Local B b M Ma (switch b t M) (switch b t Ma)
  then_b =
      switch_local B b t M Ma (alike_apart A B a b M Ma (λ e. distinct (sym e)) (λ x h. not_both (A x) (B x) (apart x) h) first_a.elsewhere) (within_named (names (cpu_at M b))) quiet-b
      below-b (subst (λ (l : ℕ). b < l) (sym first_a.elsewhere.cpus) below-b)

  then_a : Local A a M Mb (switch a s M) (switch a s Mb)
  then_a =
      switch_local A a s M Mb (alike_apart B A b a M Mb distinct (λ x h. not_both (B x) (A x) (λ p q. apart x q p) h) first_b.elsewhere) (within_named (names (cpu_at M a))) quiet-a
      below-a (subst (λ (l : ℕ). a < l) (sym first_b.elsewhere.cpus) below-a)

  abbrev Mab : Machine
  Mab = (switch b t Ma).machine

  abbrev Mba : Machine
  Mba = (switch a s Mb).machine

  contexts_same : (x : ℕ) → context_at Mab.contexts x ≡ context_at Mba.contexts x
  contexts_same x =
      by_test (A x)
      (λ p. then_b.elsewhere'.outside x (not_both (B x) (A x) (λ u v. apart x v u) p) ∙ sym (then_a.alike.inside x p))
      (λ p. by_test (B x)
      (λ q. then_b.alike.inside x q ∙ sym (then_a.elsewhere'.outside x p))
      (λ q. then_b.elsewhere'.outside x q ∙ first_a.elsewhere.outside x p ∙ sym (then_a.elsewhere'.outside x p ∙ first_b.elsewhere.outside x q)))

  cpus_same : (k : ℕ) → cpu_at Mab k ≡ cpu_at Mba k
  cpus_same k =
      by_test (eqb k a)
      (λ p. let e : k ≡ a = eqb-true k a p in
      subst (λ (j : ℕ). cpu_at Mab j ≡ cpu_at Mba j) (sym e) (then_b.elsewhere'.there a distinct ∙ sym then_a.alike.here))
      (λ p. let n : k ≢ a = eqb-false k a p in
      by_test (eqb k b)
      (λ q. let e : k ≡ b = eqb-true k b q in
      subst (λ (j : ℕ). cpu_at Mab j ≡ cpu_at Mba j) (sym e) (then_b.alike.here ∙ sym (then_a.elsewhere'.there b (λ z. distinct (sym z)))))
      (λ q. let m : k ≢ b = eqb-false k b q in
      then_b.elsewhere'.there k m ∙ first_a.elsewhere.there k n ∙ sym (then_a.elsewhere'.there k n ∙ first_b.elsewhere.there k m)))

  pub either_order : EitherOrder M a s b t
  either_order =
      record {
        machine =
            machine_same Mab Mba (then_b.elsewhere'.count ∙ first_a.elsewhere.count ∙ sym (then_a.elsewhere'.count ∙ first_b.elsewhere.count))
            (then_b.elsewhere'.cpus ∙ first_a.elsewhere.cpus ∙ sym (then_a.elsewhere'.cpus ∙ first_b.elsewhere.cpus)) contexts_same cpus_same;
        answer = then_a.answer;
        answer' = then_b.answer;
      }

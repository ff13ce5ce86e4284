-- Switches of CPUs that are pairwise apart: each CPU's part of the machine is as if its own had been made alone. Assumes nothing.
use Rattle.std.specs.Prelude.{if◌then◌else◌}
use mathlib.Core.Path.{◌≡◌, refl, sym, ◌∙◌, subst}
use mathlib.Core.Logic.{◌≢◌, ◌⊎◌, inl, inr}
use mathlib.Core.Bool.{Bool, true, false}
use mathlib.Core.List.{List, [], ◌∷◌}
use Prim.Native.Nat.{ℕ, ◌<◌}
use lib.Dec.{eqb}
use lib.ListN.{length}
use borrow.Author.Tests.{eqb-true, eqb-false, eq-eqb}
use Rattle.columns.specs.Common.{In}
use Rattle.answer.specs.declared.Answer.{Answer}
use Rattle.machine.specs.Machine.{Machine, context_at, cpu_at}
use Rattle.model.specs.Schedule.{switch}
use Rattle.model.proofs.Cases.{by_test, pick}
use Rattle.model_local.specs.Names.{names}
use Rattle.model_local.specs.Local.{Within, Alike, Local}
use Rattle.model_local.specs.Apart.{falls_on_stealing_turn}
use Rattle.model_local.proofs.Switching.{switch_local}
use Rattle.model_local.proofs.Either.{machine_same}
use Rattle.call_order.specs.Runs.{Switch, own, NeverSteals, AllBy}
use Rattle.call_order.proofs.Switched.{answer_of}
use Rattle.call_order.proofs.Either.{same_answer}

-- the machine after a switch, and after several
abbrev pub after : Switch → Machine → Machine
after c M = (switch c.cpu c.time M).machine

abbrev pub machine_after : Machine → List Switch → Machine
machine_after M [] = M
machine_after M (c ∷ cs) = machine_after (after c M) cs

-- the answers to all of them, and those to CPU k
abbrev pub alone : Machine → List Switch → List Answer
alone M [] = []
alone M (c ∷ cs) = answer_of (switch c.cpu c.time M) ∷ alone (after c M) cs

abbrev pub answers : ℕ → Machine → List Switch → List Answer
answers k M [] = []
answers k M (c ∷ cs) = if eqb c.cpu k then answer_of (switch c.cpu c.time M) ∷ answers k (after c M) cs else answers k (after c M) cs

-- one of a list has the property, or none has
first_of : (P : ℕ → Bool) (ks : List ℕ) → ((k : ℕ) × In k ks × (P k ≡ true)) ⊎ ((k : ℕ) → In k ks → P k ≡ false)
first_of P [] = inr (λ k i. absurd i)
first_of P (j ∷ js) = by_test (P j) (λ t. inl (j, inl refl, t)) (λ t. go t (first_of P js))
  where
    go : P j ≡ false → ((k : ℕ) × In k js × (P k ≡ true)) ⊎ ((k : ℕ) → In k js → P k ≡ false) → ((k : ℕ) × In k (j ∷ js) × (P k ≡ true)) ⊎ ((k : ℕ) → In k (j ∷ js) → P k ≡ false)
    go t (inl (k, i, p)) = inl (k, inr i, p)
    go t (inr f) = inr none
      where
        none : (k : ℕ) → In k (j ∷ js) → P k ≡ false
        none k (inl e) = subst (λ (i : ℕ). P i ≡ false) (sym e) t
        none k (inr i) = f k i

-- S k: a set for each CPU of ks, apart from those of the others
module _ (ks : List ℕ) (S : ℕ → ℕ → Bool) (disjoint : (k j : ℕ) → In k ks → In j ks → k ≢ j → (x : ℕ) → S j x ≡ true → S k x ≡ false) (M₀ : Machine)
    (below : (k : ℕ) → In k ks → k < length M₀.cpus) where
  -- N came of M₀ by switches, of which P k has those of CPU k
  pub record Parts (N : Machine) (P : ℕ → Machine) : Type 0 where
    pub alike : (k : ℕ) → In k ks → Alike (S k) k (P k) N
    pub within : (k : ℕ) → In k ks → Within (S k) (names (cpu_at (P k) k))
    pub count : length N.contexts ≡ length M₀.contexts
    pub cpus : length N.cpus ≡ length M₀.cpus
    pub own_cpus : (k : ℕ) → In k ks → length (P k).cpus ≡ length M₀.cpus
    pub outside : (x : ℕ) → ((k : ℕ) → In k ks → S k x ≡ false) → context_at N.contexts x ≡ context_at M₀.contexts x
    pub there : (j : ℕ) → (In j ks → ⊥) → cpu_at N j ≡ cpu_at M₀ j

  -- a switch is made on N and on the part of its CPU
  abbrev stepped : Switch → (ℕ → Machine) → ℕ → Machine
  stepped c P j = if eqb c.cpu j then after c (P j) else P j

  module _ (N : Machine) (P : ℕ → Machine) (parts : Parts N P) (c : Switch) (here : In c.cpu ks) (quiet : falls_on_stealing_turn c.cpu c.time (P c.cpu) ≡ false) where
    abbrev k : ℕ
    k = c.cpu

    pub made : Local (S k) k (P k) N (switch k c.time (P k)) (switch k c.time N)
    made =
        switch_local (S k) k c.time (P k) N (parts.alike k here) (parts.within k here) quiet
        (subst (λ (l : ℕ). k < l) (sym (parts.own_cpus k here)) (below k here)) (subst (λ (l : ℕ). k < l) (sym parts.cpus) (below k here))

    abbrev N' : Machine
    N' = after c N

    alike_there : (j : ℕ) → In j ks → k ≢ j → Alike (S j) j (P j) N'
    alike_there j i d =
        let a = parts.alike j i in
        record {
          count = made.elsewhere'.count ∙ a.count;
          here = made.elsewhere'.there j (λ e. d (sym e)) ∙ a.here;
          inside = λ x t. made.elsewhere'.outside x (disjoint k j here i d x t) ∙ a.inside x t;
        }

    by_cpu : (Q : ℕ → Machine → Type 0) (j : ℕ) → Q k (after c (P k)) → (k ≢ j → Q j (P j)) → Q j (stepped c P j)
    by_cpu Q j f g =
        pick (Q j) (eqb k j) (λ t. subst (λ (i : ℕ). Q i (after c (P i))) (eqb-true k j t) f) (λ t. g (eqb-false k j t))

    pub steps : Parts N' (stepped c P)
    steps =
        record {
          alike = λ j i. by_cpu (λ (y : ℕ) (O : Machine). Alike (S y) y O N') j made.alike (λ d. alike_there j i d);
          within = λ j i. by_cpu (λ (y : ℕ) (O : Machine). Within (S y) (names (cpu_at O y))) j made.within (λ d. parts.within j i);
          count = made.elsewhere'.count ∙ parts.count;
          cpus = made.elsewhere'.cpus ∙ parts.cpus;
          own_cpus = λ j i. by_cpu (λ (y : ℕ) (O : Machine). length O.cpus ≡ length M₀.cpus) j (made.elsewhere.cpus ∙ parts.own_cpus k here) (λ d. parts.own_cpus j i);
          outside = λ x h. made.elsewhere'.outside x (h k here) ∙ parts.outside x h;
          there = λ j n. made.elsewhere'.there j (λ e. n (subst (λ (i : ℕ). In i ks) (sym e) here)) ∙ parts.there j n;
        }

  -- a CPU's own, with one more
  own_next : (c : Switch) (cs : List Switch) (P : ℕ → Machine) (j : ℕ) → machine_after (stepped c P j) (own j cs) ≡ machine_after (P j) (own j (c ∷ cs))
  own_next c cs P j = by_test (eqb c.cpu j) (λ t. rw t) (λ t. rw t)

  quiet_next : (c : Switch) (cs : List Switch) (P : ℕ → Machine) (j : ℕ) → NeverSteals (P j) (own j (c ∷ cs)) → NeverSteals (stepped c P j) (own j cs)
  quiet_next c cs P j h = by_test (eqb c.cpu j) (λ t. rw t (rw t at h).1) (λ t. rw t (rw t at h))

  quiet_now : (c : Switch) (cs : List Switch) (P : ℕ → Machine) → NeverSteals (P c.cpu) (own c.cpu (c ∷ cs)) → falls_on_stealing_turn c.cpu c.time (P c.cpu) ≡ false
  quiet_now c cs P h = (rw (eq-eqb c.cpu c.cpu refl) at h).0

  pub runs : (cs : List Switch) → AllBy ks cs → (N : Machine) (P : ℕ → Machine) → Parts N P → ((k : ℕ) → In k ks → NeverSteals (P k) (own k cs))
      → Parts (machine_after N cs) (λ (k : ℕ). machine_after (P k) (own k cs))
  runs [] b N P parts h = parts
  runs (c ∷ cs) b N P parts h =
      subst (Parts (machine_after (after c N) cs)) (λ i (j : ℕ). own_next c cs P j i)
      (runs cs b.1 (after c N) (stepped c P) (steps N P parts c b.0 (quiet_now c cs P (h c.cpu b.0))) (λ j i. quiet_next c cs P j (h j i)))

  pub answered : (k : ℕ) (cs : List Switch) → AllBy ks cs → (N : Machine) (P : ℕ → Machine) → Parts N P → ((k : ℕ) → In k ks → NeverSteals (P k) (own k cs))
      → answers k N cs ≡ alone (P k) (own k cs)
  answered k [] b N P parts h = refl
  answered k (c ∷ cs) b N P parts h =
      let q = quiet_now c cs P (h c.cpu b.0) in
      let r : answers k (after c N) cs ≡ alone (stepped c P k) (own k cs) = answered k cs b.1 (after c N) (stepped c P) (steps N P parts c b.0 q) (λ j i. quiet_next c cs P j (h j i)) in
      let a : answer_of (switch c.cpu c.time N) ≡ answer_of (switch c.cpu c.time (P c.cpu)) = same_answer (made N P parts c b.0 q).answer in
      by_test (eqb c.cpu k)
      (λ t. rw t (λ j. subst (λ (i : ℕ). answer_of (switch c.cpu c.time N) ≡ answer_of (switch c.cpu c.time (P i))) (eqb-true c.cpu k t) a j ∷ (rw t at r) j))
      (λ t. rw t (rw t at r))

  -- machines of the same parts are the same
  pub parts_same : (N O : Machine) (P : ℕ → Machine) → Parts N P → Parts O P → N ≡ O
  parts_same N O P p q = machine_same N O (p.count ∙ sym q.count) (p.cpus ∙ sym q.cpus) contexts_same cpus_same
    where
      found : (x : ℕ) → ((k : ℕ) × In k ks × (S k x ≡ true)) ⊎ ((k : ℕ) → In k ks → S k x ≡ false) → context_at N.contexts x ≡ context_at O.contexts x
      found x (inl (k, i, t)) = (p.alike k i).inside x t ∙ sym ((q.alike k i).inside x t)
      found x (inr f) = p.outside x f ∙ sym (q.outside x f)

      contexts_same : (x : ℕ) → context_at N.contexts x ≡ context_at O.contexts x
      contexts_same x = found x (first_of (λ (k : ℕ). S k x) ks)

      one : (j : ℕ) → ((k : ℕ) × In k ks × (eqb k j ≡ true)) ⊎ ((k : ℕ) → In k ks → eqb k j ≡ false) → cpu_at N j ≡ cpu_at O j
      one j (inl (k, i, t)) = subst (λ (y : ℕ). cpu_at N y ≡ cpu_at O y) (eqb-true k j t) ((p.alike k i).here ∙ sym (q.alike k i).here)
      one j (inr f) = let n : In j ks → ⊥ = λ i. eqb-false j j (f j i) refl in p.there j n ∙ sym (q.there j n)

      cpus_same : (j : ℕ) → cpu_at N j ≡ cpu_at O j
      cpus_same j = one j (first_of (λ (k : ℕ). eqb k j) ks)

-- Other lock words, context by context and CPU by CPU. Assumes nothing.
use Rattle.std.specs.Prelude.{if◌then◌else◌}
use mathlib.Core.Path.{◌≡◌, refl, sym, ap, ◌∙◌, subst}
use mathlib.Core.Logic.{◌≢◌}
use mathlib.Core.Bool.{Bool, true}
use mathlib.Core.List.{List}
use Prim.Native.Nat.{ℕ, ◌<◌, ◌≤◌}
use lib.Dec.{ltb, eqb}
use lib.ListN.{length, get_or, set, length-set}
use lib.Seq.{get_or-set_same, get_or-set_other, ext_get_or}
use borrow.Author.Tests.{ltb-true, ltb-false, eqb-true, eqb-false}
use Rattle.columns.proofs.Tabulate.{get_d_tabulate, length_tabulate, get_d_past, tabulate_is}
use Rattle.context.specs.declared.Context.{Context}
use Rattle.percpu.specs.Cpu.{Cpu}
use Rattle.machine.specs.Machine.{context_at, no_context, no_cpu}
use Rattle.percpu.specs.With.{cpu_queue_locked}
use Rattle.model.proofs.Cases.{by_test, pick}
use Rattle.model_local.specs.Local.{with_others}
use Rattle.model_local.proofs.Others.{branch, others_at, others_out, others_count}
use Rattle.call_locks.specs.Locks.{Locks, relocked_context, relocked_cpu, relocked_contexts, relocked_cpus}

module _ (l : Locks) (Q : ℕ → Bool) where
  abbrev P : List Cpu → List Cpu
  P = relocked_cpus l Q

  abbrev at_cpu : List Cpu → ℕ → Cpu
  at_cpu ps j = get_or ps j no_cpu

  pub cpus_count : (ps : List Cpu) → length (P ps) ≡ length ps
  unfolding relocked_cpus
  cpus_count ps = length_tabulate (length ps) _

  pub cpus_get : (ps : List Cpu) (j : ℕ) → j < length ps → at_cpu (P ps) j ≡ (if Q j then at_cpu ps j else relocked_cpu l j (at_cpu ps j))
  unfolding relocked_cpus
  cpus_get ps j h = get_d_tabulate (length ps) j _ no_cpu h

  -- one of Q, and any past the last
  pub cpus_at : (ps : List Cpu) (j : ℕ) → Q j ≡ true → at_cpu (P ps) j ≡ at_cpu ps j
  cpus_at ps j t =
      by_test (ltb j (length ps)) (λ y. cpus_get ps j (ltb-true j _ y) ∙ rw t)
      (λ y. let h : length ps ≤ j = ltb-false j _ y in get_d_past (P ps) j no_cpu (rw (cpus_count ps) h) ∙ sym (get_d_past ps j no_cpu h))

  pub cpus_past : (ps : List Cpu) (j : ℕ) → length ps ≤ j → at_cpu (P ps) j ≡ at_cpu ps j
  cpus_past ps j h = get_d_past (P ps) j no_cpu (rw (cpus_count ps) h) ∙ sym (get_d_past ps j no_cpu h)

  -- what is put in place of a CPU's old state, of Q or not
  pub cpus_set_by : (ps : List Cpu) (k : ℕ) (p q : Cpu) → (k < length ps → q ≡ (if Q k then p else relocked_cpu l k p)) → set (P ps) k q ≡ P (set ps k p)
  cpus_set_by ps k p q e =
      ext_get_or no_cpu (set (P ps) k q) (P (set ps k p))
      (length-set (P ps) k q ∙ cpus_count ps ∙ sym (cpus_count (set ps k p) ∙ length-set ps k p))
      (λ i h.
      let g : i < length ps = rw (cpus_count ps) at (rw (length-set (P ps) k q) at h) in
      let g₁ : i < length (set ps k p) = rw (length-set ps k p) g in
      let g₂ : i < length (P ps) = rw (cpus_count ps) g in
      by_test (eqb i k)
      (λ y.
      let z : i ≡ k = eqb-true i k y in
      subst (λ (j : ℕ). at_cpu (set (P ps) j q) i ≡ q) z (get_or-set_same (P ps) i q no_cpu g₂)
      ∙ e (subst (λ (j : ℕ). j < length ps) z g)
      ∙ subst (λ (j : ℕ). (if Q j then p else relocked_cpu l j p) ≡ at_cpu (P (set ps k p)) i) z
      (sym (cpus_get (set ps k p) i g₁ ∙ ap (λ (r : Cpu). if Q i then r else relocked_cpu l i r) (subst (λ (j : ℕ). at_cpu (set ps j p) i ≡ p) z (get_or-set_same ps i p no_cpu g)))))
      (λ y.
      let n : i ≢ k = eqb-false i k y in
      get_or-set_other (P ps) k i q no_cpu n ∙ cpus_get ps i g ∙ sym (cpus_get (set ps k p) i g₁ ∙ ap (λ (r : Cpu). if Q i then r else relocked_cpu l i r) (get_or-set_other ps k i p no_cpu n))))

  pub cpus_set : (ps : List Cpu) (k : ℕ) (p : Cpu) → Q k ≡ true → set (P ps) k p ≡ P (set ps k p)
  cpus_set ps k p t = cpus_set_by ps k p p (λ h. rw t)

  -- what does not go by the queue lock reads the same
  pub cpus_read : {A : Type 0} (f : Cpu → A) → ((b : Bool) (p : Cpu) → f (cpu_queue_locked b p) ≡ f p) → (ps : List Cpu) (j : ℕ) → f (at_cpu (P ps) j) ≡ f (at_cpu ps j)
  unfolding relocked_cpu
  cpus_read f e ps j =
      let p = at_cpu ps j in
      by_test (ltb j (length ps))
      (λ y. ap f (cpus_get ps j (ltb-true j _ y))
      ∙ pick (λ z. f z ≡ f p) (Q j) (λ t. refl) (λ t. pick (λ z. f z ≡ f p) p.block.present (λ u. e (l.queue_locked j) p) (λ u. refl)))
      (λ y. ap f (cpus_past ps j (ltb-false j _ y)))

  -- a CPU is changed where its lock is not
  pub cpus_change : (f : Cpu → Cpu) → ((p : Cpu) → (f p).block.present ≡ p.block.present) → ((b : Bool) (p : Cpu) → cpu_queue_locked b (f p) ≡ f (cpu_queue_locked b p))
      → (ps : List Cpu) (k : ℕ) → set (P ps) k (f (at_cpu (P ps) k)) ≡ P (set ps k (f (at_cpu ps k)))
  unfolding relocked_cpu
  cpus_change f g e ps k =
      let p = at_cpu ps k in
      cpus_set_by ps k (f p) (f (at_cpu (P ps) k))
      (λ h. ap f (cpus_get ps k h)
      ∙ sym (branch f (Q k) {x = p} refl (ap (λ (b : Bool). if b then cpu_queue_locked (l.queue_locked k) (f p) else f p) (g p) ∙ branch f p.block.present {x = cpu_queue_locked (l.queue_locked k) p} {y = p} (e (l.queue_locked k) p) refl)))

  -- where all are of Q
  pub cpus_same : ((j : ℕ) → Q j ≡ true) → (ps : List Cpu) → P ps ≡ ps
  unfolding relocked_cpus
  cpus_same t ps = tabulate_is no_cpu ps _ (λ i h. rw (t i))

-- records that differ from fs in the set only
module _ (S : ℕ → Bool) (l : Locks) where
  pub relocked_after : (cs fs : List Context) → fs ≡ with_others S cs fs → length fs ≡ length cs
      → with_others S (relocked_contexts l cs) fs ≡ with_others S (relocked_contexts l fs) fs
  relocked_after cs fs e n =
      ext_get_or no_context (with_others S (relocked_contexts l cs) fs) (with_others S (relocked_contexts l fs) fs)
      (others_count S (relocked_contexts l cs) fs ∙ sym (others_count S (relocked_contexts l fs) fs))
      (λ x h.
      let g : x < length fs = rw (others_count S (relocked_contexts l cs) fs) at h in
      by_test (S x) (λ t. others_at S (relocked_contexts l cs) fs x t ∙ sym (others_at S (relocked_contexts l fs) fs x t))
      (λ t.
      others_out S (relocked_contexts l cs) fs x g t
      ∙ get_d_tabulate (length cs) x _ no_context (rw n at g)
      ∙ ap (relocked_context l x) (sym (ap (λ (ds : List Context). context_at ds x) e ∙ others_out S cs fs x g t))
      ∙ sym (others_out S (relocked_contexts l fs) fs x g t ∙ get_d_tabulate (length fs) x _ no_context g)))

-- An image that differs from another in lock and address-space words alone is that other one with its words put in. Assumes nothing.
use mathlib.Core.Path.{◌≡◌, refl, sym, ap, ◌∙◌, subst}
use mathlib.Core.Bool.{Bool, true, false}
use mathlib.Core.List.{List}
use Prim.Native.Nat.{ℕ, ◌<◌, ◌≤◌}
use native.Mathlib.Omega.{arith}
use lib.Dec.{ltb}
use lib.ListN.{length, get_or}
use lib.Seq.{ext_get_or}
use borrow.Author.Tests.{ltb-true, ltb-false}
use Rattle.columns.proofs.Tabulate.{get_d_tabulate, get_d_past}
use Rattle.context.specs.declared.Context.{Context}
use Rattle.context.specs.Words.{context_of}
use Rattle.percpu.specs.Cpu.{Cpu}
use Rattle.machine.specs.Machine.{Machine, context_at, cpu_at, no_context, no_cpu}
use Rattle.machine.specs.Encode.{encode, decode}
use Rattle.image.specs.Refusal.{size_c, size_n}
use Rattle.image.proofs.Admitted.{passed, decoded}
use Rattle.model.proofs.Cases.{by_test, pick, never}
use Rattle.model_leaves.proofs.WellFormed.{gone_context, Stands, absent, present, WellFormed}
use Rattle.model_leaves.proofs.Decoding.{well_formed}
use Rattle.model_local.proofs.Others.{others_at, others_out, others_count}
use Rattle.calls.specs.Call.{call}
use Rattle.call_locks.specs.Locks.{Locks, InRange, relocked_context, relocked_cpu, relocked_contexts, relocked_cpus, relocked, reads_context, reads_cpu, with_locks}
use Rattle.call_locks.specs.Differ.{OnlyLocks, locks_of, AnyLocks}
use Rattle.call_locks.proofs.Relocked.{cpus_count, cpus_get}
use Rattle.call_locks.proofs.Locks.{locks_of_others}

-- the words of a machine that is well-formed are in their ranges
module _ (c n : ℕ) (N : Machine) (W : WellFormed c n N) where
  -- a gone record, and one past the last, has none
  word_most : (f : Context → ℕ) → ((id : ℕ) → f (gone_context id) ≡ 0) → f no_context ≡ 0 → ((x : ℕ) → x < n → (context_at N.contexts x).gone ≡ false → f (context_at N.contexts x) ≤ 2) → (x : ℕ)
      → f (context_at N.contexts x) ≤ 2
  word_most f g none h x =
      let q = context_at N.contexts x in
      by_test (ltb x (length N.contexts))
      (λ t.
      let b : x < n = rw W.contexts at (ltb-true x _ t) in
      by_test q.gone (λ u. let e : f q ≡ 0 = ap f ((W.context x b).gone u) ∙ g q.debug_id in omega (arith, e)) (λ u. h x b u))
      (λ t. let e : f q ≡ 0 = ap f (get_d_past N.contexts x no_context (ltb-false x _ t)) ∙ none in omega (arith, e))

  in_range : InRange (locks_of N)
  unfolding no_context context_of
  in_range =
      record {
        lock = word_most (λ (q : Context). q.lock) (λ id. refl) refl (λ x b u. ((W.context x b).fixed_formed u).lock);
        addr_space = word_most (λ (q : Context). q.addr_space) (λ id. refl) refl (λ x b u. ((W.context x b).fixed_formed u).addr_space);
      }

-- of an absent CPU every word is 0
absent_is : {n : ℕ} {cs : List Context} (p : Cpu) → Stands n cs p → p.block.present ≡ false → p ≡ no_cpu
absent_is p (absent e) t = e
absent_is p (present f r) t = never f.scalars.present t

module _ (S Q : ℕ → Bool) (c n : ℕ) (M N : Machine) (W : WellFormed c n M) (W' : WellFormed c n N) (o : OnlyLocks S Q M N) where
  abbrev l : Locks
  l = locks_of N

  context_is : (x : ℕ) → x < n → relocked_context l x (context_at M.contexts x) ≡ context_at N.contexts x
  unfolding relocked_context
  context_is x h =
      let q = context_at M.contexts x in
      let q' = context_at N.contexts x in
      pick (λ (d : Context). d ≡ q') q.gone
      (λ t.
      let u : q'.gone ≡ true = ap (λ (d : Context). d.gone) (o.context x) ∙ t in
      (W.context x h).gone t ∙ ap gone_context (sym (ap (λ (d : Context). d.debug_id) (o.context x))) ∙ sym ((W'.context x h).gone u))
      (λ t. sym (o.context x))

  cpu_is : (j : ℕ) → j < c → relocked_cpu l j (cpu_at M j) ≡ cpu_at N j
  unfolding relocked_cpu
  cpu_is j h =
      pick (λ (p : Cpu). p ≡ cpu_at N j) (cpu_at M j).block.present (λ t. sym (o.cpu j))
      (λ t.
      let u : (cpu_at N j).block.present ≡ false = ap (λ (p : Cpu). p.block.present) (o.cpu j) ∙ t in
      absent_is (cpu_at M j) (W.cpu j h) t ∙ sym (absent_is (cpu_at N j) (W'.cpu j h) u))

  contexts_are : (relocked S Q l M).contexts ≡ N.contexts
  contexts_are =
      let ds = relocked_contexts l M.contexts in
      ext_get_or no_context (relocked S Q l M).contexts N.contexts (others_count S ds M.contexts ∙ sym o.contexts)
      (λ x h.
      let g : x < length M.contexts = rw (others_count S ds M.contexts) at h in
      by_test (S x) (λ t. others_at S ds M.contexts x t ∙ sym (o.context_read x t))
      (λ t. others_out S ds M.contexts x g t ∙ get_d_tabulate (length M.contexts) x _ no_context g ∙ context_is x (rw W.contexts at g)))

  cpus_are : (relocked S Q l M).cpus ≡ N.cpus
  unfolding cpu_at
  cpus_are =
      ext_get_or no_cpu (relocked_cpus l Q M.cpus) N.cpus (cpus_count l Q M.cpus ∙ sym o.cpus)
      (λ j h.
      let g : j < length M.cpus = rw (cpus_count l Q M.cpus) at h in
      cpus_get l Q M.cpus j g ∙ pick (λ (p : Cpu). p ≡ get_or N.cpus j no_cpu) (Q j) (λ t. sym (o.cpu_read j t)) (λ t. cpu_is j (rw W.cpus at g)))

  pub relocked_is : relocked S Q l M ≡ N
  relocked_is = λ i. record { contexts = contexts_are i; cpus = cpus_are i }

pub any_locks : AnyLocks
any_locks m m' operation cpu time context z z' o =
    let S : ℕ → Bool = reads_context (decode m) operation cpu context in
    let Q : ℕ → Bool = reads_cpu (decode m) cpu in
    let W = well_formed m (passed time m z) in
    let W₁ = well_formed m' (passed time m' z') in
    let c : size_c m' ≡ size_c m = sym W₁.cpus ∙ o.cpus ∙ W.cpus in
    let n : size_n m' ≡ size_n m = sym W₁.contexts ∙ o.contexts ∙ W.contexts in
    let W' : WellFormed (size_c m) (size_n m) (decode m') = subst (λ (i : ℕ). WellFormed i (size_n m) (decode m')) c (subst (λ (i : ℕ). WellFormed (size_c m') i (decode m')) n W₁) in
    let e : with_locks m operation cpu context (locks_of (decode m')) m ≡ m' = ap encode (relocked_is S Q (size_c m) (size_n m) (decode m) (decode m') W W' o) ∙ sym (decoded m' (passed time m' z')) in
    let s = locks_of_others m operation cpu time context (locks_of (decode m')) (in_range (size_c m) (size_n m) (decode m') W') z in
    record {
      answer = ap (λ (y : List ℕ). (call y operation cpu time context).answer) (sym e) ∙ s.answer;
      image = ap (λ (y : List ℕ). (call y operation cpu time context).image) (sym e) ∙ s.image;
    }

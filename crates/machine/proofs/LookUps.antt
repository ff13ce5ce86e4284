-- Looking up a context or a CPU, from what the code's tests said. Assumes nothing.
use Rattle.std.specs.Prelude.{None, Some}
use mathlib.Core.Path.{◌≡◌, refl, sym, ap, ◌∙◌}
use mathlib.Core.Bool.{Bool, true, false}
use Prim.Native.Nat.{ℕ, ◌+◌, ◌<◌, ◌≤◌}
use native.Mathlib.Omega.{arith}
use native.Mathlib.Nat.{add-zero}
use mathlib.Core.List.{List}
use lib.Dec.{leb}
use lib.ListN.{length, get_or}
use borrow.Author.Tests.{le-leb, lt-leb, leb-false}
use Rattle.columns.specs.Common.{mark}
use Rattle.columns.specs.Blocks.{part}
use Rattle.columns.proofs.Tabulate.{part_get}
use Rattle.columns.proofs.Tests.{by_test}
use Rattle.cpu_stats.specs.Words.{stats_words}
use Rattle.context.specs.Words.{context_words, record_size}
use Rattle.percpu.specs.Words.{block_words}
use Rattle.percpu.specs.Layout.{cpu_words}
use Rattle.machine.specs.Machine.{Machine, context_at, cpu_at, no_context}
use Rattle.machine.specs.Encode.{encode, context_place, cpu_place}
use Rattle.machine.specs.Shape.{Fits}
use Rattle.machine.specs.LookUp.{look_up, get_percpu_block}
use Rattle.machine.proofs.Places.{context_part, block_is}
use Rattle.percpu.specs.Places.{block_size}

pub mark_true : (b : Bool) → mark b ≡ 1 → b ≡ true
mark_true true e = refl
mark_true false e = absurd (omega arith)

pub mark_false : (b : Bool) → (mark b ≡ 1 → ⊥) → b ≡ false
mark_false true n = absurd (n refl)
mark_false false n = refl

module _ {c n : ℕ} (m : List ℕ) (x : ℕ) (M : Machine) (e : m ≡ encode M) (o : Fits c n M) where
  -- a word of a record, and of a block
  pub context_word : (j : ℕ) → x < n → j < record_size → get_or m (context_place x + j) 0 ≡ get_or (context_words (context_at M.contexts x)) j 0
  context_word j h g =
      sym (part_get m (context_place x) record_size j g)
      ∙ ap (λ (l : List ℕ). get_or (part l (context_place x) record_size) j 0) e
      ∙ ap (λ (l : List ℕ). get_or l j 0) (context_part M x no_context (rw o.contexts h))

  pub block_word : (j : ℕ) → x < c → j < block_size → get_or m (cpu_place n x + j) 0 ≡ get_or (cpu_words (cpu_at M x)) j 0
  block_word j h g = sym (part_get m (cpu_place n x) block_size j g) ∙ ap (λ (l : List ℕ). get_or l j 0) (block_is m x h M e o)

  pub gone_word : x < n → get_or m (context_place x) 0 ≡ mark (context_at M.contexts x).gone
  unfolding context_words
  gone_word h = rw (← add-zero (context_place x)) (context_word 0 h (omega arith))

  pub present_word : x < c → get_or m (cpu_place n x) 0 ≡ mark (cpu_at M x).block.present
  unfolding cpu_words block_words stats_words
  present_word h = rw (← add-zero (cpu_place n x)) (block_word 0 h (omega arith))

  -- i: x, as the code has it
  module _ (i : ℕ) (q : i ≡ x) where
    pub look_far : n ≤ i → None ≡ look_up M x
    unfolding look_up
    look_far h = rw (le-leb (length M.contexts) x (omega (arith, o.contexts)))

    near : i < n → leb (length M.contexts) x ≡ false
    near h = lt-leb (length M.contexts) x (omega (arith, o.contexts))

    -- at: where the record of i stands
    pub look_gone : {at : ℕ} → at ≡ context_place i → i < n → get_or m at 0 ≡ 1 → None ≡ look_up M x
    unfolding look_up
    look_gone p h t = rw (near h, mark_true (context_at M.contexts x).gone (sym (gone_word (rw q at h)) ∙ rw (p, q) at t))

    pub look_live : {at : ℕ} → at ≡ context_place i → i < n → (get_or m at 0 ≡ 1 → ⊥) → Some i ≡ look_up M x
    unfolding look_up
    look_live p h t =
        rw (near h, mark_false (context_at M.contexts x).gone (λ z. t (ap (λ (j : ℕ). get_or m j 0) (p ∙ ap context_place q) ∙ gone_word (rw q at h) ∙ z)))
        (ap Some q)

    pub cpu_far : c ≤ i → None ≡ get_percpu_block M x
    unfolding get_percpu_block
    cpu_far h = rw (le-leb (length M.cpus) x (omega (arith, o.cpus)))

    close : i < c → leb (length M.cpus) x ≡ false
    close h = lt-leb (length M.cpus) x (omega (arith, o.cpus))

    -- at: where the block of i stands
    pub cpu_present : {at : ℕ} → at ≡ cpu_place n i → i < c → get_or m at 0 ≡ 1 → Some i ≡ get_percpu_block M x
    unfolding get_percpu_block
    cpu_present p h t = rw (close h, mark_true (cpu_at M x).block.present (sym (present_word (rw q at h)) ∙ rw (p, q) at t)) (ap Some q)

    pub cpu_absent : {at : ℕ} → at ≡ cpu_place n i → i < c → (get_or m at 0 ≡ 1 → ⊥) → None ≡ get_percpu_block M x
    unfolding get_percpu_block
    cpu_absent p h t =
        rw (close h, mark_false (cpu_at M x).block.present (λ z. t (ap (λ (j : ℕ). get_or m j 0) (p ∙ ap (cpu_place n) q) ∙ present_word (rw q at h) ∙ z)))

-- what an answer of `look_up` or `get_percpu_block` says of the machine
pub record IsLive (M : Machine) (x i : ℕ) : Type 0 where
  pub is : i ≡ x
  pub below : x < length M.contexts
  pub alive : (context_at M.contexts x).gone ≡ false

pub live : (M : Machine) (x i : ℕ) → Some i ≡ look_up M x → IsLive M x i
unfolding look_up
live M x i e = by_test (leb (length M.contexts) x) far (λ f. by_test (context_at M.contexts x).gone (dead f) (λ g. found f g (rw (f, g) at e)))
  where
    never : Some i ≡ None → IsLive M x i
    never z = let w : ◌≡◌ {A = ℕ} 0 1 = cc in absurd (omega arith)

    far : leb (length M.contexts) x ≡ true → IsLive M x i
    far f = never (rw f at e)

    dead : leb (length M.contexts) x ≡ false → (context_at M.contexts x).gone ≡ true → IsLive M x i
    dead f g = never (rw (f, g) at e)

    found : leb (length M.contexts) x ≡ false → (context_at M.contexts x).gone ≡ false → Some i ≡ Some x → IsLive M x i
    found f g z = record { is = cc; below = leb-false _ _ f; alive = g }

pub record IsPresent (M : Machine) (k i : ℕ) : Type 0 where
  pub is : i ≡ k
  pub below : k < length M.cpus
  pub present : (cpu_at M k).block.present ≡ true

pub present : (M : Machine) (k i : ℕ) → Some i ≡ get_percpu_block M k → IsPresent M k i
unfolding get_percpu_block
present M k i e = by_test (leb (length M.cpus) k) far (λ f. by_test (cpu_at M k).block.present (λ g. found f g (rw (f, g) at e)) (dead f))
  where
    never : Some i ≡ None → IsPresent M k i
    never z = let w : ◌≡◌ {A = ℕ} 0 1 = cc in absurd (omega arith)

    far : leb (length M.cpus) k ≡ true → IsPresent M k i
    far f = never (rw f at e)

    dead : leb (length M.cpus) k ≡ false → (cpu_at M k).block.present ≡ false → IsPresent M k i
    dead f g = never (rw (f, g) at e)

    found : leb (length M.cpus) k ≡ false → (cpu_at M k).block.present ≡ true → Some i ≡ Some k → IsPresent M k i
    found f g z = record { is = cc; below = leb-false _ _ f; present = g }

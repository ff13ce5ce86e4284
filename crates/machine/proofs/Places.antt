-- Where a context's record and a CPU's block stand in the image. Assumes nothing.
use mathlib.Core.Path.{◌≡◌, refl, sym, ap, ◌∙◌}
use Prim.Native.Nat.{ℕ, ◌+◌, ◌-◌, ◌<◌}
use native.Mathlib.Omega.{arith}
use mathlib.Core.List.{List, [], ◌∷◌, ◌++◌, append-nil, append_assoc}
use lib.ListN.{length, get_or, take, drop, length-append, length-set}
use borrow.Rule.Slice.PartMut.{put_mid}
use Rattle.columns.specs.Blocks.{cat, length_cat, part, splice, block_part, block_splice, part_is, splice_is}
use Rattle.context.specs.declared.Context.{Context}
use Rattle.context.specs.Words.{context_words, context_of, context_of_words, length_context_words, record_size}
use Rattle.percpu.specs.Cpu.{Cpu}
use Rattle.percpu.specs.Layout.{cpu_words, length_cpu_words}
use Rattle.machine.specs.Machine.{Machine, context_at, cpu_at, set_context, set_cpu, no_context, no_cpu}
use Rattle.machine.specs.Encode.{encode, context_place, cpu_place}
use Rattle.machine.specs.Shape.{Fits}
use Rattle.percpu.specs.Places.{block_size}
use Rattle.columns.proofs.Tabulate.{part_get}

-- the blocks as the last part
last : (M : Machine) → encode M ≡ ((length M.cpus ∷ length M.contexts ∷ []) ++ cat context_words record_size length_context_words M.contexts) ++ (cat cpu_words block_size length_cpu_words M.cpus ++ [])
unfolding encode
last M =
    ap (λ (l : List ℕ). (length M.cpus ∷ length M.contexts ∷ []) ++ (cat context_words record_size length_context_words M.contexts ++ l))
    (sym (append-nil (cat cpu_words block_size length_cpu_words M.cpus)))
    ∙ sym (append_assoc (length M.cpus ∷ length M.contexts ∷ []) (cat context_words record_size length_context_words M.contexts) (cat cpu_words block_size length_cpu_words M.cpus ++ []))

module _ (M : Machine) where
  abbrev sizes : List ℕ
  sizes = length M.cpus ∷ length M.contexts ∷ []

  abbrev records : List ℕ
  records = cat context_words record_size length_context_words M.contexts

  abbrev blocks : List ℕ
  blocks = cat cpu_words block_size length_cpu_words M.cpus

  pub length_encode : length (encode M) ≡ cpu_place (length M.contexts) (length M.cpus)
  unfolding encode
  length_encode =
      rw (length-append, length-append, length_cat context_words record_size length_context_words M.contexts, length_cat cpu_words block_size length_cpu_words M.cpus)
      (omega arith)

  pub size_cpus : get_or (encode M) 0 0 ≡ length M.cpus
  unfolding encode
  size_cpus = refl

  pub size_contexts : get_or (encode M) 1 0 ≡ length M.contexts
  unfolding encode
  size_contexts = refl

  pub context_part : (x : ℕ) (d : Context) → x < length M.contexts → part (encode M) (context_place x) record_size ≡ context_words (get_or M.contexts x d)
  unfolding encode
  context_part x d h = block_part context_words record_size length_context_words sizes blocks M.contexts 2 x refl h d

  pub context_splice : (x : ℕ) (c : Context) → x < length M.contexts → splice (encode M) (context_place x) record_size (context_words c) ≡ encode (set_context x c M)
  unfolding encode
  context_splice x c h = rw (length-set M.contexts x c) (block_splice context_words record_size length_context_words sizes blocks M.contexts 2 x refl h c c)

  front_length : length (sizes ++ records) ≡ context_place (length M.contexts)
  front_length = rw (length-append, length_cat context_words record_size length_context_words M.contexts)

  pub cpu_part : (k : ℕ) → k < length M.cpus → part (encode M) (cpu_place (length M.contexts) k) block_size ≡ cpu_words (cpu_at M k)
  unfolding cpu_at
  cpu_part k h =
      rw (last M)
      (block_part cpu_words block_size length_cpu_words (sizes ++ records) [] M.cpus (context_place (length M.contexts)) k front_length h no_cpu)

  pub cpu_splice : (k : ℕ) (p : Cpu) → k < length M.cpus → splice (encode M) (cpu_place (length M.contexts) k) block_size (cpu_words p) ≡ encode (set_cpu k p M)
  cpu_splice k p h =
      rw (last M, last (set_cpu k p M), length-set M.cpus k p)
      (block_splice cpu_words block_size length_cpu_words (sizes ++ records) [] M.cpus (context_place (length M.contexts)) k front_length h p p)

-- context x, as the code lends it from its place `at`: `&m[at..at + 26]` and `&mut m[at..at + 26]`
module _ {c n : ℕ} (m : List ℕ) (x : ℕ) {at : ℕ} (p : at ≡ context_place x) (h : x < n) (M : Machine) (e : m ≡ encode M) (o : Fits c n M) where
  pub got_is : context_of (take (at + record_size - at) (drop at m)) ≡ context_at M.contexts x
  got_is =
      ap context_of (part_is m at (at + record_size) record_size refl)
      ∙ ap (λ (l : List ℕ). context_of (part l at record_size)) e
      ∙ rw (p, context_part M x no_context (rw o.contexts h)) (context_of_words _)

  pub put_is : (q : Context) (l : List ℕ) → l ≡ context_words q → put_mid at (at + record_size - at) m l ≡ encode (set_context x q M)
  put_is q l b = splice_is m at (at + record_size) record_size l refl ∙ rw (p, b, e) (context_splice M x q (rw o.contexts h))

-- the block of CPU k
module _ {c n : ℕ} (m : List ℕ) (k : ℕ) (h : k < c) (M : Machine) (e : m ≡ encode M) (o : Fits c n M) where
  pub block_is : part m (cpu_place n k) block_size ≡ cpu_words (cpu_at M k)
  block_is = rw (e, ← o.contexts) (cpu_part M k (rw o.cpus h))

-- the same, as the code lends it from its place `at`
module _ {c n : ℕ} (m : List ℕ) (k : ℕ) {at : ℕ} (p : at ≡ cpu_place n k) (h : k < c) (M : Machine) (e : m ≡ encode M) (o : Fits c n M) where
  pub lent_is : take (at + block_size - at) (drop at m) ≡ cpu_words (cpu_at M k)
  lent_is = part_is m at (at + block_size) block_size refl ∙ rw p (block_is m k h M e o)

  pub back_is : (q : Cpu) (l : List ℕ) → l ≡ cpu_words q → put_mid at (at + block_size - at) m l ≡ encode (set_cpu k q M)
  back_is q l b = splice_is m at (at + block_size) block_size l refl ∙ rw (p, b, e, ← o.contexts) (cpu_splice M k q (rw o.cpus h))

-- a word of the block that the code lends from its place `at`
pub lent_word : (m : List ℕ) {at : ℕ} (n k j : ℕ) → at ≡ cpu_place n k → j < block_size → get_or (take (at + block_size - at) (drop at m)) j 0 ≡ get_or m (cpu_place n k + j) 0
lent_word m {at} n k j p h = rw (part_is m at (at + block_size) block_size refl, p) (part_get m (cpu_place n k) block_size j h)

-- a word that the code reads behind a place `at`
pub word_from : (m : List ℕ) {at p r : ℕ} (j : ℕ) → at ≡ p → r ≡ get_or m (at + j) 0 → r ≡ get_or m (p + j) 0
word_from m j e z = z ∙ ap (λ (a : ℕ). get_or m (a + j) 0) e

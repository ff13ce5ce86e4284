-- `encode (decode m) ≡ m`, of an image of the right length whose marks, statuses and states are such and whose unused words are 0. Assumes nothing.
use mathlib.Core.Path.{◌≡◌, refl, ◌∙◌}
use Prim.Native.Nat.{ℕ, suc, ◌+◌, ◌*◌, ◌<◌, ◌≤◌}
use native.Mathlib.Omega.{arith}
use mathlib.Core.List.{List, [], ◌∷◌, ◌++◌}
use lib.ListN.{length, get_or, drop, length-drop}
use lib.Seq.{drop-drop}
use Rattle.columns.specs.Common.{tabulate}
use Rattle.columns.specs.Blocks.{cat, part, length_part}
use Rattle.columns.proofs.Tabulate.{tabulate_is, length_tabulate, mark_word, cat_front, cat_tabulate}
use Rattle.context.specs.Status.{status_forth}
use Rattle.context.specs.Words.{context_words, context_of, length_context_words, record_size}
use Rattle.percpu.specs.Layout.{cpu_words, cpu_of, length_cpu_words}
use Rattle.percpu.proofs.Whole.{Whole, cpu_words_of}
use Rattle.machine.specs.Encode.{encode, decode, context_place, cpu_place}
use Rattle.percpu.specs.Places.{block_size}

-- a record whose marks are 0 or 1, and whose status is one
pub record WholeContext (w : List ℕ) : Type 0 where
  pub gone : get_or w 0 0 ≤ 1
  pub status : get_or w 2 0 ≤ 5
  pub running : get_or w 3 0 ≤ 1
  pub currently_scheduled : get_or w 4 0 ≤ 1
  pub inside_syscall : get_or w 11 0 ≤ 1
  pub has_wake : get_or w 12 0 ≤ 1
  pub userspace : get_or w 14 0 ≤ 1
  pub being_sigkilled : get_or w 15 0 ≤ 1
  pub is_active : get_or w 20 0 ≤ 1
  pub has_queue_key : get_or w 21 0 ≤ 1

pub context_words_of : (w : List ℕ) → length w ≡ record_size → WholeContext w → context_words (context_of w) ≡ w
unfolding context_words context_of tabulate
context_words_of w h k =
    let t : tabulate (length w) (λ (i : ℕ). get_or w i 0) ≡ w = tabulate_is 0 w (λ (i : ℕ). get_or w i 0) (λ i b. refl)
    in rw (
      mark_word (get_or w 0 0) k.gone,
      status_forth (get_or w 2 0) k.status,
      mark_word (get_or w 3 0) k.running,
      mark_word (get_or w 4 0) k.currently_scheduled,
      mark_word (get_or w 11 0) k.inside_syscall,
      mark_word (get_or w 12 0) k.has_wake,
      mark_word (get_or w 14 0) k.userspace,
      mark_word (get_or w 15 0) k.being_sigkilled,
      mark_word (get_or w 20 0) k.is_active,
      mark_word (get_or w 21 0) k.has_queue_key,
    )
    (rw h at t)

pub record WholeImage (m : List ℕ) : Type 0 where
  pub size : length m ≡ 2 + record_size * get_or m 1 0 + block_size * get_or m 0 0
  pub context : (x : ℕ) → x < get_or m 1 0 → WholeContext (part m (context_place x) record_size)
  pub cpu : (k : ℕ) → k < get_or m 0 0 → Whole (part m (cpu_place (get_or m 1 0) k) block_size)

part_drop : (r : List ℕ) (a o k : ℕ) → part r (a + o) k ≡ part (drop a r) o k
unfolding part
part_drop r a o k = rw (drop-drop)

skip_two : (x y : ℕ) (r : List ℕ) (s a k : ℕ) → s ≡ suc (suc a) → part (x ∷ y ∷ r) s k ≡ part r a k
unfolding part
skip_two x y r s a k e = rw e

pub encode_decode : (m : List ℕ) → WholeImage m → encode (decode m) ≡ m
unfolding encode decode
encode_decode [] v = absurd (omega (arith, v.size))
encode_decode (x ∷ []) v = absurd (omega (arith, v.size))
encode_decode (x ∷ y ∷ r) v =
    let c : cat cpu_words block_size length_cpu_words (tabulate x (λ (k : ℕ). cpu_of (part (x ∷ y ∷ r) (cpu_place y k) block_size))) ≡ drop (record_size * y) r
    = cat_tabulate cpu_words block_size length_cpu_words x (λ (k : ℕ). cpu_of (part (x ∷ y ∷ r) (cpu_place y k) block_size)) (drop (record_size * y) r)
    (rw (length-drop) (omega (arith, v.size)))
    (λ k h. cpu_words_of _ (v.cpu k h) ∙ skip_two x y r (cpu_place y k) (record_size * y + block_size * k) block_size (omega arith) ∙ part_drop r (record_size * y) (block_size * k) block_size)
    in let a : cat context_words record_size length_context_words (tabulate y (λ (i : ℕ). context_of (part (x ∷ y ∷ r) (context_place i) record_size))) ++ drop (record_size * y) r ≡ r
    = cat_front context_words record_size length_context_words y (λ (i : ℕ). context_of (part (x ∷ y ∷ r) (context_place i) record_size)) r
    (λ i h. context_words_of (part (x ∷ y ∷ r) (2 + record_size * i) record_size) (length_part (x ∷ y ∷ r) (2 + record_size * i) record_size (omega (arith, v.size))) (v.context i h)
    ∙ skip_two x y r (2 + record_size * i) (record_size * i) record_size (omega arith))
    in rw (length_tabulate x, length_tabulate y, c, a)

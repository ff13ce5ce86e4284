-- What is printed, from what the call answered. Assumes nothing.
use mathlib.Core.Path.{◌≡◌, ap, ◌∙◌}
use Prim.Native.Nat.{ℕ, ◌+◌, ◌-◌, ◌%◌, ◌<◌, ◌≤◌}
use native.Mathlib.Omega.{arith}
use mathlib.Core.List.{List}
use lib.ListN.{length, take, length-take}
use borrow.Author.Tests.{ne_eqb, lt-ltb, le-ltb}
use Rattle.image.specs.Refusal.{size_c, size_n}
use Rattle.image.proofs.Admitted.{passed}
use Rattle.answer.specs.declared.Answer.{Answer}
use Rattle.context_ops.specs.Reply.{reply}
use Rattle.calls.specs.Call.{call}
use Rattle.calls.proofs.Accepts.{accepts}
use Rattle.asked.specs.declared.Asked.{Asked}
use Rattle.asked.specs.OfReply.{refused, BlockInside, asked_of}
use Rattle.operations.specs.declared.arguments.Call.{Call}
use Rattle.decide.specs.Input.{head_of, image_words, kept}
use Rattle.decide.specs.Line.{call_line, line}

-- n: the number of contexts before the call, as the code has it
module _ {a : Answer} {m' : List ℕ} (m : List ℕ) (operation cpu time context n : ℕ) (e : reply a m' ≡ call m operation cpu time context) (h : n ≡ size_n m) where
  pub in_image : length m' ≡ length m → a.refusal ≡ 0 → BlockInside n cpu m'
  in_image l z =
      let s = accepts m cpu time context z operation e
      in let p = passed time m s.none
      in let b : cpu < size_c m = s.below
      in record { contexts = omega (arith, p.names.1); cpus = omega (arith, p.cpus.1); inside = omega (arith, p.size) }

  pub shown : {l : Asked} → l ≡ asked_of n cpu (reply a m') → l ≡ asked_of (size_n m) cpu (call m operation cpu time context)
  shown q = q ∙ ap (λ (k : ℕ). asked_of k cpu (reply a m')) h ∙ ap (asked_of (size_n m) cpu) e

-- an input, by its length
module _ (s : List ℕ) (over : ℕ) where
  pub short : {l : Asked} → length s < 32 → l ≡ refused 1 → l ≡ line s over
  unfolding line
  short h e = rw (lt-ltb (length s) 32 h) e

  pub torn : {l : Asked} → 32 ≤ length s → ((length s % 8 + over) % 8 ≡ 0 → ⊥) → l ≡ refused 1 → l ≡ line s over
  unfolding line
  torn h f e = rw (le-ltb (length s) 32 h, ne_eqb ((length s % 8 + over) % 8) 0 f) e

  pub whole : {l : Asked} (n : ℕ) → 32 ≤ length s → (length s % 8 + over) % 8 ≡ 0 → n ≡ kept s → l ≡ call_line (image_words s n) (head_of s) → l ≡ line s over
  unfolding line
  whole n h f g e = rw (le-ltb (length s) 32 h, f, ← g) e

-- of the longest image, the first n words
pub first_words : (m : List ℕ) (n : ℕ) → n ≤ length m → length (take (n - 0) m) ≡ n
first_words m n h = let e : n - 0 ≡ n = omega arith in rw e (length-take n m ∙ omega arith)

pub line_of : {l : Asked} (m n : List ℕ) (h k : Call) → l ≡ call_line m h → m ≡ n → h ≡ k → l ≡ call_line n k
line_of m n h k e f g = e ∙ ap (λ (v : List ℕ). call_line v h) f ∙ ap (call_line n) g

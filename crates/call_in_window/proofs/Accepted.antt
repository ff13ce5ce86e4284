-- What a call in a window comes to, of the definition: any words, operation, CPU, time and context. Assumes nothing.
use mathlib.Core.Path.{◌≡◌, refl, sym, ap, ◌∙◌, subst}
use Prim.Native.Nat.{ℕ}
use mathlib.Core.List.{List}
use lib.Dec.{eqb}
use borrow.Author.Tests.{ne_eqb, eqb-true, eqb-false}
use Rattle.columns.proofs.Tests.{by_test}
use Rattle.image.specs.Refusal.{size_n}
use Rattle.answer.specs.declared.Answer.{Answer}
use Rattle.context_ops.specs.Reply.{Reply, reply, refuse}
use Rattle.calls.specs.Call.{call}
use Rattle.operations.proofs.Kept.{call_keeps}
use Rattle.window.specs.declared.Record.{Record}
use Rattle.window.specs.Window.{refusal, added}
use Rattle.call_in_window.specs.CallInWindow.{WindowReply, window_reply, beside, turn_at, in_window, call_in_window}

module _ (m w : List ℕ) (operation cpu time context : ℕ) where
  abbrev y : Reply
  y = call m operation cpu time context

  abbrev number : ℕ
  number = refusal (size_n m) w

  abbrev u : WindowReply
  u = call_in_window m w operation cpu time context

  abbrev turn : Record
  turn = turn_at (size_n m) cpu time m

  -- the call's own number comes first: image and window are kept
  pub own_number : (y.answer.refusal ≡ 0 → ⊥) → u ≡ beside (refuse y.answer.refusal m) w
  unfolding in_window
  own_number n = rw (ne_eqb y.answer.refusal 0 n) (ap (λ (x : Reply). beside x w) (call_keeps m operation cpu time context n))

  -- then the window's, whatever the call does
  pub window_number : y.answer.refusal ≡ 0 → (number ≡ 0 → ⊥) → u ≡ beside (refuse number m) w
  unfolding in_window
  window_number z n = rw (z, ne_eqb number 0 n)

  -- then both change: the answer and every word of the image are the call's, a decision adds its record, and no other call adds one
  pub decision_added : y.answer.refusal ≡ 0 → number ≡ 0 → (y.answer.rule ≡ 0 → ⊥) → u ≡ beside y (added w turn)
  unfolding in_window
  decision_added z n d = rw (z, n, ne_eqb y.answer.rule 0 d)

  pub none_added : y.answer.refusal ≡ 0 → number ≡ 0 → y.answer.rule ≡ 0 → u ≡ beside y w
  unfolding in_window
  none_added z n d = rw (z, n, d)

  -- one of the four
  pub cases : (P : WindowReply → Type 0) → ((y.answer.refusal ≡ 0 → ⊥) → P (beside (refuse y.answer.refusal m) w))
      → (y.answer.refusal ≡ 0 → (number ≡ 0 → ⊥) → P (beside (refuse number m) w))
      → (y.answer.refusal ≡ 0 → number ≡ 0 → (y.answer.rule ≡ 0 → ⊥) → P (beside y (added w turn)))
      → (y.answer.refusal ≡ 0 → number ≡ 0 → y.answer.rule ≡ 0 → P (beside y w)) → P u
  cases P own window decision other =
      by_test (eqb y.answer.refusal 0)
      (λ a. let z : y.answer.refusal ≡ 0 = eqb-true y.answer.refusal 0 a
      in by_test (eqb number 0)
      (λ b. let n : number ≡ 0 = eqb-true number 0 b
      in by_test (eqb y.answer.rule 0)
      (λ d. let e : y.answer.rule ≡ 0 = eqb-true y.answer.rule 0 d in subst P (sym (none_added z n e)) (other z n e))
      (λ d. let e : y.answer.rule ≡ 0 → ⊥ = eqb-false y.answer.rule 0 d in subst P (sym (decision_added z n e)) (decision z n e)))
      (λ b. let n : number ≡ 0 → ⊥ = eqb-false number 0 b in subst P (sym (window_number z n)) (window z n)))
      (λ a. let n : y.answer.refusal ≡ 0 → ⊥ = eqb-false y.answer.refusal 0 a in subst P (sym (own_number n)) (own n))

  -- of a window that passes: answer and image are the call's
  pub passing_is_call : number ≡ 0 → reply u.answer u.image ≡ y
  passing_is_call z =
      cases (λ (x : WindowReply). reply x.answer x.image ≡ y) (λ n. sym (call_keeps m operation cpu time context n)) (λ a n. absurd (n z)) (λ a b d. refl) (λ a b d. refl)

  accepted_call : u.answer.refusal ≡ 0 → reply u.answer u.image ≡ y
  accepted_call =
      cases (λ (x : WindowReply). x.answer.refusal ≡ 0 → reply x.answer x.image ≡ y) (λ n z. absurd (n z)) (λ a n z. absurd (n z)) (λ a b d z. refl) (λ a b d z. refl)

  pub accepted_is_call : {a : Answer} {m' w' : List ℕ} → window_reply a m' w' ≡ u → a.refusal ≡ 0 → reply a m' ≡ y
  accepted_is_call e z = (λ j. reply (e j).answer (e j).image) ∙ accepted_call (sym (ap (λ (x : WindowReply). x.answer.refusal) e) ∙ z)

  -- a refused one keeps every word of both
  pub refused_keeps : (u.answer.refusal ≡ 0 → ⊥) → u ≡ beside (refuse u.answer.refusal m) w
  refused_keeps =
      cases (λ (x : WindowReply). (x.answer.refusal ≡ 0 → ⊥) → x ≡ beside (refuse x.answer.refusal m) w) (λ n f. refl) (λ a n f. refl) (λ a b d f. absurd (f a)) (λ a b d f. absurd (f a))

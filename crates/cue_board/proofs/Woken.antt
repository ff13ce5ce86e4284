-- A cue that is handed out, or stays, from what waking its writer came to. Assumes nothing.
use Rattle.std.specs.Prelude.{Some, None, Ok, Err, Result}
use mathlib.Core.Path.{◌≡◌, refl, ap, ◌∙◌}
use Prim.Native.Nat.{ℕ, ◌+◌, ◌<◌}
use native.Mathlib.Omega.{arith}
use mathlib.Core.List.{List}
use borrow.Author.Tests.{eq-eqb, ne_eqb}
use Rattle.columns.proofs.Tests.{by_test}
use Rattle.machine.specs.Machine.{Machine}
use Rattle.machine.specs.Encode.{decode}
use Rattle.machine.specs.Outcome.{Outcome}
use Rattle.answer.specs.declared.Answer.{Answer}
use Rattle.context_ops.specs.Named.{named}
use Rattle.context_ops.specs.Operations.{unblock_context}
use Rattle.context_ops.specs.Reply.{Reply, reply, replied, reply_to}
use Rattle.calls.specs.Call.{check, checked_by, unblock_context_call}
use Rattle.board.specs.Board.{Board, cue_at, put_number}
use Rattle.board.proofs.Sized.{sized_is}
use Rattle.cues.specs.declared.Slot.{Slot}
use Rattle.cues.specs.Due.{next_due}
use Rattle.cues.proofs.Accepted.{slot_due}
use Rattle.cue_board.specs.declared.Handed.{Handed}
use Rattle.cue_board.specs.Next.{Asked, asked, no_cue, handed_if_woken, hand_out, next_by, next}

-- every word of m, if the call is refused
abbrev Kept : List ℕ → Reply → Type 0
Kept m u = (u.answer.refusal ≡ 0 → ⊥) → u.image ≡ m

kept_to : (m : List ℕ) (f : ℕ → ℕ → Outcome) (w : Result (ℕ × ℕ) ℕ) → Kept m (reply_to m f w)
unfolding reply_to replied
kept_to m f (Err r) = λ n. refl
kept_to m f (Ok (k, x)) = by_test (f k x).no_room (λ t. rw t (λ n. refl)) (λ t. rw t (λ n. absurd (n refl)))

kept_checked : (m : List ℕ) (cpu context : ℕ) (w : Result (ℕ × ℕ) ℕ) → Kept m (checked_by m (λ (M : Machine). reply_to m (λ (k x : ℕ). unblock_context k x M) (named M cpu context)) w)
unfolding checked_by
kept_checked m cpu context (Err r) = λ n. refl
kept_checked m cpu context (Ok (c, n)) = kept_to m (λ (k x : ℕ). unblock_context k x (decode m)) (named (decode m) cpu context)

pub refused_keeps : (m : List ℕ) (cpu time context : ℕ) → Kept m (unblock_context_call m cpu time context)
refused_keeps m cpu time context = kept_checked m cpu context (check m time)

-- a: what operation 4 answered the code, m': the image that it left
module _ (b m m' : List ℕ) (cpu time k i writer : ℕ) (a : Answer) (w : writer ≡ (cue_at k b i).writer) (e : reply a m' ≡ unblock_context_call m cpu time writer) where
  pub cue_stays : (h : Handed) → h ≡ no_cue a.refusal → (a.refusal ≡ 0 → ⊥) → asked h b m' ≡ hand_out b m cpu time i (cue_at k b i)
  unfolding handed_if_woken
  cue_stays h z n =
      let p : m' ≡ m = ap (λ (u : Reply). u.image) e ∙ refused_keeps m cpu time writer (λ q. n (ap (λ (u : Reply). u.answer.refusal) e ∙ q))
      in rw (← w, ← e, ne_eqb a.refusal 0 n, z, p)

  pub cue_goes : (b' : List ℕ) (x y start first second : ℕ) → a.refusal ≡ 0 → x ≡ i → start ≡ (cue_at k b i).start → first ≡ (cue_at k b i).first_length → second ≡ (cue_at k b i).second_length
      → y ≡ i + 1 → b' ≡ put_number b 16 y
      → asked (record { refusal = 0; due = 1; cue = x; start = start; writer = writer; first_length = first; second_length = second; result = a.result; interrupt = a.interrupt }) b' m' ≡ hand_out b m cpu time i (cue_at k b i)
  unfolding handed_if_woken
  cue_goes b' x y start first second z p q r s u t = rw (← w, ← e, eq-eqb a.refusal 0 z, p, q, r, s, t, u)

-- which cue the code found due
pub slot_right : (b : List ℕ) (time : ℕ) (s : Slot) → Ok (Some s) ≡ next_due b time → record { board : Board s.capacity b; i_lt_k : s.index < s.capacity }
slot_right b time s e =
    let d = slot_due b time s e in
    let o = sized_is b d.accepted.sized in rw (d.capacity_is, d.slot_is) (record { board = o.board; i_lt_k = omega (arith, d.waits, o.fewer) })

module _ (b m : List ℕ) (cpu time : ℕ) where
  pub next_refused : (r : ℕ) (h : Handed) → Err r ≡ next_due b time → h ≡ no_cue r → asked h b m ≡ next b m cpu time
  unfolding next_by
  next_refused r h e z = rw (← e, z)

  pub next_none : (h : Handed) → Ok None ≡ next_due b time → h ≡ no_cue 0 → asked h b m ≡ next b m cpu time
  unfolding next_by
  next_none h e z = rw (← e, z)

  pub next_handed : (s : Slot) (a : Asked) → Ok (Some s) ≡ next_due b time → a ≡ hand_out b m cpu time s.index (cue_at s.capacity b s.index) → a ≡ next b m cpu time
  unfolding next_by
  next_handed s a e z = rw (← e, z)

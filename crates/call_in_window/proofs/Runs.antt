-- Over runs: the window holds the newest 256 of the accepted decisions. Assumes nothing.
use mathlib.Core.Path.{◌≡◌, refl, sym, ap, ◌∙◌, subst}
use mathlib.Core.Bool.{true}
use Prim.Native.Nat.{ℕ, ◌≤◌}
use native.Mathlib.Omega.{arith}
use mathlib.Core.List.{List, [], ◌∷◌, ◌++◌, append-nil, append_assoc}
use lib.ListN.{length}
use borrow.Author.Tests.{ne_eqb}
use Rattle.columns.specs.Common.{tabulate, All}
use Rattle.columns.proofs.Tabulate.{length_tabulate}
use Rattle.image.specs.Refusal.{size_n}
use Rattle.answer.specs.declared.Answer.{Answer}
use Rattle.context_ops.specs.Reply.{Reply}
use Rattle.calls.specs.Call.{call}
use Rattle.window.specs.declared.Record.{Record}
use Rattle.window.specs.Window.{capacity, window_size, count_of, record_at, records, newest, refusal, is_in_range}
use Rattle.window.specs.Passes.{Passes}
use Rattle.window.proofs.Checked.{passing}
use Rattle.window.proofs.Lists.{newest_all, newest_newest}
use Rattle.window.proofs.Records.{length_added, count_added, records_added, passes_added}
use Rattle.call_in_window.specs.CallInWindow.{WindowReply}
use Rattle.call_in_window.specs.Runs.{Made, reply_of, window_after, turn_before, decision_of, decisions, own_decisions, Empty, HoldsNewest, HoldsOwn}
use Rattle.call_in_window.proofs.Accepted.{cases, passing_is_call}
use Rattle.call_in_window.proofs.InRange.{decision_in_range}

-- a window of the right length with at most 256 records
record Sized (w : List ℕ) : Type 0 where
  size : length w ≡ window_size
  count : count_of w ≤ capacity

records_most : (w : List ℕ) → Sized w → length (records w) ≤ capacity
records_most w s = rw (length_tabulate) s.count

none_more : (w : List ℕ) → Sized w → records w ≡ newest capacity (records w ++ [])
none_more w s = sym (newest_all capacity (records w) (records_most w s)) ∙ ap (newest capacity) (sym (append-nil (records w)))

-- of the answers: a refused call, one that decides nothing, and a decision
refused_none : (c : Made) (a : Answer) → (a.refusal ≡ 0 → ⊥) → decision_of c a ≡ []
unfolding decision_of
refused_none c a n = rw (ne_eqb a.refusal 0 n)

undecided_none : (c : Made) (a : Answer) → a.refusal ≡ 0 → a.rule ≡ 0 → decision_of c a ≡ []
unfolding decision_of
undecided_none c a z d = rw (z, d)

decided_one : (c : Made) (a : Answer) → a.refusal ≡ 0 → (a.rule ≡ 0 → ⊥) → decision_of c a ≡ turn_before c ∷ []
unfolding decision_of
decided_one c a z d = rw (z, ne_eqb a.rule 0 d)

-- what one call leaves
record Stepped (w : List ℕ) (c : Made) (x : WindowReply) : Type 0 where
  sized : Sized x.window
  held : records x.window ≡ newest capacity (records w ++ decision_of c x.answer)

module _ (w : List ℕ) (s : Sized w) (c : Made) where
  kept : (a : Answer) (m : List ℕ) → decision_of c a ≡ [] → Stepped w c (record { answer = a; image = m; window = w })
  kept a m e = record { sized = s; held = none_more w s ∙ ap (λ (l : List Record). newest capacity (records w ++ l)) (sym e) }

  step : Stepped w c (reply_of w c)
  step =
      cases c.image w c.operation c.cpu c.time c.context (Stepped w c)
      (λ n. kept _ _ (refused_none c _ n))
      (λ z n. kept _ _ (refused_none c _ n))
      (λ z n d. record {
        sized = record { size = length_added w _ s.size s.count; count = count_added w _ s.size s.count };
        held = records_added w _ s.size s.count ∙ ap (λ (l : List Record). newest capacity (records w ++ l)) (sym (decided_one c _ z d));
      })
      (λ z n d. kept _ _ (undecided_none c _ z d))

run : (w : List ℕ) → Sized w → (cs : List Made) → records (window_after w cs) ≡ newest capacity (records w ++ decisions w cs)
unfolding window_after decisions
run w s [] = none_more w s
run w s (c ∷ cs) =
    let t = step w s c
    in run (reply_of w c).window t.sized cs
    ∙ ap (λ (l : List Record). newest capacity (l ++ decisions (reply_of w c).window cs)) t.held
    ∙ newest_newest capacity (records w ++ decision_of c (reply_of w c).answer) (decisions (reply_of w c).window cs)
    ∙ ap (newest capacity) (append_assoc (records w) (decision_of c (reply_of w c).answer) (decisions (reply_of w c).window cs))

empty_sized : (w : List ℕ) → Empty w → Sized w
empty_sized w e = record { size = e.size; count = omega (arith, e.none) }

empty_records : (w : List ℕ) → Empty w → records w ≡ []
unfolding tabulate
empty_records w e = ap (λ (k : ℕ). tabulate k (record_at w)) e.none

pub holds_newest : HoldsNewest
holds_newest w e cs = run w (empty_sized w e) cs ∙ ap (λ (l : List Record). newest capacity (l ++ decisions w cs)) (empty_records w e)

-- images of n contexts: a window that passes goes on passing, and answers are the calls' own
module _ (n : ℕ) where
  passes_step : (w : List ℕ) → Passes n w → (c : Made) → size_n c.image ≡ n → Passes n (reply_of w c).window
  passes_step w p c e =
      cases c.image w c.operation c.cpu c.time c.context (λ (x : WindowReply). Passes n x.window) (λ a. p) (λ z a. p)
      (λ z a d. passes_added n w (turn_before c) p (subst (λ (k : ℕ). is_in_range k (turn_before c) ≡ true) e (decision_in_range c.image c.operation c.cpu c.time c.context z d))) (λ z a d. p)

  own_answer : (w : List ℕ) → Passes n w → (c : Made) → size_n c.image ≡ n
      → (reply_of w c).answer ≡ (call c.image c.operation c.cpu c.time c.context).answer
  own_answer w p c e =
      let z : refusal (size_n c.image) w ≡ 0 = ap (λ (k : ℕ). refusal k w) e ∙ passing n w p
      in ap (λ (x : Reply). x.answer) (passing_is_call c.image w c.operation c.cpu c.time c.context z)

  pub own_run : (w : List ℕ) → Passes n w → (cs : List Made) → All (λ (c : Made). size_n c.image ≡ n) cs → decisions w cs ≡ own_decisions cs
  unfolding decisions own_decisions
  own_run w p [] h = refl
  own_run w p (c ∷ cs) h =
      let e : (reply_of w c).answer ≡ (call c.image c.operation c.cpu c.time c.context).answer = own_answer w p c h.0
      in λ j. decision_of c (e j) ++ own_run (reply_of w c).window (passes_step w p c h.0) cs h.1 j

  empty_passes : (w : List ℕ) → Empty w → Passes n w
  empty_passes w e = record { size = e.size; count = omega (arith, e.none); in_range = λ i b. absurd (omega (arith, e.none)) }

pub holds_own : HoldsOwn
holds_own n w e cs h = holds_newest w e cs ∙ ap (newest capacity) (own_run n w (empty_passes n w e) cs h)

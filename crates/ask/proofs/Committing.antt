-- A commit, from what the switch gave. Assumes nothing.
use Rattle.std.specs.Prelude.{Err, Ok, Result}
use mathlib.Core.Path.{◌≡◌, sym, ap, ◌∙◌}
use Prim.Native.Nat.{ℕ}
use mathlib.Core.List.{List}
use lib.Dec.{eqb}
use borrow.Author.Tests.{ne_eqb, eqb-true}
use Rattle.columns.proofs.Tests.{by_test}
use Rattle.machine.specs.Machine.{Machine}
use Rattle.machine.specs.Encode.{encode, decode}
use Rattle.machine.specs.Shape.{Fits}
use Rattle.image.specs.Refusal.{size_n}
use Rattle.model.specs.Accepted.{by_switch}
use Rattle.answer.specs.declared.Answer.{Answer}
use Rattle.context_ops.specs.Reply.{Reply, reply, refuse}
use Rattle.switch_ops.specs.Reply.{decide, Attempts}
use Rattle.calls.specs.Call.{check, checked_by, switch_call}
use Rattle.calls.proofs.Called.{is_passed, is_refused, call_refused, call_machine}
use Rattle.asked.specs.declared.Asked.{Asked}
use Rattle.asked.specs.OfReply.{asked_of, commit_refusal}
use Rattle.asked.proofs.Told.{told_refusal, own_refusal, none_says}
use Rattle.ask.specs.Ask.{commit_by, commit}

-- the switch's own refusal comes first
pub commit_own : (m : List ℕ) (n cpu : ℕ) (given : Asked) (y : Reply) → (y.answer.refusal ≡ 0 → ⊥) → commit_by m n cpu given y ≡ refuse y.answer.refusal m
unfolding commit_by
commit_own m n cpu given y f =
    let g : (asked_of n cpu y).refusal ≡ 0 → ⊥ = λ z. f (sym (told_refusal n cpu y) ∙ z)
    in let e : commit_refusal given (asked_of n cpu y) ≡ y.answer.refusal = sym (own_refusal given (asked_of n cpu y) g) ∙ told_refusal n cpu y
    in rw (e, ne_eqb y.answer.refusal 0 f)

-- a switch of m was attempted, whose reply is y; now: what the code read of it, number: how it compared
module _ {a : Answer} {m' : List ℕ} {y : Reply} {M' : Machine} (m : List ℕ) (n cpu number : ℕ) (given now : Asked) (t : Attempts m' a y M')
    (e : now ≡ asked_of n cpu (reply a m')) (f : number ≡ commit_refusal given now) where
  told_same : asked_of n cpu (reply a m') ≡ asked_of n cpu y
  unfolding asked_of
  told_same =
      by_test (eqb a.refusal 0) (λ b. ap (asked_of n cpu) (t.replies (eqb-true a.refusal 0 b)).replies) (λ b. rw (← t.answers, b))

  number_is : number ≡ commit_refusal given (asked_of n cpu y)
  number_is = f ∙ ap (commit_refusal given) (e ∙ told_same)

  -- m'': the words after they were put back
  pub put_back_commits : {r : Answer} (m'' : List ℕ) → (number ≡ 0 → ⊥) → r ≡ record { refusal = number; result = 0; interrupt = 0; rule = 0 } → m'' ≡ m
      → reply r m'' ≡ commit_by m n cpu given y
  unfolding commit_by
  put_back_commits m'' z h q = rw (← number_is, ne_eqb number 0 z, h, q)

  pub same_commits : number ≡ 0 → reply a m' ≡ commit_by m n cpu given y
  unfolding commit_by
  same_commits z =
      let q = (none_says given (asked_of n cpu y) (sym number_is ∙ z)).0
      in let w : a.refusal ≡ 0 = ap (λ (b : Answer). b.refusal) t.answers ∙ sym (told_refusal n cpu y) ∙ q
      in rw (← number_is, z) (t.replies w).replies

-- w: what the code's check gave
module _ (m : List ℕ) (time : ℕ) (w : Result (ℕ × ℕ) ℕ) (e : w ≡ check m time) (cpu : ℕ) (given : Asked) where
  pub commit_refused : {a : Answer} (r : ℕ) → w ≡ Err r → a ≡ record { refusal = r; result = 0; interrupt = 0; rule = 0 } → reply a m ≡ commit m cpu time given
  commit_refused {a} r g h =
      let s : reply a m ≡ switch_call m cpu time = call_refused m time w e r (λ (M : Machine). decide m M cpu time by_switch) g h
      in let f : a.refusal ≡ 0 → ⊥ = λ z. is_refused m time r (sym g ∙ e) (sym (ap (λ (b : Answer). b.refusal) h) ∙ z)
      in ap (λ (b : Answer). reply b m) (h ∙ ap (λ (x : ℕ). record { refusal = x; result = 0; interrupt = 0; rule = 0 }) (sym (ap (λ (b : Answer). b.refusal) h)))
      ∙ sym (commit_own m (size_n m) cpu given (reply a m) f)
      ∙ ap (commit_by m (size_n m) cpu given) s

  pub commit_passed : {a : Answer} {m' : List ℕ} (c n : ℕ) → w ≡ Ok (c, n)
      → ((M : Machine) → m ≡ encode M → Fits c n M → reply a m' ≡ commit_by m n cpu given (decide m M cpu time by_switch)) → reply a m' ≡ commit m cpu time given
  unfolding checked_by
  commit_passed {a} {m'} c n g h =
      let p = is_passed m time c n (sym g ∙ e)
      in let s : switch_call m cpu time ≡ decide m (decode m) cpu time by_switch = rw (← e, g)
      in call_machine m time w e {A = λ M. reply a m' ≡ commit_by m n cpu given (decide m M cpu time by_switch)} c n g h
      ∙ ap (λ (k : ℕ). commit_by m k cpu given (decide m (decode m) cpu time by_switch)) p.names
      ∙ ap (commit_by m (size_n m) cpu given) (sym s)

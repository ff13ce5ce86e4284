-- What asking and committing promise, of the definitions: any words, CPU, time and reply. Assumes nothing.
use mathlib.Core.Path.{◌≡◌, refl, sym, ap, ◌∙◌}
use mathlib.Core.Bool.{true, false}
use Prim.Native.Nat.{ℕ}
use native.Mathlib.Omega.{arith}
use mathlib.Core.List.{List}
use lib.Dec.{eqb}
use borrow.Author.Tests.{ne_eqb, eqb-true, eqb-false}
use Rattle.columns.proofs.Tests.{by_test}
use Rattle.image.specs.Refusal.{size_n}
use Rattle.context_ops.specs.Reply.{Reply, refuse}
use Rattle.calls.specs.Call.{switch_call}
use Rattle.asked.specs.declared.Asked.{Asked}
use Rattle.asked.specs.OfReply.{refused, accepted, asked_of, same, commit_refusal}
use Rattle.asked.proofs.Told.{told_refusal, same_is, same_self, none_same, last_differs, none_says}
use Rattle.ask.specs.Ask.{ask, commit_by, commit}
use Rattle.ask.proofs.Committing.{commit_own}
use Rattle.ask.proofs.Own.{Keeps, switch_keeps, switch_most}

module _ (m : List ℕ) (cpu time : ℕ) where
  -- asking: the switch's refusal and nothing else, or its result and the three words of the CPU's block in the image that it leaves
  pub ask_refused : ((switch_call m cpu time).answer.refusal ≡ 0 → ⊥) → ask m cpu time ≡ refused (switch_call m cpu time).answer.refusal
  unfolding asked_of
  ask_refused n = rw (ne_eqb (switch_call m cpu time).answer.refusal 0 n)

  pub ask_accepted : (switch_call m cpu time).answer.refusal ≡ 0
      → ask m cpu time ≡ accepted (size_n m) cpu (switch_call m cpu time).answer.result (switch_call m cpu time).image
  unfolding asked_of
  ask_accepted z = rw z

  module _ (given : Asked) where
    -- the switch's own numbers come first, whatever was given
    pub own_first : ((switch_call m cpu time).answer.refusal ≡ 0 → ⊥) → commit m cpu time given ≡ switch_call m cpu time
    own_first n = commit_own m (size_n m) cpu given (switch_call m cpu time) n ∙ sym (switch_keeps m cpu time n)

    accepts_now : (switch_call m cpu time).answer.refusal ≡ 0 → (ask m cpu time).refusal ≡ 0
    accepts_now z = told_refusal (size_n m) cpu (switch_call m cpu time) ∙ z

    -- 13 comes last: exactly where the switch would be accepted and the reply differs in any of its numbers
    pub differs_refused : (switch_call m cpu time).answer.refusal ≡ 0 → (given ≡ ask m cpu time → ⊥) → commit m cpu time given ≡ refuse 13 m
    unfolding commit_by
    differs_refused z n =
        let s : same given (ask m cpu time) ≡ false = by_test (same given (ask m cpu time)) (λ t. absurd (n (same_is given (ask m cpu time) t))) (λ t. t)
        in rw (← last_differs given (ask m cpu time) (accepts_now z) s)

    same_accepted : (switch_call m cpu time).answer.refusal ≡ 0 → given ≡ ask m cpu time → commit m cpu time given ≡ switch_call m cpu time
    unfolding commit_by
    same_accepted z e =
        let s : same given (ask m cpu time) ≡ true = ap (λ (g : Asked). same g (ask m cpu time)) e ∙ same_self (ask m cpu time)
        in rw (← none_same given (ask m cpu time) (accepts_now z) s)

    -- what the switch would give now, given: the switch
    pub same_is_switch : given ≡ ask m cpu time → commit m cpu time given ≡ switch_call m cpu time
    same_is_switch e =
        by_test (eqb (switch_call m cpu time).answer.refusal 0) (λ t. same_accepted (eqb-true (switch_call m cpu time).answer.refusal 0 t) e)
        (λ t. own_first (eqb-false (switch_call m cpu time).answer.refusal 0 t))

    by_number : (r : ℕ) → r ≡ commit_refusal given (ask m cpu time) → ((commit m cpu time given).answer.refusal ≡ 0 → commit m cpu time given ≡ switch_call m cpu time)
        × Keeps m (commit m cpu time given)
    unfolding commit_by
    by_number r e =
        by_test (eqb r 0)
        (λ t. let z = eqb-true r 0 t
        in let q = (none_says given (ask m cpu time) (sym e ∙ z)).0
        in rw (← e, z) (λ w. refl, λ n. absurd (n (sym (told_refusal (size_n m) cpu (switch_call m cpu time)) ∙ q))))
        (λ t. rw (← e, t) (λ w. absurd (eqb-false r 0 t w), λ n. refl))

    -- an accepted commit is a plain switch: its answer with the rule, and every word
    pub accepted_is_switch : (commit m cpu time given).answer.refusal ≡ 0 → commit m cpu time given ≡ switch_call m cpu time
    accepted_is_switch = (by_number (commit_refusal given (ask m cpu time)) refl).0

    -- a refused one keeps every word, and all else in its answer is 0
    pub refused_keeps : ((commit m cpu time given).answer.refusal ≡ 0 → ⊥) → commit m cpu time given ≡ refuse (commit m cpu time given).answer.refusal m
    refused_keeps = (by_number (commit_refusal given (ask m cpu time)) refl).1

    -- where 13 is answered the switch would be accepted, and the reply differs
    pub thirteen_says : (commit m cpu time given).answer.refusal ≡ 13 → ((switch_call m cpu time).answer.refusal ≡ 0) × (given ≡ ask m cpu time → ⊥)
    thirteen_says e =
        by_test (eqb (switch_call m cpu time).answer.refusal 0)
        (λ t. let z = eqb-true (switch_call m cpu time).answer.refusal 0 t
        in (z, λ g. let w : 13 ≡ (switch_call m cpu time).answer.refusal = sym e ∙ ap (λ (y : Reply). y.answer.refusal) (same_is_switch g) in omega (arith, w, z)))
        (λ t. let n = eqb-false (switch_call m cpu time).answer.refusal 0 t
        in let w : 13 ≡ (switch_call m cpu time).answer.refusal = sym e ∙ ap (λ (y : Reply). y.answer.refusal) (own_first n)
        in absurd (omega (arith, w, switch_most m cpu time)))

  -- right after asking, with its reply, at the same time: the switch, accepted or refused
  pub ask_then_commit : commit m cpu time (ask m cpu time) ≡ switch_call m cpu time
  ask_then_commit = same_is_switch (ask m cpu time) refl

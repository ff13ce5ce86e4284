-- The rule is the one whose condition holds, and no other: by the scan, on every image. Assumes nothing.
use Rattle.std.specs.Prelude.{if◌then◌else◌, None, Option, Some, is_some}
use mathlib.Core.Path.{◌≡◌, refl, subst, sym, ap, ◌∙◌}
use mathlib.Core.Bool.{Bool, true, false, not, ◌&&◌}
use mathlib.Core.Logic.{◌⊎◌, inl, inr}
use Prim.Native.Nat.{ℕ, ◌≤◌}
use native.Mathlib.Omega.{arith}
use lib.Dec.{ltb, leb}
use borrow.Author.Tests.{ltb-true, leb-true, leb-false, lt-ltb, le-ltb, le-leb, lt-leb}
use Rattle.context.specs.declared.Context.{Context}
use Rattle.entries.specs.declared.Entry.{Entry}
use Rattle.machine.specs.Machine.{Machine}
use Rattle.answer.specs.declared.Rule.{Rule}
use Rattle.answer.specs.declared.Rule.TheVariants.{FirstEligible, HolderDeadline, HolderSlice, HolderAlone, HolderVtime, HolderLateDeadline, EntryVtime, Stolen, Idle}
use Rattle.model.specs.State.{State, prev_runnable}
use Rattle.model.specs.Choice.{goes_before, prev_is_eligible}
use Rattle.model.specs.Rule.{rule_against, rule_nobody, rule_by, rule_of}
use Rattle.model.specs.Demand3.{judged}
use Rattle.model.proofs.Cases.{by_test, never, pick, and_both, and_true, not_is_true, not_is_false}
use Rattle.model.proofs.Chosen.{and_no}
use Rattle.model.proofs.Firsts.{some_some, some_none}
use Rattle.model_rules.specs.ByScan.{Earlier, MoreSlice, found, stealing, prev, record_of, OnTime, NobodyOnTime, NobodyFound, ScanCondition}
use Rattle.model_rules.proofs.Judging.{earlier_first, slice_first, first_by, not_first, on_time, is_on_time, late, is_late}
use Rattle.model_rules.proofs.Victim.{winner_says}

-- a test that is known picks its arm
yes : (x y : Rule) (b : Bool) → b ≡ true → if b then x else y ≡ x
yes x y b t = pick (λ (z : Rule). z ≡ x) b (λ u. refl) (λ u. never t u)

no : (x y : Rule) (b : Bool) → b ≡ false → if b then x else y ≡ y
no x y b t = pick (λ (z : Rule). z ≡ y) b (λ u. never u t) (λ u. refl)

module _ (k time : ℕ) (M : Machine) where
  abbrev s : State
  s = judged k time M

  abbrev h : Context
  h = prev k time M

  abbrev c : Entry → Context
  c = record_of k time M

  abbrev C : Rule → Type 0
  C = ScanCondition k time M

  abbrev stole : Bool
  stole = is_some (stealing k time M).winner

  -- the decision's rule
  abbrev pub the_rule : Rule
  the_rule = rule_of s stole (found k time M)

  with_best : (e : Entry) → (found k time M).eligible_best ≡ Some e → C (rule_against s (found k time M) e)
  with_best e b =
      pick C (not (prev_is_eligible s && goes_before h (c e)))
      (λ t. let n = not_is_true _ t in
      record {
        entry = e;
        is_found = b;
        not_deadline = λ o l. never (earlier_first h (c e) l) (and_no (prev_is_eligible s) _ (is_on_time k time M o) n);
        not_slice = λ o l. never (slice_first h (c e) l) (and_no (prev_is_eligible s) _ (is_on_time k time M o) n);
      })
      (λ t. let (o, g) = and_both (prev_is_eligible s) _ (not_is_false _ t) in
      pick C (ltb h.vd (c e).vd)
      (λ l. record { entry = e; is_found = b; on_time = on_time k time M o; deadline = ltb-true _ _ l })
      (λ l. record { entry = e; is_found = b; on_time = on_time k time M o; slice = by_slice l (first_by h (c e) g) }))
    where
      by_slice : ltb h.vd (c e).vd ≡ false → Earlier h (c e) ⊎ MoreSlice h (c e)
          → MoreSlice h (c e)
      by_slice l (inl z) = never (lt-ltb _ _ z) l
      by_slice l (inr z) = z

  with_late : NobodyOnTime k time M → (e : Entry) → (found k time M).ineligible_best ≡ Some e → C (rule_nobody s stole (Some e))
  with_late n e b =
      pick C (prev_runnable s && leb h.vtime e.vtime)
      (λ t. let (r, l) = and_both (prev_runnable s) _ t in
      record { nobody = n; runs = r; least = λ d z. subst (λ (f : Entry). h.vtime ≤ f.vtime) (some_some (sym b ∙ z)) (leb-true _ _ l) })
      (λ t. pick C (prev_runnable s && leb h.vd e.key.vd)
      (λ u. let (r, l) = and_both (prev_runnable s) _ u in
      record { nobody = n; runs = r; entry = e; is_found = b; sooner = leb-false _ _ (and_no (prev_runnable s) _ r t); deadline = leb-true _ _ l })
      (λ u. record { nobody = n; entry = e; is_found = b; beats = λ r. (leb-false _ _ (and_no (prev_runnable s) _ r t), leb-false _ _ (and_no (prev_runnable s) _ r u)) }))

  with_none : NobodyOnTime k time M → (found k time M).ineligible_best ≡ None → C (rule_nobody s stole None)
  with_none n b =
      pick C (prev_runnable s) (λ r. record { nobody = n; runs = r; least = λ e z. absurd (some_none z b) })
      (λ r. let w : NobodyFound k time M = record { eligible = n.entries; ineligible = b; holder = r } in
      pick C stole (λ t. record { nobody = w; stole = sym (winner_says k time M w) ∙ t })
      (λ t. record { nobody = w; stole_nothing = sym (winner_says k time M w) ∙ t }))

  pub holds : C the_rule
  unfolding rule_of
  holds = go (found k time M).eligible_best refl
    where
      late_go : NobodyOnTime k time M → (o : Option Entry) → (found k time M).ineligible_best ≡ o → C (rule_nobody s stole o)
      late_go n (Some e) b = with_late n e b
      late_go n None b = with_none n b

      go : (o : Option Entry) → (found k time M).eligible_best ≡ o → C (rule_by s stole (found k time M) o)
      go (Some e) b = with_best e b
      go None b =
          pick C (prev_is_eligible s) (λ t. record { none_found = b; on_time = on_time k time M t })
          (λ t. late_go (record { entries = b; holder = late k time M t }) (found k time M).ineligible_best refl)

  by_best : (e : Entry) → (found k time M).eligible_best ≡ Some e → the_rule ≡ rule_against s (found k time M) e
  unfolding rule_of
  by_best e b = ap (λ (o : Option Entry). rule_by s stole (found k time M) o) b

  kept : (e : Entry) → OnTime k time M → goes_before h (c e) ≡ true → not (prev_is_eligible s && goes_before h (c e)) ≡ false
  kept e o g = ap not (and_true (prev_is_eligible s) _ (is_on_time k time M o) g)

  by_none : NobodyOnTime k time M → (o : Option Entry) → (found k time M).ineligible_best ≡ o → the_rule ≡ rule_nobody s stole o
  unfolding rule_of
  by_none n o b =
      ap (λ (p : Option Entry). rule_by s stole (found k time M) p) n.entries ∙ no _ _ (prev_is_eligible s) (is_late k time M n.holder)
      ∙ ap (λ (p : Option Entry). rule_nobody s stole p) b

  by_victim : NobodyFound k time M → the_rule ≡ if (stealing k time M).done then Stolen else Idle
  by_victim n =
      by_none (record { entries = n.eligible; holder = λ o. never o.runs n.holder }) None n.ineligible ∙ no _ _ (prev_runnable s) n.holder
      ∙ ap (λ (b : Bool). if b then Stolen else Idle) (winner_says k time M n)

  -- no other rule's condition holds
  pub only : (a : Rule) → C a → the_rule ≡ a
  unfolding rule_of
  only FirstEligible w =
      by_best w.entry w.is_found
      ∙ yes _ _ _ (ap not (by_test (prev_is_eligible s && goes_before h (c w.entry))
      (λ t. let (o, g) = and_both (prev_is_eligible s) _ t in never g (not_first h (c w.entry) (w.not_deadline (on_time k time M o)) (w.not_slice (on_time k time M o)))) (λ t. t)))
  only HolderDeadline w =
      by_best w.entry w.is_found ∙ no _ _ _ (kept w.entry w.on_time (earlier_first h (c w.entry) w.deadline)) ∙ yes _ _ _ (lt-ltb _ _ w.deadline)
  only HolderSlice w =
      by_best w.entry w.is_found ∙ no _ _ _ (kept w.entry w.on_time (slice_first h (c w.entry) w.slice))
      ∙ no _ _ _ (le-ltb h.vd (c w.entry).vd (let z = w.slice.0 in omega arith))
  only HolderAlone w =
      ap (λ (o : Option Entry). rule_by s stole (found k time M) o) w.none_found ∙ yes _ _ (prev_is_eligible s) (is_on_time k time M w.on_time)
  only HolderVtime w = go (found k time M).ineligible_best refl
    where
      go : (o : Option Entry) → (found k time M).ineligible_best ≡ o → the_rule ≡ HolderVtime
      go None b = by_none w.nobody None b ∙ yes _ _ (prev_runnable s) w.runs
      go (Some e) b = by_none w.nobody (Some e) b ∙ yes _ _ _ (and_true (prev_runnable s) _ w.runs (le-leb _ _ (w.least e b)))
  only HolderLateDeadline w =
      by_none w.nobody (Some w.entry) w.is_found
      ∙ no _ _ (prev_runnable s && leb h.vtime w.entry.vtime) (rw w.runs (lt-leb h.vtime w.entry.vtime w.sooner))
      ∙ yes _ _ _ (and_true (prev_runnable s) _ w.runs (le-leb _ _ w.deadline))
  only EntryVtime w =
      by_none w.nobody (Some w.entry) w.is_found
      ∙ no _ _ (prev_runnable s && leb h.vtime w.entry.vtime) (neither _ (λ r. lt-leb _ _ (w.beats r).0))
      ∙ no _ _ (prev_runnable s && leb h.vd w.entry.key.vd) (neither _ (λ r. lt-leb _ _ (w.beats r).1))
    where
      neither : (b : Bool) → (prev_runnable s ≡ true → b ≡ false) → (prev_runnable s && b) ≡ false
      neither b f = by_test (prev_runnable s) (λ r. rw r (f r)) (λ r. rw r)
  only Stolen w = by_victim w.nobody ∙ yes _ _ _ w.stole
  only Idle w = by_victim w.nobody ∙ no _ _ _ w.stole_nothing

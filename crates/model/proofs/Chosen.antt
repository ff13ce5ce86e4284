-- The choice follows the written rule.
use Rattle.std.specs.Prelude.{if◌then◌else◌, None, Option, Some}
use mathlib.Core.Path.{◌≡◌, refl, subst, sym, ◌∙◌}
use mathlib.Core.Bool.{Bool, true, false, not, ◌&&◌, ◌||◌}
use mathlib.Core.List.{List, [], ◌∷◌}
use mathlib.Core.Logic.{◌⊎◌, inl, inr}
use Prim.Native.Nat.{ℕ, ◌<◌, ◌≤◌}
use native.Mathlib.Omega.{arith}
use lib.Dec.{ltb, leb, eqb}
use borrow.Author.Tests.{ltb-true, ltb-false, leb-true, leb-false, eq-eqb}
use Rattle.context.specs.declared.Context.{Context}
use Rattle.entries.specs.declared.Key.{Key}
use Rattle.entries.specs.declared.Entry.{Entry}
use Rattle.entries.specs.Order.{entry_before}
use Rattle.machine.specs.Machine.{context_at}
use Rattle.model.specs.State.{State, at, holder, prev_runnable}
use Rattle.model.specs.Scan.{Scan, is_eligible, is_ready_in, below}
use Rattle.model.specs.Choice.{Choice, choice, choice_by, without_entry, nobody, against, goes_before, prev_is_eligible, ineligible_holder}
use Rattle.model.specs.Schedule.{scanned}
use Rattle.model.proofs.Cases.{by_test, never, pick, and_both, or_either, or_neither}
use Rattle.model.proofs.Lists.{In, all_in, all_at}
use Rattle.model.proofs.Sorted.{Sorted}
use Rattle.model.proofs.Queues.{Inv, on, Agrees, gone_of, not_before_itself}
use Rattle.model.proofs.ScanKept.{scan_kept, ready_stays}
use Rattle.model.proofs.Judged.{ready_alive}
use Rattle.model.proofs.Scanned.{Distinct, least, scan_best, scan_late}
use Rattle.model.proofs.Firsts.{IsFirst, IsLeast, first_is, first_none, least_is, least_none, least_agree}

pub distinct : (q : List Entry) → Sorted entry_before q → ((e f : Entry) → In e q → In f q → e.context_ref ≡ f.context_ref → e ≡ f) → Distinct q
distinct [] s o = tt
distinct (e ∷ es) s o = (
  all_in _ es (λ f i m. not_before_itself e (subst (λ g. entry_before e g ≡ true) (o f e (inr i) (inl refl) m) (all_at _ es s.0 f i))),
  distinct es s.1 (λ f g i j. o f g (inr i) (inr j)),
)

-- a record goes before an entry
abbrev pub before_key : Context → Key → Bool
before_key a b = ltb a.vd b.vd || eqb a.vd b.vd && ltb b.rem_slice a.rem_slice

-- on a state before the choice
module _ (k time : ℕ) (d : State) where
  abbrev pub is_waiting : Entry → Bool
  is_waiting e = is_ready_in k time d.cpu d.contexts e

  abbrev pub is_on_time : Entry → Bool
  is_on_time e = is_waiting e && is_eligible d.cpu e

  -- the first ready entry that is eligible; and the first of the least vtime
  abbrev pub FirstOnTime : Entry → Type 0
  FirstOnTime e = IsFirst is_on_time d.cpu.queue e

  abbrev pub FirstLate : Entry → Type 0
  FirstLate e = IsLeast is_waiting d.cpu.queue e

  -- nobody is eligible
  pub record NobodyOnTime : Type 0 where
    pub entries : (e : Entry) → In e d.cpu.queue → is_waiting e ≡ true → d.cpu.block.v < e.vtime
    pub holder : prev_runnable d ≡ true → d.cpu.block.v < (holder d).vtime

  -- who wins or stays, V, and why
  pub data Follows (w : Choice) : Type 0 where
    entry_first : (e : Entry) → FirstOnTime e → (prev_is_eligible d ≡ true → before_key (holder d) e.key ≡ false) → w.winner ≡ Some e.context_ref
        → w.v ≡ d.cpu.block.v → Follows w
    holder_kept : (e : Entry) → FirstOnTime e → prev_is_eligible d ≡ true → before_key (holder d) e.key ≡ true → w.winner ≡ None → w.v ≡ d.cpu.block.v
        → Follows w
    holder_alone : ((e : Entry) → In e d.cpu.queue → is_on_time e ≡ false) → prev_is_eligible d ≡ true → w.winner ≡ None → w.v ≡ d.cpu.block.v → Follows w
    holder_least : NobodyOnTime → prev_runnable d ≡ true
        → ((e : Entry) → In e d.cpu.queue → is_waiting e ≡ true → (holder d).vtime ≤ e.vtime) → w.winner ≡ None → w.v ≡ (holder d).vtime → Follows w
    holder_by_deadline : NobodyOnTime → prev_runnable d ≡ true → (e : Entry) → FirstLate e → e.vtime < (holder d).vtime → (holder d).vd ≤ e.key.vd
        → w.winner ≡ None → w.v ≡ e.vtime → Follows w
    entry_least : NobodyOnTime → (e : Entry) → FirstLate e
        → (prev_runnable d ≡ true → (e.vtime < (holder d).vtime) × (e.key.vd < (holder d).vd)) → w.winner ≡ Some e.context_ref → w.v ≡ e.vtime → Follows w
    nobody_waits : ((e : Entry) → In e d.cpu.queue → is_waiting e ≡ false) → prev_runnable d ≡ false → w.winner ≡ None → w.v ≡ d.cpu.block.v → Follows w

pub and_no : (a b : Bool) → a ≡ true → (a && b) ≡ false → b ≡ false
and_no true b p q = q
and_no false b p q = never p refl

module _ (F : ℕ → Type 0) (cs₀ : List Context) (k time : ℕ) (R : ℕ → List Entry) (d : State) (n : Inv F cs₀ d.contexts (on k d.cpu.queue R)) where
  s : Scan
  s = scanned k time d

  pub sorted : Sorted entry_before d.cpu.queue
  sorted = rw (eq-eqb k k refl) at (n.sorted k)

  -- no two entries here are of one context
  pub separate : Distinct d.cpu.queue
  separate =
      distinct d.cpu.queue sorted
      (λ e f i j m. (n.one e f k k (rw (eq-eqb k k refl) i) (rw (eq-eqb k k refl) j) m).0)

  -- the record of a ready entry's context still agrees with it after the scan
  pub found_agrees : (e : Entry) → In e d.cpu.queue → is_waiting k time d e ≡ true → Agrees (context_at (scanned k time d).contexts e.context_ref) e
  found_agrees e i t =
      let z = scan_kept F cs₀ k time d.cpu (ineligible_holder d) d.contexts d.cpu.queue R n separate in
      let j = ready_stays F cs₀ k time d.cpu (ineligible_holder d) d.contexts d.cpu.queue R n separate e i t in
      z.inv.agrees e k (rw (eq-eqb k k refl) j)
      (gone_of (z.inv.same e.context_ref ∙ sym (n.same e.context_ref)) ∙ ready_alive k time d.cpu (at d e.context_ref) e t)

  -- an eligible entry was found
  with_best : (e : Entry) → s.eligible_best ≡ Some e → Follows k time d (against d s e)
  unfolding s
  with_best e b =
      pick (Follows k time d) (prev_is_eligible d && goes_before (holder d) (context_at s.contexts e.context_ref))
      (λ t. let (o, w) = and_both (prev_is_eligible d) _ t in holder_kept e lead o (sym same ∙ w) refl refl)
      (λ t. entry_first e lead (λ o. sym same ∙ and_no (prev_is_eligible d) _ o t) refl refl)
    where
      lead : FirstOnTime k time d e
      lead = first_is _ d.cpu.queue e sorted (sym (scan_best k time d.cpu (ineligible_holder d) d.contexts d.cpu.queue separate) ∙ b)

      same : goes_before (holder d) (context_at s.contexts e.context_ref) ≡ before_key (holder d) e.key
      same = let a = found_agrees e lead.is_in (and_both (is_waiting k time d e) _ lead.passes).0 in rw (a.vd, a.rem_slice)

  -- none was found
  module _ (b : s.eligible_best ≡ None) where
    none_on_time : (e : Entry) → In e d.cpu.queue → is_on_time k time d e ≡ false
    unfolding s
    none_on_time = first_none _ d.cpu.queue (sym (scan_best k time d.cpu (ineligible_holder d) d.contexts d.cpu.queue separate) ∙ b)

    -- of such entries those that wait are not eligible
    abbrev late_one : Entry → Bool
    late_one e = is_waiting k time d e && not (is_eligible d.cpu e)

    late_is : (e : Entry) → In e d.cpu.queue → late_one e ≡ is_waiting k time d e
    late_is e i = go (is_waiting k time d e) (is_eligible d.cpu e) (none_on_time e i)
      where
        go : (w o : Bool) → (w && o) ≡ false → (w && not o) ≡ w
        go true true z = sym z
        go true false z = refl
        go false o z = refl

    late_of : s.ineligible_best ≡ least (ineligible_holder d) late_one None d.cpu.queue
    unfolding s
    late_of = scan_late k time d.cpu (ineligible_holder d) d.contexts d.cpu.queue separate b

    module _ (t : prev_is_eligible d ≡ false) where
      nobody_on_time : NobodyOnTime k time d
      nobody_on_time =
          record {
            entries = λ e i w. leb-false _ _ (and_no (is_waiting k time d e) _ w (none_on_time e i));
            holder = λ r. leb-false _ _ (and_no (prev_runnable d) _ r t);
          }

      holder_late_is : (r : Bool) → prev_runnable d ≡ r → ineligible_holder d ≡ if r then Some (holder d).vtime else None
      holder_late_is true r = rw (t, r)
      holder_late_is false r = rw r

      -- nobody waits, or only the holder
      without : s.ineligible_best ≡ None → Follows k time d (nobody d None)
      without l =
          by_test (prev_runnable d)
          (λ r. holder_least nobody_on_time r (λ e i w. ltb-false _ _ (rw (holder_late_is true r) at (left e i w))) refl (rw r))
          (λ r. nobody_waits (λ e i. by_test (is_waiting k time d e) (λ w. never refl (rw (holder_late_is false r) at (left e i w))) (λ w. w)) r refl (rw r))
        where
          left : (e : Entry) → In e d.cpu.queue → is_waiting k time d e ≡ true → below (ineligible_holder d) e.vtime ≡ false
          left e i w = least_none (ineligible_holder d) late_one d.cpu.queue (sym late_of ∙ l) e i (late_is e i ∙ w)

      with_late : (e : Entry) → s.ineligible_best ≡ Some e → Follows k time d (nobody d (Some e))
      with_late e l =
          pick (Follows k time d) (prev_runnable d && (leb (holder d).vtime e.vtime || leb (holder d).vd e.key.vd))
          (λ k. let (r, o) = and_both (prev_runnable d) _ k in holder_by_deadline nobody_on_time r e lead (sooner r) (deadline r (or_either (leb (holder d).vtime e.vtime) _ o)) refl refl)
          (λ k. entry_least nobody_on_time e lead (λ r. (sooner r, leb-false _ _ (or_neither (leb (holder d).vtime e.vtime) _ (and_no (prev_runnable d) _ r k)).1)) refl refl)
        where
          both : IsLeast late_one d.cpu.queue e × (below (ineligible_holder d) e.vtime ≡ true)
          both = least_is (ineligible_holder d) late_one d.cpu.queue e sorted (sym late_of ∙ l)

          lead : FirstLate k time d e
          lead = least_agree late_one (is_waiting k time d) d.cpu.queue e late_is both.0

          sooner : prev_runnable d ≡ true → e.vtime < (holder d).vtime
          sooner r = ltb-true _ _ (rw (holder_late_is true r) at both.1)

          deadline : prev_runnable d ≡ true → (leb (holder d).vtime e.vtime ≡ true) ⊎ (leb (holder d).vd e.key.vd ≡ true) → (holder d).vd ≤ e.key.vd
          deadline r (inl o) = let x : (holder d).vtime ≤ e.vtime = leb-true _ _ o in let y = sooner r in absurd (omega arith)
          deadline r (inr o) = leb-true _ _ o

    without_best : Follows k time d (without_entry d s)
    without_best = pick (Follows k time d) (prev_is_eligible d) (λ t. holder_alone none_on_time t refl refl) (λ t. go t s.ineligible_best refl)
      where
        go : prev_is_eligible d ≡ false → (o : Option Entry) → s.ineligible_best ≡ o → Follows k time d (nobody d o)
        go t None l = without t l
        go t (Some e) l = with_late t e l

  pub choice_follows : Follows k time d (choice d (scanned k time d))
  unfolding choice s
  choice_follows = go s.eligible_best refl
    where
      go : (o : Option Entry) → s.eligible_best ≡ o → Follows k time d (choice_by d s o)
      go None b = without_best b
      go (Some e) b = with_best e b

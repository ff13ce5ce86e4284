-- On a tidy machine the scan finds the entry of the least key, or the first of the least vtime, and no other is such. Assumes nothing.
use Rattle.std.specs.Prelude.{if◌then◌else◌, None, Option, Some}
use mathlib.Core.Path.{◌≡◌, refl, sym, ap, ◌∙◌}
use mathlib.Core.Bool.{Bool, true, false, not, ◌&&◌}
use mathlib.Core.Logic.{◌⊎◌, inl, inr}
use Prim.Native.Nat.{ℕ, ◌<◌, ◌≤◌}
use native.Mathlib.Omega.{arith}
use borrow.Author.Tests.{ltb-true, ltb-false}
use Rattle.columns.specs.Common.{In}
use Rattle.entries.specs.declared.Entry.{Entry}
use Rattle.entries.specs.Order.{before, entry_before}
use Rattle.entries.proofs.Orders.{before_asym}
use Rattle.machine.specs.Machine.{Machine}
use Rattle.model.specs.State.{State, holder, prev_runnable}
use Rattle.model.specs.Scan.{is_eligible, below}
use Rattle.model.specs.Choice.{ineligible_holder}
use Rattle.model.specs.Tidy.{Sound, Tidy, Sorted}
use Rattle.model.specs.Demand3.{Ready, Eligible, LeastKey, FirstLeast}
use Rattle.model.proofs.Turn.{Turn}
use Rattle.model.proofs.Cases.{by_test, never, and_both}
use Rattle.model.proofs.Before.{queues, Free}
use Rattle.model.proofs.Queues.{Agrees}
use Rattle.model.proofs.Scanned.{Distinct, least, scan_best, scan_late}
use Rattle.model.proofs.Firsts.{IsFirst, IsLeast, first_is, first_none, least_is, least_none, least_agree}
use Rattle.model.proofs.Chosen.{is_waiting, is_on_time, sorted, separate, found_agrees}
use Rattle.model.proofs.ReadyIs.{ready_waits, both_on_time, least_key, first_least}
use Rattle.model.proofs.Assembled.{J, waking}
use Rattle.model_rules.specs.ByScan.{found, record_of, NobodyOnTime}
use Rattle.model_rules.proofs.Judging.{is_late}

module _ (k time : ℕ) (M : Machine) where
  pub one_least_key : (e f : Entry) → LeastKey k time M e → LeastKey k time M f → e ≡ f
  one_least_key e f a b = go (a.least f b.is_ready b.is_eligible) (b.least e a.is_ready a.is_eligible)
    where
      go : (f ≡ e) ⊎ (before e.key f.key ≡ true) → (e ≡ f) ⊎ (before f.key e.key ≡ true) → e ≡ f
      go (inl z) y = sym z
      go (inr z) (inl y) = y
      go (inr z) (inr y) = never y (before_asym e.key f.key z)

  pub one_first_least : (e f : Entry) → FirstLeast k time M e → FirstLeast k time M f → e ≡ f
  one_first_least e f a b = go (a.first f b.is_ready (sym same)) (b.first e a.is_ready same)
    where
      same : e.vtime ≡ f.vtime
      same = let x : e.vtime ≤ f.vtime = a.least f b.is_ready in let y : f.vtime ≤ e.vtime = b.least e a.is_ready in omega arith

      go : (f ≡ e) ⊎ (before e.key f.key ≡ true) → (e ≡ f) ⊎ (before f.key e.key ≡ true) → e ≡ f
      go (inl z) y = sym z
      go (inr z) (inl y) = y
      go (inr z) (inr y) = never y (before_asym e.key f.key z)

module _ (turn : Turn) where
  abbrev k : ℕ
  k = turn.k

  abbrev time : ℕ
  time = turn.time

  abbrev M : Machine
  M = turn.M

  abbrev S : Sound M
  S = turn.sound

  abbrev T : Tidy M
  T = turn.tidy

  abbrev here : State
  here = J turn

  in_order : Sorted entry_before here.cpu.queue
  in_order = sorted (Free M) M.contexts k time (queues M) here (waking turn).kept

  apart : Distinct here.cpu.queue
  apart = separate (Free M) M.contexts k time (queues M) here (waking turn).kept

  leads : (e : Entry) → (found k time M).eligible_best ≡ Some e → IsFirst (is_on_time k time here) here.cpu.queue e
  leads e b = first_is _ here.cpu.queue e in_order (sym (scan_best k time here.cpu (ineligible_holder here) here.contexts here.cpu.queue apart) ∙ b)

  -- the eligible entry found has the least key, and its record agrees with it
  pub best_least : (e : Entry) → (found k time M).eligible_best ≡ Some e → LeastKey k time M e
  best_least e b = least_key k time M S T (waking turn) e (leads e b)

  pub best_agrees : (e : Entry) → (found k time M).eligible_best ≡ Some e → Agrees (record_of k time M e) e
  best_agrees e b =
      found_agrees (Free M) M.contexts k time (queues M) here (waking turn).kept e (leads e b).is_in (and_both (is_waiting k time here e) _ (leads e b).passes).0

  none_eligible : (found k time M).eligible_best ≡ None → (e : Entry) → In e here.cpu.queue → is_on_time k time here e ≡ false
  none_eligible b = first_none _ here.cpu.queue (sym (scan_best k time here.cpu (ineligible_holder here) here.contexts here.cpu.queue apart) ∙ b)

  pub best_none : (found k time M).eligible_best ≡ None → (e : Entry) → Ready k time M e → Eligible k time M e → ⊥
  best_none b e r l = never (both_on_time k time M S T (waking turn) e r l) (none_eligible b e r.is_in)

  pub least_best : (e : Entry) → LeastKey k time M e → (found k time M).eligible_best ≡ Some e
  least_best e a = go (found k time M).eligible_best refl
    where
      go : (o : Option Entry) → (found k time M).eligible_best ≡ o → (found k time M).eligible_best ≡ Some e
      go None b = absurd (best_none b e a.is_ready a.is_eligible)
      go (Some f) b = b ∙ ap Some (one_least_key k time M f e (best_least f b) a)

  pub none_best : ((e : Entry) → Ready k time M e → Eligible k time M e → ⊥) → (found k time M).eligible_best ≡ None
  none_best n = go (found k time M).eligible_best refl
    where
      go : (o : Option Entry) → (found k time M).eligible_best ≡ o → (found k time M).eligible_best ≡ None
      go None b = b
      go (Some f) b = let a = best_least f b in absurd (n f a.is_ready a.is_eligible)

  -- nobody is eligible
  module _ (n : NobodyOnTime k time M) where
    abbrev late_one : Entry → Bool
    late_one e = is_waiting k time here e && not (is_eligible here.cpu e)

    late_is : (e : Entry) → In e here.cpu.queue → late_one e ≡ is_waiting k time here e
    late_is e i = go (is_waiting k time here e) (is_eligible here.cpu e) (none_eligible n.entries e i)
      where
        go : (w o : Bool) → (w && o) ≡ false → (w && not o) ≡ w
        go true true z = sym z
        go true false z = refl
        go false o z = refl

    late_of : (found k time M).ineligible_best ≡ least (ineligible_holder here) late_one None here.cpu.queue
    late_of = scan_late k time here.cpu (ineligible_holder here) here.contexts here.cpu.queue apart n.entries

    is_bound : (r : Bool) → prev_runnable here ≡ r → ineligible_holder here ≡ if r then Some (holder here).vtime else None
    is_bound true r = rw (is_late k time M n.holder, r)
    is_bound false r = rw r

    found_late : (e : Entry) → (found k time M).ineligible_best ≡ Some e → IsLeast late_one here.cpu.queue e × (below (ineligible_holder here) e.vtime ≡ true)
    found_late e b = least_is (ineligible_holder here) late_one here.cpu.queue e in_order (sym late_of ∙ b)

    -- the entry found is the first of the least vtime, which is smaller than a runnable holder's
    pub late_first : (e : Entry) → (found k time M).ineligible_best ≡ Some e → FirstLeast k time M e
    late_first e b = first_least k time M S T (waking turn) e (least_agree late_one (is_waiting k time here) here.cpu.queue e late_is (found_late e b).0)

    pub late_sooner : (e : Entry) → (found k time M).ineligible_best ≡ Some e → prev_runnable here ≡ true → e.vtime < (holder here).vtime
    late_sooner e b r = ltb-true _ _ (rw (is_bound true r) at (found_late e b).1)

    -- none is found: a ready entry has no smaller vtime than a runnable holder's
    pub late_none : (found k time M).ineligible_best ≡ None → (e : Entry) → Ready k time M e → (prev_runnable here ≡ true) × ((holder here).vtime ≤ e.vtime)
    late_none b e a =
        by_test (prev_runnable here) (λ r. (r, ltb-false _ _ (rw (is_bound true r) at left))) (λ r. never refl (rw (is_bound false r) at left))
      where
        left : below (ineligible_holder here) e.vtime ≡ false
        left = least_none (ineligible_holder here) late_one here.cpu.queue (sym late_of ∙ b) e a.is_in (late_is e a.is_in ∙ ready_waits k time M S T (waking turn) e a)

    pub first_late : (e : Entry) → FirstLeast k time M e → (prev_runnable here ≡ true → e.vtime < (holder here).vtime) → (found k time M).ineligible_best ≡ Some e
    first_late e a w = go (found k time M).ineligible_best refl
      where
        go : (o : Option Entry) → (found k time M).ineligible_best ≡ o → (found k time M).ineligible_best ≡ Some e
        go None b =
            let (r, l) = late_none b e a.is_ready in let x : e.vtime < (holder here).vtime = w r in absurd (omega arith)
        go (Some f) b = b ∙ ap Some (one_first_least k time M f e (late_first f b) a)

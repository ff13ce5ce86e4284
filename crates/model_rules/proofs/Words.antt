-- On a tidy machine: the scan's words for the holder, a found entry and nobody are demand 3's. Assumes nothing.
use Rattle.std.specs.Prelude.{None, Option, Some}
use mathlib.Core.Path.{◌≡◌, refl, sym, ap, ◌∙◌}
use mathlib.Core.Bool.{false}
use Prim.Native.Nat.{ℕ, ◌<◌, ◌≤◌}
use native.Mathlib.Omega.{arith}
use lib.Dec.{leb}
use borrow.Author.Tests.{leb-true, leb-false}
use Rattle.context.specs.declared.Context.{Context}
use Rattle.entries.specs.declared.Entry.{Entry}
use Rattle.machine.specs.Machine.{Machine}
use Rattle.model.specs.State.{at, prev_runnable}
use Rattle.model.specs.Tidy.{Sound, Tidy}
use Rattle.model.specs.Demand3.{the_holder, v_here, HolderRunnable, HolderEligible, NobodyEligible, NobodyWaits}
use Rattle.model.proofs.Turn.{Turn}
use Rattle.model.proofs.Cases.{by_test, never}
use Rattle.model.proofs.Before.{Roles}
use Rattle.model.proofs.ReadyIs.{runs_holder, holder_runs, prev_eligible, eligible_prev}
use Rattle.model.proofs.Assembled.{scheduled_machine, J, waking}
use Rattle.model_rules.specs.ByScan.{Earlier, MoreSlice, found, prev, record_of, Runs, OnTime, NobodyOnTime, NobodyFound}
use Rattle.model_rules.proofs.Judging.{on_time, is_on_time}
use Rattle.model_rules.proofs.Found.{best_agrees, best_none, none_best, late_first, late_none}

module _ (turn : Turn) where
  abbrev k : ℕ
  k = turn.k

  abbrev time : ℕ
  time = turn.time

  abbrev M : Machine
  M = turn.M

  abbrev S : Sound M
  S = turn.sound

  abbrev T : Tidy M
  T = turn.tidy

  abbrev M' : Machine
  M' = scheduled_machine k time M

  -- the holder is the one before the call
  is_holder : prev k time M ≡ the_holder k time M
  is_holder = ap (λ y. at (J turn) y) (ap (λ (z : Roles). z.sched) (waking turn).roles_kept)

  pub hv : (prev k time M).vtime ≡ (the_holder k time M).vtime
  hv = ap (λ (c : Context). c.vtime) is_holder

  pub hd : (prev k time M).vd ≡ (the_holder k time M).vd
  hd = ap (λ (c : Context). c.vd) is_holder

  hs : (prev k time M).rem_slice ≡ (the_holder k time M).rem_slice
  hs = ap (λ (c : Context). c.rem_slice) is_holder

  pub runnable : Runs k time M → HolderRunnable k time M
  runnable = runs_holder k time M S T (waking turn)

  pub runs : HolderRunnable k time M → Runs k time M
  runs = holder_runs k time M S T (waking turn)

  pub eligible : OnTime k time M → HolderEligible k time M
  eligible o = prev_eligible k time M S T (waking turn) (is_on_time k time M o)

  pub in_time : HolderEligible k time M → OnTime k time M
  in_time h = on_time k time M (eligible_prev k time M S T (waking turn) h)

  -- the same deadline as an entry, with more slice left
  abbrev pub SameWithMore : Entry → Type 0
  SameWithMore e = ((the_holder k time M).vd ≡ e.key.vd) × (e.key.rem_slice < (the_holder k time M).rem_slice)

  -- the record of a found entry's context says what its key says
  module _ (e : Entry) (b : (found k time M).eligible_best ≡ Some e) where
    rd : (record_of k time M e).vd ≡ e.key.vd
    rd = (best_agrees turn e b).vd

    rs : (record_of k time M e).rem_slice ≡ e.key.rem_slice
    rs = (best_agrees turn e b).rem_slice

    pub to_key : Earlier (prev k time M) (record_of k time M e) → (the_holder k time M).vd < e.key.vd
    to_key l = rw (hd, rd) at l

    pub of_key : (the_holder k time M).vd < e.key.vd → Earlier (prev k time M) (record_of k time M e)
    of_key l = rw (hd, rd) l

    pub to_slice : MoreSlice (prev k time M) (record_of k time M e) → SameWithMore e
    to_slice (z, l) = (sym hd ∙ z ∙ rd, rw (hs, rs) at l)

    pub of_slice : SameWithMore e → MoreSlice (prev k time M) (record_of k time M e)
    of_slice (z, l) = (hd ∙ z ∙ sym rd, rw (hs, rs) l)

  pub nobody_eligible : NobodyOnTime k time M → NobodyEligible k time M
  nobody_eligible n =
      record {
        entries = λ e r. by_test (leb e.vtime (v_here k time M)) (λ t. absurd (best_none turn n.entries e r (leb-true _ _ t))) (λ t. leb-false _ _ t);
        holder = λ h. by_test (leb (the_holder k time M).vtime (v_here k time M))
            (λ t. absurd (n.holder (in_time (record { runnable = h; in_time = leb-true _ _ t })))) (λ t. leb-false _ _ t);
      }

  pub nobody_on_time : NobodyEligible k time M → NobodyOnTime k time M
  nobody_on_time n =
      record {
        entries = none_best turn (λ e r l. let x : v_here k time M < e.vtime = n.entries e r in let y : e.vtime ≤ v_here k time M = l in omega arith);
        holder = λ o. let h = eligible o in
            let x : v_here k time M < (the_holder k time M).vtime = n.holder h.runnable in
            let y : (the_holder k time M).vtime ≤ v_here k time M = h.in_time in omega arith;
      }

  -- nobody waits, and so nobody is eligible
  none_on_time : NobodyFound k time M → NobodyOnTime k time M
  none_on_time n = record { entries = n.eligible; holder = λ o. never o.runs n.holder }

  pub nobody_waits : NobodyFound k time M → NobodyWaits k time M
  nobody_waits n =
      record {
        entries = λ e r. never (late_none turn (none_on_time n) n.ineligible e r).0 n.holder;
        holder = λ h. never (runs h) n.holder;
      }

  pub nobody_found : NobodyWaits k time M → NobodyFound k time M
  nobody_found n = record { eligible = free; ineligible = go (found k time M).ineligible_best refl; holder = rests }
    where
      free : (found k time M).eligible_best ≡ None
      free = none_best turn (λ e r l. n.entries e r)

      rests : prev_runnable (J turn) ≡ false
      rests = by_test (prev_runnable (J turn)) (λ t. absurd (n.holder (runnable t))) (λ t. t)

      go : (o : Option Entry) → (found k time M).ineligible_best ≡ o → (found k time M).ineligible_best ≡ None
      go None b = b
      go (Some e) b = absurd (n.entries e (late_first turn (record { entries = free; holder = λ o. never o.runs rests }) e b).is_ready)

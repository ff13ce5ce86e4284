-- The wake-ups of a decision: which timers they leave, and that the holder's record is as it was. Assumes nothing.
use Rattle.std.specs.Prelude.{None, Option, Some}
use mathlib.Core.Path.{◌≡◌, refl, sym, ◌∙◌, subst}
use mathlib.Core.Bool.{true}
use mathlib.Core.List.{List, map}
use mathlib.Core.Logic.{◌⊎◌, ◌≢◌, inl, inr}
use Prim.Native.Nat.{ℕ}
use lib.ListN.{set}
use lib.Seq.{get_or-set_other}
use borrow.Author.Tests.{eqb-false}
use Rattle.columns.specs.Common.{fold, keep}
use Rattle.context.specs.declared.Context.{Context}
use Rattle.entries.specs.declared.Timer.{Timer}
use Rattle.entries.specs.Order.{sooner, is_due}
use Rattle.entries.specs.Queue.{timer_insert}
use Rattle.entries.specs.Sorted.{Sorted}
use Rattle.entries.proofs.Ordered.{same_timer, timers_ordered, sorted_keep}
use Rattle.machine.specs.Machine.{context_at, no_context}
use Rattle.model.specs.State.{State, at}
use Rattle.model.specs.Wakeup.{Wakeup, is_live_timer, timer_wakeup, local_wakeup, wakeups, stays, drained, put_back, enter, wake_as, serve_wakeup, serve_wakeups}
use Rattle.model.proofs.Cases.{by_test}
use Rattle.model.proofs.Lists.{In, in_append, in_map, in_keep, keep_in, fold_keeps_in}
use Rattle.model.proofs.Sorted.{in_inserted, in_insert, still_in_insert, insert_sorted}
use Rattle.model.proofs.WakeupCases.{Asked, wakeup_cases}

-- a timer put in leaves every other in the set
pub still_in : (t u : Timer) (l : List Timer) → In t l → In t (timer_insert u l)
still_in t u l i =
    by_test (sooner u t) (λ a. still_in_insert sooner u t l (inl a) i)
    (λ a. by_test (sooner t u) (λ b. still_in_insert sooner u t l (inr b) i) (λ b. rw (same_timer t u b a) (in_inserted sooner u l)))

other_at : (cs : List Context) (x y : ℕ) (q : Context) → y ≢ x → context_at (set cs x q) y ≡ context_at cs y
other_at cs x y q n = get_or-set_other cs x y q no_context n

module _ (time : ℕ) (s : State) where
  abbrev x₀ : ℕ
  x₀ = s.cpu.block.sched_ctxt

  -- the timers of a wake-up
  abbrev Was : Option ℕ → ℕ → Type 0
  Was None x = Unit {0}
  Was (Some wake) x = In (record { wake = wake; context_ref = x }) s.cpu.timers

  wakeup_was : (w : Wakeup) → In w (wakeups time s) → Was w.wake w.context_ref
  unfolding wakeups
  wakeup_was w i = go (in_append (map timer_wakeup (keep (is_live_timer s) (keep (is_due time) s.cpu.timers))) _ w i)
    where
      go : In w (map timer_wakeup (keep (is_live_timer s) (keep (is_due time) s.cpu.timers))) ⊎ In w (map local_wakeup s.cpu.local_wakeup_list) → Was w.wake w.context_ref
      go (inl h) =
          let (t, j, e) = in_map timer_wakeup (keep (is_live_timer s) (keep (is_due time) s.cpu.timers)) w h in
          let (j₁, a) = in_keep (is_live_timer s) (keep (is_due time) s.cpu.timers) t j in
          subst (λ (v : Wakeup). Was v.wake v.context_ref) (sym e) (in_keep (is_due time) s.cpu.timers t j₁).0
      go (inr h) = let (x, j, e) = in_map local_wakeup s.cpu.local_wakeup_list w h in subst (λ (v : Wakeup). Was v.wake v.context_ref) (sym e) tt

  -- u: the state with some wake-ups served
  pub record Serves (u : State) : Type 0 where
    pub from : (t : Timer) → In t u.cpu.timers → In t s.cpu.timers
    pub left : (t : Timer) → In t s.cpu.timers → stays time s t ≡ true → In t u.cpu.timers
    pub rise : Sorted sooner s.cpu.timers → Sorted sooner u.cpu.timers
    pub sched : u.cpu.block.sched_ctxt ≡ x₀
    pub idle : u.cpu.block.idle_ctxt ≡ s.cpu.block.idle_ctxt
    pub holder : at u x₀ ≡ at s x₀

  back_serves : (o : Option ℕ) (x : ℕ) (u : State) → Was o x → Serves u → Serves (put_back o x u)
  back_serves None x u f h = record { from = h.from; left = h.left; rise = h.rise; sched = h.sched; idle = h.idle; holder = h.holder }
  back_serves (Some wake) x u f h =
      record {
        from = λ t i. go t (in_insert sooner _ t u.cpu.timers i);
        left = λ t i e. still_in t _ u.cpu.timers (h.left t i e);
        rise = λ r. insert_sorted timers_ordered _ u.cpu.timers (h.rise r);
        sched = h.sched;
        idle = h.idle;
        holder = h.holder;
      }
    where
      go : (t : Timer) → (t ≡ record { wake = wake; context_ref = x }) ⊎ In t u.cpu.timers → In t s.cpu.timers
      go t (inl e) = subst (λ (y : Timer). In y s.cpu.timers) (sym e) f
      go t (inr j) = h.from t j

  -- a record other than the holder's is put in its place
  apart : (w : Wakeup) (u : State) (q : Context) → Asked u w → Serves u → context_at (set u.contexts w.context_ref q) x₀ ≡ at s x₀
  apart w u q a h =
      other_at u.contexts w.context_ref x₀ q (λ e. eqb-false w.context_ref u.cpu.block.sched_ctxt a.other (sym e ∙ sym h.sched)) ∙ h.holder

  serve_serves : (u : State) (w : Wakeup) → In w (wakeups time s) → Serves u → Serves (serve_wakeup u w)
  unfolding serve_wakeup wake_as enter
  serve_serves u w i h =
      wakeup_cases u w (λ r. Serves (wake_as u w r)) h (λ a. back_serves w.wake w.context_ref u (wakeup_was w i) h)
      (λ a l e. record { from = h.from; left = h.left; rise = h.rise; sched = h.sched; idle = h.idle; holder = apart w u _ a h })
      (λ a t. record { from = h.from; left = h.left; rise = h.rise; sched = h.sched; idle = h.idle; holder = apart w u _ a h })

  drained_serves : Serves (drained time s)
  drained_serves =
      record {
        from = λ t i. (in_keep (stays time s) s.cpu.timers t i).0;
        left = λ t i e. keep_in (stays time s) s.cpu.timers t i e;
        rise = λ r. sorted_keep (stays time s) sooner s.cpu.timers r;
        sched = refl;
        idle = refl;
        holder = refl;
      }

  -- after any number of them
  pub some_served : (l : List Wakeup) → ((w : Wakeup) → In w l → In w (wakeups time s)) → Serves (fold serve_wakeup (drained time s) l)
  some_served l f = fold_keeps_in Serves serve_wakeup l (λ u w i h. serve_serves u w (f w i) h) (drained time s) drained_serves

  pub served : Serves (serve_wakeups time s)
  unfolding serve_wakeups
  served = some_served (wakeups time s) (λ w i. i)

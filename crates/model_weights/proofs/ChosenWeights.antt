-- The choice: what the scan gave up leaves the total, and the winner's weight stays in it.
use Rattle.std.specs.Prelude.{None, Option, Some}
use mathlib.Core.Path.{◌≡◌, refl, subst, sym, ap, ◌∙◌}
use mathlib.Core.Bool.{Bool, true}
use mathlib.Core.List.{List}
use mathlib.Core.Logic.{inl, inr}
use Prim.Native.Nat.{ℕ, ◌+◌, ◌<◌}
use native.Mathlib.Omega.{arith}
use lib.ListN.{length, set}
use lib.Seq.{get_or-set_same}
use Rattle.context.specs.declared.Context.{Context}
use Rattle.context.specs.Key.{queue_key, without_key}
use Rattle.entries.specs.declared.Entry.{Entry}
use Rattle.entries.specs.Queue.{queue_remove}
use Rattle.machine.specs.Machine.{Machine, context_at, no_context}
use Rattle.model.specs.State.{State, at, prev_runnable}
use Rattle.model.specs.Choice.{cleaned_up, dequeued, ineligible_holder}
use Rattle.model.specs.Schedule.{scanned}
use Rattle.model.specs.Tidy.{Sound, Tidy, Present}
use Rattle.model.specs.Accepted.{ServesOwn}
use Rattle.model.proofs.Cases.{never, pick}
use Rattle.model.proofs.Lists.{In}
use Rattle.model.proofs.Queues.{Inv, on, on_here, gone_of}
use Rattle.model.proofs.Moves.{now_out, has_take}
use Rattle.model.proofs.Before.{queues, Free}
use Rattle.model.proofs.Entering.{old_key}
use Rattle.model.proofs.Woken.{Waking}
use Rattle.model.proofs.Judged.{ready_alive}
use Rattle.model.proofs.Firsts.{some_none, some_some}
use Rattle.model.proofs.ScanKept.{ready_stays}
use Rattle.model.proofs.Chosen.{is_waiting, separate}
use Rattle.model.proofs.Dequeued.{choice_of, chosen_state, kept_scan, cleaned, choice_cases}
use Rattle.model_weights.specs.Weighed.{Weighed, Agree}
use Rattle.model_weights.proofs.Sums.{added, added_remove, remove_in}
use Rattle.model_weights.proofs.Weighing.{Alive, own_weight, Weights, Change, change}
use Rattle.model_weights.proofs.StartWeights.{not_free}
use Rattle.model_weights.proofs.ChargedWeights.{Fast, Holds, fast_placed, running_weight, Judges}
use Rattle.model_weights.proofs.ScanWeights.{Cleans, scan_cleans}

module _ (M : Machine) where
  -- what the winner adds to the total
  abbrev pub won_weight : Option ℕ → ℕ
  won_weight None = 0
  won_weight (Some x) = own_weight M.contexts x

module _ (k time : ℕ) (M : Machine) (S : Sound M) (T : Tidy M) (P : Present M k) (own : ServesOwn k time M) (W : Weighed M) (A : Agree M) (J : State)
    (n : Waking k time M S T J) (g : Judges k time M S T P own W A J) where
  abbrev running : Bool
  running = prev_runnable J

  abbrev now : State → ℕ → List Entry
  now s = on k s.cpu.queue (queues M)

  pub record Chooses (w : Option ℕ) (t : State) : Type 0 where
    pub weights : Weights M.contexts (Fast k M (prev_runnable J)) (Holds k M (prev_runnable J) w) t.contexts (now t)
    pub total : t.cpu.block.total_weight ≡ running_weight k M (prev_runnable J) + won_weight M w + added t.cpu.queue
    pub winner : (x : ℕ) → w ≡ Some x → (at t x).is_active ≡ true

  apart : (x : ℕ) → Free M x → Fast k M (prev_runnable J) x → ⊥
  apart x f a = not_free M x f (fast_placed k M (prev_runnable J) x a)

  cleans : Cleans (Free M) M.contexts k time J.cpu (ineligible_holder J) J.contexts J.cpu.queue (queues M) n.kept (Fast k M (prev_runnable J)) (Holds k M (prev_runnable J) None) apart (scanned k time J)
  cleans =
      scan_cleans (Free M) M.contexts k time J.cpu (ineligible_holder J) J.contexts J.cpu.queue (queues M) n.kept (Fast k M (prev_runnable J)) (Holds k M (prev_runnable J) None) apart
      (separate (Free M) M.contexts k time (queues M) J n.kept) g.weights

  abbrev C : State
  C = cleaned k time M S T J n

  clean_chooses : Chooses None (cleaned k time M S T J n)
  unfolding cleaned_up
  clean_chooses =
      record {
        weights = cleans.weights;
        total =
            let a : J.cpu.block.total_weight ≡ running_weight k M (prev_runnable J) + added J.cpu.queue = g.total in
            let b = cleans.given_up in omega (arith, a, b);
        winner = λ x z. absurd (some_none z refl);
      }

  module _ (e : Entry) (i : In e J.cpu.queue) (t : is_waiting k time J e ≡ true) where
    abbrev x : ℕ
    x = e.context_ref

    abbrev c : Context
    c = at C x

    kept : Inv (Free M) M.contexts C.contexts (now C)
    unfolding cleaned_up
    kept = (kept_scan k time M S T J n).inv

    alive : Alive M.contexts x
    alive = sym (gone_of (n.kept.same x)) ∙ ready_alive k time J.cpu (at J x) e t

    is_in : In e C.cpu.queue
    unfolding cleaned_up
    is_in =
        ready_stays (Free M) M.contexts k time J.cpu (ineligible_holder J) J.contexts J.cpu.queue (queues M) n.kept
        (separate (Free M) M.contexts k time (queues M) J n.kept) e i t

    here : In e (now C k)
    here = rw (on_here k C.cpu.queue (queues M)) is_in

    key : (c.has_queue_key ≡ true) × (e.key ≡ queue_key c)
    key = old_key (Free M) M.contexts C.contexts k C.cpu.queue (queues M) x c kept (gone_of (kept.same x) ∙ alive) refl refl e k here refl

    r : x < length C.contexts
    r = kept.range e k here

    only : (d : Entry) (j : ℕ) → In d (now C j) → d.context_ref ≡ x → (d.key ≡ queue_key c) × (j ≡ k)
    only d j h m = let (p, z) = kept.one d e j k h here m in (ap (λ (b : Entry). b.key) p ∙ key.1, z)

    leaves : Change M.contexts (Fast k M running) (Holds k M running None) (Holds k M running (Some x)) C.contexts (now C)
        (on k (queue_remove (queue_key c) C.cpu.queue) (queues M)) x (without_key c)
    leaves =
        record {
          range = r;
          came = λ d j h o. remove_in k C.cpu.queue (queues M) (queue_key c) d j h;
          stays = λ y o h. has_take (Free M) M.contexts C.contexts k C.cpu.queue (queues M) kept x (queue_key c) r refl only y o h;
          its_entry = λ d j h z a. absurd (now_out (Free M) M.contexts C.contexts k C.cpu.queue (queues M) kept x (queue_key c) r refl only d j h z);
          may = λ a. inr (inr refl);
          held = λ y o a. other y a;
          kept = λ a. absurd (apart x (kept.free e k here) a);
        }
      where
        other : (y : ℕ) → Holds k M running None y → Holds k M running (Some x) y
        other y (inl a) = inl a
        other y (inr z) = absurd (some_none z refl)

    active : c.is_active ≡ true
    active = clean_chooses.weights.active e k here alive

    entry_chooses : Chooses (Some x) (dequeued x C)
    entry_chooses =
        pick (Chooses (Some x)) c.has_queue_key
        (λ u. record {
          weights = change M.contexts (Fast k M running) (Holds k M running None) (Holds k M running (Some x)) C.contexts (now C) _ x (without_key c) leaves clean_chooses.weights;
          total =
              let a : C.cpu.block.total_weight ≡ running_weight k M running + 0 + added C.cpu.queue = clean_chooses.total in
              let b : added C.cpu.queue ≡ e.weight + added (queue_remove e.key C.cpu.queue) =
              added_remove e C.cpu.queue (rw (on_here k C.cpu.queue (queues M)) at (kept.sorted k)) is_in in
              let d : e.weight ≡ own_weight M.contexts x = clean_chooses.weights.weighs e k here alive in
              let f : added (queue_remove e.key C.cpu.queue) ≡ added (queue_remove (queue_key c) C.cpu.queue) =
              ap (λ y. added (queue_remove y C.cpu.queue)) key.1 in
              omega (arith, a, b, d, f);
          winner = λ y z. subst (λ o. (context_at (set C.contexts x (without_key c)) o).is_active ≡ true) (some_some z)
              (ap (λ (o : Context). o.is_active) (get_or-set_same C.contexts x (without_key c) no_context r) ∙ active);
        })
        (λ u. never key.0 u)

  pub choice_chooses : Chooses (choice_of k time M S T J n).winner (chosen_state k time M S T J n)
  choice_chooses = choice_cases k time M S T J n Chooses clean_chooses entry_chooses

-- Charging: a holder that is not runnable leaves the total with its weight.
use Rattle.std.specs.Prelude.{if◌then◌else◌, None, Option, Some}
use mathlib.Core.Path.{◌≡◌, refl, subst, sym, ap, ◌∙◌}
use mathlib.Core.Bool.{Bool, true, false, not, ◌&&◌}
use mathlib.Core.List.{List}
use mathlib.Core.Logic.{◌⊎◌, inl, inr, ◌≢◌}
use Prim.Native.Nat.{ℕ, ◌+◌, ◌<◌}
use native.Mathlib.Omega.{arith}
use lib.Dec.{eqb}
use lib.ListN.{length, set}
use lib.Seq.{get_or-set_same}
use borrow.Author.Tests.{eqb-true, eqb-false}
use Rattle.context.specs.declared.Context.{Context}
use Rattle.context.specs.Status.{is_runnable}
use Rattle.ticks.specs.declared.Spent.{Spent}
use Rattle.weights.specs.Weights.{weight}
use Rattle.charging.specs.Charge.{charged, stopped}
use Rattle.entries.specs.declared.Entry.{Entry}
use Rattle.machine.specs.Machine.{Machine, context_at, no_context, cpu_at}
use Rattle.model.specs.State.{State, at, put_context, on_cpu, state_of, holder, is_idle, prev_runnable}
use Rattle.model.specs.Turn.{times, inactive, holder_stopped, charge_holder, before_selection, before_choice}
use Rattle.model.specs.Tidy.{Sound, Tidy, Present, InCharge, Idle, context}
use Rattle.model.specs.Accepted.{ServesOwn}
use Rattle.model.proofs.Cases.{by_test, never, pick}
use Rattle.model.proofs.Queues.{on, set_view}
use Rattle.model.proofs.Before.{Roles, queues}
use Rattle.model.proofs.Charged.{charged_active, charged_status, holder_out, holder_range, times_waking}
use Rattle.model_weights.specs.Weighed.{Weighed, Agree}
use Rattle.model_weights.proofs.Sums.{added, held_weight}
use Rattle.model_weights.proofs.Weighing.{own_weight, Weights, Change, change, same_marks, same_names}
use Rattle.model_weights.proofs.StartWeights.{Placed, Charged}
use Rattle.model_weights.proofs.EnteredWeights.{Wakes}
use Rattle.model_weights.proofs.WokenWeights.{wakeups_wake}

module _ (k : ℕ) (M : Machine) where
  -- in charge elsewhere, or here and runnable; or idle
  abbrev pub Fast : Bool → ℕ → Type 0
  Fast runs x = (j : ℕ) × Present M j × ((((j ≢ k) ⊎ (runs ≡ true)) × (x ≡ (cpu_at M j).block.sched_ctxt)) ⊎ (x ≡ (cpu_at M j).block.idle_ctxt))

  -- who may be active without an entry, the winner w among them
  abbrev pub Holds : Bool → Option ℕ → ℕ → Type 0
  Holds runs w x = ((j : ℕ) × InCharge M x j × ((j ≢ k) ⊎ (runs ≡ true))) ⊎ (w ≡ Some x)

  pub fast_placed : (runs : Bool) (x : ℕ) → Fast runs x → Placed M x
  fast_placed runs x (j, p, inl (o, z)) = (j, p, inl z)
  fast_placed runs x (j, p, inr z) = (j, p, inr z)

  -- what a runnable holder adds to the total
  abbrev pub running_weight : Bool → ℕ
  running_weight runs = if runs then own_weight M.contexts (cpu_at M k).block.sched_ctxt else 0

module _ (k time : ℕ) (M : Machine) (S : Sound M) (T : Tidy M) (P : Present M k) (own : ServesOwn k time M) (W : Weighed M) (A : Agree M) where
  abbrev h : ℕ
  h = (cpu_at M k).block.sched_ctxt

  abbrev now : State → ℕ → List Entry
  now s = on k s.cpu.queue (queues M)

  -- before the choice
  pub record Judges (J : State) : Type 0 where
    pub weights : Weights M.contexts (Fast k M (prev_runnable J)) (Holds k M (prev_runnable J) None) J.contexts (now J)
    pub total : J.cpu.block.total_weight ≡ running_weight k M (prev_runnable J) + added J.cpu.queue
    pub runs_active : prev_runnable J ≡ true → (context M h).is_active ≡ true

  judges : (J : State) (b : Bool) → prev_runnable J ≡ b → Weights M.contexts (Fast k M b) (Holds k M b None) J.contexts (now J)
      → J.cpu.block.total_weight ≡ running_weight k M b + added J.cpu.queue → (b ≡ true → (context M h).is_active ≡ true) → Judges J
  judges J b e w t a =
      record {
        weights = subst (λ c. Weights M.contexts (Fast k M c) (Holds k M c None) J.contexts (now J)) (sym e) w;
        total = t ∙ ap (λ c. running_weight k M c + added J.cpu.queue) (sym e);
        runs_active = λ z. a (sym e ∙ z);
      }

  module _ (n : Spent) (s : State) (w : Wakes k time M S T P own W A s) where
    is_h : s.cpu.block.sched_ctxt ≡ h
    is_h = ap (λ (z : Roles). z.sched) w.waking.roles_kept

    is_idle_word : s.cpu.block.idle_ctxt ≡ (cpu_at M k).block.idle_ctxt
    is_idle_word = ap (λ (z : Roles). z.idle) w.waking.roles_kept

    holder_is : holder s ≡ context M h
    holder_is = ap (at s) is_h ∙ w.holder_is

    -- the idle context is in charge
    idle_judges : is_idle s ≡ true → Judges s
    idle_judges t =
        judges s false (rw t)
        (same_names M.contexts (Placed M) (Fast k M false) (Charged M) (Holds k M false None) s.contexts (now s) (fast_placed k M false)
        (λ y r a (j, c). by_test (eqb j k)
        (λ u. absurd (unmarked y a (sym c.named ∙ ap (λ i. (cpu_at M i).block.sched_ctxt) (eqb-true j k u))))
        (λ u. inl (j, c, inl (eqb-false j k u)))) w.weights)
        (w.total ∙ ap (λ o. o + added s.cpu.queue) (rw none_held)) (λ z. never {b = false} z refl)
      where
        is_idle_here : Idle M h k
        is_idle_here = record { present = P; named = sym (sym is_h ∙ eqb-true _ _ t ∙ is_idle_word) }

        none_held : (context M h).is_active ≡ false
        none_held = W.idle_not_active h k is_idle_here

        unmarked : (y : ℕ) → (at s y).is_active ≡ true → y ≡ h → ⊥
        unmarked y a z = never (ap (λ i. (at s i).is_active) (sym z) ∙ a) (ap (λ (c : Context). c.is_active) w.holder_is ∙ none_held)

    module _ (awake : is_idle s ≡ false) where
      not_idle : (j : ℕ) → Idle M h j → ⊥
      not_idle j i =
          let z : k ≡ j = T.idle_at_home k j P i.present (sym i.named) in
          eqb-false _ _ awake (is_h ∙ sym i.named ∙ ap (λ y. (cpu_at M y).block.idle_ctxt) (sym z) ∙ sym is_idle_word)

      r : s.cpu.block.sched_ctxt < length s.contexts
      r = holder_range k time M S T P s w.waking

      runnable_judges : is_runnable (holder s).status ≡ true → Judges (put_context s.cpu.block.sched_ctxt (charged s.cpu.block.v n (holder s)) s)
      runnable_judges t =
          judges _ true runs_now
          (same_names M.contexts (Placed M) (Fast k M true) (Charged M) (Holds k M true None) _ (now s) (fast_placed k M true) (λ y r a (j, c). inl (j, c, inr refl))
          (same_marks M.contexts (Placed M) (Charged M) s.contexts _ (now s) (set_view (λ (c : Context). c.is_active) s.contexts _ _ (charged_active _ n (holder s))) w.weights))
          (w.total ∙ ap (λ o. o + added s.cpu.queue) (rw active)) (λ z. active)
        where
          active : (context M h).is_active ≡ true
          active = W.in_charge_active h k (record { present = P; named = refl }) (ap (λ (c : Context). is_runnable c.status) (sym holder_is) ∙ t) not_idle

          runs_now : (not (eqb s.cpu.block.sched_ctxt s.cpu.block.idle_ctxt) && is_runnable (context_at (set s.contexts s.cpu.block.sched_ctxt (charged s.cpu.block.v n (holder s))) s.cpu.block.sched_ctxt).status) ≡ true
          runs_now = rw (awake, get_or-set_same s.contexts s.cpu.block.sched_ctxt (charged s.cpu.block.v n (holder s)) no_context r, charged_status s.cpu.block.v n (holder s)) t

      stopped_judges : is_runnable (holder s).status ≡ false → Judges (inactive s)
      stopped_judges t =
          judges (inactive s) false stops
          (change M.contexts (Fast k M false) (Charged M) (Holds k M false None) s.contexts (now s) (now s) s.cpu.block.sched_ctxt (stopped (holder s)) leaves
          (same_names M.contexts (Placed M) (Fast k M false) (Charged M) (Charged M) s.contexts (now s) (fast_placed k M false) (λ y r a c. c) w.weights))
          loses (λ z. never {b = false} z refl)
        where
          stops : prev_runnable (inactive s) ≡ false
          stops = rw (awake, get_or-set_same s.contexts s.cpu.block.sched_ctxt (stopped (holder s)) no_context r) t

          not_fast : Fast k M false s.cpu.block.sched_ctxt → ⊥
          not_fast (j, p, inl (inl o, z)) = o (sym (T.one_in_charge k j P p (sym is_h ∙ z)))
          not_fast (j, p, inl (inr o, z)) = never {b = false} o refl
          not_fast (j, p, inr z) = not_idle j (record { present = p; named = sym z ∙ is_h })

          leaves : Change M.contexts (Fast k M false) (Charged M) (Holds k M false None) s.contexts (now s) (now s) s.cpu.block.sched_ctxt (stopped (holder s))
          leaves =
              record {
                range = r;
                came = λ d i g o. g;
                stays = λ y o g. g;
                its_entry = λ d i g z a. absurd (holder_out k time M S T P s w.waking d i g z);
                may = λ a. never {b = false} a refl;
                held = λ y o (j, c). inl (j, c, inl (λ z. o (sym c.named ∙ ap (λ i. (cpu_at M i).block.sched_ctxt) z ∙ sym is_h)));
                kept = λ a. absurd (not_fast a);
              }

          loses : (inactive s).cpu.block.total_weight ≡ 0 + added s.cpu.queue
          loses =
              let g : s.cpu.block.total_weight ≡ held_weight (context M h) + added s.cpu.queue = w.total in
              let e : held_weight (holder s) ≡ held_weight (context M h) = ap held_weight holder_is in
              by_test (holder s).is_active
              (λ a. let e' : weight (holder s).prio ≡ held_weight (context M h) = rw a at e in rw a (omega (arith, g, e')))
              (λ a. let e' : 0 ≡ held_weight (context M h) = rw a at e in rw a (omega (arith, g, e')))

    charge_judges : Judges (charge_holder n s)
    unfolding charge_holder holder_stopped
    charge_judges =
        pick Judges (is_idle s) idle_judges
        (λ a. pick Judges (is_runnable (holder s).status) (runnable_judges a)
        (λ b. pick Judges (holder s).has_wake
        (λ c. let g = stopped_judges a b in record { weights = g.weights; total = g.total; runs_active = g.runs_active }) (λ c. stopped_judges a b)))

  times_wakes : (s : State) → Wakes k time M S T P own W A s → Wakes k time M S T P own W A (on_cpu (times time) s)
  unfolding times
  times_wakes s n = record { waking = times_waking k time M S T P s n.waking; weights = n.weights; holder_is = n.holder_is; total = n.total }

  pub before_judges : Judges (before_choice time (state_of k M))
  unfolding before_choice before_selection
  before_judges = charge_judges _ _ (times_wakes _ (wakeups_wake k time M S T P own W A))

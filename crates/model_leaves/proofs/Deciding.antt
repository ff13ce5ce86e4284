-- Operations 1 to 3 leave a machine well-formed. Assumes nothing.
use Rattle.std.specs.Prelude.{None, Option, Some}
use mathlib.Core.Path.{◌≡◌, refl, sym, ap, ◌∙◌, subst}
use mathlib.Core.Bool.{Bool, true, false}
use mathlib.Core.List.{List}
use Prim.Native.Nat.{ℕ, ◌<◌, ◌≤◌}
use native.Mathlib.Omega.{arith}
use lib.Dec.{ltb, eqb}
use lib.ListN.{length, get_or, set, length-set}
use borrow.Author.Tests.{ltb-true, ltb-false}
use Rattle.answer.specs.declared.Rule.{Rule}
use Rattle.answer.specs.Number.{rule_number}
use Rattle.columns.proofs.Tabulate.{get_d_past}
use Rattle.context.specs.declared.Context.{Context}
use Rattle.percpu.specs.Cpu.{Cpu}
use Rattle.machine.specs.Machine.{Machine, context_at, cpu_at, no_cpu}
use Rattle.machine.specs.Outcome.{Outcome}
use Rattle.machine.proofs.Steps.{get_d_set}
use Rattle.ticks.specs.declared.Spent.{Spent}
use Rattle.model.specs.State.{State, state_of, prev_runnable}
use Rattle.model.specs.Turn.{spent, was_idle, charge_holder, before_selection}
use Rattle.model.specs.Choice.{Choice, choice, chosen}
use Rattle.model.specs.SwitchTo.{try_direct_switch_back}
use Rattle.model.specs.Schedule.{finish_by, scanned, locks, choose_and_steal, selected, select_next_context, picked_as, schedule, switch_as, after_schedule, switch_inner_by, switch_inner, ticked, tick, switch, direct_switch_or, direct_switch_to}
use Rattle.model.specs.Accepted.{Call, by_tick, by_switch, by_direct_switch, outcome}
use Rattle.model.proofs.Cases.{by_test, pick}
use Rattle.model_timers.specs.Timers.{Alone}
use Rattle.model_leaves.proofs.TimersAlone.{decision_alone}
use Rattle.model_leaves.proofs.WellFormed.{Fixed, fixed, FixedFormed, ContextFormed, gone_context, LiveName, Stands, absent, present, WellFormed}
use Rattle.model_leaves.proofs.Lists.{stands_over, present_formed}
use Rattle.model_leaves.proofs.Kept.{ContextKept, Contexts, KeptState}
use Rattle.model_leaves.proofs.Charging.{charge_kept, before_selection_kept}
use Rattle.model_leaves.proofs.Choosing.{WinnerFormed, chosen_wins, chosen_kept}
use Rattle.model_leaves.proofs.Stealing.{StealKept, steal_kept}
use Rattle.model_leaves.proofs.Ending.{settled_kept, next_formed, hand_over_kept, switch_to_kept, MaybeGood, directly_kept, back_kept}
use Rattle.numbers.specs.Limits.{max_number}
use Rattle.model.specs.Handover.{hand_over}

-- the context that a direct switch goes to is alive
abbrev pub TargetFormed : ℕ → List Context → Call → Type 0
TargetFormed n cs by_tick = Unit {0}
TargetFormed n cs by_switch = Unit {0}
TargetFormed n cs (by_direct_switch x) = LiveName n cs x

-- a context after, from the one before
context_after : {c : ℕ} (a x : Context) → ContextFormed c a → ContextKept c a x → ContextFormed c x
context_after a x f k =
    let g : x.gone ≡ a.gone = ap (λ (y : Fixed). y.gone) k.same in
    let d : x.debug_id ≡ a.debug_id = ap (λ (y : Fixed). y.debug_id) k.same in
    record {
      id = omega (arith, f.id);
      gone = λ z. let t = sym g ∙ z in subst (λ (y : Context). y ≡ gone_context y.debug_id) (sym (k.gone t)) (f.gone t);
      fixed_formed = λ z. subst FixedFormed (sym k.same) (f.fixed_formed (sym g ∙ z));
      changing_formed = λ z. k.live (sym g ∙ z);
    }

module _ (c n : ℕ) (M : Machine) (W : WellFormed c n M) where
  pub live_fixed : (x : ℕ) → LiveName n M.contexts x → FixedFormed (fixed (context_at M.contexts x))
  live_fixed x a = (W.context x a.below).fixed_formed a.live

  -- every CPU; past the last there is none
  pub each_stands : (j : ℕ) → Stands n M.contexts (get_or M.cpus j no_cpu)
  unfolding cpu_at
  each_stands j =
      by_test (ltb j c) (λ t. W.cpu j (ltb-true j c t)) (λ t. absent (get_d_past M.cpus j no_cpu (omega (arith, W.cpus, ltb-false j c t))))

  pub contexts_start : Contexts c n M.contexts M.contexts
  contexts_start x h = record { same = refl; gone = λ z. refl; live = (W.context x h).changing_formed }

  -- the machine after, from its contexts and CPUs
  pub machine_formed : (cs : List Context) (ps : List Cpu) → length cs ≡ n → Contexts c n M.contexts cs → length ps ≡ c → ((j : ℕ) → Stands n M.contexts (get_or ps j no_cpu))
      → ((j : ℕ) → Alone (get_or ps j no_cpu).timers) → WellFormed c n (record { contexts = cs; cpus = ps })
  unfolding cpu_at
  machine_formed cs ps l o q a t =
      let id : (x : ℕ) → x < n → (context_at cs x).debug_id ≡ (context_at M.contexts x).debug_id = λ x h. ap (λ (y : Fixed). y.debug_id) (o x h).same in
      record {
        bounds = W.bounds;
        cpus = q;
        contexts = l;
        context = λ x h. context_after (context_at M.contexts x) (context_at cs x) (W.context x h) (o x h);
        ids_differ = λ x y h g e. W.ids_differ x y h g (sym (id x h) ∙ e ∙ id y g);
        cpu = λ j h. stands_over M.contexts cs (λ x g. (o x g).same) (get_or ps j no_cpu) (a j);
        alone = t;
      }

  module _ (k time : ℕ) (here : k < c) (is_present : (cpu_at M k).block.present ≡ true) (soon : time ≤ max_number) where
    abbrev Good : State → Type 0
    Good s = KeptState c n M.contexts s

    start_kept : Good (state_of k M)
    start_kept =
        let (f, r) = present_formed (cpu_at M k) is_present (W.cpu k here) in
        record { count = W.contexts; context = contexts_start; cpu = f; room = λ z. r }

    -- the outcome, if there was room; that each context has one timer is shown by itself
    abbrev Leaves : Outcome → Type 0
    Leaves o = o.no_room ≡ false → ((j : ℕ) → Alone (cpu_at o.machine j).timers) → WellFormed c n o.machine

    finished : (rule : ℕ) (cpus : List Cpu) (r : ℕ) (s : State) → length cpus ≡ c → ((j : ℕ) → Stands n M.contexts (get_or cpus j no_cpu)) → Good s → Leaves (finish_by rule k cpus r s)
    unfolding cpu_at
    finished rule cpus r s l a o z t =
        machine_formed s.contexts (set cpus k s.cpu) o.count o.context (length-set cpus k s.cpu ∙ l)
        (λ j. get_d_set cpus k j s.cpu no_cpu (Stands n M.contexts) (present o.cpu (o.room z)) (a j)) t

    switched : (rule : ℕ) (s : State) (cpus : List Cpu) (w : Option ℕ) → length cpus ≡ c → ((j : ℕ) → Stands n M.contexts (get_or cpus j no_cpu)) → WinnerFormed c n M.contexts w → Good s
        → Leaves (switch_as k time rule s cpus w)
    unfolding switch_as
    switched rule s cpus None l a w o = finished rule cpus 2 _ l a o
    switched rule s cpus (Some x) l a w o =
        finished rule cpus 1 _ l a (pick Good (eqb s.cpu.block.current_ctxt x) (λ z. o) (λ z. switch_to_kept c n M.contexts time soon k here x s w o))

    picked : (was : Bool) (rule : Rule) (cpus : List Cpu) (w : Option ℕ) (s : State) → length cpus ≡ c → ((j : ℕ) → Stands n M.contexts (get_or cpus j no_cpu)) → WinnerFormed c n M.contexts w → Good s
        → Leaves (after_schedule k time (picked_as time was rule cpus w s))
    unfolding after_schedule picked_as
    picked was rule cpus None s l a w o = switched (rule_number rule) s cpus None l a w o
    picked was rule cpus (Some x) s l a w o = switched (rule_number rule) (hand_over time was x s) cpus (Some x) l a w (hand_over_kept c n M.contexts time soon was x s w o)

    -- s: the state before the choice
    stolen : (s : State) → Good s → StealKept c n M.contexts live_fixed (choose_and_steal k time M.cpus s)
    unfolding choose_and_steal
    stolen s o =
        let f = scanned k time s in
        let w : Choice = choice s f in
        steal_kept c n M.contexts live_fixed k (prev_runnable s) (locks s w) M.cpus w.winner (chosen w f s) W.cpus each_stands
        (chosen_wins c n M.contexts k time s o) (chosen_kept c n M.contexts k time s o)

    selection : (was : Bool) (t : Spent) (s : State) → Good s
        → Leaves (after_schedule k time (picked_as time was (selected k time t M.cpus s).rule (selected k time t M.cpus s).cpus (selected k time t M.cpus s).next (selected k time t M.cpus s).state))
    unfolding selected
    selection was t s o =
        let l = choose_and_steal k time M.cpus s in
        let g = stolen s o in
        let u = settled_kept c n M.contexts live_fixed k time (prev_runnable s) _ l g.state in
        picked was _ l.cpus _ _ g.count g.cpus (next_formed c n M.contexts (prev_runnable s) l.winner _ g.winner u) u

    scheduled : (s : State) → Good s → Leaves (after_schedule k time (schedule k time M.cpus s))
    unfolding schedule select_next_context
    scheduled s o =
        selection (was_idle s.cpu) (spent time s.cpu) (charge_holder (spent time s.cpu) (before_selection time s))
        (charge_kept c n M.contexts (before_selection time s) (before_selection_kept c n M.contexts time s live_fixed soon o) (spent time s.cpu))

    abbrev Maybe : Option State → Type 0
    Maybe = MaybeGood c n M.contexts time soon k here

    inner_by : (s : State) (d : Option State) → Good s → Maybe d → Leaves (switch_inner_by k time M.cpus s d)
    unfolding switch_inner_by
    inner_by s None o g = scheduled s o
    inner_by s (Some u) o g = finished 0 M.cpus 1 u W.cpus each_stands g

    inner : (s : State) → Good s → Leaves (switch_inner k time M.cpus s)
    unfolding switch_inner
    inner s o = inner_by s (try_direct_switch_back k time s) o (back_kept c n M.contexts time soon k here s o)

    direct_or : (s : State) (d : Option State) → Good s → Maybe d → Leaves (direct_switch_or k time M.cpus s d)
    unfolding direct_switch_or
    direct_or s None o g = inner s o
    direct_or s (Some u) o g = finished 0 M.cpus 1 u W.cpus each_stands g

    call_leaves : (call : Call) → TargetFormed n M.contexts call → Leaves (outcome call k time M)
    unfolding tick switch direct_switch_to
    call_leaves by_tick a =
        let s : State = ticked (state_of k M) in
        pick Leaves (ltb s.cpu.block.pit_ticks 3) (λ z. finished 0 M.cpus 0 s W.cpus each_stands start_kept) (λ z. inner s start_kept)
    call_leaves by_switch a = inner (state_of k M) start_kept
    call_leaves (by_direct_switch x) a =
        let s : State = state_of k M in
        pick Leaves (eqb s.cpu.block.current_ctxt x) (λ z. finished 0 M.cpus 1 s W.cpus each_stands start_kept)
        (λ z. direct_or s _ start_kept (directly_kept c n M.contexts time soon k here (eqb s.cpu.block.sched_ctxt x) false x s a start_kept))

    pub decision_leaves : (call : Call) → TargetFormed n M.contexts call → (outcome call k time M).no_room ≡ false → WellFormed c n (outcome call k time M).machine
    decision_leaves call a z = call_leaves call a z (decision_alone call k time M (omega (arith, W.cpus)) W.alone)

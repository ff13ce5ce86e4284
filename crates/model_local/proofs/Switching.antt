-- A switch that is not on a stealing turn reads and writes its own block and the contexts that its block names, and nothing else. Assumes nothing.
use Rattle.std.specs.Prelude.{None, is_some}
use mathlib.Core.Path.{◌≡◌, refl, sym, ap, ◌∙◌, subst}
use mathlib.Core.Bool.{Bool, true, false, not, ◌&&◌}
use mathlib.Core.List.{List}
use Prim.Native.Nat.{ℕ, ◌<◌, ◌≤◌}
use lib.Dec.{eqb, ltb}
use lib.ListN.{length, length-set}
use lib.Seq.{ext_get_or, get_or-set_same, get_or-set_other}
use borrow.Author.Tests.{ltb-true, ltb-false}
use Rattle.columns.proofs.Tabulate.{get_d_past}
use Rattle.context.specs.declared.Context.{Context}
use Rattle.runnable.specs.declared.UpdateResult.{UpdateResult}
use Rattle.runnable.specs.declared.UpdateResult.TheVariants.{CanSwitch, Skip, Blocked}
use Rattle.runnable.specs.Runnable.{update_runnable}
use Rattle.percpu.specs.Cpu.{Cpu}
use Rattle.machine.specs.Machine.{Machine, context_at, cpu_at, no_context, no_cpu}
use Rattle.model.specs.State.{State, at, state_of}
use Rattle.model.specs.SwitchTo.{direct_switch_by, try_direct_switch_back}
use Rattle.model.specs.Schedule.{Outcome, switch}
use Rattle.model.specs.Accepted.{can_switch}
use Rattle.model.proofs.Cases.{by_test}
use Rattle.model_local.specs.Names.{names}
use Rattle.model_local.specs.Local.{with_others, others, Within, Alike, Local}
use Rattle.model_local.specs.Apart.{finds_stealing_turn, falls_on_stealing_turn}
use Rattle.model_local.proofs.Others.{others_at, others_out, others_count, others_same}
use Rattle.model_local.proofs.Owned.{Owns}
use Rattle.model_local.proofs.Quiet.{Ended, ended, finish_ended, ended_is, ended_owns, ended_moves, ended_others, turn_same}

-- where there is no direct switch back, the switch decides
module _ (k time : ℕ) (s : State) where
  abbrev sched : ℕ
  sched = s.cpu.block.sched_ctxt

  by_none : (r : UpdateResult) → direct_switch_by k time sched s r ≡ None → can_switch r ≡ false
  unfolding direct_switch_by
  by_none Skip e = refl
  by_none Blocked e = refl
  by_none (CanSwitch c) e = ap is_some e

  decides_none : try_direct_switch_back k time s ≡ None → not (not (eqb s.cpu.block.current_ctxt sched) && can_switch (update_runnable k time true false (at s sched))) ≡ true
  unfolding try_direct_switch_back
  decides_none e =
      by_test (eqb s.cpu.block.current_ctxt sched) (λ t. rw t)
      (λ t. rw (t, by_none (update_runnable k time true false (at s sched)) (rw t at e)))

module _ (k time : ℕ) (M : Machine) (quiet : falls_on_stealing_turn k time M ≡ false) where
  turn_quiet : try_direct_switch_back k time (state_of k M) ≡ None → finds_stealing_turn k time (state_of k M) ≡ false
  turn_quiet e = rw (decides_none k time (state_of k M) e) at quiet

  pub switch_is : switch k time M ≡ finish_ended k M.cpus (ended k time (state_of k M))
  unfolding switch
  switch_is = ended_is k time M.cpus (state_of k M) turn_quiet

module _ (S : ℕ → Bool) (k time : ℕ) (M N : Machine) (alike : Alike S k M N) (w : Within S (names (cpu_at M k))) where
  abbrev s : State
  s = state_of k M

  owns : Owns S (length M.contexts) s
  owns = record { within = w; count = refl }

  contexts_are : N.contexts ≡ with_others S N.contexts M.contexts
  contexts_are =
      ext_get_or no_context N.contexts (with_others S N.contexts M.contexts) (alike.count ∙ sym (others_count S N.contexts M.contexts))
      (λ i h.
      let g : i < length M.contexts = rw alike.count at h in
      by_test (S i) (λ t. alike.inside i t ∙ sym (others_at S N.contexts M.contexts i t)) (λ t. sym (others_out S N.contexts M.contexts i g t)))

  state_is : state_of k N ≡ others S N.contexts s
  state_is = λ j. record { contexts = contexts_are j; cpu = alike.here j; no_room = false }

  -- it falls on a stealing turn on both or on neither
  pub turn_alike : falls_on_stealing_turn k time N ≡ falls_on_stealing_turn k time M
  turn_alike =
      let t : finds_stealing_turn k time (state_of k N) ≡ finds_stealing_turn k time s = ap (finds_stealing_turn k time) state_is ∙ turn_same S (length M.contexts) N.contexts k time s owns in
      let c : at (state_of k N) (cpu_at N k).block.sched_ctxt ≡ at s (cpu_at M k).block.sched_ctxt =
      ap (λ (p : Cpu). at (state_of k N) p.block.sched_ctxt) alike.here ∙ alike.inside (cpu_at M k).block.sched_ctxt w.in_charge in
      λ j. not (not (eqb (alike.here j).block.current_ctxt (alike.here j).block.sched_ctxt) && can_switch (update_runnable k time true false (c j))) && t j

  module _ (quiet : falls_on_stealing_turn k time M ≡ false) where
    abbrev e : Ended
    e = ended k time s

    switched_is : switch k time N ≡ finish_ended k N.cpus (ended_others S (length M.contexts) N.contexts k time e)
    switched_is =
        switch_is k time N (turn_alike ∙ quiet)
        ∙ ap (λ (u : State). finish_ended k N.cpus (ended k time u)) state_is
        ∙ ap (finish_ended k N.cpus) (ended_moves S (length M.contexts) N.contexts k time s owns)

    e_owns : Owns S (length M.contexts) e.state
    e_owns = ended_owns S (length M.contexts) k time s owns

    -- other contexts of L outside the set stay
    stay : (L : Machine) → length L.contexts ≡ length M.contexts → (x : ℕ) → S x ≡ false → context_at (with_others S L.contexts e.state.contexts) x ≡ context_at L.contexts x
    stay L c x t =
        by_test (ltb x (length e.state.contexts)) (λ y. others_out S L.contexts e.state.contexts x (ltb-true x _ y) t)
        (λ y.
        let h : length e.state.contexts ≤ x = ltb-false x _ y in
        get_d_past (with_others S L.contexts e.state.contexts) x no_context (rw (others_count S L.contexts e.state.contexts) h)
        ∙ sym (get_d_past L.contexts x no_context (rw (c, ← e_owns.count) h)))

    -- with the contexts as they are outside the set nothing is changed there
    e_is : e.state.contexts ≡ with_others S M.contexts e.state.contexts
    e_is =
        ap (λ (u : Ended). u.state.contexts)
        (ap (ended k time) (λ j. record { contexts = sym (others_same S M.contexts M.contexts refl (λ x t. refl)) j; cpu = s.cpu; no_room = false })
        ∙ ended_moves S (length M.contexts) M.contexts k time s owns)

    module _ (below : k < length M.cpus) (below' : k < length N.cpus) where
      pub switch_local : Local S k M N (switch k time M) (switch k time N)
      unfolding cpu_at
      switch_local =
          subst (λ (o : Outcome). Local S k M N o (switch k time N)) (sym (switch_is k time M quiet))
          (subst (λ (p : Outcome). Local S k M N (finish_ended k M.cpus e) p) (sym switched_is)
          (record {
            answer = record { result = refl; interrupt = refl; rule = refl; no_room = refl };
            alike = record {
              count = others_count S N.contexts e.state.contexts;
              here = get_or-set_same N.cpus k e.state.cpu no_cpu below' ∙ sym (get_or-set_same M.cpus k e.state.cpu no_cpu below);
              inside = λ x t. others_at S N.contexts e.state.contexts x t;
            };
            elsewhere = record {
              count = e_owns.count;
              cpus = length-set M.cpus k e.state.cpu;
              there = λ j h. get_or-set_other M.cpus k j e.state.cpu no_cpu h;
              outside = λ x t. ap (λ (l : List Context). context_at l x) e_is ∙ stay M refl x t;
            };
            elsewhere' = record {
              count = others_count S N.contexts e.state.contexts ∙ e_owns.count ∙ sym alike.count;
              cpus = length-set N.cpus k e.state.cpu;
              there = λ j h. get_or-set_other N.cpus k j e.state.cpu no_cpu h;
              outside = λ x t. stay N alike.count x t;
            };
            within = subst (λ (p : Cpu). Within S (names p)) (sym (get_or-set_same M.cpus k e.state.cpu no_cpu below)) e_owns.within;
          }))

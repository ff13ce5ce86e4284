-- A call of operations 1 to 3 that decides nothing: an undue tick, a direct switch, a direct switch back.
use Rattle.std.specs.Prelude.{Option, Some}
use mathlib.Core.Path.{◌≡◌, refl, subst, sym, ◌∙◌}
use mathlib.Core.Bool.{Bool, true, false, not, ◌&&◌}
use Prim.Native.Nat.{ℕ, ◌+◌}
use lib.Dec.{ltb, eqb}
use lib.ListN.{length, length-set}
use borrow.Author.Tests.{ltb-false, le-leb}
use Rattle.context.specs.declared.Context.{Context}
use Rattle.context.specs.Status.{is_runnable}
use Rattle.runnable.specs.Runnable.{update_runnable}
use Rattle.machine.specs.Machine.{Machine, cpu_at}
use Rattle.model.specs.State.{State, at, put_context, state_of}
use Rattle.model.specs.SwitchTo.{switch_to, direct_switch_by, try_direct_switch_back}
use Rattle.model.specs.Schedule.{Outcome, finish, ticked, switch_inner_by, switch_inner, tick, switch, direct_switch_or, direct_switch_to}
use Rattle.model.specs.Tidy.{context}
use Rattle.model.specs.Accepted.{Call, by_tick, by_switch, by_direct_switch, outcome, can_switch, decides}
use Rattle.model.proofs.Cases.{by_test, never, pick, and_both, not_is_false}
use Rattle.model.proofs.Queues.{set_view}
use Rattle.model.proofs.Judged.{Switchable, update_cases}
use Rattle.model.proofs.Demand.{no_direct_switch}
use Rattle.model.proofs.Ended.{switch_view, switch_count, switch_standing, switch_sched}
use Rattle.model_weights.proofs.Untouched.{seen, watched, Untouched, cpus_set}

-- not both
not_and : (a b : Bool) → (a && not b) ≡ false → a ≡ true → b ≡ true
not_and a b e t = not_is_false b (go a t e)
  where
    go : (a : Bool) → a ≡ true → (a && not b) ≡ false → not b ≡ false
    go true t e = e
    go false t e = never {b = false} t refl

switch_remainder : (k time x : ℕ) (s : State) → (switch_to k time x s).cpu.remainder ≡ s.cpu.remainder
unfolding switch_to
switch_remainder k time x s =
    pick (λ (z : State). z.cpu.remainder ≡ s.cpu.remainder)
    (not (eqb s.cpu.block.sched_ctxt s.cpu.block.current_ctxt) && not (at s s.cpu.block.current_ctxt).has_queue_key && is_runnable (at s s.cpu.block.current_ctxt).status)
    (λ t. refl) (λ t. refl)

module _ (k time : ℕ) (M : Machine) where
  -- a state that differs from the CPU's in nothing that is seen
  pub record Alike (s : State) : Type 0 where
    pub count : length s.contexts ≡ length M.contexts
    pub contexts : (x : ℕ) → seen (at s x) ≡ seen (context M x)
    pub cpu : watched s.cpu ≡ watched (cpu_at M k)

  finished : (r : ℕ) (s : State) → Alike s → Untouched M (finish k M.cpus r s).machine
  finished r s a = record { count = a.count; contexts = a.contexts; cpus = cpus_set M s.contexts k s.cpu a.cpu }

  switched : (x : ℕ) (s : State) → Alike s → Alike (switch_to k time x s)
  switched x s a =
      record {
        count = switch_count k time x s ∙ a.count;
        contexts = λ y. switch_view k time seen (λ b i t d. refl) (λ m t d. refl) x s y ∙ a.contexts y;
        cpu = (λ j. record { stands = switch_standing k time x s j; sched = switch_sched k time x s j; remainder = switch_remainder k time x s j }) ∙ a.cpu;
      }

  put : (x : ℕ) (d : Context) (s : State) → Switchable (at s x) d → Alike s → Alike (put_context x d s)
  put x d s w a =
      record {
        count = length-set s.contexts x d ∙ a.count;
        contexts = λ y. set_view seen s.contexts x d (λ j. record { its_run = w.same_run j; its_fixed = w.same_fixed j; is_active = w.same_active j }) y ∙ a.contexts y;
        cpu = a.cpu;
      }

  -- where it can be switched to x, that is all; f: what the call makes of it
  directly : (x : ℕ) (b c : Bool) (s : State) (f : Option State → Outcome) → Alike s → ((u : State) → Alike u → Untouched M (f (Some u)).machine)
      → can_switch (update_runnable k time b c (at s x)) ≡ true → Untouched M (f (direct_switch_by k time x s (update_runnable k time b c (at s x)))).machine
  unfolding direct_switch_by
  directly x b c s f a g =
      update_cases k time b c (at s x) (λ u. can_switch u ≡ true → Untouched M (f (direct_switch_by k time x s u)).machine) (λ t. never {b = false} t refl)
      (λ r t. never {b = false} t refl) (λ d w t. g _ (switched x (put_context x d s) (put x d s w a)))

  back : (s : State) → Alike s
      → (not (eqb s.cpu.block.current_ctxt s.cpu.block.sched_ctxt) && can_switch (update_runnable k time true false (at s s.cpu.block.sched_ctxt))) ≡ true
      → Untouched M (switch_inner k time M.cpus s).machine
  unfolding switch_inner switch_inner_by try_direct_switch_back
  back s a t =
      let (p, q) = and_both (not (eqb s.cpu.block.current_ctxt s.cpu.block.sched_ctxt)) _ t in
      pick (λ (o : Option State). Untouched M (switch_inner_by k time M.cpus s o).machine) (eqb s.cpu.block.current_ctxt s.cpu.block.sched_ctxt)
      (λ z. never {b = false} (rw z at p) refl)
      (λ z. directly s.cpu.block.sched_ctxt true false s (switch_inner_by k time M.cpus s) a (λ u b. finished 0 u b) q)

  here : Alike (state_of k M)
  here = record { count = refl; contexts = λ x. refl; cpu = refl }

  pub undecided : (call : Call) → decides k time M call ≡ false → Untouched M (outcome call k time M).machine
  unfolding tick switch direct_switch_to direct_switch_or
  undecided by_tick t =
      let s : State = ticked (state_of k M) in
      let a : Alike s = record { count = refl; contexts = λ x. refl; cpu = refl } in
      pick (λ (o : Outcome). Untouched M o.machine) (ltb ((cpu_at M k).block.pit_ticks + 1) 3) (λ z. finished 0 s a)
      (λ z. back s a (not_and _ _ t (le-leb 3 _ (ltb-false ((cpu_at M k).block.pit_ticks + 1) 3 z))))
  undecided by_switch t = back (state_of k M) here (not_is_false _ t)
  undecided (by_direct_switch x) t =
      let s : State = state_of k M in
      pick (λ (o : Outcome). Untouched M o.machine) (eqb (cpu_at M k).block.current_ctxt x) (λ z. finished 0 s here)
      (λ z. by_test (can_switch (update_runnable k time (eqb (cpu_at M k).block.sched_ctxt x) false (context M x)))
      (λ c. directly x (eqb (cpu_at M k).block.sched_ctxt x) false s (direct_switch_or k time M.cpus s) here (λ u b. finished 0 u b) c)
      (λ c. subst (λ (o : Option State). Untouched M (direct_switch_or k time M.cpus s o).machine)
      (sym (no_direct_switch k time x s (update_runnable k time (eqb (cpu_at M k).block.sched_ctxt x) false (context M x)) c)) (back s here (not_is_false _ (rw (z, c) at t)))))

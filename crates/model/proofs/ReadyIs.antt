-- Ready as the scan judges it is ready as document 01 says it.
use mathlib.Core.Path.{◌≡◌, refl, sym, ap, ◌∙◌}
use mathlib.Core.Bool.{true, false, not, ◌&&◌, ◌||◌}
use mathlib.Core.Logic.{◌⊎◌, inl, inr}
use Prim.Native.Nat.{ℕ, ◌<◌}
use native.Mathlib.Omega.{arith}
use lib.Dec.{leb, eqb, ltb}
use borrow.Author.Tests.{eqb-true, eqb-false, eq-eqb, ne_eqb, leb-true, le-leb, ltb-true, lt-ltb, le-ltb}
use Rattle.context.specs.declared.Context.{Context}
use Rattle.context.specs.Status.{is_runnable}
use Rattle.entries.specs.declared.Entry.{Entry}
use Rattle.runnable.specs.declared.UpdateResult.{UpdateResult}
use Rattle.runnable.specs.declared.UpdateResult.TheVariants.{CanSwitch, Skip, Blocked}
use Rattle.runnable.specs.Runnable.{update_runnable}
use Rattle.percpu.specs.Cpu.{Cpu}
use Rattle.machine.specs.Machine.{Machine, cpu_at}
use Rattle.model.specs.State.{State, at, holder, is_idle, prev_runnable}
use Rattle.model.specs.Scan.{pass, is_ready, by_update, is_eligible, judge}
use Rattle.model.specs.Choice.{prev_is_eligible}
use Rattle.model.specs.Tidy.{Sound, Tidy}
use Rattle.model.specs.Accepted.{can_switch}
use Rattle.model.specs.Demand3.{Ready, Eligible, HolderRunnable, HolderEligible, HolderFirst, LeastKey, FirstLeast, judged}
use Rattle.model.proofs.Cases.{by_test, never, pick, and_both, and_true, or_neither, or_either, not_is_true, not_is_false}
use Rattle.model.proofs.Lists.{In}
use Rattle.model.proofs.Before.{Roles}
use Rattle.model.proofs.Woken.{Waking}
use Rattle.model.proofs.Chosen.{is_waiting, is_on_time, before_key}
use Rattle.model.proofs.Firsts.{IsFirst, IsLeast}

-- the tests that a ready entry passes
pub record Passes (k time : ℕ) (p : Cpu) (c : Context) (e : Entry) : Type 0 where
  pub alive : c.gone ≡ false
  pub not_idle : eqb e.context_ref p.block.idle_ctxt ≡ false
  pub not_in_charge : eqb e.context_ref p.block.sched_ctxt ≡ false
  pub unlocked : eqb c.lock 0 ≡ true
  pub addr_space : eqb c.addr_space 2 ≡ false
  pub runnable : can_switch (update_runnable k time false (eqb e.context_ref p.block.current_ctxt) c) ≡ true

update_passes : (c : Context) (u : UpdateResult) → is_ready (by_update c u) ≡ true → (eqb c.addr_space 2 ≡ false) × (can_switch u ≡ true)
update_passes c Skip t = never {b = false} t refl
update_passes c Blocked t = never {b = false} t refl
update_passes c (CanSwitch d) t = by_test (eqb c.addr_space 2) (λ a. never {b = false} (rw a at t) refl) (λ a. (a, refl))

passes_update : (c : Context) (u : UpdateResult) → eqb c.addr_space 2 ≡ false → can_switch u ≡ true → is_ready (by_update c u) ≡ true
passes_update c Skip a t = t
passes_update c Blocked a t = t
passes_update c (CanSwitch d) a t = rw a

pub ready_passes : (k time : ℕ) (p : Cpu) (c : Context) (e : Entry) → is_ready (judge k time p c e) ≡ true → Passes k time p c e
unfolding judge
ready_passes k time p c e =
    pick (λ v. is_ready v ≡ true → Passes k time p c e) c.gone (λ t u. never {b = false} u refl)
    (λ a. pick (λ v. is_ready v ≡ true → Passes k time p c e) (eqb e.context_ref p.block.idle_ctxt || eqb e.context_ref p.block.sched_ctxt) (λ t u. never {b = false} u refl)
    (λ b. pick (λ v. is_ready v ≡ true → Passes k time p c e) (not (eqb c.lock 0)) (λ t u. never {b = false} u refl)
    (λ d u. let (x, y) = update_passes c (update_runnable k time false (eqb e.context_ref p.block.current_ctxt) c) u in
    let (i, s) = or_neither (eqb e.context_ref p.block.idle_ctxt) _ b in
    record { alive = a; not_idle = i; not_in_charge = s; unlocked = not_is_false _ d; addr_space = x; runnable = y })))

pub passes_ready : (k time : ℕ) (p : Cpu) (c : Context) (e : Entry) → Passes k time p c e → is_ready (judge k time p c e) ≡ true
unfolding judge
passes_ready k time p c e a =
    pick (λ v. is_ready v ≡ true) c.gone (λ t. never t a.alive)
    (λ t. pick (λ v. is_ready v ≡ true) (eqb e.context_ref p.block.idle_ctxt || eqb e.context_ref p.block.sched_ctxt)
    (λ u. either (or_either (eqb e.context_ref p.block.idle_ctxt) _ u))
    (λ u. pick (λ v. is_ready v ≡ true) (not (eqb c.lock 0)) (λ z. never a.unlocked (not_is_true _ z))
    (λ z. passes_update c (update_runnable k time false (eqb e.context_ref p.block.current_ctxt) c) a.addr_space a.runnable)))
  where
    either : (eqb e.context_ref p.block.idle_ctxt ≡ true) ⊎ (eqb e.context_ref p.block.sched_ctxt ≡ true) → is_ready pass ≡ true
    either (inl u) = never u a.not_idle
    either (inr u) = never u a.not_in_charge

module _ (k time : ℕ) (M : Machine) (S : Sound M) (T : Tidy M) (n : Waking k time M S T (judged k time M)) where
  abbrev J : State
  J = judged k time M

  is_sched : J.cpu.block.sched_ctxt ≡ (cpu_at M k).block.sched_ctxt
  is_sched = ap (λ (z : Roles). z.sched) n.roles_kept

  is_idle_word : J.cpu.block.idle_ctxt ≡ (cpu_at M k).block.idle_ctxt
  is_idle_word = ap (λ (z : Roles). z.idle) n.roles_kept

  is_current : J.cpu.block.current_ctxt ≡ (cpu_at M k).block.current_ctxt
  is_current = ap (λ (z : Roles). z.current) n.roles_kept

  pub ready_waits : (e : Entry) → Ready k time M e → is_waiting k time J e ≡ true
  ready_waits e a =
      passes_ready k time J.cpu (at J e.context_ref) e
      (record {
        alive = a.alive;
        not_idle = ne_eqb _ _ (λ z. a.not_idle (z ∙ is_idle_word));
        not_in_charge = ne_eqb _ _ (λ z. a.not_in_charge (z ∙ is_sched));
        unlocked = eq-eqb _ _ a.unlocked;
        addr_space = ne_eqb _ _ a.addr_space_free;
        runnable = ap (λ y. can_switch (update_runnable k time false (eqb e.context_ref y) (at J e.context_ref))) is_current ∙ a.runnable;
      })

  pub waits_ready : (e : Entry) → In e J.cpu.queue → is_waiting k time J e ≡ true → Ready k time M e
  waits_ready e i t =
      let a = ready_passes k time J.cpu (at J e.context_ref) e t in
      record {
        is_in = i;
        alive = a.alive;
        not_idle = λ z. eqb-false _ _ a.not_idle (z ∙ sym is_idle_word);
        not_in_charge = λ z. eqb-false _ _ a.not_in_charge (z ∙ sym is_sched);
        unlocked = eqb-true _ _ a.unlocked;
        addr_space_free = eqb-false _ _ a.addr_space;
        runnable = ap (λ y. can_switch (update_runnable k time false (eqb e.context_ref y) (at J e.context_ref))) (sym is_current) ∙ a.runnable;
      }

  pub eligible_on_time : (e : Entry) → Eligible k time M e → is_eligible J.cpu e ≡ true
  eligible_on_time e l = le-leb e.vtime J.cpu.block.v (rw n.v l)

  pub on_time_eligible : (e : Entry) → is_eligible J.cpu e ≡ true → Eligible k time M e
  on_time_eligible e t = rw n.v at (leb-true e.vtime J.cpu.block.v t)

  pub both_on_time : (e : Entry) → Ready k time M e → Eligible k time M e → is_on_time k time J e ≡ true
  both_on_time e a l = and_true (is_waiting k time J e) (is_eligible J.cpu e) (ready_waits e a) (eligible_on_time e l)

  pub runs_holder : prev_runnable J ≡ true → HolderRunnable k time M
  runs_holder t =
      let (a, b) = and_both (not (is_idle J)) _ t in
      record {
        not_idle = λ z. eqb-false _ _ (not_is_true _ a) (is_sched ∙ z ∙ sym is_idle_word);
        runnable = ap (λ y. is_runnable (at J y).status) (sym is_sched) ∙ b;
      }

  pub holder_runs : HolderRunnable k time M → prev_runnable J ≡ true
  holder_runs a =
      and_true (not (is_idle J)) (is_runnable (holder J).status) (ap not (ne_eqb J.cpu.block.sched_ctxt J.cpu.block.idle_ctxt (λ z. a.not_idle (sym is_sched ∙ z ∙ is_idle_word))))
      (ap (λ y. is_runnable (at J y).status) is_sched ∙ a.runnable)

  is_holder : holder J ≡ at J (cpu_at M k).block.sched_ctxt
  is_holder = ap (λ y. at J y) is_sched

  pub vtime_is : (holder J).vtime ≡ (at J (cpu_at M k).block.sched_ctxt).vtime
  vtime_is = ap (λ (c : Context). c.vtime) is_holder

  pub vd_is : (holder J).vd ≡ (at J (cpu_at M k).block.sched_ctxt).vd
  vd_is = ap (λ (c : Context). c.vd) is_holder

  slice_is : (holder J).rem_slice ≡ (at J (cpu_at M k).block.sched_ctxt).rem_slice
  slice_is = ap (λ (c : Context). c.rem_slice) is_holder

  pub prev_eligible : prev_is_eligible J ≡ true → HolderEligible k time M
  prev_eligible t =
      let (a, b) = and_both (prev_runnable J) _ t in
      record { runnable = runs_holder a; in_time = rw (vtime_is, n.v) at (leb-true (holder J).vtime J.cpu.block.v b) }

  pub eligible_prev : HolderEligible k time M → prev_is_eligible J ≡ true
  eligible_prev a =
      and_true (prev_runnable J) (leb (holder J).vtime J.cpu.block.v) (holder_runs a.runnable)
      (le-leb (holder J).vtime J.cpu.block.v (rw (vtime_is, n.v) a.in_time))

  -- the holder goes first
  pub first_key : (e : Entry) → HolderFirst k time M e → before_key (holder J) e.key ≡ true
  first_key e a = go a.first
    where
      hv : (holder J).vd ≡ (at J (cpu_at M k).block.sched_ctxt).vd
      hv = vd_is

      go : ((at J (cpu_at M k).block.sched_ctxt).vd < e.key.vd)
          ⊎ (((at J (cpu_at M k).block.sched_ctxt).vd ≡ e.key.vd) × (e.key.rem_slice < (at J (cpu_at M k).block.sched_ctxt).rem_slice))
          → before_key (holder J) e.key ≡ true
      go (inl l) = rw (lt-ltb (holder J).vd e.key.vd (rw vd_is l))
      go (inr (z, l)) =
          rw (le-ltb (holder J).vd e.key.vd (rw (vd_is, z) (omega arith)), eq-eqb (holder J).vd e.key.vd (vd_is ∙ z), lt-ltb e.key.rem_slice (holder J).rem_slice (rw slice_is l))

  pub key_first : (e : Entry) → prev_is_eligible J ≡ true → before_key (holder J) e.key ≡ true → HolderFirst k time M e
  key_first e t b = record { eligible = prev_eligible t; first = go (or_either (ltb (holder J).vd e.key.vd) _ b) }
    where
      go : (ltb (holder J).vd e.key.vd ≡ true) ⊎ ((eqb (holder J).vd e.key.vd && ltb e.key.rem_slice (holder J).rem_slice) ≡ true)
          → ((at J (cpu_at M k).block.sched_ctxt).vd < e.key.vd)
          ⊎ (((at J (cpu_at M k).block.sched_ctxt).vd ≡ e.key.vd) × (e.key.rem_slice < (at J (cpu_at M k).block.sched_ctxt).rem_slice))
      go (inl l) = inl (rw vd_is at (ltb-true (holder J).vd e.key.vd l))
      go (inr l) =
          let (a, c) = and_both (eqb (holder J).vd e.key.vd) _ l in
          inr (sym vd_is ∙ eqb-true _ _ a, rw slice_is at (ltb-true e.key.rem_slice (holder J).rem_slice c))

  pub least_key : (e : Entry) → IsFirst (is_on_time k time J) J.cpu.queue e → LeastKey k time M e
  least_key e f =
      let (w, o) = and_both (is_waiting k time J e) _ f.passes in
      record {
        is_ready = waits_ready e f.is_in w;
        is_eligible = on_time_eligible e o;
        least = λ d a l. f.leads d a.is_in (both_on_time d a l);
      }

  pub first_least : (e : Entry) → IsLeast (is_waiting k time J) J.cpu.queue e → FirstLeast k time M e
  first_least e f =
      record {
        is_ready = waits_ready e f.is_in f.passes;
        least = λ d a. f.least_vtime d a.is_in (ready_waits d a);
        first = λ d a z. f.leads d a.is_in (ready_waits d a) z;
      }

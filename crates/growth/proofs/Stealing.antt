-- What the stealing adds to what grows: nothing where it is not its turn, else virtual times are doubled at most. Assumes nothing.
use Rattle.std.specs.Prelude.{Option}
use mathlib.Core.Path.{◌≡◌, refl, sym, ap, ◌∙◌, subst}
use mathlib.Core.Logic.{◌≢◌, ◌⊎◌, inl, inr}
use mathlib.Core.Bool.{Bool, true, false, not, ◌||◌}
use mathlib.Core.List.{List, [], ◌∷◌}
use Prim.Native.Nat.{ℕ, ◌+◌, ◌*◌, ◌<◌, ◌≤◌, max}
use native.Mathlib.Omega.{arith}
use lib.Dec.{eqb}
use lib.ListN.{length, get_or, set, length-set}
use lib.Seq.{set-set, get_or-set_same, get_or-set_other}
use borrow.Author.Tests.{eqb-true, eqb-false}
use Rattle.columns.specs.Common.{fold, tabulate}
use Rattle.columns.proofs.Tests.{by_test}
use Rattle.entries.specs.declared.Entry.{Entry}
use Rattle.percpu.specs.Cpu.{Cpu}
use Rattle.machine.specs.Machine.{Machine, cpu_at, no_cpu}
use Rattle.machine.specs.Shape.{Fits}
use Rattle.machine.proofs.Steps.{get_d_set}
use Rattle.model.specs.State.{State, state_of, on_cpu}
use Rattle.model.specs.Steal.{Stealing, count_steal, published, mark_stealable, move_entry, should_steal, targets, can_steal_from, steal_entries, steal_from, steal}
use Rattle.model.proofs.Cases.{pick}
use Rattle.model.proofs.Lists.{fold_keeps}
use Rattle.stages.specs.Stage.{put_state, CpuBelow, Below}
use Rattle.stages.specs.Bounds.{slice_bound}
use Rattle.stages.proofs.Kept.{cpu_more}
use Rattle.stages.proofs.Compose.{state_put}
use Rattle.steal.specs.Moves.{machine_of}
use Rattle.steal.proofs.Bounded.{steal_below}
use Rattle.schedule.proofs.Robbing.{over, steal_over}
use Rattle.growth.proofs.Low.{Low}

-- the other CPUs, where this one is k of c
pub record Others (c k t b : ℕ) (cpus : List Cpu) : Type 0 where
  pub below : (j : ℕ) → j < c → j ≢ k → CpuBelow t b (get_or cpus j no_cpu)
  pub published : (j : ℕ) → j < c → j ≢ k → (get_or cpus j no_cpu).block.published_weight ≤ b

pub others_more : {c k t b t' b' : ℕ} {cpus : List Cpu} → t ≤ t' → b ≤ b' → Others c k t b cpus → Others c k t' b' cpus
others_more h g o = record { below = λ j l e. cpu_more h g (o.below j l e); published = λ j l e. omega (arith, o.published j l e) }

-- every weight that is published is the total weight, or was published before
module _ (b : ℕ) where
  abbrev pub Publishes : Cpu → Type 0
  Publishes p = p.block.published_weight ≤ max b p.block.total_weight

  record AllPublish (l : Stealing) : Type 0 where
    here : Publishes l.state.cpu
    there : (j : ℕ) → Publishes (get_or l.cpus j no_cpu)

  entries_publish : (runs : Bool) (l : Stealing) (t : ℕ) (v : Cpu) (es : List Entry) → AllPublish l → AllPublish (steal_entries runs l t v es)
  unfolding steal_entries
  entries_publish runs l t v [] o = o
  entries_publish runs l t v (e ∷ es) o =
      let m = fold (move_entry runs) (record { state = l.state; victim = v; winner = l.winner }) (e ∷ es) in
      record {
        here = omega arith;
        there = λ j. get_d_set l.cpus t j (mark_stealable (published m.victim)) no_cpu Publishes (omega arith) (o.there j);
      }

  from_publish : (k : ℕ) (runs : Bool) (locked : List ℕ) (l : Stealing) (t : ℕ) → AllPublish l → AllPublish (steal_from k runs locked l t)
  unfolding steal_from
  from_publish k runs locked l t o =
      pick AllPublish (l.done || not (can_steal_from l.state (get_or l.cpus t no_cpu))) (λ z. o) (λ z. entries_publish runs l t _ _ o)

  steal_publish : (k : ℕ) (runs : Bool) (locked : List ℕ) (cpus : List Cpu) (w : Option ℕ) (s : State) → Publishes s.cpu → ((j : ℕ) → Publishes (get_or cpus j no_cpu))
      → AllPublish (steal k runs locked cpus w s)
  unfolding steal
  steal_publish k runs locked cpus w s h g =
      pick AllPublish (should_steal s w)
      (λ t. fold_keeps AllPublish (steal_from k runs locked) (from_publish k runs locked) _ (targets k (length cpus)) (record { here = h; there = g })) (λ t. record { here = h; there = g })

-- the bound of virtual times and weights after the stealing, by whether it may be its turn
abbrev pub stolen_bound : Bool → ℕ → ℕ
stolen_bound true b = 2 * b + slice_bound
stolen_bound false b = b

pub record StealLow (c n k t b : ℕ) (l : Stealing) : Type 0 where
  pub state : Low n t b l.state
  pub others : Others c k t b l.cpus

-- u: the state after the choice; M: the machine before the call
module _ {c n t b : ℕ} (k : ℕ) (M : Machine) (h : k < c) (u : State) (runs : Bool) (locked : List ℕ) (w : Option ℕ) (F : Fits c n (put_state k u M)) (z : u.no_room ≡ false) (L : Low n t b u) (O : Others c k t b M.cpus) where
  abbrev l : Stealing
  l = steal k runs locked M.cpus w u

  abbrev M₁ : Machine
  M₁ = put_state k u M

  long : k < length M.cpus
  long = let e : length (set M.cpus k u.cpu) ≡ c = F.cpus in omega (arith, length-set M.cpus k u.cpu)

  stolen_is : steal k runs locked M₁.cpus w (state_of k M₁) ≡ over k u.cpu l
  stolen_is = ap (λ (s : State). steal k runs locked M₁.cpus w s) (state_put k u M long z) ∙ steal_over k u.cpu runs locked M.cpus w u long

  machine_is : machine_of k (over k u.cpu l) ≡ machine_of k l
  machine_is = λ i. record { contexts = l.state.contexts; cpus = set-set l.cpus k u.cpu l.state.cpu i }

  begin_below : Below c n t b M₁
  unfolding cpu_at
  begin_below =
      record {
        context = L.below.context;
        cpu = λ j i. by_test (eqb j k)
            (λ e. subst (λ (y : ℕ). CpuBelow t b (get_or M₁.cpus y no_cpu)) (sym (eqb-true j k e)) (subst (CpuBelow t b) (sym (get_or-set_same M.cpus k u.cpu no_cpu long)) L.below.cpu))
            (λ e. subst (CpuBelow t b) (sym (get_or-set_other M.cpus k j u.cpu no_cpu (eqb-false j k e))) (O.below j i (eqb-false j k e)));
      }

  after_below : Below c n t (2 * b + slice_bound) (machine_of k l)
  after_below =
      subst (Below c n t (2 * b + slice_bound)) (ap (machine_of k) stolen_is ∙ machine_is) (steal_below b k runs locked w M₁ h F begin_below)

  stolen_low : length l.cpus ≡ c → ((j : ℕ) → Publishes b (get_or M.cpus j no_cpu)) → StealLow c n k t (2 * b + slice_bound) l
  unfolding cpu_at
  stolen_low q g =
      let a = steal_publish b k runs locked M.cpus w u (omega (arith, L.published)) g in
      let o = after_below in
      let i : k < length l.cpus = omega arith in
      let p : CpuBelow t (2 * b + slice_bound) l.state.cpu = subst (CpuBelow t (2 * b + slice_bound)) (get_or-set_same l.cpus k l.state.cpu no_cpu i) (o.cpu k h) in
      let r : (j : ℕ) → j < c → j ≢ k → CpuBelow t (2 * b + slice_bound) (get_or l.cpus j no_cpu) = λ j y e. subst (CpuBelow t (2 * b + slice_bound)) (get_or-set_other l.cpus k j l.state.cpu no_cpu e) (o.cpu j y) in
      record {
        state = record { below = record { context = o.context; cpu = p }; published = omega (arith, a.here, p.total_weight) };
        others = record { below = r; published = λ j y e. omega (arith, a.there j, (r j y e).total_weight) };
      }

  -- nobody is stolen
  abbrev left_alone : Stealing
  left_alone = record { state = on_cpu count_steal u; cpus = M.cpus; winner = w; done = false }

  quiet_low : l ≡ left_alone → StealLow c n k t b l
  quiet_low e =
      let o = L.below.cpu in
      subst (StealLow c n k t b) (sym e)
      (record {
        state = record {
          below = record {
            context = L.below.context;
            cpu = record {
              schedule_time = o.schedule_time;
              pit_ticks = o.pit_ticks;
              user = o.user;
              kernel = o.kernel;
              idle = o.idle;
              context_switches = o.context_switches;
              syscall_switches = o.syscall_switches;
              v = o.v;
              total_weight = o.total_weight;
              entry_vtime = o.entry_vtime;
              entry_vd = o.entry_vd;
              timer_wake = o.timer_wake;
            };
          };
          published = L.published;
        };
        others = O;
      })

  no_turn : should_steal u w ≡ false → l ≡ left_alone
  unfolding steal
  no_turn e = rw e

  -- there is no other CPU
  no_other : length M.cpus ≡ 1 → l ≡ left_alone
  unfolding steal targets tabulate
  no_other e = by_test (should_steal u w) (λ y. rw (y, e)) (λ y. rw y)

  pub steal_low : length l.cpus ≡ c → ((j : ℕ) → Publishes b (get_or M.cpus j no_cpu)) → (steals : Bool) → (steals ≡ false → (should_steal u w ≡ false) ⊎ (c ≡ 1))
      → StealLow c n k t (stolen_bound steals b) l
  steal_low q g true y = stolen_low q g
  steal_low q g false y = by (y refl)
    where
      by : (should_steal u w ≡ false) ⊎ (c ≡ 1) → StealLow c n k t b l
      by (inl e) = quiet_low (no_turn e)
      by (inr e) = quiet_low (no_other (let f : length (set M.cpus k u.cpu) ≡ c = F.cpus in omega (arith, length-set M.cpus k u.cpu)))

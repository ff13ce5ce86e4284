-- From the choice to the end of a decision no timer is put in or taken out and no remainder is stored, here or on another CPU.
-- Assumes nothing.
use Rattle.std.specs.Prelude.{None, Option, Some, is_some}
use mathlib.Core.Path.{◌≡◌, refl, ap, ◌∙◌}
use mathlib.Core.Logic.{◌≢◌}
use mathlib.Core.Bool.{Bool, not, ◌&&◌, ◌||◌}
use mathlib.Core.List.{List, [], ◌∷◌}
use Prim.Native.Nat.{ℕ, zero, suc, ◌<◌}
use native.Mathlib.Omega.{arith}
use lib.Dec.{eqb}
use lib.ListN.{length, get_or, set, length-set}
use lib.Seq.{get_or-set_same, get_or-set_other}
use Rattle.answer.specs.declared.Rule.{Rule}
use Rattle.context.specs.declared.Context.{Context}
use Rattle.ticks.specs.declared.Spent.{Spent}
use Rattle.context.specs.Status.{is_runnable}
use Rattle.entries.specs.declared.Entry.{Entry}
use Rattle.entries.specs.declared.Timer.{Timer}
use Rattle.percpu.specs.Cpu.{Cpu}
use Rattle.percpu.specs.With.{cpu_v}
use Rattle.machine.specs.Machine.{cpu_at, no_cpu}
use Rattle.model.specs.State.{State, at, on_cpu, holder, prev_runnable}
use Rattle.model.specs.Scan.{Scan}
use Rattle.model.specs.Choice.{Choice, choice, cleaned_up, taken_out, chosen}
use Rattle.model.specs.Steal.{Stealing, Moving, can_steal_from, should_steal, targets, first_wins, move_entry, steal_entries, steal_from, steal}
use Rattle.model.specs.Handover.{advance, requeue, settled, hand_over}
use Rattle.model.specs.SwitchTo.{switch_to}
use Rattle.model.specs.Schedule.{Outcome, finish_by, scanned, locks, choose_and_steal, selected, picked_as, switch_as, after_schedule}
use Rattle.model.proofs.Cases.{pick}
use Rattle.model.proofs.Lists.{fold_keeps}

-- an item of a list of which item t is set
at_set : {A : Type 0} (P : A → Type 0) (l : List A) (t j : ℕ) (q d : A) → (t ≡ j → P q) → P (get_or l j d) → P (get_or (set l t q) j d)
at_set P [] t j q d f h = h
at_set P (x ∷ xs) zero zero q d f h = f refl
at_set P (x ∷ xs) zero (suc j) q d f h = h
at_set P (x ∷ xs) (suc t) zero q d f h = h
at_set P (x ∷ xs) (suc t) (suc j) q d f h = at_set P xs t j q d (λ e. f (ap suc e)) h

-- a view of a CPU: what is done with before the choice
pub record Kept : Type 0 where
  pub timers : List Timer
  pub remainder : ℕ

abbrev pub kept : Cpu → Kept
kept p = record { timers = p.timers; remainder = p.remainder }

-- L: what this CPU has
module _ (L : Kept) where
  abbrev Has : State → Type 0
  Has s = kept s.cpu ≡ L

  taken_out_has : (o : Option ℕ) (s : State) → Has s → Has (taken_out o s)
  taken_out_has None s h = h
  taken_out_has (Some x) s h = pick Has (at s x).has_queue_key (λ z. h) (λ z. h)

  chosen_has : (w : Choice) (f : Scan) (s : State) → Has s → Has (chosen w f s)
  unfolding chosen cleaned_up
  chosen_has w f s h = taken_out_has w.winner (on_cpu (cpu_v w.v) (cleaned_up f s)) h

  requeue_has : (s : State) → Has s → Has (requeue s)
  unfolding requeue
  requeue_has s h = pick Has (holder s).has_queue_key (λ z. h) (λ z. h)

  settled_has : (runs : Bool) (n : ℕ) (l : Stealing) → Has l.state → Has (settled runs n l)
  unfolding settled advance
  settled_has runs n l h =
      let a : Has (advance runs l.winner n l.state) = pick Has ((is_some l.winner || runs) && not (eqb l.state.cpu.block.total_weight 0)) (λ z. h) (λ z. h) in
      pick Has (is_some l.winner && runs) (λ z. requeue_has _ a) (λ z. a)

  pub switch_to_has : (k time x : ℕ) (s : State) → Has s → Has (switch_to k time x s)
  unfolding switch_to
  switch_to_has k time x s h =
      let y : ℕ = s.cpu.block.current_ctxt in
      pick Has (not (eqb s.cpu.block.sched_ctxt y) && not (at s y).has_queue_key && is_runnable (at s y).status) (λ z. h) (λ z. h)

-- stealing: L as above, and every CPU has what it had among cpus₀
module _ (k : ℕ) (runs : Bool) (locked : List ℕ) (L : Kept) (cpus₀ : List Cpu) where
  pub record Stolen (l : Stealing) : Type 0 where
    pub here : kept l.state.cpu ≡ L
    pub count : length l.cpus ≡ length cpus₀
    pub each : (j : ℕ) → kept (get_or l.cpus j no_cpu) ≡ kept (get_or cpus₀ j no_cpu)

  abbrev Moved : Kept → Moving → Type 0
  Moved Q m = (kept m.state.cpu ≡ L) × (kept m.victim ≡ Q)

  move_moved : (Q : Kept) (m : Moving) (e : Entry) → Moved Q m → Moved Q (move_entry runs m e)
  unfolding move_entry
  move_moved Q m e h = pick (Moved Q) (first_wins runs m.winner) (λ z. h) (λ z. h)

  entries_stolen : (l : Stealing) (t : ℕ) (v : Cpu) (es : List Entry) → v ≡ get_or l.cpus t no_cpu → Stolen l → Stolen (steal_entries runs l t v es)
  unfolding steal_entries
  entries_stolen l t v [] g h = h
  entries_stolen l t v (e ∷ es) g h =
      let m : Moving = record { state = l.state; victim = v; winner = l.winner } in
      let f = fold_keeps (Moved (kept v)) (move_entry runs) (move_moved (kept v)) m (e ∷ es) (h.here, refl) in
      record {
        here = f.0;
        count = length-set l.cpus t _ ∙ h.count;
        each = λ j.
            at_set (λ (p : Cpu). kept p ≡ kept (get_or cpus₀ j no_cpu)) l.cpus t j _ no_cpu
            (λ e. f.1 ∙ ap kept g ∙ ap (λ (i : ℕ). kept (get_or l.cpus i no_cpu)) e ∙ h.each j) (h.each j);
      }

  from_stolen : (l : Stealing) (t : ℕ) → Stolen l → Stolen (steal_from k runs locked l t)
  unfolding steal_from
  from_stolen l t h = pick Stolen (l.done || not (can_steal_from l.state (get_or l.cpus t no_cpu))) (λ z. h) (λ z. entries_stolen l t _ _ refl h)

  pub steal_stolen : (w : Option ℕ) (s : State) → kept s.cpu ≡ L → Stolen (steal k runs locked cpus₀ w s)
  unfolding steal
  steal_stolen w s h =
      let o : Stolen (record { state = _; cpus = cpus₀; winner = w; done = _ }) = record { here = h; count = refl; each = λ j. refl } in
      pick Stolen (should_steal s w) (λ z. fold_keeps Stolen (steal_from k runs locked) from_stolen _ (targets k (length cpus₀)) o) (λ z. o)

-- the machine that a call leaves
module _ (k : ℕ) (cs : List Context) (cpus : List Cpu) (p : Cpu) where
  pub put_here : k < length cpus → cpu_at (record { contexts = cs; cpus = set cpus k p }) k ≡ p
  unfolding cpu_at
  put_here b = get_or-set_same cpus k p no_cpu b

  pub put_there : (j : ℕ) → j ≢ k → cpu_at (record { contexts = cs; cpus = set cpus k p }) j ≡ get_or cpus j no_cpu
  unfolding cpu_at
  put_there j n = get_or-set_other cpus k j p no_cpu n

-- L: what CPU k has before the choice; cpus₀: the CPUs
module _ (k time : ℕ) (L : Kept) (cpus₀ : List Cpu) where
  pub record Leaves (o : Outcome) : Type 0 where
    pub here : kept (cpu_at o.machine k) ≡ L
    pub there : (j : ℕ) → j ≢ k → kept (cpu_at o.machine j) ≡ kept (get_or cpus₀ j no_cpu)

  pub finished : (rule r : ℕ) (cpus : List Cpu) (s : State) → k < length cpus → kept s.cpu ≡ L → ((j : ℕ) → kept (get_or cpus j no_cpu) ≡ kept (get_or cpus₀ j no_cpu)) → Leaves (finish_by rule k cpus r s)
  finished rule r cpus s b h e =
      record { here = ap kept (put_here k s.contexts cpus s.cpu b) ∙ h; there = λ j n. ap kept (put_there k s.contexts cpus s.cpu j n) ∙ e j }

  picked_leaves : (was : Bool) (rule : Rule) (cpus : List Cpu) (o : Option ℕ) (s : State) → k < length cpus → kept s.cpu ≡ L → ((j : ℕ) → kept (get_or cpus j no_cpu) ≡ kept (get_or cpus₀ j no_cpu))
      → Leaves (after_schedule k time (picked_as time was rule cpus o s))
  unfolding after_schedule picked_as switch_as hand_over
  picked_leaves was rule cpus None s b h e = finished _ _ cpus _ b h e
  picked_leaves was rule cpus (Some x) s b h e =
      finished _ _ cpus _ b
      (pick (λ (u : State). kept u.cpu ≡ L) (eqb (hand_over time was x s).cpu.block.current_ctxt x) (λ z. h) (λ z. switch_to_has L k time x (hand_over time was x s) h)) e

  -- from u, in which the holder is charged
  pub charged_leaves : (was : Bool) (n : Spent) (u : State) → k < length cpus₀ → kept u.cpu ≡ L
      → let d = selected k time n cpus₀ u in Leaves (after_schedule k time (picked_as time was d.rule d.cpus d.next d.state))
  unfolding selected choose_and_steal
  charged_leaves was n u b h =
      let f : Scan = scanned k time u in
      let w : Choice = choice u f in
      let l = steal_stolen k (prev_runnable u) (locks u w) L cpus₀ w.winner (chosen w f u) (chosen_has L w f u h) in
      picked_leaves was _ _ _ _ (omega (arith, l.count)) (settled_has L (prev_runnable u) _ _ l.here) l.each

-- Stealing does not look at the place of the CPU that steals, and names a context. Assumes nothing.
use Rattle.std.specs.Prelude.{Option, Some}
use mathlib.Core.Path.{◌≡◌, refl, sym, ap, ◌∙◌, subst}
use mathlib.Core.Logic.{◌≢◌, inl, inr}
use mathlib.Core.Bool.{Bool, true, false, not, ◌||◌}
use mathlib.Core.List.{List, [], ◌∷◌}
use Prim.Native.Nat.{ℕ, ◌<◌}
use native.Mathlib.Omega.{arith}
use lib.Dec.{ltb}
use borrow.Author.Tests.{ltb-true, ltb-false}
use lib.ListN.{length, get_or, set, length-set}
use lib.Seq.{get_or-set_other, set_comm}
use Rattle.columns.proofs.Tabulate.{get_d_past}
use Rattle.columns.specs.Common.{fold, All, In}
use Rattle.entries.specs.declared.Entry.{Entry}
use Rattle.percpu.specs.Cpu.{Cpu}
use Rattle.percpu.specs.Layout.{no_entry}
use Rattle.machine.specs.Machine.{Machine, cpu_at, no_cpu}
use Rattle.machine.specs.Shape.{EntryFits, Fits}
use Rattle.model.specs.State.{State, on_cpu}
use Rattle.model.specs.Steal.{Stealing, Moving, count_steal, published, mark_stealable, should_steal, targets, can_steal_from, want, candidates, move_entry, first_wins, steal_entries, steal_from, steal}
use Rattle.model.proofs.Cases.{by_test, never, or_neither}
use Rattle.model.proofs.Candidates.{target_is_other}
use Rattle.stages.proofs.Fitting.{all_of}
use Rattle.steal.proofs.Apart.{candidates_taken}
use Rattle.schedule.specs.Named.{NamedBelow}

-- the same with another CPU k
abbrev pub over : ℕ → Cpu → Stealing → Stealing
over k p l = record { state = l.state; cpus = set l.cpus k p; winner = l.winner; done = l.done }

module _ (k : ℕ) (p : Cpu) (runs : Bool) (locked : List ℕ) where
  entries_over : (l : Stealing) (t : ℕ) (v : Cpu) (es : List Entry) → t ≢ k → steal_entries runs (over k p l) t v es ≡ over k p (steal_entries runs l t v es)
  unfolding steal_entries
  entries_over l t v [] h = refl
  entries_over l t v (e ∷ es) h =
      let m = fold (move_entry runs) (record { state = l.state; victim = v; winner = l.winner }) (e ∷ es)
      in ap (λ (cpus : List Cpu). record { state = on_cpu published m.state; cpus = cpus; winner = m.winner; done = true })
      (set_comm l.cpus k t p (mark_stealable (published m.victim)) (λ z. h (sym z)))

  from_over : (l : Stealing) (t : ℕ) → t ≢ k → steal_from k runs locked (over k p l) t ≡ over k p (steal_from k runs locked l t)
  unfolding steal_from
  from_over l t h =
      let v = get_or l.cpus t no_cpu
      in rw (get_or-set_other l.cpus k t p no_cpu h)
      (by_test (l.done || not (can_steal_from l.state v)) (λ e. rw e)
      (λ e. rw e (entries_over l t v (candidates k locked l.state.contexts l.winner (want l.state v) v.queue) h)))

  all_over : (ts : List ℕ) (l : Stealing) → ((t : ℕ) → In t ts → t ≢ k) → fold (steal_from k runs locked) (over k p l) ts ≡ over k p (fold (steal_from k runs locked) l ts)
  all_over [] l h = refl
  all_over (t ∷ ts) l h =
      ap (λ (x : Stealing). fold (steal_from k runs locked) x ts) (from_over l t (h t (inl refl))) ∙ all_over ts (steal_from k runs locked l t) (λ u i. h u (inr i))

  pub steal_over : (cpus : List Cpu) (w : Option ℕ) (s : State) → k < length cpus → steal k runs locked (set cpus k p) w s ≡ over k p (steal k runs locked cpus w s)
  unfolding steal
  steal_over cpus w s h =
      rw (length-set cpus k p)
      (by_test (should_steal s w)
      (λ e. rw e (all_over (targets k (length cpus)) (record { state = on_cpu count_steal s; cpus = cpus; winner = w; done = false }) (λ t i. target_is_other k (length cpus) t h i)))
      (λ e. rw e))

-- a stolen context that wins is one of the n
module _ (n : ℕ) (runs : Bool) where
  first_named : (m : Moving) (e : Entry) → NamedBelow n m.winner → EntryFits n e → NamedBelow n (move_entry runs m e).winner
  unfolding move_entry
  first_named m e h f = by_test (first_wins runs m.winner) (λ z. rw z (λ x y. subst (λ (i : ℕ). i < n) (some_is y) f.name)) (λ z. rw z h)
    where
      some_is : {x y : ℕ} → Some x ≡ Some y → x ≡ y
      some_is y = cc

  moved_named : (es : List Entry) (m : Moving) → NamedBelow n m.winner → All (EntryFits n) es → NamedBelow n (fold (move_entry runs) m es).winner
  moved_named [] m h f = h
  moved_named (e ∷ es) m h f = moved_named es (move_entry runs m e) (first_named m e h f.0) f.1

  entries_named : (l : Stealing) (t : ℕ) (v : Cpu) (es : List Entry) → NamedBelow n l.winner → All (EntryFits n) es → NamedBelow n (steal_entries runs l t v es).winner
  unfolding steal_entries
  entries_named l t v [] h f = h
  entries_named l t v (e ∷ es) h f = moved_named (e ∷ es) (record { state = l.state; victim = v; winner = l.winner }) h f

  -- once entries were taken the search is over
  entries_done : (l : Stealing) (t : ℕ) (v : Cpu) (es : List Entry) → (steal_entries runs l t v es).done ≡ false → (steal_entries runs l t v es).cpus ≡ l.cpus
  unfolding steal_entries
  entries_done l t v [] z = refl
  entries_done l t v (e ∷ es) z = never refl z

  module _ (k : ℕ) (locked : List ℕ) (cpus : List Cpu) (f : (j : ℕ) → All (EntryFits n) (get_or cpus j no_cpu).queue) where
    record Stolen (l : Stealing) : Type 0 where
      winner : NamedBelow n l.winner
      fresh : l.done ≡ false → l.cpus ≡ cpus

    from_named : (l : Stealing) (t : ℕ) → Stolen l → Stolen (steal_from k runs locked l t)
    unfolding steal_from
    from_named l t o =
        let v = get_or l.cpus t no_cpu
        in by_test (l.done || not (can_steal_from l.state v)) (λ e. rw e o)
        (λ e. rw e
        (let z = or_neither l.done (not (can_steal_from l.state v)) e
        in let y = o.fresh z.0
        in let es = candidates k locked l.state.contexts l.winner (want l.state v) v.queue
        in let a = candidates_taken k locked l.state.contexts l.winner (want l.state v) (EntryFits n) v.queue (subst (λ (i : List Cpu). All (EntryFits n) (get_or i t no_cpu).queue) (sym y) (f t))
        in record { winner = entries_named l t v es o.winner a.each; fresh = λ i. entries_done l t v es i ∙ y }))

    all_named : (ts : List ℕ) (l : Stealing) → Stolen l → Stolen (fold (steal_from k runs locked) l ts)
    all_named [] l o = o
    all_named (t ∷ ts) l o = all_named ts (steal_from k runs locked l t) (from_named l t o)

    pub steal_named : (w : Option ℕ) (s : State) → NamedBelow n w → NamedBelow n (steal k runs locked cpus w s).winner
    unfolding steal
    steal_named w s h =
        let l : Stealing = record { state = on_cpu count_steal s; cpus = cpus; winner = w; done = false }
        in by_test (should_steal s w) (λ e. rw e (all_named (targets k (length cpus)) l (record { winner = h; fresh = λ z. refl })).winner) (λ e. rw e h)

pub entries_fit : {c n : ℕ} (M : Machine) → Fits c n M → (j : ℕ) → All (EntryFits n) (get_or M.cpus j no_cpu).queue
unfolding no_cpu cpu_at
entries_fit {c} {n} M o j =
    by_test (ltb j c) (λ e. all_of (EntryFits n) no_entry (get_or M.cpus j no_cpu).queue (o.cpu j (ltb-true j c e)).entry)
    (λ e. rw (get_d_past M.cpus j no_cpu (omega (arith, o.cpus, ltb-false j c e))) tt)

-- Where nobody waits: a victim was found exactly if somebody won, and exactly if an entry of another CPU was stolen. Assumes nothing.
use Rattle.std.specs.Prelude.{None, Option, Some, is_some}
use mathlib.Core.Path.{◌≡◌, refl, subst, sym, ap, ◌∙◌}
use mathlib.Core.Logic.{◌↔◌, inl}
use mathlib.Core.Bool.{Bool, true, false, not, ◌||◌}
use mathlib.Core.List.{List, [], ◌∷◌}
use Prim.Native.Nat.{ℕ, ◌<◌}
use lib.ListN.{length, get_or}
use Rattle.columns.specs.Common.{fold, In}
use Rattle.entries.specs.declared.Entry.{Entry}
use Rattle.percpu.specs.Cpu.{Cpu}
use Rattle.machine.specs.Machine.{Machine, cpu_at, no_cpu}
use Rattle.model.specs.State.{State, on_cpu, prev_runnable}
use Rattle.model.specs.Steal.{Stealing, Moving, count_steal, first_wins, should_steal, can_steal_from, want, targets, move_entry, steal_entries, steal_from, steal}
use Rattle.model.specs.Scan.{Scan}
use Rattle.model.specs.Choice.{Choice, choice, choice_by, chosen, nobody}
use Rattle.model.specs.Schedule.{locks, choose_and_steal}
use Rattle.model.specs.Demand3.{judged}
use Rattle.model.proofs.Cases.{never, pick, or_neither}
use Rattle.model.proofs.Lists.{fold_keeps, fold_keeps_in}
use Rattle.model.proofs.Candidates.{candidates_in, target_is_other}
use Rattle.model.proofs.Firsts.{some_none}
use Rattle.model_rules.specs.ByScan.{found, stealing, NobodyFound, Theft}

-- a winner stays; without one, and with no runnable holder, the first that is moved wins
move_keeps : (x : ℕ) (m : Moving) (e : Entry) → m.winner ≡ Some x → (move_entry false m e).winner ≡ Some x
unfolding move_entry
move_keeps x m e z = pick (λ (y : Moving). y.winner ≡ Some x) (first_wins false m.winner) (λ t. never {b = false} (rw z at t) refl) (λ t. z)

first_moved : (m : Moving) (e : Entry) (es : List Entry) → m.winner ≡ None → (fold (move_entry false) m (e ∷ es)).winner ≡ Some e.context_ref
unfolding move_entry
first_moved m e es z =
    fold_keeps (λ (y : Moving). y.winner ≡ Some e.context_ref) (move_entry false) (move_keeps e.context_ref) (move_entry false m e) es (rw z)

module _ (k : ℕ) (locked : List ℕ) (cpus : List Cpu) (s : State) where
  abbrev start : Stealing
  start = record { state = on_cpu count_steal s; cpus = cpus; winner = None; done = false }

  -- nothing is stolen, or an entry of another CPU is, whose context wins
  data Taken (l : Stealing) : Type 0 where
    nothing : l ≡ start → Taken l
    entry_of : (t : ℕ) → In t (targets k (length cpus)) → (e : Entry) → In e (get_or cpus t no_cpu).queue → l.winner ≡ Some e.context_ref
        → l.done ≡ true → Taken l

  from_start : (t : ℕ) → In t (targets k (length cpus)) → (es : List Entry) → ((e : Entry) → In e es → In e (get_or cpus t no_cpu).queue)
      → Taken (steal_entries false start t (get_or cpus t no_cpu) es)
  unfolding steal_entries
  from_start t i [] f = nothing refl
  from_start t i (e ∷ es) f = entry_of t i e (f e (inl refl)) (first_moved _ e es refl) refl

  from_any : (l : Stealing) (t : ℕ) → In t (targets k (length cpus)) → Taken l → Taken (steal_from k false locked l t)
  unfolding steal_from
  from_any l t i (nothing p) =
      subst (λ (z : Stealing). Taken (steal_from k false locked z t)) (sym p)
      (pick Taken (not (can_steal_from start.state (get_or cpus t no_cpu))) (λ z. nothing refl)
      (λ z. from_start t i _ (candidates_in k locked s.contexts None (want start.state (get_or cpus t no_cpu)) (get_or cpus t no_cpu).queue)))
  from_any l t i (entry_of v j e q w d) =
      pick Taken (l.done || not (can_steal_from l.state (get_or l.cpus t no_cpu))) (λ z. entry_of v j e q w d) (λ z. never d (or_neither l.done _ z).0)

  stealing_takes : Taken (steal k false locked cpus None s)
  unfolding steal
  stealing_takes =
      pick Taken (should_steal s None)
      (λ z. fold_keeps_in Taken (steal_from k false locked) (targets k (length cpus)) from_any start (nothing refl)) (λ z. nothing refl)

  takes_so : (runs : Bool) (w : Option ℕ) → runs ≡ false → w ≡ None → Taken (steal k runs locked cpus w s)
  takes_so true w r z = never refl r
  takes_so false None r z = stealing_takes
  takes_so false (Some x) r z = absurd (some_none refl z)

none_chosen : (s : State) (f : Scan) → f.eligible_best ≡ None → f.ineligible_best ≡ None → prev_runnable s ≡ false → (choice s f).winner ≡ None
unfolding choice
none_chosen s f a b r = ap (λ (o : Option Entry). (choice_by s f o).winner) a ∙ rw r (ap (λ (o : Option Entry). (nobody s o).winner) b)

module _ (k time : ℕ) (M : Machine) (n : NobodyFound k time M) where
  abbrev s : State
  s = judged k time M

  abbrev w : Choice
  w = choice s (found k time M)

  takes : Taken k (locks s w) M.cpus (chosen w (found k time M) s) (stealing k time M)
  unfolding choose_and_steal
  takes =
      takes_so k (locks s w) M.cpus (chosen w (found k time M) s) (prev_runnable s) w.winner n.holder
      (none_chosen s (found k time M) n.eligible n.ineligible n.holder)

  -- who wins says whether a victim was found
  pub winner_says : is_some (stealing k time M).winner ≡ (stealing k time M).done
  winner_says = go takes
    where
      go : Taken k (locks s w) M.cpus (chosen w (found k time M) s) (stealing k time M) → is_some (stealing k time M).winner ≡ (stealing k time M).done
      go (nothing p) = ap (λ (l : Stealing). is_some l.winner) p ∙ sym (ap (λ (l : Stealing). l.done) p)
      go (entry_of t i e q z d) = rw z (sym d)

  -- and one was found exactly if an entry of another CPU was stolen
  pub done_theft : k < length M.cpus → ((stealing k time M).done ≡ true) ↔ Theft k time M
  unfolding cpu_at
  done_theft r = (λ t. go t takes, λ y. sym winner_says ∙ ap is_some y.wins)
    where
      go : (stealing k time M).done ≡ true → Taken k (locks s w) M.cpus (chosen w (found k time M) s) (stealing k time M) → Theft k time M
      go t (nothing p) = never t (ap (λ (l : Stealing). l.done) p)
      go t (entry_of v i e q z d) = record { cpu = v; elsewhere = target_is_other k (length M.cpus) v r i; entry = e; was_queued = q; wins = z }

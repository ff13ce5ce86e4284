-- From the charge on a decision neither looks at the remainder nor stores one: with another remainder it is the same in every other word.
-- Assumes nothing.
use Rattle.std.specs.Prelude.{if◌then◌else◌, None, Option, Some, is_some}
use mathlib.Core.Path.{◌≡◌, refl, sym, ap, ◌∙◌}
use mathlib.Core.Bool.{Bool, true, false, not, ◌&&◌, ◌||◌}
use mathlib.Core.List.{List, [], ◌∷◌}
use Prim.Native.Nat.{ℕ}
use lib.Dec.{eqb, ltb}
use lib.ListN.{length, get_or, set}
use lib.Seq.{get_or-set_same, set-set, set_out}
use borrow.Author.Tests.{ltb-true, ltb-false}
use Rattle.columns.specs.Common.{fold}
use Rattle.ticks.specs.declared.Spent.{Spent}
use Rattle.answer.specs.declared.Rule.{Rule}
use Rattle.context.specs.declared.Context.{Context}
use Rattle.context.specs.Status.{is_runnable}
use Rattle.context.specs.Key.{queue_key, with_new_key, entry_of}
use Rattle.weights.specs.Weights.{weight}
use Rattle.entries.specs.declared.Entry.{Entry}
use Rattle.percpu.specs.Cpu.{Cpu}
use Rattle.percpu.specs.With.{cpu_v, cpu_remainder}
use Rattle.machine.specs.Machine.{cpu_at, no_cpu}
use Rattle.model.specs.State.{State, at, on_cpu, put_context, insert_entry, remove_key, holder, is_idle, prev_runnable}
use Rattle.model.specs.Scan.{Scan, Visit, pass, gone, blocked, no_addr_space, ready, judge, visit, visited, scan_step, scan_start, scan}
use Rattle.model.specs.Choice.{Choice, prev_is_eligible, nobody, choice_by, choice, ineligible_holder, cleaned_up, taken_out, chosen}
use Rattle.model.specs.Rule.{rule_nobody, rule_by, rule_of}
use Rattle.model.specs.Steal.{Stealing, Moving, first_wins, move_entry, after_moving, steal_entries, can_steal_from, want, steal_from, should_steal, count_steal, targets, steal, mark_stealable}
use Rattle.model.specs.Handover.{advance, requeue, settled, next_context, hand_over}
use Rattle.model.specs.SwitchTo.{switch_to}
use Rattle.model.specs.Schedule.{Selected, finish_by, scanned, locks, choose_and_steal, selected, picked_as, switch_as, after_schedule}
use Rattle.model.proofs.Cases.{by_test}
use Rattle.model_timers.proofs.Source.{source_holder_stopped, source_charge_holder}
use Rattle.model_ticks.specs.Turns.{outcome_carrying}

-- both ways of a test
branch : {A B : Type 0} (h : A → B) (b : Bool) {x y : A} {x' y' : B} → x' ≡ h x → y' ≡ h y → (if b then x' else y') ≡ h (if b then x else y)
branch h true p q = p
branch h false p q = q

fold_through : {A B : Type 0} (h : B → B) (f : B → A → B) → ((b : B) (a : A) → f (h b) a ≡ h (f b a)) → (l : List A) (b : B) → fold f (h b) l ≡ h (fold f b l)
fold_through h f e [] b = refl
fold_through h f e (x ∷ xs) b = ap (λ z. fold f z xs) (e b x) ∙ fold_through h f e xs (f b x)

module _ (r : ℕ) where
  abbrev pub carry : State → State
  carry s = on_cpu (cpu_remainder r) s

  pub charge_carries : (n : Spent) (s : State) → source_charge_holder n (carry s) ≡ carry (source_charge_holder n s)
  unfolding source_charge_holder source_holder_stopped
  charge_carries n s = branch carry (is_idle s) refl (branch carry (is_runnable (holder s).status) refl (branch carry (holder s).has_wake refl refl))

  -- the scan
  module _ (k time : ℕ) (p : Cpu) (h : Option ℕ) where
    visited_same : (s : Scan) (e : Entry) (v : Visit) → visited k time (cpu_remainder r p) h s e v ≡ visited k time p h s e v
    unfolding visited
    visited_same s e pass = refl
    visited_same s e gone = refl
    visited_same s e (blocked c) = refl
    visited_same s e (no_addr_space c) = refl
    visited_same s e (ready c) = refl

    step_same : (s : Scan) (e : Entry) → scan_step k time (cpu_remainder r p) h s e ≡ scan_step k time p h s e
    unfolding scan_step visit judge
    step_same s e = ap (λ (u : Scan). if is_some s.eligible_best then s else u) (visited_same s e (visit k time p h s e))

    scan_same : (cs : List Context) (q : List Entry) → scan k time (cpu_remainder r p) h cs q ≡ scan k time p h cs q
    unfolding scan
    scan_same cs q = λ j. fold (λ s e. step_same s e j) (scan_start k time p h cs) q

  -- the choice
  module _ (s : State) where
    nobody_same : (o : Option Entry) → nobody (carry s) o ≡ nobody s o
    nobody_same None = refl
    nobody_same (Some e) = refl

    choice_same : (f : Scan) → choice (carry s) f ≡ choice s f
    unfolding choice
    choice_same f = go f.eligible_best
      where
        go : (o : Option Entry) → choice_by (carry s) f o ≡ choice_by s f o
        go None = branch (λ (c : Choice). c) (prev_is_eligible s) refl (nobody_same f.ineligible_best)
        go (Some e) = refl

    rule_nobody_same : (b : Bool) (o : Option Entry) → rule_nobody (carry s) b o ≡ rule_nobody s b o
    rule_nobody_same b None = refl
    rule_nobody_same b (Some e) = refl

    rule_same : (b : Bool) (f : Scan) → rule_of (carry s) b f ≡ rule_of s b f
    unfolding rule_of
    rule_same b f = go f.eligible_best
      where
        go : (o : Option Entry) → rule_by (carry s) b f o ≡ rule_by s b f o
        go None = branch (λ (x : Rule). x) (prev_is_eligible s) refl (rule_nobody_same b f.ineligible_best)
        go (Some e) = refl

  taken_carries : (o : Option ℕ) (s : State) → taken_out o (carry s) ≡ carry (taken_out o s)
  taken_carries None s = refl
  taken_carries (Some x) s = branch carry (at s x).has_queue_key refl refl

  chosen_carries : (w : Choice) (f : Scan) (s : State) → chosen w f (carry s) ≡ carry (chosen w f s)
  unfolding chosen cleaned_up
  chosen_carries w f s = taken_carries w.winner (on_cpu (cpu_v w.v) (cleaned_up f s))

  -- stealing
  abbrev carry_moving : Moving → Moving
  carry_moving m = record { state = carry m.state; victim = m.victim; winner = m.winner }

  abbrev carry_stealing : Stealing → Stealing
  carry_stealing l = record { state = carry l.state; cpus = l.cpus; winner = l.winner; done = l.done }

  module _ (k : ℕ) (runs : Bool) (locked : List ℕ) where
    move_carries : (m : Moving) (e : Entry) → move_entry runs (carry_moving m) e ≡ carry_moving (move_entry runs m e)
    unfolding move_entry
    move_carries m e = branch carry_moving (first_wins runs m.winner) refl refl

    entries_carry : (l : Stealing) (t : ℕ) (v : Cpu) (es : List Entry) → steal_entries runs (carry_stealing l) t v es ≡ carry_stealing (steal_entries runs l t v es)
    unfolding steal_entries
    entries_carry l t v [] = refl
    entries_carry l t v (e ∷ es) =
        ap (after_moving t l.cpus) (fold_through carry_moving (move_entry runs) move_carries (e ∷ es) (record { state = l.state; victim = v; winner = l.winner }))

    from_carries : (l : Stealing) (t : ℕ) → steal_from k runs locked (carry_stealing l) t ≡ carry_stealing (steal_from k runs locked l t)
    unfolding steal_from can_steal_from want
    from_carries l t = branch carry_stealing (l.done || not (can_steal_from l.state (get_or l.cpus t no_cpu))) refl (entries_carry l t _ _)

    steal_carries : (cpus : List Cpu) (w : Option ℕ) (s : State) → steal k runs locked cpus w (carry s) ≡ carry_stealing (steal k runs locked cpus w s)
    unfolding steal
    steal_carries cpus w s =
        branch carry_stealing (should_steal s w)
        (fold_through carry_stealing (steal_from k runs locked) from_carries (targets k (length cpus)) (record { state = on_cpu count_steal s; cpus = cpus; winner = w; done = false })) refl

  -- from the choice to who gets the slice
  abbrev carry_selected : Selected → Selected
  carry_selected d = record { state = carry d.state; cpus = d.cpus; next = d.next; rule = d.rule }

  module _ (k time : ℕ) (cpus : List Cpu) (s : State) where
    scanned_same : scanned k time (carry s) ≡ scanned k time s
    scanned_same = scan_same k time s.cpu (ineligible_holder s) s.contexts s.cpu.queue

    chose_same : choice (carry s) (scanned k time (carry s)) ≡ choice s (scanned k time s)
    chose_same = ap (choice (carry s)) scanned_same ∙ choice_same s (scanned k time s)

    choose_carries : choose_and_steal k time cpus (carry s) ≡ carry_stealing (choose_and_steal k time cpus s)
    unfolding choose_and_steal
    choose_carries =
        let f : Scan = scanned k time s in
        let w : Choice = choice s f in
        (λ j. steal k (prev_runnable s) (locks s (chose_same j)) cpus (chose_same j).winner (chosen (chose_same j) (scanned_same j) (carry s)))
        ∙ ap (steal k (prev_runnable s) (locks s w) cpus w.winner) (chosen_carries w f s)
        ∙ steal_carries k (prev_runnable s) (locks s w) cpus w.winner (chosen w f s)

  advance_carries : (runs : Bool) (w : Option ℕ) (n : ℕ) (s : State) → advance runs w n (carry s) ≡ carry (advance runs w n s)
  unfolding advance
  advance_carries runs w n s = branch carry ((is_some w || runs) && not (eqb s.cpu.block.total_weight 0)) refl refl

  requeue_carries : (s : State) → requeue (carry s) ≡ carry (requeue s)
  unfolding requeue
  requeue_carries s =
      let x : ℕ = s.cpu.block.sched_ctxt in
      ap (λ (u : State). insert_entry (entry_of x (weight (holder s).prio) (holder s)) (put_context x (with_new_key (holder s)) u))
      (branch carry (holder s).has_queue_key {x = remove_key (queue_key (holder s)) s} {y = s} refl refl)

  settled_carries : (runs : Bool) (n : ℕ) (l : Stealing) → settled runs n (carry_stealing l) ≡ carry (settled runs n l)
  unfolding settled
  settled_carries runs n l =
      let s : State = advance runs l.winner n l.state in
      ap (λ (u : State). on_cpu mark_stealable (if is_some l.winner && runs then requeue u else u)) (advance_carries runs l.winner n l.state)
      ∙ ap (on_cpu mark_stealable) (branch carry (is_some l.winner && runs) {x = requeue s} {y = s} (requeue_carries s) refl)

  next_same : (runs : Bool) (w : Option ℕ) (s : State) → next_context runs w (carry s) ≡ next_context runs w s
  unfolding next_context
  next_same runs None s = refl
  next_same runs (Some x) s = refl

  module _ (k time : ℕ) (n : Spent) (cpus : List Cpu) (s : State) where
    selected_carries : selected k time n cpus (carry s) ≡ carry_selected (selected k time n cpus s)
    unfolding selected
    selected_carries =
        let runs : Bool = prev_runnable s in
        let l : Stealing = choose_and_steal k time cpus s in
        let c : choose_and_steal k time cpus (carry s) ≡ carry_stealing l = choose_carries k time cpus s in
        let d = settled_carries runs n.ticks l in
        (λ j.
        record {
          state = settled runs n.ticks (c j);
          cpus = (c j).cpus;
          next = next_context runs (c j).winner (settled runs n.ticks (c j));
          rule = rule_of (carry s) (is_some (c j).winner) (scanned_same k time cpus s j);
        })
        ∙ (λ j.
        record {
          state = d j;
          cpus = l.cpus;
          next = (ap (next_context runs l.winner) d ∙ next_same runs l.winner (settled runs n.ticks l)) j;
          rule = rule_same s (is_some l.winner) (scanned k time s) j;
        })

  pub switch_carries : (k time x : ℕ) (s : State) → switch_to k time x (carry s) ≡ carry (switch_to k time x s)
  unfolding switch_to
  switch_carries k time x s =
      let y : ℕ = s.cpu.block.current_ctxt in
      by_test (not (eqb s.cpu.block.sched_ctxt y) && not (at s y).has_queue_key && is_runnable (at s y).status) (λ t. rw t) (λ t. rw t)

  -- the state put back among the CPUs
  pub finish_carries : (rule k : ℕ) (cpus : List Cpu) (res : ℕ) (s : State) → finish_by rule k cpus res (carry s) ≡ outcome_carrying k r (finish_by rule k cpus res s)
  unfolding cpu_at
  finish_carries rule k cpus res s =
      ap (λ (l : List Cpu). record { machine = record { contexts = s.contexts; cpus = l }; result = res; interrupt = false; rule = rule; no_room = s.no_room })
      (by_test (ltb k (length cpus))
      (λ t. sym (set-set cpus k s.cpu _) ∙ ap (λ (p : Cpu). set (set cpus k s.cpu) k (cpu_remainder r p)) (sym (get_or-set_same cpus k s.cpu no_cpu (ltb-true k _ t))))
      (λ t. let h = ltb-false k _ t in let e = set_out cpus k s.cpu h in set_out cpus k _ h ∙ sym (ap (λ (l : List Cpu). set l k (cpu_remainder r (get_or l k no_cpu))) e ∙ set_out cpus k _ h)))

  switched_carries : (k time rule : ℕ) (cpus : List Cpu) (o : Option ℕ) (s : State) → switch_as k time rule (carry s) cpus o ≡ outcome_carrying k r (switch_as k time rule s cpus o)
  unfolding switch_as
  switched_carries k time rule cpus None s = finish_carries rule k cpus _ _
  switched_carries k time rule cpus (Some x) s =
      let u : State = if eqb s.cpu.block.current_ctxt x then s else switch_to k time x s in
      ap (finish_by rule k cpus _) (branch carry (eqb s.cpu.block.current_ctxt x) {x = s} {y = switch_to k time x s} refl (switch_carries k time x s))
      ∙ finish_carries rule k cpus _ u

  picked_carries : (k time : ℕ) (was : Bool) (rule : Rule) (cpus : List Cpu) (o : Option ℕ) (s : State)
      → after_schedule k time (picked_as time was rule cpus o (carry s)) ≡ outcome_carrying k r (after_schedule k time (picked_as time was rule cpus o s))
  unfolding after_schedule picked_as hand_over
  picked_carries k time was rule cpus None s = switched_carries k time _ cpus None s
  picked_carries k time was rule cpus (Some x) s = switched_carries k time _ cpus (Some x) (hand_over time was x s)

  -- a decision from its charge on
  pub ending_carries : (k time : ℕ) (was : Bool) (n : Spent) (cpus : List Cpu) (s : State)
      → let d = selected k time n cpus (carry s) in let d' = selected k time n cpus s in
      after_schedule k time (picked_as time was d.rule d.cpus d.next d.state)
      ≡ outcome_carrying k r (after_schedule k time (picked_as time was d'.rule d'.cpus d'.next d'.state))
  ending_carries k time was n cpus s =
      ap (λ (d : Selected). after_schedule k time (picked_as time was d.rule d.cpus d.next d.state)) (selected_carries k time n cpus s)
      ∙ (let d = selected k time n cpus s in picked_carries k time was d.rule d.cpus d.next d.state)

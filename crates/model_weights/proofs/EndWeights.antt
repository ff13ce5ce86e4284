-- The machine after a decision: who is active, what entries weigh, and the stored total of every present CPU.
use Rattle.std.specs.Prelude.{if◌then◌else◌, None, Option, Some}
use mathlib.Core.Path.{◌≡◌, refl, subst, sym, ap, ◌∙◌}
use mathlib.Core.Bool.{Bool, true, false}
use mathlib.Core.Logic.{inl, inr, ◌≢◌}
use Prim.Native.Nat.{ℕ, ◌+◌}
use lib.Dec.{eqb}
use lib.ListN.{get_or}
use borrow.Author.Tests.{eqb-true, eqb-false}
use Rattle.weights.specs.Weights.{weight}
use Rattle.percpu.specs.Cpu.{Cpu}
use Rattle.machine.specs.Machine.{Machine, cpu_at, no_cpu}
use Rattle.model.specs.State.{at}
use Rattle.model.specs.Tidy.{Sound, Tidy, Present, context}
use Rattle.model.proofs.Cases.{by_test}
use Rattle.model.proofs.Turn.{Turn}
use Rattle.model.proofs.Settled.{successor}
use Rattle.model.proofs.Ended.{Lasting, Standing}
use Rattle.model.proofs.TidyAfter.{Ending, cpu_there, sched_there, was_present}
use Rattle.model.proofs.Assembled.{scheduled_machine, J, waking, chose, C, chosen_after, runs, locked, l, in_range, kept, roles_are, n, s, is_settled, c, ending}
use Rattle.model.proofs.After.{in_charge_is, stands, lasts_after}
use Rattle.model_weights.specs.Weighed.{Weighed, Agree}
use Rattle.model_weights.proofs.Sums.{added, held_weight, total_is}
use Rattle.model_weights.proofs.Weighing.{prio_of, own_weight}
use Rattle.model_weights.proofs.ChargedWeights.{Fast, Judges, before_judges}
use Rattle.model_weights.proofs.ChosenWeights.{Chooses, choice_chooses}
use Rattle.model_weights.proofs.StolenWeights.{Steals, steal_weighs}
use Rattle.model_weights.proofs.SettledWeights.{successor_weight, Settles, settled_settles}

module _ (turn : Turn) (W : Weighed turn.M) (A : Agree turn.M) where
  abbrev k : ℕ
  k = turn.k

  abbrev time : ℕ
  time = turn.time

  abbrev M : Machine
  M = turn.M

  abbrev S : Sound M
  S = turn.sound

  abbrev T : Tidy M
  T = turn.tidy

  abbrev P : Present M k
  P = turn.present

  abbrev M' : Machine
  M' = scheduled_machine k time M

  abbrev running : Bool
  running = runs turn

  abbrev won : Option ℕ
  won = (l turn).winner

  pub judged_so : Judges k time M S T P turn.own W A (J turn)
  judged_so = before_judges k time M S T P turn.own W A

  chosen_so : Chooses k time M S T P turn.own W A (J turn) (waking turn) judged_so (chose turn).winner (C turn)
  chosen_so = choice_chooses k time M S T P turn.own W A (J turn) (waking turn) judged_so

  pub stolen_so : Steals k M running (l turn)
  stolen_so =
      steal_weighs k M running (locked turn) (chose turn).winner (C turn) A (chosen_after turn).inv (chosen_after turn).winner
      chosen_so.weights chosen_so.total chosen_so.winner (in_range turn)

  pub settled_so : Settles k M S P running (n turn) (l turn) (kept turn).inv (roles_are turn) stolen_so judged_so.runs_active (s turn)
  settled_so = settled_settles k M S P running (n turn) (l turn) (kept turn).inv (roles_are turn) stolen_so judged_so.runs_active

  pub marks : (y : ℕ) → (context M' y).is_active ≡ (at (s turn) y).is_active
  marks y = ap (λ (q : Lasting). q.is_active) (lasts_after turn y)

  pub prios : (y : ℕ) → (context M' y).prio ≡ (context M y).prio
  prios y = ap (λ (q : Lasting). q.prio) (lasts_after turn y) ∙ prio_of ((is_settled turn).inv.same y)

  -- those whose mark no stage changed
  pub still : (x : ℕ) → Fast k M running x → (context M' x).is_active ≡ (context M x).is_active
  still x f = marks x ∙ settled_so.weights.still x f

  -- what the one in charge adds
  held : (x : ℕ) → (context M' x).is_active ≡ true → held_weight (context M' x) ≡ own_weight M.contexts x
  held x a = rw a (ap weight (prios x))

  pub winner_active : (x : ℕ) → won ≡ Some x → (context M' x).is_active ≡ true
  winner_active x z = marks x ∙ settled_so.winner x z

  pub holder_active : running ≡ true → (context M' (cpu_at M k).block.sched_ctxt).is_active ≡ true
  holder_active t = still _ (k, P, inl (inr t, refl)) ∙ judged_so.runs_active t

  pub idle_unmarked : (j : ℕ) → Present M j → (context M' (cpu_at M j).block.idle_ctxt).is_active ≡ false
  idle_unmarked j p = still _ (j, p, inr refl) ∙ W.idle_not_active _ j (record { present = p; named = refl })

  in_charge_adds : (r : Bool) (o : Option ℕ) → running ≡ r → won ≡ o → held_weight (context M' (successor k M r o)) ≡ successor_weight k M r o
  in_charge_adds r (Some x) z y = held x (winner_active x y)
  in_charge_adds true None z y = held _ (holder_active z)
  in_charge_adds false None z y = rw (idle_unmarked k P)

  E : Ending k time M S T P (in_range turn) (c turn) (s turn) (l turn).cpus M'
  E = ending turn

  agrees_here : (cpu_at M' k).block.total_weight ≡ held_weight (context M' (cpu_at M' k).block.sched_ctxt) + added (cpu_at M' k).queue
  agrees_here =
      ap (λ (q : Standing). q.total_weight) (stands turn) ∙ settled_so.total
      ∙ ap (λ y. y + added (s turn).cpu.queue) (sym (ap (λ y. held_weight (context M' y)) (in_charge_is turn) ∙ in_charge_adds running won refl refl))
      ∙ ap (λ (q : Standing). held_weight (context M' (cpu_at M' k).block.sched_ctxt) + added q.queue) (sym (stands turn))

  agrees_there : (j : ℕ) → j ≢ k → Present M j → (cpu_at M' j).block.total_weight ≡ held_weight (context M' (cpu_at M' j).block.sched_ctxt) + added (cpu_at M' j).queue
  agrees_there j o p =
      let x : ℕ = (cpu_at M j).block.sched_ctxt in
      let q : cpu_at M' j ≡ get_or (l turn).cpus j no_cpu = cpu_there k time M S T P (in_range turn) (c turn) (s turn) (l turn).cpus M' E j o in
      ap (λ (y : Cpu). y.block.total_weight) q ∙ stolen_so.elsewhere j o p
      ∙ ap (λ y. y + added (get_or (l turn).cpus j no_cpu).queue)
      (sym (ap (λ y. held_weight (context M' y)) (sched_there k time M S T P (in_range turn) (c turn) (s turn) (l turn).cpus M' E j o) ∙ same x (j, p, inl (inl o, refl))))
      ∙ ap (λ (y : Cpu). held_weight (context M' (cpu_at M' j).block.sched_ctxt) + added y.queue) (sym q)
    where
      same : (x : ℕ) → Fast k M running x → held_weight (context M' x) ≡ held_weight (context M x)
      same x f = ap (λ b. if b then weight (context M' x).prio else 0) (still x f) ∙ ap (λ y. if (context M x).is_active then weight y else 0) (prios x)

  pub agrees_after : Agree M'
  agrees_after i p =
      (by_test (eqb i k)
      (λ t. subst (λ j. (cpu_at M' j).block.total_weight ≡ held_weight (context M' (cpu_at M' j).block.sched_ctxt) + added (cpu_at M' j).queue) (sym (eqb-true i k t)) agrees_here)
      (λ t. agrees_there i (eqb-false i k t) (was_present k time M S T P (in_range turn) (c turn) (s turn) (l turn).cpus M' E i p)))
      ∙ sym (total_is M' i)

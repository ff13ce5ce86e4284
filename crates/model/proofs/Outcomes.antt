-- What the decision's end says of V and of what was stolen.
use Rattle.std.specs.Prelude.{if◌then◌else◌, None, Option, Some, is_some}
use mathlib.Core.Path.{◌≡◌, refl, subst, sym, ap, ◌∙◌}
use mathlib.Core.Bool.{Bool, true, false, not, ◌&&◌, ◌||◌}
use mathlib.Core.List.{List, ◌∷◌}
use mathlib.Core.Logic.{◌⊎◌, inl, inr, ◌≢◌}
use Prim.Native.Nat.{ℕ, ◌+◌, ◌/◌}
use lib.Dec.{eqb}
use borrow.Author.Tests.{eq-eqb, ne_eqb}
use Rattle.entries.specs.declared.Entry.{Entry}
use Rattle.machine.specs.Machine.{Machine, cpu_at}
use Rattle.model.specs.Steal.{Stealing}
use Rattle.model.specs.Tidy.{Sound, Tidy, Present}
use Rattle.model.specs.Schedule.{choose_and_steal}
use Rattle.model.specs.Demand3.{in_charge, total_weight_here, own_advance, Stole}
use Rattle.model.proofs.Turn.{Turn}
use Rattle.model.proofs.Cases.{by_test}
use Rattle.model.proofs.Lists.{In}
use Rattle.model.proofs.Queues.{on}
use Rattle.model.proofs.Places.{one_value}
use Rattle.model.proofs.Before.{queues}
use Rattle.model.proofs.Robbed.{start, Robbed}
use Rattle.model.proofs.Settled.{successor, gain}
use Rattle.model.proofs.Ended.{Standing}
use Rattle.model.proofs.TotalWeight.{weight_is}
use Rattle.model.proofs.Assembled.{scheduled_machine, chose, C, chosen_after, runs, locked, l, kept, awake, n, is_settled}
use Rattle.model.proofs.Firsts.{some_some}
use Rattle.model.proofs.After.{in_charge_is, stands}

advance_is : (won : Bool) (total m : ℕ) → if not won || eqb total 0 then 0 else m / total ≡ if won && not (eqb total 0) then m / total else 0
advance_is true total m = by_test (eqb total 0) (λ t. rw t) (λ t. rw t)
advance_is false total m = refl

module _ (turn : Turn) where
  abbrev k : ℕ
  k = turn.k

  abbrev time : ℕ
  time = turn.time

  abbrev M : Machine
  M = turn.M

  abbrev S : Sound M
  S = turn.sound

  abbrev T : Tidy M
  T = turn.tidy

  abbrev P : Present M k
  P = turn.present

  abbrev pub M' : Machine
  M' = scheduled_machine k time M

  abbrev pub h : ℕ
  h = (cpu_at M k).block.sched_ctxt

  abbrev steal_of : Stealing
  steal_of = l turn

  idle_test : (b : Bool) (w : Option ℕ) → runs turn ≡ b → steal_of.winner ≡ w
      → eqb (successor k M b w) (cpu_at M k).block.idle_ctxt ≡ not (is_some w || b)
  idle_test b (Some x) p q = ne_eqb x _ (((kept turn).winner x q).free.not_idle k P)
  idle_test true None p q = ne_eqb _ _ (awake turn p)
  idle_test false None p q = eq-eqb (cpu_at M k).block.idle_ctxt _ refl

  -- the total weight is what the stealing leaves
  stolen_total : steal_of.state.cpu.block.total_weight ≡ total_weight_here k time M
  unfolding choose_and_steal
  stolen_total = weight_is k time M

  pub total_after : (cpu_at M' k).block.total_weight ≡ total_weight_here k time M
  total_after = ap (λ (z : Standing). z.total_weight) (stands turn) ∙ (is_settled turn).total ∙ stolen_total

  -- the advance of V is the turn's own
  pub v_after : (cpu_at M' k).block.v ≡ (chose turn).v + own_advance k time M M'
  v_after =
      ap (λ (z : Standing). z.v) (stands turn) ∙ (is_settled turn).v
      ∙ ap (λ y. y + gain k M (runs turn) steal_of.winner (n turn) steal_of.state.cpu.block.total_weight) ((kept turn).v ∙ (chosen_after turn).v)
      ∙ ap (λ y. (chose turn).v + y) (sym is_gain)
    where
      test_is : eqb (in_charge k time M M') (cpu_at M k).block.idle_ctxt ≡ not (is_some steal_of.winner || runs turn)
      test_is = ap (λ y. eqb y (cpu_at M k).block.idle_ctxt) (in_charge_is turn) ∙ idle_test (runs turn) steal_of.winner refl refl

      is_gain : own_advance k time M M' ≡ gain k M (runs turn) steal_of.winner (n turn) steal_of.state.cpu.block.total_weight
      is_gain =
          ap (λ t. if eqb (in_charge k time M M') (cpu_at M k).block.idle_ctxt || eqb t 0 then 0 else n turn / t) (sym stolen_total)
          ∙ ap (λ b. if b || eqb steal_of.state.cpu.block.total_weight 0 then 0 else n turn / steal_of.state.cpu.block.total_weight) test_is
          ∙ advance_is (is_some steal_of.winner || runs turn) steal_of.state.cpu.block.total_weight (n turn)

  -- what a stolen context's entry was
  module _ (x : ℕ) (y : Stole k time M M' x) where
    -- it stood where it was until the stealing
    there : In y.entry (on k (C turn).cpu.queue (queues M) y.cpu)
    there = rw (ne_eqb y.cpu k y.elsewhere) y.was_queued.is_in

    not_holder : x ≢ (cpu_at M k).block.sched_ctxt
    not_holder m = T.in_charge_not_queued y.entry y.cpu k y.was_queued P (y.of ∙ m)

    not_idle : x ≢ (cpu_at M k).block.idle_ctxt
    not_idle m = T.idle_not_queued y.entry y.cpu k y.was_queued P (y.of ∙ m)

    -- it was not queued here
    not_here : (d : Entry) → In d (C turn).cpu.queue → d.context_ref ≢ x
    not_here d i m =
        y.elsewhere
        (sym ((chosen_after turn).inv.one d y.entry k y.cpu (rw (eq-eqb k k refl) i) there (m ∙ sym y.of)).1)

    -- and did not win before the stealing
    not_won : (chose turn).winner ≢ Some x
    not_won z = ((chosen_after turn).winner x z).out y.entry y.cpu there y.of

    -- an entry here at the end was there after the stealing
    here_since : (d : Entry) → In d (cpu_at M' k).queue → d.context_ref ≡ x → In d steal_of.state.cpu.queue
    here_since d i m = go ((is_settled turn).here d (subst (λ q. In d q) (ap (λ (z : Standing). z.queue) (stands turn)) i))
      where
        go : In d steal_of.state.cpu.queue ⊎ (d.context_ref ≡ (cpu_at M k).block.sched_ctxt) → In d steal_of.state.cpu.queue
        go (inl j) = j
        go (inr z) = absurd (not_holder (sym m ∙ z))

    -- in charge: it won by being stolen
    won_since : (b : Bool) (w : Option ℕ) → steal_of.winner ≡ w → successor k M b w ≡ x → steal_of.winner ≡ Some x
    won_since b (Some z) q m = q ∙ ap Some m
    won_since true None q m = absurd (not_holder (sym m))
    won_since false None q m = absurd (not_idle (sym m))

    -- an unbroken state stole nothing
    pub nothing_stolen : steal_of ≡ start k M (runs turn) (locked turn) (chose turn).winner (C turn) → ⊥
    nothing_stolen p = go y.is_here
      where
        go : ((e : Entry) × In e (cpu_at M' k).queue × (e.context_ref ≡ x)) ⊎ (in_charge k time M M' ≡ x) → ⊥
        go (inl (d, i, m)) = not_here d (subst (λ (q : Stealing). In d q.state.cpu.queue) p (here_since d i m)) m
        go (inr m) = not_won (sym (ap (λ (q : Stealing). q.winner) p) ∙ won_since (runs turn) steal_of.winner refl (sym (in_charge_is turn) ∙ m))

    -- it is one of the lot
    pub of_the_lot : (t : ℕ) (e : Entry) (es : List Entry)
        → Robbed k M (runs turn) (locked turn) (chose turn).winner (C turn) steal_of t e es
        → steal_of.winner ≡ Some e.context_ref → In y.entry (e ∷ es) × (y.cpu ≡ t)
    of_the_lot t e es b w = go y.is_here
      where
        same : (g : Entry) → In g (e ∷ es) → g.context_ref ≡ x → In y.entry (e ∷ es) × (y.cpu ≡ t)
        same g i m =
            let (p, q) = one_value M T y.entry g y.cpu t y.was_queued (record { present = b.present; is_in = b.from g i }) (y.of ∙ sym m) in
            (subst (λ d. In d (e ∷ es)) (sym p) i, q)

        go : ((d : Entry) × In d (cpu_at M' k).queue × (d.context_ref ≡ x)) ⊎ (in_charge k time M M' ≡ x) → In y.entry (e ∷ es) × (y.cpu ≡ t)
        go (inl (d, i, m)) = or (b.here d (here_since d i m))
          where
            or : In d (C turn).cpu.queue ⊎ ((g : Entry) × In g (e ∷ es) × (g.context_ref ≡ d.context_ref)) → In y.entry (e ∷ es) × (y.cpu ≡ t)
            or (inl j) = absurd (not_here d j m)
            or (inr (g, j, z)) = same g j (z ∙ m)
        go (inr m) = same e (inl refl) (some_some (sym w ∙ won_since (runs turn) steal_of.winner refl (sym (in_charge_is turn) ∙ m)))

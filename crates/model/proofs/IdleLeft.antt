-- With nobody else the first stolen wins, and idle is in charge exactly if there is none.
use Rattle.std.specs.Prelude.{None, Option, Some}
use mathlib.Core.Path.{◌≡◌, refl, sym, ap, ◌∙◌}
use mathlib.Core.Bool.{Bool, true, false}
use mathlib.Core.Logic.{◌⊎◌, inl, inr}
use Prim.Native.Nat.{ℕ}
use Rattle.entries.specs.declared.Entry.{Entry}
use Rattle.entries.specs.Order.{before, entry_before}
use Rattle.machine.specs.Machine.{Machine, cpu_at}
use Rattle.model.specs.State.{State}
use Rattle.model.specs.Steal.{Stealing, first_wins}
use Rattle.model.specs.Tidy.{Present}
use Rattle.model.specs.Demand3.{NobodyWaits, in_charge, Stole, FirstStolen, StoleNothing}
use Rattle.model.proofs.Turn.{Turn}
use Rattle.model.proofs.Lists.{In, all_at}
use Rattle.model.proofs.Robbed.{StealResult, nothing, robbed}
use Rattle.model.proofs.Settled.{successor}
use Rattle.model.proofs.Firsts.{some_none}
use Rattle.model.proofs.Assembled.{scheduled_machine, J, chose, C, runs, locked, l, stole, kept, awake, c}
use Rattle.model.proofs.After.{in_charge_is}
use Rattle.model.proofs.Outcomes.{nothing_stolen, of_the_lot}
use Rattle.model.proofs.Contested.{none_waits, waits_none}

module _ (turn : Turn) where
  abbrev k : ℕ
  k = turn.k

  abbrev time : ℕ
  time = turn.time

  abbrev M : Machine
  M = turn.M

  abbrev P : Present M k
  P = turn.present

  abbrev pub M' : Machine
  M' = scheduled_machine k time M

  abbrev pub here : State
  here = J turn

  abbrev pub idle : ℕ
  idle = (cpu_at M k).block.idle_ctxt

  abbrev pub h : ℕ
  h = (cpu_at M k).block.sched_ctxt

  -- with nobody else the first stolen wins, and idle is in charge if there is none
  pub stolen_first : NobodyWaits k time M → (x : ℕ) → Stole k time M M' x → (y : ℕ) × FirstStolen k time M M' y × (in_charge k time M M' ≡ y)
  stolen_first a x y = go (stole turn)
    where
      none_chosen : (chose turn).winner ≡ None
      none_chosen = (waits_none turn a).0

      fw : first_wins (runs turn) (chose turn).winner ≡ true
      fw = rw (none_chosen, (waits_none turn a).1)

      go : StealResult k M (runs turn) (locked turn) (chose turn).winner (C turn) (l turn)
          → (z : ℕ) × FirstStolen k time M M' z × (in_charge k time M M' ≡ z)
      go (nothing p) = absurd (nothing_stolen turn x y p)
      go (robbed d t e es b) = (
        e.context_ref,
        record {
          stolen = record {
            entry = e;
            cpu = t;
            was_queued = record { present = b.present; is_in = b.from e (inl refl) };
            elsewhere = b.other;
            of = refl;
            is_here = inr is_in_charge;
          };
          first = λ z s. let (i, q) = of_the_lot turn z s t e es b (b.first fw) in order z s q i;
        },
        is_in_charge,
      )
        where
          is_in_charge : in_charge k time M M' ≡ e.context_ref
          is_in_charge = in_charge_is turn ∙ ap (successor k M (runs turn)) (b.first fw)

          order : (z : ℕ) (s : Stole k time M M' z) → s.cpu ≡ t → (s.entry ≡ e) ⊎ In s.entry es
              → (z ≡ e.context_ref) ⊎ ((s.cpu ≡ t) × (before e.key s.entry.key ≡ true))
          order z s q (inl p) = inl (sym s.of ∙ ap (λ (g : Entry). g.context_ref) p)
          order z s q (inr i) = inr (q, all_at (λ g. entry_before e g ≡ true) es b.sorted.0 s.entry i)

  pub idle_left : NobodyWaits k time M → StoleNothing k time M M' → in_charge k time M M' ≡ idle
  idle_left a nothing-taken = go (stole turn)
    where
      go : StealResult k M (runs turn) (locked turn) (chose turn).winner (C turn) (l turn)
          → in_charge k time M M' ≡ idle
      go (nothing p) =
          in_charge_is turn
          ∙ ap (successor k M (runs turn)) (ap (λ (q : Stealing). q.winner) p ∙ (waits_none turn a).0)
          ∙ rw (waits_none turn a).1
      go (robbed d t e es b) =
          absurd (nothing-taken e.context_ref
          (record {
            entry = e;
            cpu = t;
            was_queued = record { present = b.present; is_in = b.from e (inl refl) };
            elsewhere = b.other;
            of = refl;
            is_here = inr (in_charge_is turn ∙ ap (successor k M (runs turn)) (b.first (rw ((waits_none turn a).0, (waits_none turn a).1))));
          }))

  -- idle is in charge only so
  pub idle_only : in_charge k time M M' ≡ idle → NobodyWaits k time M × StoleNothing k time M M'
  idle_only m = go (runs turn) (l turn).winner refl refl
    where
      is_idle : c turn ≡ idle
      is_idle = sym (in_charge_is turn) ∙ m

      unchosen : (l turn).winner ≡ None → (w : Option ℕ) → (chose turn).winner ≡ w → (chose turn).winner ≡ None
      unchosen z None p = p
      unchosen z (Some x) p = absurd (some_none ((kept turn).keeps x p) z)

      go : (b : Bool) (w : Option ℕ) → runs turn ≡ b → (l turn).winner ≡ w → NobodyWaits k time M × StoleNothing k time M M'
      go b (Some x) p q =
          absurd (((kept turn).winner x q).free.not_idle k P (sym (ap (successor k M (runs turn)) q) ∙ is_idle))
      go true None p q =
          absurd (awake turn p
          (sym (ap (λ b. successor k M b (l turn).winner) p ∙ ap (successor k M true) q) ∙ is_idle))
      go false None p q =
          let z = unchosen q (chose turn).winner refl in
          (none_waits turn z p, λ x y. took z x y (stole turn))
        where
          took : (chose turn).winner ≡ None → (x : ℕ) → Stole k time M M' x
              → StealResult k M (runs turn) (locked turn) (chose turn).winner (C turn) (l turn) → ⊥
          took z x y (nothing t) = nothing_stolen turn x y t
          took z x y (robbed d t e es b) = some_none (b.first (rw (z, p))) q

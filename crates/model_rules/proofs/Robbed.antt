-- Where nobody waits on a tidy machine, a victim was found exactly if somebody queued elsewhere is in charge or queued here. Assumes nothing.
use mathlib.Core.Path.{◌≡◌, refl, sym, ap, ◌∙◌}
use mathlib.Core.Bool.{true, false}
use mathlib.Core.Logic.{inl, inr}
use Prim.Native.Nat.{ℕ}
use Rattle.machine.specs.Machine.{Machine}
use Rattle.model.specs.Steal.{Stealing}
use Rattle.model.specs.Schedule.{choose_and_steal}
use Rattle.model.specs.Demand3.{NobodyWaits, Stole, StoleNothing}
use Rattle.model.proofs.Turn.{Turn}
use Rattle.model.proofs.Cases.{by_test, never}
use Rattle.model.proofs.Robbed.{StealResult, nothing, robbed}
use Rattle.model.proofs.Settled.{successor}
use Rattle.model.proofs.Assembled.{scheduled_machine, chose, C, runs, locked, l, stole}
use Rattle.model.proofs.After.{in_charge_is}
use Rattle.model.proofs.Outcomes.{nothing_stolen}
use Rattle.model.proofs.Contested.{waits_none}
use Rattle.model_rules.specs.ByScan.{stealing}

module _ (turn : Turn) where
  abbrev k : ℕ
  k = turn.k

  abbrev time : ℕ
  time = turn.time

  abbrev M : Machine
  M = turn.M

  abbrev M' : Machine
  M' = scheduled_machine k time M

  abbrev Result : Type 0
  Result = StealResult k M (runs turn) (locked turn) (chose turn).winner (C turn) (l turn)

  is_stealing : stealing k time M ≡ l turn
  unfolding choose_and_steal
  is_stealing = refl

  is_done : (stealing k time M).done ≡ (l turn).done
  is_done = ap (λ (z : Stealing). z.done) is_stealing

  pub done_stole : NobodyWaits k time M → (stealing k time M).done ≡ true → (x : ℕ) × Stole k time M M' x
  done_stole a t = go (stole turn)
    where
      go : Result → (x : ℕ) × Stole k time M M' x
      go (nothing p) = never (sym is_done ∙ t) (ap (λ (z : Stealing). z.done) p)
      go (robbed d v e es b) = (
        e.context_ref,
        record {
          entry = e;
          cpu = v;
          was_queued = record { present = b.present; is_in = b.from e (inl refl) };
          elsewhere = b.other;
          of = refl;
          is_here = inr (in_charge_is turn ∙ ap (successor k M (runs turn)) (b.first (rw ((waits_none turn a).0, (waits_none turn a).1))));
        },
      )

  pub undone_nothing : (stealing k time M).done ≡ false → StoleNothing k time M M'
  undone_nothing t x y = go (stole turn)
    where
      go : Result → ⊥
      go (nothing p) = nothing_stolen turn x y p
      go (robbed d v e es b) = never d (sym is_done ∙ t)

  pub stole_done : (x : ℕ) → Stole k time M M' x → (stealing k time M).done ≡ true
  stole_done x y = by_test (stealing k time M).done (λ t. t) (λ t. absurd (undone_nothing t x y))

  pub nothing_undone : NobodyWaits k time M → StoleNothing k time M M' → (stealing k time M).done ≡ false
  nothing_undone a n = by_test (stealing k time M).done (λ t. let (x, y) = done_stole a t in absurd (n x y)) (λ t. t)

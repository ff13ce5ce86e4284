-- The table of rules is the plain engine's choice. Assumes nothing.
use Rattle.std.specs.Prelude.{None, Option, Some}
use mathlib.Core.Path.{◌≡◌, refl, ap, ◌∙◌}
use Rattle.context.specs.declared.Context.{Context}
use Rattle.entries.specs.declared.Entry.{Entry}
use Rattle.machine.specs.Machine.{context_at}
use Rattle.model.specs.State.{State}
use Rattle.model.specs.Scan.{Scan}
use Rattle.select_judge.specs.declared.Holder.{Holder}
use Rattle.select_judge.specs.Holding.{Holding}
use Rattle.plain_model.specs.Choice as plain
use Rattle.plain_choice.specs.Table.{against, late_entry, alone, nobody, without_entry, choice}

module _ (h : Holder) (s : State) (f : Scan) (o : Holding h s) where
  nobody_is : (late : Option Entry) → nobody h late ≡ plain.nobody s f late
  unfolding alone late_entry
  nobody_is None = rw (o.runnable, o.vtime, o.v)
  nobody_is (Some e) = rw (o.runnable, o.vtime, o.vd)

  without_is : (late : Option Entry) → late ≡ f.ineligible_best → without_entry h late ≡ plain.choice_by s f None
  unfolding without_entry
  without_is late k = rw (nobody_is late, o.eligible, o.v, k)

  against_is : (late : Option Entry) (e : Entry) (q : Context) → late ≡ f.ineligible_best → q ≡ context_at f.contexts e.context_ref → against h late e q ≡ plain.against s f e
  unfolding against
  against_is late e q k c = rw (o.eligible, o.vd, o.rem_slice, o.v, k, c)

  by_is : (best late : Option Entry) (q : Context) → late ≡ f.ineligible_best
      → ((e : Entry) → best ≡ Some e → q ≡ context_at f.contexts e.context_ref) → choice h best late q ≡ plain.choice_by s f best
  by_is None late q k c = without_is late k
  by_is (Some e) late q k c = against_is late e q k (c e refl)

  pub is_choice : (best late : Option Entry) (q : Context) → best ≡ f.eligible_best → late ≡ f.ineligible_best
      → ((e : Entry) → best ≡ Some e → q ≡ context_at f.contexts e.context_ref) → choice h best late q ≡ plain.choice s f
  unfolding plain.choice
  is_choice best late q b k c = by_is best late q k c ∙ ap (plain.choice_by s f) b

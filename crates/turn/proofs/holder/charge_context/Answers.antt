-- `turn::charging::charge_context` meets its contract. Assumes nothing.
use mathlib.Core.Path.{sym, subst, ◌∙◌}
use Rattle.machine.specs.Shape.{ContextFits}
use Rattle.turn.proofs.Charged.{charged_fits, charged_runnable, charged_stopped}
use Rattle.turn.proofs.holder.charge_context.Goals as goal

pub store_context-requires : goal.store_context-requires
store_context-requires c = record { image = c.requires.image; bounded = c.requires.bounded; context_fits = subst (ContextFits _) (sym c.charge_runnable-charged.ensures) (charged_fits c.args.b.v c.args.spent c.args.q c.requires.context_fits) }

pub returns-then-is_runnable : goal.returns-then-is_runnable
returns-then-is_runnable c = charged_runnable c.args.x c.args.b c.args.q c.args.spent (sym c.is_runnable.ensures ∙ c.if-is_runnable.true) c.charge_runnable-charged.ensures c.store_context.ensures

pub returns : goal.returns
returns c = charged_stopped c.args.x c.args.b c.args.q c.args.spent (sym c.is_runnable.ensures ∙ c.if-is_runnable.false) c.stop_holder.ensures

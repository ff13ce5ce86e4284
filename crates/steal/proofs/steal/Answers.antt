use mathlib.Core.Path.{refl, subst}
use Rattle.steal.specs.Search.{Searched}
use Rattle.steal.proofs.Stolen.{counted_ranged, not_due, nothing_stolen, robbed}
use Rattle.steal.proofs.steal.Goals as goal

pub returns-then-not-due : goal.returns-then-not-due
returns-then-not-due c = not_due c.args.cpu.present c.count_steal.ensures c.args.w c.args.runs c.args.locked c.should_steal-due.ensures c.if-not-due.true

pub search-requires : goal.search-requires
search-requires c = record { image = c.count_steal.ensures.image refl }

pub rob-requires : goal.rob-requires
rob-requires c = record { image = c.count_steal.ensures.image refl; bounded = (subst (Searched _ _ _ _ _ _) c.in-Some.is c.search.ensures).entries; ranged = counted_ranged c.args.cpu.present c.count_steal.ensures c.requires.ranged }

pub returns : goal.returns
returns c = robbed c.args.cpu.present c.count_steal.ensures c.args.w c.args.runs c.args.locked c.should_steal-due.ensures c.if-not-due.false _ (subst (Searched _ _ _ _ _ _) c.in-Some.is c.search.ensures) c.rob.ensures

pub returns-in_default : goal.returns-in_default
returns-in_default c = nothing_stolen c.args.cpu.present c.count_steal.ensures c.args.w c.args.runs c.args.locked c.should_steal-due.ensures c.if-not-due.false (subst (Searched _ _ _ _ _ _) c.in_default.is c.search.ensures)

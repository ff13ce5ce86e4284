-- `schedule::choosing::choose_and_steal` meets its contract. Assumes nothing.
use Rattle.std.proofs.lemmas.Result.{err_from_is_err_and}
use borrow.Author.Rules.{rules}
use mathlib.Core.Path.{refl, ap, ◌∙◌}
use mathlib.Core.Bool.{Bool}
use Rattle.schedule.specs.Stolen.{stolen_rule}
use Rattle.schedule.proofs.Chosen.{chosen_ranged, chosen_part, unchosen_part, stolen_named, stolen_ranged, winner_named, locks_are}
use Rattle.schedule.proofs.choosing.choose_and_steal.Goals as goal

pub steal-requires : goal.steal-requires
steal-requires c = record { image = c.select-s.ensures.stage.image refl; ranged = chosen_ranged c.args.time c.args.cpu.present c.select-s.ensures.stage c.requires.ranged }

pub returns-in_err-context : goal.returns-in_err-context
returns-in_err-context c = let p = err_from_is_err_and c.from_residual.result c.from_residual.ensures.1 in rw p.1 (let t = c.select-s.ensures in let l = locks_are _ _ c.load_block-b.ensures c.index.ensures _ in record { part = unchosen_part c.args.time c.args.runs _ c.args.cpu.present t.stage c.in_err-context.ensures c.requires.runs_value l refl; named_below = search rules })

pub returns : goal.returns
returns c = let t = c.select-s.ensures in let u = c.in_ok-context.ensures in let h = c.args.cpu.present in let l = locks_are _ _ c.load_block-b.ensures c.index.ensures _ in record { part = chosen_part c.args.time c.args.runs _ h t.stage u c.requires.runs_value l t.rule_value (c.after_stealing-rule.ensures ∙ ap (λ (b : Bool). stolen_rule b c.select-s.result.rule) c.is_some.ensures); named_below = (stolen_named c.args.time c.args.runs _ h t.stage u c.requires.runs_value l refl c.requires.image (winner_named _ c.select-s.result.winner t.winner_below), stolen_ranged c.args.time c.args.runs _ h t.stage u c.requires.runs_value l refl c.requires.ranged) }

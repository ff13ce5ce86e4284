use mathlib.Core.Path.{refl}
use Rattle.select.proofs.Selecting.{apply_rule, apply_then}
use Rattle.select.proofs.apply_choice.Goals as goal

pub take_out-requires : goal.take_out-requires
take_out-requires c = record { image = c.clean_up.ensures.image refl; bounded = (c.choose-r.ensures.winner_below) }

pub returns : goal.returns
returns c = record { stage = λ s H. apply_then s c.args.w _ c.args.cpu.present c.choose-r.ensures.result_value H c.clean_up.ensures c.take_out.ensures; winner_below = c.choose-r.ensures.winner_below; rule_value = apply_rule c.args.w _ c.choose-r.ensures.rule_value }

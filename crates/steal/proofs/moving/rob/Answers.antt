use Rattle.std.proofs.lemmas.Result.{err_from_is_err_and}
use Rattle.steal.proofs.Victims.{moves_finish}
use mathlib.Core.Path.{refl}
use Rattle.steal.specs.Moves.{finished}
use Rattle.model.specs.Steal.{mark_stealable, published}
use Rattle.percpu.specs.Cpu.{Cpu}
use Rattle.steal.proofs.Victims.{moves_full, victim_then}
use Rattle.steal.proofs.moving.rob.Goals as goal

pub returns-in_err-winner : goal.returns-in_err-winner
returns-in_err-winner c = let p = err_from_is_err_and c.from_residual.result c.from_residual.ensures.1 in rw p.1 (moves_full finished refl c.in_err-winner.ensures (λ v h. h))

pub publish_victim-requires : goal.publish_victim-requires
publish_victim-requires c = record { image = c.in_ok-winner.ensures.image refl }

pub publish-requires : goal.publish-requires
publish-requires c = record { image = c.publish_victim.ensures.image refl }

pub returns : goal.returns
returns c = moves_finish finished c.args.theft.cpu.present c.args.theft.present c.args.theft.other refl c.in_ok-winner.ensures (victim_then (λ (p : Cpu). mark_stealable (published p)) finished c.args.theft.other c.publish_victim.ensures c.publish.ensures (λ M e o. (refl, refl, λ z. refl)))

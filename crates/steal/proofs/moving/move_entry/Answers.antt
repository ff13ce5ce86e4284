use mathlib.Core.Path.{refl}
use Rattle.model.specs.Steal.{give_up}
use Rattle.percpu.specs.Cpu.{Cpu}
use Rattle.steal.proofs.AfterMove.{entry_moved}
use Rattle.steal.proofs.Movable.{weight_small}
use native.Mathlib.Omega.{arith}
use Rattle.steal.proofs.moving.move_entry.Goals as goal

pub stolen-q-requires : goal.stolen-q-requires
stolen-q-requires c = record { image = c.requires.image; bounded = (omega (arith, c.requires.bounded.name, c.index-x.ensures), c.requires.bounded.heavy); movable = c.requires.movable }

pub add_weight-requires : goal.add_weight-requires
add_weight-requires c = record { image = c.give_up.ensures.image refl; bounded = (c.requires.bounded.light, weight_small (λ (p : Cpu). give_up c.args.e p) c.args.theft.cpu.present c.args.theft.other c.requires.movable c.give_up.ensures) }

pub take_in-requires : goal.take_in-requires
take_in-requires c = record { image = c.add_weight.ensures.image refl; bounded = (c.requires.bounded); context_fits = c.stolen-q.ensures.0 }

pub returns : goal.returns
returns c = entry_moved c.args.theft.runs c.args.e _ _ c.args.theft.cpu.present c.args.theft.other c.index-x.ensures c.stolen-q.ensures.1 c.give_up.ensures c.add_weight.ensures c.take_in.ensures

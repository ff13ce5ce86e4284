use mathlib.Core.Path.{refl}
use Rattle.refusal.proofs.Numbered.{number_some}
use Rattle.plain_calls.proofs.Answering.{sized, callable, refused_on, no_room, has_room}
use Rattle.plain_calls.proofs.decide_on.Goals as goal

-- src/lib.rt:55:9
pub returns-in-Err : goal.returns-in-Err
returns-in-Err c = λ M e f. refused_on c.args.cpu.c c.args.cpu.n c.args.cpu.k c.args.time c.args.d _ c.in-Err.ensures M e f (number_some _) c.refused.ensures

-- src/lib.rt:57:9
pub decide-decided-requires : goal.decide-decided-requires
decide-decided-requires c = record { image = c.requires.image; callable = callable c.args.cpu.c c.args.cpu.n c.args.cpu.k c.args.time c.args.d _ c.in_default.ensures c.args.cpu.present c.requires.bounded.0 c.requires.bounded.1 c.requires.ranged refl }

-- src/lib.rt:60:9
pub returns-then-decided : goal.returns-then-decided
returns-then-decided c = λ M e f. no_room c.args.cpu.c c.args.cpu.n c.args.cpu.k c.args.time c.args.d _ c.in_default.ensures M e f (c.decide-decided.ensures M e f) refl c.if-decided.true c.refused-then-decided.ensures

-- src/lib.rt:62:5
pub store-requires : goal.store-requires
store-requires c = record { image_sized = sized c.requires.image; sound = ((c.decide-decided.ensures c.requires.image.M c.requires.image.eq c.requires.image.fits).sound, (c.decide-decided.ensures c.requires.image.M c.requires.image.eq c.requires.image.fits).cpus, c.args.cpu.present) }

-- src/lib.rt:47:1
pub returns : goal.returns
returns c = λ M e f. has_room c.args.cpu.c c.args.cpu.n c.args.cpu.k c.args.time c.args.d _ c.in_default.ensures M e f (c.decide-decided.ensures M e f) refl c.if-decided.false c.store.ensures c.accepted.ensures

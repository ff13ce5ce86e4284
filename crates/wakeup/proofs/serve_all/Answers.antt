use Rattle.std.specs.Prelude.{None}
use Rattle.std.proofs.lemmas.Result.{err_from_is_err_and}
use Rattle.wakeup.proofs.Serving.{serve_start, serve_named, serve_paced, serve_no_room, serve_next, serve_end}
use mathlib.Core.Path.{refl}
use Rattle.wakeup.proofs.serve_all.Goals as goal

pub loop-w-init : goal.loop-w-init
loop-w-init c = serve_start _ c.requires.image c.requires.paced

pub serve_one-requires : goal.serve_one-requires
serve_one-requires c = record { image = c.loop-w.invariant.served.image refl; bounded = (serve_named c.args.cpu.present c.loop-w.invariant c.loop-w-test.true _ c.requires.bounded.1); paced = serve_paced c.args.cpu.present c.loop-w.invariant c.loop-w-test.true (record { wake = None; context_ref = 0 }) c.requires.bounded.0 }

pub returns-in_err-serve_one : goal.returns-in_err-serve_one
returns-in_err-serve_one c = let p = err_from_is_err_and c.from_residual.result c.from_residual.ensures.1 in rw p.1 (serve_no_room c.args.cpu.present c.loop-w.invariant c.loop-w-test.true _ refl c.in_err-serve_one.ensures)

pub loop-w-preserved : goal.loop-w-preserved
loop-w-preserved c = serve_next c.args.cpu.present c.loop-w.invariant c.loop-w-test.true _ c.requires.bounded.1 refl c.in_ok-serve_one.ensures

pub returns : goal.returns
returns c = serve_end c.loop-w.invariant c.loop-w-test.false

use Rattle.plain_wakeup.proofs.Ready.{serve_stays}
use Rattle.plain_state.proofs.Tracking.{tracks_kept}
use Rattle.plain_model.specs.Wakeup.{serve_wakeup}
use Rattle.model.specs.State as model
use Rattle.plain_wakeup.specs.Wakeups.{wakeup_of}
use Rattle.plain_wakeup.proofs.serve.serve.Goals as goal

pub returns-then-s : goal.returns-then-s
returns-then-s c = tracks_kept (λ (S : model.State). serve_wakeup S (wakeup_of c.args.w)) (serve_stays (wakeup_of c.args.w)) c.requires.sound.0 c.if-s.true

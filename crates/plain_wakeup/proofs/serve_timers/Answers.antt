use Rattle.plain_wakeup.proofs.Going.{timers_start, timers_end, timer_named, timer_asks, timers_next}
use Rattle.plain_wakeup.proofs.serve_timers.Goals as goal

pub loop-e-init : goal.loop-e-init
loop-e-init c = timers_start _ _ _ _ _ c.requires.sound.0 c.by_rank-turns.ensures c.as_slice_sized-e-items.ensures _ c.requires.sound.1 c.requires.state_fits.0 c.requires.state_fits.1

pub serve_timer-s-requires : goal.serve_timer-s-requires
serve_timer-s-requires c =
    record {
      sound = (c.requires.sound.0, c.loop-e.invariant.going.tracks.sound, rw c.timer_of.ensures (timer_named _ _ _ _ c.loop-e.invariant c.loop-e-test.true _), c.requires.sound.2);
      wakeable = timer_asks _ _ _ _ c.loop-e.invariant;
    }

pub loop-e-preserved : goal.loop-e-preserved
loop-e-preserved c = timers_next _ _ _ _ c.loop-e.invariant c.loop-e-test.true _ c.timer_of.ensures c.serve_timer-s.ensures

pub returns : goal.returns
returns c = timers_end _ _ _ _ _ c.requires.sound.0 c.by_rank-turns.ensures c.as_slice_sized-e-items.ensures c.loop-e.invariant c.loop-e-test.false

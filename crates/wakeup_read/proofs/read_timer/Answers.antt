use Rattle.std.specs.Prelude.{Some}
use native.Mathlib.Omega.{arith}
use Rattle.machine.proofs.Looked.{gone_at, live_below, live_gone, live_record}
use Rattle.wakeup_read.proofs.Reading.{timer_live, timer_dropped, timer_gone, wakeups_next}
use Rattle.wakeup_read.proofs.read_timer.Goals as goal

pub returns-in_default : goal.returns-in_default
returns-in_default c = timer_gone _ _ _ _ (gone_at c.requires.image _ c.requires.context_ref_bound.0 c.look_up.ensures c.in_default.is)

pub load-q-requires : goal.load-q-requires
load-q-requires c = record { image = c.requires.image; x_lt_n = live_below c.requires.image _ c.requires.context_ref_bound.0 c.look_up.ensures c.in-Some.is }

pub is_live-requires : goal.is_live-requires
is_live-requires c = live_gone c.requires.image _ c.requires.context_ref_bound.0 c.look_up.ensures c.in-Some.is c.load-q.ensures

pub returns-then-is_live : goal.returns-then-is_live
returns-then-is_live c = timer_live _ _ _ _ _ _ _ (live_record c.requires.image _ c.requires.context_ref_bound.0 c.look_up.ensures c.in-Some.is c.load-q.ensures) c.is_live.ensures c.if-is_live.true (wakeups_next c.args.d.now c.args.len (record { wake = Some c.args.t.wake; context_ref = c.args.t.context_ref }) (omega arith))

pub returns : goal.returns
returns c = timer_dropped _ _ _ _ _ _ (live_record c.requires.image _ c.requires.context_ref_bound.0 c.look_up.ensures c.in-Some.is c.load-q.ensures) c.is_live.ensures c.if-is_live.false

use Rattle.std.proofs.Common.{mod-lt, arith}
use Rattle.plain_steal.proofs.Round.{still_robs, rounds_on, rounded}
use Rattle.plain_steal.proofs.steal_round.Goals as goal

pub steal_from-out-requires : goal.steal_from-out-requires
steal_from-out-requires c = record { stealing_sound = (c.loop-i.invariant.tracks.sound, mod-lt _ (let h = c.loop-i.invariant.some in omega (arith, h)), (let h = c.loop-i.invariant.some in let g = c.loop-i.invariant.few in omega (arith, h, g))); robs = still_robs _ _ _ _ _ _ _ _ c.loop-i.invariant c.loop-i-test.true }

pub loop-i-preserved : goal.loop-i-preserved
loop-i-preserved c = rounds_on _ _ _ _ _ _ _ _ c.loop-i.invariant c.loop-i-test.true c.steal_from-out.ensures

pub returns : goal.returns
returns c = rounded _ _ _ _ _ _ _ _ c.loop-i.invariant c.loop-i-test.false

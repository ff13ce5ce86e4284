use Rattle.measure.proofs.Looking.{no_blocks, next_block, last_block}
use native.Mathlib.Omega.{arith}
use Rattle.measure.proofs.blocks.Goals as goal

-- src/lib.rt:93:5
pub loop-k-init : goal.loop-k-init
loop-k-init c = no_blocks _ _ _

-- src/lib.rt:96:20
pub block_times-requires : goal.block_times-requires
block_times-requires c = omega (arith, c.cpu_place-at.ensures, c.requires.2)

-- src/lib.rt:97:28
pub block_virtual_times-requires : goal.block_virtual_times-requires
block_virtual_times-requires c = omega (arith, c.cpu_place-at.ensures, c.requires.2)

-- src/lib.rt:93:5
pub loop-k-preserved : goal.loop-k-preserved
loop-k-preserved c = next_block _ _ _ _ _ _ _ c.cpu_place-at.ensures c.loop-k.invariant c.block_times.ensures c.block_virtual_times.ensures

-- src/lib.rt:87:1
pub returns : goal.returns
returns c = last_block _ _ _ _ _ _ c.loop-k-test.false c.loop-k.invariant

use Rattle.context_ops.proofs.Waking.{no_cpu_word, this_cpu, another_cpu}
use Rattle.context_ops.proofs.wake.other_cpu.Goals as goal

pub returns-then-cpu_id-eq0 : goal.returns-then-cpu_id-eq0
returns-then-cpu_id-eq0 c = λ M e o. no_cpu_word _ _ M c.if-cpu_id-eq0.true

pub returns-then-index-cpu : goal.returns-then-index-cpu
returns-then-index-cpu c = λ M e o. this_cpu _ _ M _ c.if-cpu_id-eq0.false c.index.ensures c.if-index-cpu.true

pub returns : goal.returns
returns c = λ M e o. another_cpu _ _ M _ _ c.if-cpu_id-eq0.false c.index.ensures c.if-index-cpu.false (c.get_percpu_block.ensures M e o)

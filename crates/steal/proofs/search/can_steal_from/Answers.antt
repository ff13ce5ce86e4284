use Rattle.steal.proofs.Searching.{victim_absent, victim_below, victim_judged}
use Rattle.steal.proofs.search.can_steal_from.Goals as goal

pub returns-in_default : goal.returns-in_default
returns-in_default c = victim_absent c.requires.image c.word.ensures c.requires.bounded c.get_percpu_block.ensures c.in_default.is _

pub invariant_of-victim : goal.invariant_of-victim
invariant_of-victim c = record { present = victim_below c.requires.image c.word.ensures c.requires.bounded c.get_percpu_block.ensures c.in-Some.is }

pub returns : goal.returns
returns c = λ M e o. victim_judged c.requires.image c.word.ensures c.requires.bounded c.get_percpu_block.ensures c.in-Some.is _ M e o _ (c.load_block-b.ensures M e o) c.index-published.ensures (c.queue_len-len.ensures.2 M e o) (c.my_load-load.ensures.1 M e o) c.can_steal_from.ensures

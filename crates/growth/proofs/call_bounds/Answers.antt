use Rattle.growth.proofs.Coded.{no_such_cpu, no_turn, a_turn}
use Rattle.growth.proofs.call_bounds.Goals.{then-c-k-via-then-c-k, then-c-k-via-else-c-k+then-q-gt3}
use Rattle.growth.proofs.call_bounds.Goals as goal

pub returns-then-c-k : goal.returns-then-c-k
returns-then-c-k c = λ M e o.
    elim c.then-c-k.branch [
      | then-c-k-via-then-c-k w ↦ no_such_cpu _ M _ _ _ _ _ c.index-k.ensures w.if-c-k.true
      | then-c-k-via-else-c-k+then-q-gt3 w ↦ no_turn _ M _ _ _ _ _ c.index-k.ensures w.if-c-k.false w.if-q-gt3.true
    ]

pub returns : goal.returns
returns c = λ M e o. a_turn _ M _ _ _ _ _ c.index-k.ensures c.if-c-k.false c.if-q-gt3.false _ _ _ _ _ (c.load_block-p.ensures M e o) c.saturating_sub.ensures c.capped-elapsed.ensures.0 c.may_steal.ensures c.after_turn.ensures

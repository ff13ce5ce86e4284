use Rattle.call_in_window.proofs.Windowed.{own_stays, put_back_refuses}
use borrow.Author.Rules.{rules}
use Rattle.call_in_window.proofs.refuse.Goals as goal

pub returns-then-a-ne0 : goal.returns-then-a-ne0
returns-then-a-ne0 c = own_stays _ _ _ _ _ c.call-a.ensures _ c.if-a-ne0.true

pub returns : goal.returns
returns c = put_back_refuses _ _ _ _ _ c.call-a.ensures _ _ _ _ c.if-a-ne0.false c.shorter-len.ensures.2 c.copy.ensures c.copy-2.ensures (search rules) c.refused.ensures

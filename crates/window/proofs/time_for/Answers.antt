use Rattle.window.proofs.Summing.{same_context, other_context}
use borrow.Author.Rules.{rules}
use Rattle.window.proofs.time_for.Goals as goal

pub returns-then-context-x : goal.returns-then-context-x
returns-then-context-x c = (rw c.in-Context.is (same_context _ _ _ c.if-context-x.true), search rules)

pub returns-else-context-x : goal.returns-else-context-x
returns-else-context-x c = (rw c.in-Context.is (other_context _ _ _ c.if-context-x.false), search rules)

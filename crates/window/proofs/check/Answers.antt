use Rattle.window.proofs.Checked.{size_wrong, count_over, passes_all, one_out}
use Rattle.window.proofs.check.Goals as goal

pub returns-then-w-ne-WINDOW_SIZE : goal.returns-then-w-ne-WINDOW_SIZE
returns-then-w-ne-WINDOW_SIZE c = size_wrong _ _ c.if-w-ne-WINDOW_SIZE.true

pub returns-then-count-gt-CAPACITY : goal.returns-then-count-gt-CAPACITY
returns-then-count-gt-CAPACITY c = count_over _ _ c.if-w-ne-WINDOW_SIZE.false _ c.index-count.ensures c.if-count-gt-CAPACITY.true

pub returns-then-in_range : goal.returns-then-in_range
returns-then-in_range c = passes_all _ _ c.if-w-ne-WINDOW_SIZE.false _ c.index-count.ensures c.if-count-gt-CAPACITY.false _ c.in_range.ensures c.if-in_range.true

pub returns : goal.returns
returns c = one_out _ _ c.if-w-ne-WINDOW_SIZE.false _ c.index-count.ensures c.if-count-gt-CAPACITY.false _ c.in_range.ensures c.if-in_range.false

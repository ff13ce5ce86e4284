use Rattle.std.proofs.Common.{rules}
use Rattle.percpu.specs.Layout.{no_entry}
use Rattle.plain_words.proofs.Reading.{made, IsEntry, queue_read}
use Rattle.plain_words.proofs.load_queue.Goals as goal

pub returns : goal.returns
returns c = queue_read _ _ (search rules) (made _ _ (IsEntry c.args.w.now) (λ j x q k. search rules) no_entry _ 64 c.from_fn-items.ensures.items)

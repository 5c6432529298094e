-- Slots without an entry are a queue without one.
use Rattle.std.proofs.Common.{None, replicate, ◌∙◌}
use Rattle.delay_queue.proofs.Keys.{keys_none, table_shown, unranked}
use Rattle.delay_queue.proofs.queue.DelayQueue.new.Goals as goal

pub invariant_of-result : goal.invariant_of-result
invariant_of-result g c = unranked c.in-Ok.slots.entries (replicate c.args.tasks None) (c.in-Ok.ensures.empty ∙ keys_none c.args.tasks)

pub returns-in-Ok-clause-empty : goal.returns-in-Ok-clause-empty
returns-in-Ok-clause-empty g c = table_shown c.in-Ok.slots.entries (replicate c.args.tasks None) (c.in-Ok.ensures.empty ∙ keys_none c.args.tasks)

use Rattle.std.proofs.Common.{arith}
use Rattle.executor_plain.proofs.Plains.{task_count_le}
use Rattle.executor_plain.proofs.table.answer_start.Goals as goal

pub first_enabled-requires-clause-within : goal.first_enabled-requires-clause-within
first_enabled-requires-clause-within g c = omega (arith, c.count_tasks.ensures, task_count_le c.args.calls.now, c.requires.orderly.0)

use Rattle.executor_model.proofs.Within.{none_within}
use Rattle.executor_plain.proofs.table.answer_submission.Goals as goal

pub due_at-requires-clause-within : goal.due_at-requires-clause-within
due_at-requires-clause-within g c = none_within c.args.calls.now c.args.task c.requires.1

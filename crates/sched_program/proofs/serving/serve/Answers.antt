use Rattle.std.proofs.Common.{map, string_bytes}
use Rattle.sched_program.proofs.Ends.{end_alone, end_lint, end_pool}
use Rattle.sched_program.proofs.serving.serve.Goals as goal

pub returns-in-Alone-clause-status : goal.returns-in-Alone-clause-status
returns-in-Alone-clause-status g c =
    rw c.in_status-in-Alone.ensures (end_alone (map string_bytes c.args.arguments.now) c.in-Alone.asked c.answer_alone-answer.result (rw c.in-Alone.is at c.in_ok-pool.ensures.asked) c.answer_alone-answer.ensures.status)

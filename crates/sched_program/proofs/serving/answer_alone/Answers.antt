use Rattle.sched_program.proofs.Ends.{end_with_trace}
use Rattle.sched_program.proofs.serving.answer_alone.Goals as goal

pub returns-in-Check-clause-status : goal.returns-in-Check-clause-status
returns-in-Check-clause-status g c = end_with_trace c.args.asked.now c.check_files.result (rw c.in-Check.is (tt {0})) c.check_files.ensures.status

pub returns-in-Draw-clause-status : goal.returns-in-Draw-clause-status
returns-in-Draw-clause-status g c = end_with_trace c.args.asked.now c.draw_files.result (rw c.in-Draw.is (tt {0})) c.draw_files.ensures.status

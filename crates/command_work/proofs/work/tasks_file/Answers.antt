use Rattle.command_work.proofs.Orders.{tasks_read}
use Rattle.command_work.proofs.work.tasks_file.Goals as goal

pub returns-clause-answers : goal.returns-clause-answers
returns-clause-answers g c =
    tasks_read _ c.tasks_text.result _ _ _ c.in_ok-plan_text.ensures.text (rw c.deref.ensures.value at c.tasks_text.ensures.told)

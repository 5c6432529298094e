use Rattle.command_work.proofs.Orders.{migrate_read}
use Rattle.command_work.proofs.work.migrate_file.Goals as goal

pub returns-clause-answers : goal.returns-clause-answers
returns-clause-answers g c =
    migrate_read _ c.migrate_text.result _ _ _ c.in_ok-plan_text.ensures.text (rw c.deref.ensures.value at c.migrate_text.ensures.answers)

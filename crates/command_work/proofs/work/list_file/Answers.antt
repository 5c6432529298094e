use Rattle.command_work.proofs.Orders.{code_read}
use Rattle.command_work.proofs.work.list_file.Goals as goal

pub returns-clause-answers : goal.returns-clause-answers
returns-clause-answers g c =
    code_read _ c.list_text.result _ _ _ c.in_ok-plan_text.ensures.text (rw c.deref.ensures.value at c.list_text.ensures.listed)

use Rattle.command_work.proofs.Orders.{pool_read}
use Rattle.command_work.proofs.work.pool_file.Goals as goal

pub returns-clause-answers : goal.returns-clause-answers
returns-clause-answers g c =
    pool_read c.in_ok-text.text.items c.pool_text.result _ c.args.asked.now _ _ _ _ c.in_ok-text.ensures.text (rw c.deref.ensures.value at c.pool_text.ensures.ran)

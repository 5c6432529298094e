use Rattle.command_work.proofs.Orders.{run_read}
use Rattle.command_work.proofs.work.run_file.Goals as goal

pub returns-clause-answers : goal.returns-clause-answers
returns-clause-answers g c =
    run_read c.in_ok-text.text.items c.run_text.result _ c.args.asked.now _ _ _ _ c.in_ok-text.ensures.text (rw c.deref.ensures.value at c.run_text.ensures.ran)

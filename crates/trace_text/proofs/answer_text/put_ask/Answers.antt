use Rattle.std.specs.Prelude.{codes}
use Rattle.trace_text.specs.Spelling.{whether_text}
use Rattle.trace_text.proofs.Chains.{next, next_three}
use Rattle.trace_text.proofs.answer_text.put_ask.Goals as goal

pub returns-clause-put : goal.returns-clause-put
returns-clause-put c =
    next c.put_text-at.ensures.put (next c.put_number-at.ensures.put (next c.put_text-at-2.ensures.put (next c.put_number-at-2.ensures.put
    (next_three (codes " shutdown ") (whether_text c.args.shutdown) (codes " terminated ") c.put_shutdown-at.ensures.put c.put_terminated.ensures.put))))

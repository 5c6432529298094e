use Rattle.trace_text.proofs.Chains.{next}
use Rattle.trace_text.proofs.answer_text.put_again_here.Goals as goal

pub returns-clause-put : goal.returns-clause-put
returns-clause-put c =
    next c.put_text-at.ensures.put (next c.put_number-at.ensures.put (next c.put_text-at-2.ensures.put (next c.put_number-at-2.ensures.put (next c.put_text-at-3.ensures.put
    (next c.put_number-at-3.ensures.put (next c.put_text-at-4.ensures.put (next c.put_number-end.ensures.put c.put_text.ensures.put)))))))

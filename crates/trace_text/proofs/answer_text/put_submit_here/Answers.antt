use Rattle.std.specs.Prelude.{codes}
use Rattle.trace_text.specs.Spelling.{kind_text}
use Rattle.trace_text.proofs.Chains.{next, next_three}
use Rattle.trace_text.proofs.answer_text.put_submit_here.Goals as goal

pub returns-clause-put : goal.returns-clause-put
returns-clause-put c =
    next c.put_text-at.ensures.put (next c.put_number-at.ensures.put (next_three (codes " ") (kind_text c.args.kind) (codes " due ") c.put_kind-at.ensures.put (next c.put_number-at-2.ensures.put c.put_text.ensures.put)))

use Rattle.std.proofs.Common.{codes}
use Rattle.sched_time.specs.Policies.{policy_text, truth_text}
use Rattle.trace_text.specs.Reading.{Any, text_then}
use Rattle.trace_text.proofs.Parts.{first_part}
use Rattle.trace_text.proofs.LineTexts.{unread_policy}
use Rattle.trace_text.proofs.answer.split_policy.Goals as goal

pub returns-in_default : goal.returns-in_default
returns-in_default c = unread_policy c.args.bytes.now (first_part policy_text Any (codes " ") (text_then truth_text (codes "\n")) Any c.args.bytes.now c.in_default.ensures)

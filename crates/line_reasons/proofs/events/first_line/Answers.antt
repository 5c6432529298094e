use Rattle.line_reasons.proofs.FirstLines.{ended_line, whole_line}
use Rattle.line_reasons.proofs.events.first_line.Goals as goal

pub returns-in-Some : goal.returns-in-Some
returns-in-Some c = ended_line c.args.bytes.now c.in-Some.at c.in-Some.ensures.0.high c.in-Some.ensures.0.before c.in-Some.ensures.1

pub returns-in-None : goal.returns-in-None
returns-in-None c = whole_line c.args.bytes.now c.in-None.ensures

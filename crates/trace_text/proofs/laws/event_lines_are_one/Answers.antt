use Rattle.trace_text.proofs.EventTexts.{first_event}
use Rattle.trace_text.proofs.laws.event_lines_are_one.Goals as goal

pub returns : goal.returns
returns c = first_event

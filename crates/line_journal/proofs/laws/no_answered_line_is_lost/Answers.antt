use Rattle.line_journal.proofs.History.{kept_over, front_of_run}
use Rattle.line_journal.proofs.laws.no_answered_line_is_lost.Goals as goal

pub returns-clause-kept : goal.returns-clause-kept
returns-clause-kept c = kept_over

pub returns-clause-front : goal.returns-clause-front
returns-clause-front c = front_of_run

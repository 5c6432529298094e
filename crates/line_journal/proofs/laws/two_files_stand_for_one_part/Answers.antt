use Rattle.line_journal.proofs.Unique.{same_standing, stand_turned}
use Rattle.line_journal.proofs.laws.two_files_stand_for_one_part.Goals as goal

pub returns-clause-one : goal.returns-clause-one
returns-clause-one c = same_standing

pub returns-clause-turned : goal.returns-clause-turned
returns-clause-turned c = stand_turned

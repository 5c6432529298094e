use Rattle.line_journal.proofs.Unique.{same_part}
use Rattle.line_journal.proofs.laws.a_file_has_one_part.Goals as goal

pub returns : goal.returns
returns c = same_part

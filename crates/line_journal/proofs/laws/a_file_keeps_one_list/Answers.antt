use Rattle.line_journal.proofs.One.{same_groups}
use Rattle.line_journal.proofs.laws.a_file_keeps_one_list.Goals as goal

pub returns : goal.returns
returns c = same_groups

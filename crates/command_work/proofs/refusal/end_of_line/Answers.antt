use Rattle.std.proofs.Common.{◌∙◌}
use Rattle.command_work.proofs.OneLines.{end_found}
use Rattle.command_work.proofs.refusal.end_of_line.Goals as goal

pub returns-clause-end : goal.returns-clause-end
returns-clause-end c = c.unwrap_or.ensures ∙ end_found c.args.text.now c.memchr.result c.memchr.ensures

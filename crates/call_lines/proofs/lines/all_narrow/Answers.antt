use Rattle.std.proofs.Common.{◌∙◌, sym}
use Rattle.call_lines.proofs.Spelled.{spelled_ends}
use Rattle.call_lines.proofs.lines.all_narrow.Goals as goal

pub returns : goal.returns
returns c = c.are_narrow.ensures ∙ sym (spelled_ends c.args.moment c.args.ended.now)

use Rattle.std.proofs.Common.{◌≤◌, arith, string_bytes}
use Rattle.std.proofs.lemmas.Str.{IsUtf8-string_bytes}
use Rattle.toml.specs.Data.{members_depth}
use Rattle.toml.specs.View.{table_view}
use Rattle.plan_read.proofs.PlainData.{plain_members_depth}
use Rattle.plan_read.proofs.TextLaw.{is_tree}
use Rattle.plan_read.proofs.migrating.print.Goals as goal

pub returns : goal.returns
returns c =
    let ms = table_view c.args.tree.now in
    let depth : members_depth ms ≤ 80 = omega (arith, plain_members_depth 4 ms c.requires) in
    (c.in-Ok.ensures.text, is_tree (string_bytes c.in-Ok.text) ms (IsUtf8-string_bytes c.in-Ok.text) (c.in-Ok.ensures.reads_back depth), omega arith)

use Rattle.std.proofs.Common.{◌≡◌, ◌≤◌, Some, true, false, length, string_bytes, ap, ◌∙◌, arith, rules}
use Rattle.std.proofs.lemmas.Str.{IsUtf8-string_bytes}
use Rattle.toml.specs.Data.{members_depth}
use Rattle.toml.specs.View.{table_view}
use Rattle.plan_read.specs.Texts.{longest_text}
use Rattle.plan_read.specs.own.Plain.{members_are_plain}
use Rattle.plan_read.proofs.PlainData.{plain_members_depth}
use Rattle.plan_read.proofs.PrintedLines.{one_document}
use Rattle.plan_read.proofs.TextLaw.{is_tree}
use Rattle.call_journal.specs.Plans.{tree_of_calls}
use Rattle.call_journal.proofs.PlainTrees.{plain_tree}
use Rattle.call_journal.proofs.WrittenTexts.{text_makes_calls}
use Rattle.call_journal.proofs.plans.plan_text.Goals as goal

pub returns-clause-only : goal.returns-clause-only
returns-clause-only g c = λ printed prints.
    one_document false 4 (tree_of_calls c.args.calls.now) printed (string_bytes c.in-Ok-table_to_string.text) (plain_tree c.args.calls.now) prints
    (rw c.in-Ok.ensures at c.in-Ok-table_to_string.ensures.text)

pub returns-clause-reads : goal.returns-clause-reads
returns-clause-reads g c =
    let text = c.in-Ok-table_to_string.text in
    let ms = table_view c.in-Ok.tree in
    let plain : members_are_plain 4 ms ≡ true = rw c.in-Ok.ensures (plain_tree c.args.calls.now) in
    let depth : members_depth ms ≤ 80 = omega (arith, plain_members_depth 4 ms plain) in
    is_tree (string_bytes text) ms (IsUtf8-string_bytes text) (c.in-Ok-table_to_string.ensures.reads_back depth) ∙ ap Some c.in-Ok.ensures

pub returns-clause-plan : goal.returns-clause-plan
returns-clause-plan g c = λ may.
    let text = string_bytes c.in-Ok-table_to_string.text in
    let short : length text ≤ longest_text = search (rules, c.if-len-gt-LONGEST_TEXT.false, c.len.ensures) in
    text_makes_calls text c.args.calls.now short (returns-clause-reads g c) may

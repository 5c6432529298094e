use Rattle.std.proofs.Common.{◌≡◌, ℕ, ◌-◌, List, ◌++◌, length, take, string_bytes, ap, ◌∙◌, subst}
use Rattle.std.specs.Prelude.{OnOk, flat_map}
use Rattle.executor_model.specs.declared.types.Line.{Line}
use Rattle.trace_text.specs.Spelling.{line_text}
use Rattle.trace_svg.specs.Runs.{line_mark, telling_mark}
use Rattle.trace_svg.specs.Stacks.{stack_label}
use Rattle.trace_svg.proofs.Several.{no_stack, lone_mark, several_marks, two}
use Rattle.trace_svg.proofs.stacks.put_stack.Goals as goal

pub returns-in-empty : goal.returns-in-empty
returns-in-empty g c = no_stack c.args.window c.args.stack.now (string_bytes c.args.text.now) c.in-empty.len_below

pub returns-in-len1 : goal.returns-in-len1
returns-in-len1 g c =
    subst (λ (t : List ℕ). OnOk c.put_mark.result (string_bytes c.put_mark.new.text ≡ string_bytes c.args.text.now ++ t))
    (ap (line_mark c.args.window) c.line-item.is ∙ lone_mark c.args.window c.args.stack.now c.line-item.result c.in-len1.len_at_least c.in-len1.len_below) c.put_mark.ensures

pub returns-in_ok-put_each_mark-in-len1-up : goal.returns-in_ok-put_each_mark-in-len1-up
returns-in_ok-put_each_mark-in-len1-up g c =
    let stack = c.args.stack.now in
    let window = c.args.window in
    let below : List ℕ = flat_map (line_mark window) (take (length stack - 1) stack) in
    let top = λ (line : Line). telling_mark window (flat_map line_text stack) line ++ stack_label window stack in
    subst (λ (t : List ℕ). OnOk c.put_top.result (string_bytes c.put_top.new.text ≡ string_bytes c.args.text.now ++ t))
    (ap (λ (line : Line). below ++ top line) c.top-item.is ∙ several_marks window stack c.top-item.result c.in-len1-up.len_at_least)
    (two c.put_top.result (string_bytes c.args.text.now) (string_bytes c.put_each_mark.new.text) (string_bytes c.put_top.new.text) below (top c.top-item.result)
    c.in_ok-put_each_mark-in-len1-up.ensures c.put_top.ensures)

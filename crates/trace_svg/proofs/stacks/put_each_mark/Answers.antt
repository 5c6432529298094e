use Rattle.std.proofs.Common.{◌+◌, ◌++◌, drop, string_bytes, sym, ap, ◌∙◌, append_assoc}
use Rattle.std.specs.Prelude.{flat_map}
use Rattle.std.proofs.lemmas.List.{drop_more}
use Rattle.trace_svg.specs.Runs.{line_mark}
use Rattle.trace_svg.proofs.stacks.put_each_mark.Goals as goal

pub loop-line-preserved : goal.loop-line-preserved
loop-line-preserved g c =
    let lines = c.args.lines.now in
    let i = c.loop-line.line-index in
    let line = c.line-item.result in
    let mark = line_mark c.args.window in
    let rest = flat_map mark (drop (i + 1) lines) in
    let here = ap (λ l. mark l ++ rest) c.line-item.is ∙ sym (ap (flat_map mark) (drop_more lines i line c.loop-line-test.true)) in
    ap (λ l. l ++ rest) c.in_ok-put_mark.ensures ∙ append_assoc (string_bytes c.loop-line.text) (mark line) rest
    ∙ ap (λ l. string_bytes c.loop-line.text ++ l) here ∙ c.loop-line.invariant

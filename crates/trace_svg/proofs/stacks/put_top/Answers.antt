use Rattle.std.proofs.Common.{◌≡◌, ◌++◌, string_bytes, ap, ◌∙◌}
use Rattle.std.specs.Prelude.{flat_map}
use Rattle.trace_text.specs.Spelling.{line_text}
use Rattle.trace_svg.specs.Runs.{telling_mark}
use Rattle.trace_svg.specs.Stacks.{stack_label}
use Rattle.trace_svg.proofs.Several.{two}
use Rattle.trace_svg.proofs.stacks.put_top.Goals as goal

pub returns : goal.returns
returns g c =
    let tip : c.deref.result.now ≡ flat_map line_text c.args.stack.now = c.deref.ensures ∙ c.in_ok-tip.ensures in
    two c.put_number.result (string_bytes c.args.text.now) (string_bytes c.put_telling_mark.new.text) (string_bytes c.put_number.new.text)
    (telling_mark c.args.window (flat_map line_text c.args.stack.now) c.args.top) (stack_label c.args.window c.args.stack.now)
    (c.in_ok-put_telling_mark.ensures ∙ ap (λ t. string_bytes c.args.text.now ++ telling_mark c.args.window t c.args.top) tip)
    c.put_number.ensures

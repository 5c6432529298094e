use Rattle.std.proofs.Common.{◌≡◌, ◌∷◌, string_bytes, sym, ap₂, ◌∙◌}
use Rattle.trace_svg.specs.Groups.{groups_of}
use Rattle.trace_svg.specs.Stacks.{stack_text, stands_on}
use Rattle.trace_svg.proofs.Groups.{one_written}
use Rattle.trace_svg.proofs.stacks.put_stacks.Goals as goal

pub loop-rest-preserved : goal.loop-rest-preserved
loop-rest-preserved g c =
    let joins = stands_on c.args.window in
    let cut : groups_of joins c.loop-rest.rest.now ≡ c.split_at.result.0.now ∷ groups_of joins c.split_at.result.1.now =
    c.stack_len.ensures.stack ∙ ap₂ (λ front behind. front ∷ groups_of joins behind) (sym c.split_at.ensures.front) (sym c.split_at.ensures.back) in
    one_written joins (stack_text c.args.window) (string_bytes c.loop-rest.text) (string_bytes c.put_stack.new.text) _
    c.loop-rest.rest.now c.split_at.result.0.now c.split_at.result.1.now cut c.in_ok-put_stack.ensures c.loop-rest.invariant

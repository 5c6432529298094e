use Rattle.std.proofs.Common.{◌≡◌, ◌<◌, ◌^◌, true, Some, length, slice_index_or, refl, sym, ap, ◌∙◌, rules}
use Rattle.std.proofs.lemmas.Option.{slice_get_read}
use Rattle.executor_model.specs.declared.types.Line.{Line}
use Rattle.call_lines.specs.Narrow.{is_narrow}
use Rattle.call_lines.proofs.Spelled.{line_there, narrow_there}
use Rattle.call_lines.proofs.lines.end_line_at.Goals as goal

pub overflow_cast-message : goal.overflow_cast-message
overflow_cast-message c =
    let ended = c.args.ended.now in let place = c.args.place in let task = c.in-Some.task.now in
    let within : place < length ended = search rules in
    let is : task ≡ slice_index_or ended place task = search rules in
    let narrow : is_narrow task.number ≡ true = narrow_there c.args.moment ended place task c.requires (slice_get_read ended (length ended) place task refl within is) in
    let small : task.number < 2 ^ 32 = search rules in
    search rules

pub returns : goal.returns
returns c =
    let ended = c.args.ended.now in let place = c.args.place in let task = c.in-Some.task.now in
    let within : place < length ended = search rules in
    let is : task ≡ slice_index_or ended place task = search rules in
    ap (λ (line : Line). Some line) c.new.ensures ∙ sym (line_there c.args.moment ended place task (slice_get_read ended (length ended) place task refl within is))

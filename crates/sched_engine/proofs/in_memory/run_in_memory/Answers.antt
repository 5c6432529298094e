use Rattle.std.proofs.Common.{ap, ◌∙◌}
use Rattle.sched_engine.proofs.InMemory.{in_memory}
use Rattle.sched_engine.proofs.in_memory.run_in_memory.Goals as goal

pub returns : goal.returns
returns g c =
    let reader = c.new-reader.result in
    let writer = c.new-writer.result in
    let after = c.run-answer.new in
    in_memory c.run-answer.result c.args.plan_text.now c.args.workers c.args.limit c.args.input.now after.reader.left c.into_inner.result.items reader.left writer.end.items after.writer.end.items c.run-answer.ensures.read
    (ap (λ s. s.left) c.new-reader.ensures) (ap (λ w. w.end.items) c.new-writer.ensures ∙ c.new.ensures.items) (ap (λ v. v.items) c.into_inner.ensures) c.run-answer.ensures.ran

use Rattle.std.proofs.Common.{rules, ◌≡◌}
use Rattle.trace_svg.specs.declared.report.Drawn.TheVariants as drawn
use Rattle.command_work.proofs.Drawings.{drawn_as_refused, drawn_as_told}
use Rattle.command_work.proofs.drawing.write_drawing.Goals as goal

pub returns-in-Ok-Breaks-clause-drawn : goal.returns-in-Ok-Breaks-clause-drawn
returns-in-Ok-Breaks-clause-drawn g c =
    let is : c.in-Ok-Breaks.field-0 ≡ drawn.Breaks c.in-Ok-Breaks.line = search rules in
    let draws = rw is at c.in-Ok-Breaks.ensures.draws in
    drawn_as_told c.tell_finding.result c.args.plan.now c.args.asked.now.check.workers c.args.trace.now c.args.asked.now.view c.in-Ok-Breaks.line
    (g.W.Sink.contents c.args.writer.now) (g.W.Sink.contents c.draw.new.writer) (g.W.Sink.contents c.tell_finding.new.writer) draws.0 draws.1 c.tell_finding.ensures.told

pub returns-in-Err-clause-drawn : goal.returns-in-Err-clause-drawn
returns-in-Err-clause-drawn g c =
    rw c.from.ensures (drawn_as_refused c.in-Err.fault c.args.plan.now c.args.asked.now.check.workers c.args.trace.now c.args.asked.now.view _ _ c.in-Err.ensures.draws)

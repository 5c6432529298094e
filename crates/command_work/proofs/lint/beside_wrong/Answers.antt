use Rattle.command_work.specs.Fronts.{IsReadOf}
use Rattle.command_work.proofs.Lints.{beside_events, beside_trace}
use Rattle.command_work.proofs.lint.beside_wrong.Goals as goal

pub returns-in-Events-clause-finds : goal.returns-in-Events-clause-finds
returns-in-Events-clause-finds g c =
    beside_events (IsReadOf g.P.Source.remaining g.P.Source.failed g.P.Source.fruitless) _ c.args.beside c.in-Events.name c.open_file.result c.args.plan.now c.events_wrong.result c.in-Events.is c.open_file.ensures c.events_wrong.ensures.finds

pub returns-clause-finds : goal.returns-clause-finds
returns-clause-finds g c =
    beside_trace (IsReadOf g.P.Source.remaining g.P.Source.failed g.P.Source.fruitless) _ c.args.beside c.in-Trace.name c.in-Trace.workers c.open_file-in-Trace.result c.args.plan.now c.trace_wrong.result c.in-Trace.is c.open_file-in-Trace.ensures c.trace_wrong.ensures.finds

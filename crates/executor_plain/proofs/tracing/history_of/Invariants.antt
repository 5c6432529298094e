use Rattle.std.proofs.Common.{◌≡◌, take}
use Rattle.std.specs.Prelude.{reverse}
use Rattle.executor_model.specs.Flows.{history_of}
use Rattle.executor_plain.proofs.tracing.history_of.Given as goal

abbrev pub invariant-loop-event : goal.invariant-loop-event
invariant-loop-event g l = l.past.items ≡ history_of l.calls l.workers (reverse (take l.event-index l.events))

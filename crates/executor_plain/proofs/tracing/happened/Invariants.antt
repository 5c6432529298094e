use Rattle.std.proofs.Common.{◌≡◌, [], take}
use Rattle.std.specs.Prelude.{reverse}
use Rattle.executor_model.specs.Flows.{history_from}
use Rattle.executor_plain.proofs.tracing.happened.Given as goal

abbrev pub invariant-loop-happening : goal.invariant-loop-happening
invariant-loop-happening g l = l.past.items ≡ history_from l.calls l.workers [] (reverse (take l.happening-index l.happenings))

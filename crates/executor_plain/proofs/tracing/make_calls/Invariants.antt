use Rattle.std.proofs.Common.{◌≡◌}
use Rattle.std.specs.Prelude.{replicate}
use Rattle.executor_model.specs.declared.types.Happening.TheVariants as h
use Rattle.executor_model.specs.Flows.{history_from}
use Rattle.executor_plain.proofs.tracing.make_calls.Given as goal

abbrev pub invariant-loop-made : goal.invariant-loop-made
invariant-loop-made g l = l.past.items ≡ history_from l.calls l.workers l.fn.past.items (replicate l._made h.Call)

use Rattle.std.proofs.Common.{◌≡◌, ◌≤◌, drop}
use Rattle.plan_read.specs.Plans.{tasks_after_calls}
use Rattle.plan_compile.proofs.emitting.tasks_of.Given as goal

abbrev pub invariant-loop-call : goal.invariant-loop-call
invariant-loop-call l = record {
  few : l.task ≤ l.call-index;
  counted : tasks_after_calls l.task (drop l.call-index l.calls) ≡ tasks_after_calls 0 l.calls;
}

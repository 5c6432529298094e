use Rattle.std.proofs.Common.{◌≡◌, ◌+◌, ◌≤◌, drop}
use Rattle.call_journal.specs.Plans.{tasks_after}
use Rattle.call_journal.proofs.calls.tasks_after.Given as goal

abbrev pub invariant-loop-made : goal.invariant-loop-made
invariant-loop-made l = record {
  few : l.task ≤ l.first + l.made-index;
  counted : tasks_after l.task (drop l.made-index l.calls) ≡ tasks_after l.first l.calls;
}

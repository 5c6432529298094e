use Rattle.std.proofs.Common.{◌≡◌, ◌+◌, ◌≤◌, length}
use Rattle.queue_code.specs.Calls.{most_calls_of_code}
use Rattle.plan_compile.specs.Submissions.{submitted_from}
use Rattle.plan_compile.proofs.submissions.SubmissionsIterator.next.Given as goal

-- the same submissions are left
abbrev pub invariant-loop-moment : goal.invariant-loop-moment
invariant-loop-moment g l = record {
  same : submitted_from l.self-inside.task l.self-inside.place ≡ l.fn.self;
  few : l.self-inside.task + length (submitted_from l.self-inside.task l.self-inside.place) ≤ most_calls_of_code;
}

abbrev pub decreases-loop-moment : goal.decreases-loop-moment
decreases-loop-moment g l = length l.self-inside.place

use Rattle.std.proofs.Common.{◌≡◌, ◌++◌, length}
use Rattle.queue_code.specs.Codes.{calls_of}
use Rattle.queue_code.specs.Cursors.{IsCursorOf, calls_left}
use Rattle.executor_plain.proofs.calls.planned_calls.Given as goal

-- the calls so far, and those that are left to the cursor, are those of the code
abbrev pub invariant-loop-planned : goal.invariant-loop-planned
invariant-loop-planned g l = record {
  cursor : IsCursorOf l.code l.cursor;
  all : l.calls.items ++ calls_left l.code l.cursor ≡ calls_of l.code;
}

abbrev pub decreases-loop-planned : goal.decreases-loop-planned
decreases-loop-planned g l = length (calls_left l.code l.cursor)

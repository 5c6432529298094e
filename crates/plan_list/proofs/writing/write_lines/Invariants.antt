use Rattle.std.proofs.Common.{◌≡◌, List, ℕ, [], ◌++◌}
use Rattle.std.specs.Prelude.{flat_map}
use Rattle.byte_ends.specs.Ends.{AllGood}
use Rattle.sched_engine.specs.Pieces.{Gives}
use Rattle.plan_list.specs.Lines.{submission_line, tasks_text}
use Rattle.plan_list.proofs.writing.write_lines.Given as goal

-- a front of the lines was given out, all of whose tries were good, and the others are those of the submissions that are left
abbrev pub invariant-loop-submission : goal.invariant-loop-submission
invariant-loop-submission g l = record {
  given : (so_far : List ℕ) × Gives (record { contents = g.W.Sink.contents l.fn.writer; text = [] }) (record { contents = g.W.Sink.contents l.writer; text = l.page }) so_far
      × (tasks_text l.plan ≡ so_far ++ flat_map submission_line l.submissions);
  counts : AllGood (g.W.Sink.failed l.fn.writer) (g.W.Sink.fruitless l.fn.writer) (g.W.Sink.failed l.writer) (g.W.Sink.fruitless l.writer);
  next : (goal.iterator-loop-submission g).can_next l.submissions;
  finite : (goal.iterator-loop-submission g).is_finite l.submissions;
}

use Rattle.std.proofs.Common.{◌≡◌, ◌+◌, ◌-◌, ◌≤◌, ◌++◌, List, [], length}
use Rattle.std.specs.Prelude.{vec_capacity}
use Rattle.executor_model.specs.declared.Happening.{Happening}
use Rattle.executor_core.specs.CoreView.{IsCounted, room_of}
use Rattle.executor_core.proofs.Parts.{part_from}
use Rattle.byte_ends.specs.Ends.{AllGood}
use Rattle.sched_engine.specs.own.Turns.{GivesSteps}
use Rattle.sched_engine.proofs.one_event.answer_event.Given as goal

-- the lines of the calls so far were given out, the rest of the event's part is left, and each try was good
abbrev pub invariant-loop-core : goal.invariant-loop-core
invariant-loop-core g l = record {
  clear : l.lines.items ≡ [];
  capacity : vec_capacity l.lines ≡ vec_capacity l.fn.lines;
  taken : l.core.taken ≡ l.initial.core.taken;
  counted : IsCounted l.core;
  room : l.count + room_of l.core ≤ room_of l.fn.core;
  steps : (hs : List Happening) × GivesSteps l.fn.core l.core hs (record { contents = g.W.Sink.contents l.fn.writer; text = l.fn.draft }) (record { contents = g.W.Sink.contents l.writer; text = l.draft }) l.count
      × (part_from l.fn.core l.fn.event ≡ part_from l.core l.fn.event ++ hs);
  counts : AllGood (g.W.Sink.failed l.fn.writer) (g.W.Sink.fruitless l.fn.writer) (g.W.Sink.failed l.writer) (g.W.Sink.fruitless l.writer);
}

abbrev pub decreases-loop-core : goal.decreases-loop-core
decreases-loop-core g l = length l.core.calls - l.core.made

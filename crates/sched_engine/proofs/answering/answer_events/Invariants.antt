use Rattle.std.proofs.Common.{◌≡◌, ◌-◌, ◌≤◌, ◌⊎◌, drop, length}
use Rattle.std.specs.Prelude.{vec_capacity}
use Rattle.byte_ends.specs.Ends.{AllGood}
use Rattle.sched_engine.specs.own.Turns.{IsAnswered, WantsRoom}
use Rattle.sched_engine.proofs.answering.answer_events.Given as goal

-- the events in front of `rest` were answered, there is no less room for lines than there was, and each try was good
abbrev pub invariant-loop-event : goal.invariant-loop-event
invariant-loop-event g l = record {
  answered : IsAnswered l.fn.core l.core l.held (length l.held - length l.rest) (record { contents = g.W.Sink.contents l.fn.writer; text = l.fn.draft }) (record { contents = g.W.Sink.contents l.writer; text = l.draft }) l.count;
  behind : l.rest ≡ drop (length l.held - length l.rest) l.held;
  bound : length l.rest ≤ length l.held;
  within : l.core.taken ≤ l.core.limit;
  capacity : (vec_capacity l.lines ≡ vec_capacity l.fn.lines) ⊎ WantsRoom l.fn.core l.held (record { contents = g.W.Sink.contents l.fn.writer; text = l.fn.draft }) (vec_capacity l.fn.lines);
  counts : AllGood (g.W.Sink.failed l.fn.writer) (g.W.Sink.fruitless l.fn.writer) (g.W.Sink.failed l.writer) (g.W.Sink.fruitless l.writer);
}

abbrev pub decreases-loop-event : goal.decreases-loop-event
decreases-loop-event g l = length l.rest

use Rattle.std.proofs.Common.{◌+◌, ◌-◌, ◌*◌, length}
use Rattle.trace_text.specs.Reading.{IsPart, most_event_bytes}
use Rattle.byte_ends.specs.Ends.{AllGood}
use Rattle.pool_engine.specs.own.ClockLines.{HasRead}
use Rattle.pool_engine.proofs.clocks.read_clocks.Given as goal

-- all that was read is the lines of the clocks, and a part of one line; and each try was good
abbrev pub invariant-loop-held : goal.invariant-loop-held
invariant-loop-held g l = record {
  read : HasRead l.limit (g.S.Source.remaining l.fn.reader) (g.S.Source.remaining l.reader) l.held l.moments.items;
  part : IsPart l.held;
  counts : AllGood (g.S.Source.failed l.fn.reader) (g.S.Source.fruitless l.fn.reader) (g.S.Source.failed l.reader) (g.S.Source.fruitless l.reader);
}

-- each turn brings a clock or a byte more of a line
abbrev pub decreases-loop-held : goal.decreases-loop-held
decreases-loop-held g l = (l.limit - length l.moments.items) * (most_event_bytes + 1) + (most_event_bytes - length l.held)

use Rattle.std.proofs.Common.{◌≡◌, ◌-◌, ◌≤◌, ℕ, List, Option, drop, length}
use Rattle.byte_ends.specs.Ends.{AllGood}
use Rattle.live_engine.specs.declared.live_line.LiveLine.{LiveLine}
use Rattle.live_engine.specs.LiveLines.{most_numbers}
use Rattle.live_engine.specs.own.LiveTurns.{AreCounted, DoneAt, Setting}
use Rattle.live_engine.proofs.answering.answer_lines.Given as goal

-- the lines in front of `rest` were taken and answered, and each try was good
abbrev pub invariant-loop-next : goal.invariant-loop-next
invariant-loop-next g l = record {
  done : (run : Setting) (left : Option (List ℕ)) (taken : List LiveLine)
      → DoneAt run (record { ends = record { left = left; contents = g.W.Sink.contents l.fn.writer; journal = l.fn.journal }; held = l.held; text = l.fn.draft; counts = l.fn.counts }) l.fn.executor taken
      → (more : List LiveLine) × DoneAt run (record { ends = record { left = left; contents = g.W.Sink.contents l.writer; journal = l.journal }; held = l.rest; text = l.draft; counts = l.counts }) l.executor more;
  behind : l.rest ≡ drop (length l.held - length l.rest) l.held;
  bound : length l.rest ≤ length l.held;
  few : l.executor.count ≤ most_numbers;
  counted : AreCounted l.counts;
  rises : l.fn.counts.read ≤ l.counts.read;
  same : l.counts.read ≡ l.fn.counts.read → l.rest ≡ l.held;
  tries : AllGood (g.W.Sink.failed l.fn.writer) (g.W.Sink.fruitless l.fn.writer) (g.W.Sink.failed l.writer) (g.W.Sink.fruitless l.writer);
}

abbrev pub decreases-loop-next : goal.decreases-loop-next
decreases-loop-next g l = length l.rest

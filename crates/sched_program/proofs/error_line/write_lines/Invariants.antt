use Rattle.std.proofs.Common.{take}
use Rattle.std.specs.List.{flat_map}
use Rattle.std.specs.Io.KnownBytes.{Appends}
use Rattle.byte_ends.specs.Ends.{AllGood}
use Rattle.command_work.specs.RefusalTexts.{text_of}
use Rattle.sched_program.proofs.error_line.write_lines.Given as goal

-- the lines up to here were written, and each try was good
abbrev pub invariant-loop-line : goal.invariant-loop-line
invariant-loop-line g l = record {
  written : Appends (g.W.Sink.contents l.initial.faults) (g.W.Sink.contents l.faults) (flat_map text_of (take l.line-index l.lines));
  counts : AllGood (g.W.Sink.failed l.initial.faults) (g.W.Sink.fruitless l.initial.faults) (g.W.Sink.failed l.faults) (g.W.Sink.fruitless l.faults);
}

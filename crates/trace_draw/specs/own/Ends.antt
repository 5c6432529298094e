-- The finishes behind a line, by worker.
use Rattle.std.specs.Prelude.{◌≡◌, ℕ, ◌<◌, List, Option, None, slice_index_or}
use Rattle.executor_model.specs.declared.types.Line.{Line}
use Rattle.trace_draw.specs.declared.bars.Finish.{Finish}
use Rattle.trace_draw.specs.Bars.{finish_of}

-- how many workers a line can name
abbrev pub most_named : ℕ
most_named = 256

-- a table tells the first finish of each worker in these lines
abbrev pub TellEnds : List (Option Finish) → List Line → Type 0
TellEnds finishes later = (w : ℕ) → w < most_named → slice_index_or finishes w None ≡ finish_of w later

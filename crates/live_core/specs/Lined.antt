-- The lines of what happened last, as a trace has them.
-- All of it is this project's rule.
use Rattle.std.specs.Prelude.{◌≡◌, ◌^◌, nat_lt, Bool, true, false, List}
use Rattle.std.specs.List.{list_all}
use Rattle.task_table.specs.declared.seat.TaskRef.{TaskRef}
use Rattle.live_core.specs.declared.error.LinesError.{LinesError}
use Rattle.live_core.specs.declared.error.LinesError.TheVariants as le

-- a line can spell the number of a task: it has 32 bits
abbrev pub is_spelled : TaskRef → Bool
is_spelled t = nat_lt t.number (2 ^ 32)

-- lines can spell the numbers of all of them
abbrev pub are_spelled : List TaskRef → Bool
are_spelled tasks = list_all is_spelled tasks

-- why no lines are added where these tasks were ended: a line can not spell the number of one, or else memory was refused
abbrev pub IsLinesError : List TaskRef → LinesError → Type 0
IsLinesError ended le.Number = are_spelled ended ≡ false
IsLinesError ended le.Memory = are_spelled ended ≡ true

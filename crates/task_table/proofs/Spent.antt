-- A run may be under way where a number is left for the one after it.
use Rattle.std.proofs.Common.{◌+◌, ◌^◌}
use Rattle.std.specs.Prelude.{nat_lt}
use Rattle.std.proofs.lemmas.Bool.{lt-ltb}
use Rattle.task_table.specs.Tables.{TableView}
use Rattle.task_table.specs.Runs.{MayRun}

-- of a table whose slots hold whole tasks
pub may_run : (m : TableView) → MayRun (λ run. nat_lt (run + 1) (2 ^ 64)) m
may_run m i x first more = lt-ltb (x.run + 1) (2 ^ 64) more

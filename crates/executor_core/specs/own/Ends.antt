-- Beside `specs/Foresight`: what only contracts within this crate cite. It is this project's rule.
use Rattle.std.specs.Prelude.{Option, Some, None}
use Rattle.executor_model.specs.declared.types.Need.{Need}
use Rattle.executor_model.specs.declared.types.Need.TheVariants as n
use Rattle.executor_core.specs.declared.foreseen.RunEnd.{RunEnd}
use Rattle.task_table.specs.declared.answers.RunEnd.{RunEnd as TableEnd}
use Rattle.executor_model.specs.Needs.{need_of_finish}

-- what the end of a run moves of the words
abbrev pub need_of_end : Option RunEnd → Need
need_of_end None = n.Nothing
need_of_end (Some end) = need_of_finish end.task end.outcome

-- the end of a run as a table of tasks is told it: the slot of a task has its number
abbrev pub table_end : RunEnd → TableEnd
table_end end = record { task = record { number = end.task; slot = end.task }; run = end.run; due = end.due; outcome = end.outcome }

-- Runs with the data of their tasks. No contract of a public call cites it.
-- All of it is this project's rule.
use Rattle.std.specs.Prelude.{ℕ, Option}
use Rattle.std.specs.Option.{option_map}
use Rattle.task_table.specs.declared.answers.Begun.{Begun}
use Rattle.task_table.specs.declared.answers.Ended.{Ended}
use Rattle.timers.specs.declared.answers.Run.{Run}
use Rattle.timers.specs.declared.answers.Finished.{Finished}

-- a run that is begun, or none, with these data
abbrev pub run_of : Option Begun → ℕ → Option Run
run_of begun user_data = option_map (λ b. record { task = b.task; run = b.run; due = b.due; user_data = user_data }) begun

-- a run that has ended, with these data
abbrev pub finished_of : Ended → ℕ → Finished
finished_of e user_data = record { task = e.task; run = e.run; outcome = e.outcome; user_data = user_data }

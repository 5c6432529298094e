-- The lines of the last call, by what a caller notes of it. (This project's rule.)
use Rattle.std.specs.Prelude.{ℕ, List, [], ◌++◌}
use Rattle.executor_model.specs.declared.types.Answer.{Answer}
use Rattle.executor_model.specs.declared.types.Answer.TheVariants as a
use Rattle.executor_model.specs.declared.types.Line.{Line}
use Rattle.executor_model.specs.declared.types.Refusal.TheVariants as refusal
use Rattle.executor_model.specs.Answers.{bare}
use Rattle.executor_model.specs.Flows.{lines_at}
use Rattle.task_table.specs.declared.seat.TaskRef.{TaskRef}
use Rattle.live_core.specs.Said.{ending}
use Rattle.live_core.specs.Shutting.{shutdown_answer}
use Rattle.call_lines.specs.declared.last.Last.{Last}
use Rattle.call_lines.specs.declared.last.Last.TheVariants as last
use Rattle.call_lines.specs.declared.said.Said.{Said}
use Rattle.call_lines.specs.declared.said.Said.TheVariants as said

-- what a call was answered, as the lines of a trace have it
abbrev pub answer_of : Said → Answer
answer_of (said.Submit kind task due) = a.Submit task kind due
answer_of (said.Reject task) = a.Refuse task refusal.Rejected
answer_of (said.Outside effect task) = a.Outside task effect
answer_of said.Purge = a.Purge
answer_of (said.Policy which value) = a.Policy which value
answer_of (said.Shutdown first) = shutdown_answer first
answer_of said.ShutdownNow = a.ShutdownNow
answer_of (said.Ask asked) = a.Ask asked.queue asked.running asked.shutdown asked.terminated
answer_of (said.Start worker task run due) = a.Start worker task run due
answer_of (said.Idle worker) = a.Idle worker
answer_of (said.Finish worker task run outcome) = a.Finish worker task run outcome

-- the line of the answer, and those of the tasks that the call ended
abbrev pub said_lines : Said → ℕ → List TaskRef → List Line
said_lines s moment ended = lines_at moment (ending (answer_of s) ended)

-- the lines of the last call, where it is this moment now, and these are the tasks that it ended
abbrev pub lines_of_last : Last → ℕ → List TaskRef → List Line
lines_of_last last.Nothing moment ended = []
lines_of_last (last.Clock shown) moment ended = lines_at shown (bare a.Clock)
lines_of_last (last.Call s) moment ended = said_lines s moment ended
lines_of_last (last.Event shown s) moment ended = lines_at shown (bare a.Clock) ++ said_lines s moment ended

-- What a line says, without nesting, and the message that it is.
-- All of it is this project's rule.
use Rattle.executor_model.specs.declared.types.Answer.TheVariants as answer
use Rattle.executor_model.specs.declared.types.Outcome.TheVariants as outcome
use Rattle.executor_model.specs.declared.types.Message.{Message}
use Rattle.executor_model.specs.declared.types.Message.TheVariants as m
use Rattle.executor_model.specs.declared.said.Said.{Said}
use Rattle.executor_model.specs.declared.said.Said.TheVariants as s

-- the message of what is said
abbrev pub message_of : Said → Message
message_of (s.Submit kind task due) = m.Answer (answer.Submit task kind due)
message_of (s.Refuse refusal task) = m.Answer (answer.Refuse task refusal)
message_of (s.Cancel effect task) = m.Answer (answer.Cancel task effect)
message_of (s.Outside effect task) = m.Answer (answer.Outside task effect)
message_of s.Purge = m.Answer answer.Purge
message_of (s.Policy which value) = m.Answer (answer.Policy which value)
message_of s.Shutdown = m.Answer answer.Shutdown
message_of s.ShutdownAgain = m.Answer answer.ShutdownAgain
message_of s.ShutdownNow = m.Answer answer.ShutdownNow
message_of (s.Ask shutdown terminated queue running) = m.Answer (answer.Ask queue running shutdown terminated)
message_of s.Clock = m.Answer answer.Clock
message_of (s.Start worker task run due) = m.Answer (answer.Start worker task run due)
message_of (s.Idle worker) = m.Answer (answer.Idle worker)
message_of (s.Done worker task run value) = m.Answer (answer.Finish worker task run (outcome.Done value))
message_of (s.Failed worker task run code) = m.Answer (answer.Finish worker task run (outcome.Failed code))
message_of (s.Again worker task run due) = m.Answer (answer.Finish worker task run (outcome.Again due))
message_of (s.Dropped worker task run) = m.Answer (answer.Finish worker task run outcome.Dropped)
message_of (s.Ended worker task run) = m.Answer (answer.Finish worker task run outcome.Ended)
message_of (s.Error error) = m.Answer (answer.Error error)
message_of (s.End task) = m.End task

-- what a message says
abbrev pub said_of : Message → Said
said_of (m.Answer (answer.Submit task kind due)) = s.Submit kind task due
said_of (m.Answer (answer.Refuse task refusal)) = s.Refuse refusal task
said_of (m.Answer (answer.Cancel task effect)) = s.Cancel effect task
said_of (m.Answer (answer.Outside task effect)) = s.Outside effect task
said_of (m.Answer answer.Purge) = s.Purge
said_of (m.Answer (answer.Policy which value)) = s.Policy which value
said_of (m.Answer answer.Shutdown) = s.Shutdown
said_of (m.Answer answer.ShutdownAgain) = s.ShutdownAgain
said_of (m.Answer answer.ShutdownNow) = s.ShutdownNow
said_of (m.Answer (answer.Ask queue running shutdown terminated)) = s.Ask shutdown terminated queue running
said_of (m.Answer answer.Clock) = s.Clock
said_of (m.Answer (answer.Start worker task run due)) = s.Start worker task run due
said_of (m.Answer (answer.Idle worker)) = s.Idle worker
said_of (m.Answer (answer.Finish worker task run (outcome.Done value))) = s.Done worker task run value
said_of (m.Answer (answer.Finish worker task run (outcome.Failed code))) = s.Failed worker task run code
said_of (m.Answer (answer.Finish worker task run (outcome.Again due))) = s.Again worker task run due
said_of (m.Answer (answer.Finish worker task run outcome.Dropped)) = s.Dropped worker task run
said_of (m.Answer (answer.Finish worker task run outcome.Ended)) = s.Ended worker task run
said_of (m.Answer (answer.Error error)) = s.Error error
said_of (m.End task) = s.End task

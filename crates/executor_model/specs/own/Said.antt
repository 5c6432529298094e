-- That what a line says and its message tell of each other.
-- All of it is this project's rule.
use Rattle.std.specs.Prelude.{◌≡◌, refl}
use Rattle.executor_model.specs.declared.types.Answer.TheVariants as answer
use Rattle.executor_model.specs.declared.types.Outcome.TheVariants as outcome
use Rattle.executor_model.specs.declared.types.Message.{Message}
use Rattle.executor_model.specs.declared.types.Message.TheVariants as m
use Rattle.executor_model.specs.declared.said.Said.{Said}
use Rattle.executor_model.specs.declared.said.Said.TheVariants as s
use Rattle.executor_model.specs.Said.{message_of, said_of}

-- the message that something says, says just that
pub said_of_message : {X : Type 0} (f : Said → X) (said : Said) → f (said_of (message_of said)) ≡ f said
said_of_message f (s.Submit kind task due) = refl
said_of_message f (s.Refuse refusal task) = refl
said_of_message f (s.Cancel effect task) = refl
said_of_message f (s.Outside effect task) = refl
said_of_message f s.Purge = refl
said_of_message f (s.Policy which value) = refl
said_of_message f s.Shutdown = refl
said_of_message f s.ShutdownAgain = refl
said_of_message f s.ShutdownNow = refl
said_of_message f (s.Ask shutdown terminated queue running) = refl
said_of_message f s.Clock = refl
said_of_message f (s.Start worker task run due) = refl
said_of_message f (s.Idle worker) = refl
said_of_message f (s.Done worker task run value) = refl
said_of_message f (s.Failed worker task run code) = refl
said_of_message f (s.Again worker task run due) = refl
said_of_message f (s.Dropped worker task run) = refl
said_of_message f (s.Ended worker task run) = refl
said_of_message f (s.Error error) = refl
said_of_message f (s.End task) = refl

-- and what a message says, is that message
pub message_of_said : (message : Message) → message_of (said_of message) ≡ message
message_of_said (m.Answer (answer.Submit task kind due)) = refl
message_of_said (m.Answer (answer.Refuse task refusal)) = refl
message_of_said (m.Answer (answer.Cancel task effect)) = refl
message_of_said (m.Answer (answer.Outside task effect)) = refl
message_of_said (m.Answer answer.Purge) = refl
message_of_said (m.Answer (answer.Policy which value)) = refl
message_of_said (m.Answer answer.Shutdown) = refl
message_of_said (m.Answer answer.ShutdownAgain) = refl
message_of_said (m.Answer answer.ShutdownNow) = refl
message_of_said (m.Answer (answer.Ask queue running shutdown terminated)) = refl
message_of_said (m.Answer answer.Clock) = refl
message_of_said (m.Answer (answer.Start worker task run due)) = refl
message_of_said (m.Answer (answer.Idle worker)) = refl
message_of_said (m.Answer (answer.Finish worker task run (outcome.Done value))) = refl
message_of_said (m.Answer (answer.Finish worker task run (outcome.Failed code))) = refl
message_of_said (m.Answer (answer.Finish worker task run (outcome.Again due))) = refl
message_of_said (m.Answer (answer.Finish worker task run outcome.Dropped)) = refl
message_of_said (m.Answer (answer.Finish worker task run outcome.Ended)) = refl
message_of_said (m.Answer (answer.Error error)) = refl
message_of_said (m.End task) = refl

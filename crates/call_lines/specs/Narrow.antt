-- Which numbers a line has room for.
-- All of it is this project's rule.
use Rattle.std.specs.Prelude.{ℕ, ◌^◌, ◌&&◌, nat_lt, Bool, true, List}
use Rattle.std.specs.List.{list_all}
use Rattle.executor_model.specs.declared.types.Answer.{Answer}
use Rattle.executor_model.specs.declared.types.Answer.TheVariants as a
use Rattle.executor_model.specs.declared.types.Line.{Line}
use Rattle.executor_model.specs.declared.types.Message.{Message}
use Rattle.executor_model.specs.declared.types.Message.TheVariants as m

-- a line has room for a number: it has 32 bits
abbrev pub is_narrow : ℕ → Bool
is_narrow number = nat_lt number (2 ^ 32)

-- a line can tell an answer: it has room for the number of its task, and for its counts
abbrev pub is_told : Answer → Bool
is_told (a.Submit task kind due) = is_narrow task
is_told (a.Refuse task refusal) = is_narrow task
is_told (a.Cancel task effect) = is_narrow task
is_told (a.Outside task effect) = is_narrow task
is_told (a.Ask queue running shutdown terminated) = is_narrow queue && is_narrow running
is_told (a.Start worker task run due) = is_narrow task
is_told (a.Finish worker task run outcome) = is_narrow task
is_told _ = true

-- the same of a message
abbrev pub is_spelled : Message → Bool
is_spelled (m.Answer answer) = is_told answer
is_spelled (m.End task) = is_narrow task

-- the same of some lines
abbrev pub are_spelled : List Line → Bool
are_spelled lines = list_all (λ line. is_spelled line.message) lines

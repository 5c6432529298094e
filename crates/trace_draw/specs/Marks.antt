-- The lines of a trace that are marks: all but the starts and the finishes of runs, and the purges. All of it is this project's rule.
use Rattle.std.specs.Prelude.{ℕ, ◌&&◌, nat_le, Bool, true, false, List}
use Rattle.std.specs.List.{filter}
use Rattle.executor_model.specs.declared.types.Answer.{Answer}
use Rattle.executor_model.specs.declared.types.Answer.TheVariants as a
use Rattle.executor_model.specs.declared.types.Line.{Line}
use Rattle.executor_model.specs.declared.types.Message.{Message}
use Rattle.executor_model.specs.declared.types.Message.TheVariants as m
use Rattle.trace_draw.specs.declared.window.Window.{Window}

-- an answer starts no run, finishes none, and is none to a purge
abbrev pub is_mark_by : Answer → Bool
is_mark_by (a.Start worker task run due) = false
is_mark_by (a.Finish worker task run outcome) = false
is_mark_by a.Purge = false
is_mark_by _ = true

-- what a line says is a mark: no start of a run, no finish, and no purge
abbrev pub is_mark : Message → Bool
is_mark (m.Answer answer) = is_mark_by answer
is_mark (m.End task) = true

-- the marks of lines, in their order
abbrev pub marks_of : List Line → List Line
marks_of lines = filter (λ line. is_mark line.message) lines

-- a window shows a moment
abbrev pub shows : Window → ℕ → Bool
shows window moment = nat_le window.from moment && nat_le moment window.to

-- a window shows a line
abbrev pub shows_line : Window → Line → Bool
shows_line window line = shows window line.moment

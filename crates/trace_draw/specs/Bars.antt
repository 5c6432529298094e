-- The runs in a trace, as bars. The lines stand in the order of the trace, the oldest first. All of it is this project's rule.
use Rattle.std.specs.Prelude.{ℕ, ◌==◌, ◌&&◌, nat_le, Bool, true, if◌then◌else◌, List, [], ◌∷◌, Option, Some, None}
use Rattle.std.specs.Option.{option_or}
use Rattle.std.specs.List.{cons_option}
use Rattle.executor_model.specs.declared.types.Answer.{Answer}
use Rattle.executor_model.specs.declared.types.Answer.TheVariants as a
use Rattle.executor_model.specs.declared.types.Line.{Line}
use Rattle.executor_model.specs.declared.types.Message.{Message}
use Rattle.executor_model.specs.declared.types.Message.TheVariants as m
use Rattle.trace_draw.specs.declared.bars.Bar.{Bar}
use Rattle.trace_draw.specs.declared.bars.Finish.{Finish}
use Rattle.trace_draw.specs.declared.window.Window.{Window}

-- the finish by this worker that an answer tells, given at a moment
abbrev pub finish_by : ℕ → ℕ → Answer → Option Finish
finish_by worker moment (a.Finish w task run outcome) = if w == worker then Some (record { moment = moment; outcome = outcome }) else None
finish_by worker moment _ = None

-- the same of what a line says
abbrev pub finish_in : ℕ → ℕ → Message → Option Finish
finish_in worker moment (m.Answer answer) = finish_by worker moment answer
finish_in worker moment (m.End task) = None

-- the first finish by this worker that lines tell, and none where there is none
abbrev pub finish_of : ℕ → List Line → Option Finish
finish_of worker [] = None
finish_of worker (line ∷ later) = option_or (finish_in worker line.moment line.message) (finish_of worker later)

-- the bar of the run that an answer starts, given at a moment, where these lines stand behind it: to the first finish by its
-- worker
abbrev pub bar_by : ℕ → Answer → List Line → Option Bar
bar_by moment (a.Start w k n d) later = Some (record { worker = w; task = k; run = n; due = d; first = moment; finish = finish_of w later })
bar_by moment _ later = None

-- the same of what a line says
abbrev pub bar_in : ℕ → Message → List Line → Option Bar
bar_in moment (m.Answer answer) later = bar_by moment answer later
bar_in moment (m.End task) later = None

-- the bars of lines: one for each start of a run, in their order
abbrev pub bars_of : List Line → List Bar
bars_of [] = []
bars_of (line ∷ later) = cons_option (bar_in line.moment line.message later) (bars_of later)

-- a run is under way at a moment or later, by its finish: it has none, or one no sooner
abbrev pub lasts_to : ℕ → Option Finish → Bool
lasts_to moment None = true
lasts_to moment (Some finish) = nat_le moment finish.moment

-- a window shows a part of a run: the run starts no later than the window ends, and lasts to its beginning
abbrev pub shows_bar : Window → Bar → Bool
shows_bar window bar = nat_le bar.first window.to && lasts_to window.from bar.finish

-- The representatives of lines: of each line that is an answer, one happening that gets it.
-- Lines and happenings stand the newest first. All of it is this project's rule.
use Rattle.std.specs.Prelude.{◌≡◌, ℕ, ◌+◌, ◌==◌, Bool, true, false, not, if◌then◌else◌, List, [], ◌∷◌, Option, Some}
use Rattle.std.specs.Option.{option_map}
use Rattle.std.specs.List.{range_with_len, find}
use Rattle.sched_time.specs.Times.{longest}
use Rattle.sched_time.specs.declared.timing.Ending.{Ending}
use Rattle.sched_time.specs.declared.timing.Ending.TheVariants as e
use Rattle.executor_model.specs.declared.types.Happening.{Happening}
use Rattle.executor_model.specs.declared.types.Happening.TheVariants as h
use Rattle.executor_model.specs.declared.types.EventError.{EventError}
use Rattle.executor_model.specs.declared.types.EventError.TheVariants as x
use Rattle.executor_model.specs.declared.types.Outcome.{Outcome}
use Rattle.executor_model.specs.declared.types.Outcome.TheVariants as o
use Rattle.executor_model.specs.declared.types.Answer.{Answer}
use Rattle.executor_model.specs.declared.types.Answer.TheVariants as a
use Rattle.executor_model.specs.declared.types.Line.{Line}
use Rattle.executor_model.specs.declared.types.Message.{Message}
use Rattle.executor_model.specs.declared.types.Message.TheVariants as m

-- a worker is busy after an answer: it starts a run, or ends one, or is as it was before
abbrev pub busy_by : ℕ → Answer → Bool → Bool
busy_by w (a.Start worker task run due) before = if worker == w then true else before
busy_by w (a.Finish worker task run outcome) before = if worker == w then false else before
busy_by w _ before = before

-- a worker is busy after a line says this
abbrev pub busy_after : ℕ → Message → Bool → Bool
busy_after w (m.Answer answer) before = busy_by w answer before
busy_after w (m.End task) before = before

-- a worker is busy by the lines
abbrev pub is_busy : List Line → ℕ → Bool
is_busy [] w = false
is_busy (line ∷ before) w = busy_after w line.message (is_busy before w)

-- the worker of least number that is busy by the lines, and the one that is not
abbrev pub first_busy : ℕ → List Line → Option ℕ
first_busy workers before = find (λ w. is_busy before w) (range_with_len 0 workers)

abbrev pub first_free : ℕ → List Line → Option ℕ
first_free workers before = find (λ w. not (is_busy before w)) (range_with_len 0 workers)

-- an event that gets this error, behind these lines
abbrev pub representative_of_error : ℕ → List Line → EventError → Option Happening
representative_of_error workers before x.Backward = Some (h.Clock 0)
representative_of_error workers before x.TooFar = Some (h.Clock (longest + 1))
representative_of_error workers before x.NoWorker = Some (h.Start 255)
representative_of_error workers before x.Busy = option_map (λ w. h.Start w) (first_busy workers before)
representative_of_error workers before x.NotRunning = option_map (λ w. h.Finish w (e.Value 0)) (first_free workers before)
representative_of_error workers before x.NoTask = Some (h.Cancel 4294967295)

-- an ending of a run that leads to this outcome
abbrev pub representative_ending : Outcome → Ending
representative_ending (o.Done value) = e.Value value
representative_ending (o.Failed code) = e.Fault code
representative_ending (o.Again due) = e.Value 0
representative_ending o.Dropped = e.Value 0
representative_ending o.Ended = e.Value 0

-- a happening that gets this answer at this moment, behind these lines: a call, where no event and no purge gets it
abbrev pub representative_of : ℕ → List Line → ℕ → Answer → Option Happening
representative_of workers before moment (a.Outside task effect) = Some (h.Cancel task)
representative_of workers before moment a.Purge = Some h.Purge
representative_of workers before moment a.Clock = Some (h.Clock moment)
representative_of workers before moment (a.Start worker task run due) = Some (h.Start worker)
representative_of workers before moment (a.Idle worker) = Some (h.Start worker)
representative_of workers before moment (a.Finish worker task run outcome) = Some (h.Finish worker (representative_ending outcome))
representative_of workers before moment (a.Error error) = representative_of_error workers before error
representative_of workers before moment _ = Some h.Call

-- the happenings of lines of which the last says this at this moment, where `Rest` holds of those of the lines before: one
-- of its own where it is an answer, and none where it ends a task
abbrev pub AreRepresentativesWith : ℕ → List Line → ℕ → Message → (List Happening → Type 0) → List Happening → Type 0
AreRepresentativesWith workers before moment (m.End task) Rest happened = Rest happened
AreRepresentativesWith workers before moment (m.Answer answer) Rest [] = ⊥
AreRepresentativesWith workers before moment (m.Answer answer) Rest (happening ∷ happened) = (representative_of workers before moment answer ≡ Some happening) × Rest happened

-- these are the representatives of the lines
abbrev pub AreRepresentatives : ℕ → List Line → List Happening → Type 0
AreRepresentatives workers [] happened = happened ≡ []
AreRepresentatives workers (line ∷ before) happened = AreRepresentativesWith workers before line.moment line.message (λ rest. AreRepresentatives workers before rest) happened

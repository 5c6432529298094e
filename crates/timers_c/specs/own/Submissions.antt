-- Submissions, by when their tasks are to run. (This project's rule.)
use Rattle.std.specs.Prelude.{ℕ}
use Rattle.sched_time.specs.declared.timing.Timing.{Timing}
use Rattle.sched_time.specs.declared.timing.Timing.TheVariants as t
use Rattle.timers_c.specs.declared.submission.Submission.{Submission}
use Rattle.timers_c.specs.declared.submission.Submission.TheVariants as submission

-- how a task is timed
abbrev pub timing_of : Submission → Timing
timing_of (submission.Once delay) = t.Once
timing_of (submission.Rate first period) = t.Rate period
timing_of (submission.Fixed first delay) = t.Fixed delay

-- how long after the moment of the call its first run is due
abbrev pub first_of : Submission → ℕ
first_of (submission.Once delay) = delay
first_of (submission.Rate first period) = first
first_of (submission.Fixed first delay) = first

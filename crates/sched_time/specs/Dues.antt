-- When the runs of a task are due.
use Rattle.std.specs.Prelude.{ℕ, ◌+◌, ◌*◌, Option, Some, None}
use Rattle.sched_time.specs.declared.timing.Timing.{Timing}
use Rattle.sched_time.specs.declared.timing.Timing.TheVariants as t

-- the due moment of a run with a fixed delay: the first one's before any finish, and else the delay after
-- the last finish
-- (ScheduledExecutorService.scheduleWithFixedDelay: "a periodic action that becomes enabled first after the
-- given initial delay, and subsequently with the given delay between the termination of one execution and
-- the commencement of the next.")
abbrev pub after_finish : ℕ → ℕ → Option ℕ → ℕ
after_finish first delay None = first
after_finish first delay (Some moment) = moment + delay

-- the due moment of run n, where run 0 is due at the moment `first`, and the last finish was at some moment
-- (ScheduledExecutorService.schedule: "Submits a value-returning one-shot task that becomes enabled after
-- the given delay."; scheduleAtFixedRate: "executions will commence after initialDelay, then
-- initialDelay + period, then initialDelay + 2 * period, and so on")
abbrev pub due_of_run : Timing → ℕ → ℕ → Option ℕ → ℕ
due_of_run t.Once first n last = first
due_of_run (t.Rate period) first n last = first + n * period
due_of_run (t.Fixed delay) first n last = after_finish first delay last

-- the due moment of the run after one, given the due moment of that one and the moment at which it ended
-- (ScheduledExecutorService.scheduleAtFixedRate: "executions will commence after initialDelay, then
-- initialDelay + period, then initialDelay + 2 * period, and so on";
-- scheduleWithFixedDelay: "with the given delay between the termination of one execution and the
-- commencement of the next";
-- schedule: "a value-returning one-shot task")
abbrev pub next_due : Timing → ℕ → ℕ → Option ℕ
next_due t.Once due finished = None
next_due (t.Rate period) due finished = Some (due + period)
next_due (t.Fixed delay) due finished = Some (finished + delay)

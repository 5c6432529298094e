-- A state that looks at no past answer, and the steps that it takes.
-- All of it is this project's rule.
use Rattle.std.specs.Prelude.{ℕ, ◌+◌, ◌==◌, ◌||◌, Bool, true, false, if◌then◌else◌, List, [], ◌∷◌, Option, None, slice_get}
use Rattle.std.specs.Option.{option_map_or}
use Rattle.sched_time.specs.Dues.{next_due}
use Rattle.sched_time.specs.declared.timing.Timing.{Timing}
use Rattle.sched_time.specs.declared.timing.Timing.TheVariants as t
use Rattle.sched_time.specs.declared.policies.Policies.{Policies}
use Rattle.executor_model.specs.declared.types.Happening.{Happening}
use Rattle.executor_model.specs.declared.types.Outcome.{Outcome}
use Rattle.executor_model.specs.declared.types.Outcome.TheVariants as o
use Rattle.executor_model.specs.declared.types.Answer.{Answer}
use Rattle.executor_model.specs.declared.types.Answer.TheVariants as a
use Rattle.executor_model.specs.declared.task.Stage.{Stage}
use Rattle.executor_model.specs.declared.task.Stage.TheVariants as ph
use Rattle.executor_model.specs.declared.task.Task.{Task}
use Rattle.queue_code.specs.Calls.{Planned, Terms, terms_of, due_at}
use Rattle.executor_model.specs.View.{Fate, View}
use Rattle.executor_model.specs.Answers.{Reply, reply, moment_after}
use Rattle.sched_time.specs.Policies.{default_policies}
use Rattle.executor_model.specs.Histories.{made_after, cancels, kept_after, policies_after, is_shutdown, is_stop, work_after}

-- how many calls were made, the moment, each task by its number, the task of each worker that works, the policies,
-- and whether a call to shut down was made, and one to shut down at once
pub record State : Type 0 where
  pub made : ℕ
  pub moment : ℕ
  pub tasks : ℕ → Task
  pub workers : ℕ → Option ℕ
  pub policies : Policies
  pub shut : Bool
  pub stopped : Bool

-- a task that was not submitted
abbrev pub vacant : Task
vacant = record { phase = ph.Vacant; run = 0; due = 0; timing = t.Once; cancelled = false; kept = false }

-- before anything happened
abbrev pub opening : State
opening = record { made = 0; moment = 0; tasks = λ _. vacant; workers = λ _. None; policies = default_policies; shut = false; stopped = false }

-- ---- what is seen of a task

-- a task in this phase was submitted
abbrev pub was_submitted : Stage → Bool
was_submitted ph.Vacant = false
was_submitted _ = true

-- a task in this phase ended its one run with a value
abbrev pub is_done_phase : Stage → Bool
is_done_phase ph.Done = true
is_done_phase _ = false

-- a run of a task in this phase failed
abbrev pub is_failed_phase : Stage → Bool
is_failed_phase ph.Failed = true
is_failed_phase _ = false

-- how often a task in this phase has started: never before its submission, and else the runs before `run`,
-- and that one where it is under way, done, failed or dropped
abbrev pub starts_of : Stage → ℕ → ℕ
starts_of ph.Vacant run = 0
starts_of ph.Waiting run = run
starts_of _ run = 1 + run

-- how often a task in this phase has finished: never before its submission, and else the runs before `run`,
-- and that one where the task is done or failed, or its last run was dropped or ended it
abbrev pub finishes_of : Stage → ℕ → ℕ
finishes_of ph.Done run = 1 + run
finishes_of ph.Failed run = 1 + run
finishes_of ph.Dropped run = 1 + run
finishes_of ph.Vacant run = 0
finishes_of _ run = run

-- the due moment ahead of a task whose run is under way: with a fixed rate that of the next run is known
-- from the start on, and with a fixed delay from the end on
abbrev pub due_ahead : Timing → ℕ → ℕ
due_ahead t.Once due = due
due_ahead (t.Rate period) due = due + period
due_ahead (t.Fixed delay) due = due

-- the due moment that is seen of a task: before its submission that of the first run, during a run the one
-- ahead, and else the one that the task holds
abbrev pub due_seen : Terms → Stage → ℕ → ℕ
due_seen terms ph.Vacant due = due_at terms 0 None
due_seen terms ph.Running due = due_ahead terms.timing due
due_seen terms _ due = due

-- what is known of a task with these terms, by its phase, its run, the due moment that it holds, and whether it
-- was cancelled and is kept
abbrev pub seen_phase : Terms → Stage → ℕ → ℕ → Bool → Bool → Fate
seen_phase terms phase run due cancelled kept = record {
  accepted = was_submitted phase;
  cancelled = cancelled;
  done = is_done_phase phase;
  failed = is_failed_phase phase;
  starts = starts_of phase run;
  finishes = finishes_of phase run;
  due = due_seen terms phase due;
  kept = kept;
}

-- what is known of a task with these terms
abbrev pub seen_task : Terms → Task → Fate
seen_task terms task = seen_phase terms task.phase task.run task.due task.cancelled task.kept

-- what an answer looks at, in a state
abbrev pub view_of_state : List Planned → State → View
view_of_state calls s = record {
  made = s.made;
  moment = s.moment;
  fate = λ k. seen_task (terms_of calls k) (s.tasks k);
  work = s.workers;
  policies = s.policies;
  shut = s.shut;
  stopped = s.stopped;
}

-- ---- what a happening does to a state

-- the due moment that a finish at this moment leaves: that of the next run, where the task may have one
abbrev pub due_past : Timing → ℕ → ℕ → ℕ
due_past timing due now = option_map_or (λ next. next) (next_due timing due now) due

-- a task whose run ended with this outcome, and which holds this due moment from then on
abbrev pub end_task : Outcome → ℕ → Task → Task
end_task (o.Done value) due task = record task { phase = ph.Done; due = due }
end_task (o.Failed code) due task = record task { phase = ph.Failed; due = due }
end_task o.Dropped due task = record task { phase = ph.Dropped; due = due }
end_task o.Ended due task = record task { phase = ph.Dropped; due = due }
end_task (o.Again next) due task = record task { phase = ph.Waiting; run = 1 + task.run; due = due }

-- a task after the finish of its run, at this moment and with this outcome
abbrev pub finish_task : Timing → ℕ → Outcome → Task → Task
finish_task timing now outcome task = end_task outcome (due_past timing task.due now) task

-- a task that is submitted, is timed so, and first due at this moment
abbrev pub submit_task : Timing → ℕ → Task → Task
submit_task timing due task = record task { phase = ph.Waiting; run = 0; due = due; timing = timing }

-- only a vacant task is submitted
abbrev pub submit_phase : Timing → ℕ → Stage → Task → Task
submit_phase timing due ph.Vacant task = submit_task timing due task
submit_phase timing due _ task = task

-- what an answer does to one task, but for whether it is cancelled and kept
abbrev pub move_task : Timing → ℕ → ℕ → Answer → Task → Task
move_task timing now k (a.Submit j kind due) task = if j == k then submit_phase timing due task.phase task else task
move_task timing now k (a.Start w j run due) task = if j == k then record task { phase = ph.Running } else task
move_task timing now k (a.Finish w j run outcome) task = if j == k then finish_task timing now outcome task else task
move_task timing now k _ task = task

-- task k after a reply: a cancel leaves it in its phase
abbrev pub task_after : List Planned → State → Reply → ℕ → Task
task_after calls s r k = record (move_task (terms_of calls k).timing s.moment k r.answer (s.tasks k)) {
  cancelled = cancels k r.answer r.ends || (s.tasks k).cancelled;
  kept = kept_after (view_of_state calls s) k r.answer;
}

-- the state after a happening that has such a reply
abbrev pub state_after : List Planned → State → Happening → Reply → State
state_after calls s happening r = record {
  made = made_after s.made happening;
  moment = moment_after s.moment (slice_get calls s.made) happening;
  tasks = λ k. task_after calls s r k;
  workers = λ w. work_after w r.answer (s.workers w);
  policies = policies_after r.answer s.policies;
  shut = is_shutdown r.answer || s.shut;
  stopped = is_stop r.answer || s.stopped;
}

-- the table of the answers, read on a state
abbrev pub reply_of : List Planned → ℕ → State → Happening → Reply
reply_of calls workers s happening = reply calls workers (view_of_state calls s) happening

-- the step that a happening makes: the state after it, with the reply that the table gives
abbrev pub next : List Planned → ℕ → State → Happening → State
next calls workers s happening = state_after calls s happening (reply_of calls workers s happening)

-- where steps lead from a state, the newest first
abbrev pub after_from : List Planned → ℕ → State → List Happening → State
after_from calls workers s [] = s
after_from calls workers s (happening ∷ before) = next calls workers (after_from calls workers s before) happening

-- where steps lead from the opening state
abbrev pub after : List Planned → ℕ → List Happening → State
after calls workers happened = after_from calls workers opening happened

-- What stays true of each state, and its due moments, whatever happens.
-- All of it is this project's rule.
use Rattle.std.specs.Prelude.{◌≡◌, ◌≢◌, ℕ, ◌≤◌, true, false, List, Option, Some}
use Rattle.sched_time.specs.declared.timing.Timing.TheVariants as t
use Rattle.executor_model.specs.declared.task.Stage.TheVariants as ph
use Rattle.queue_code.specs.Calls.{Planned, terms_of, due_at}
use Rattle.executor_model.specs.View.{View}
use Rattle.executor_model.specs.State.{State}

-- a busy worker's task runs, no two workers have one task, each task that runs is that of some worker, the due moment
-- of a run that is under way was reached, a task whose run was dropped was cancelled, and a kept one was cancelled while it waited
pub record IsSound (s : State) : Type 0 where
  pub at_work : (w k : ℕ) → s.workers w ≡ Some k → (s.tasks k).phase ≡ ph.Running
  pub apart : (v w k : ℕ) → s.workers v ≡ Some k → s.workers w ≡ Some k → v ≡ w
  pub staffed : (k : ℕ) → (s.tasks k).phase ≡ ph.Running → (w : ℕ) × (s.workers w ≡ Some k)
  pub reached : (k : ℕ) → (s.tasks k).phase ≡ ph.Running → (s.tasks k).due ≤ s.moment
  pub over : (k : ℕ) → (s.tasks k).phase ≡ ph.Dropped → (s.tasks k).cancelled ≡ true
  pub kept : (k : ℕ) → (s.tasks k).kept ≡ true → ((s.tasks k).phase ≡ ph.Waiting) × ((s.tasks k).cancelled ≡ true)

-- no one-shot task waits whose due moment is not reached
abbrev pub NoneDelayed : State → Type 0
NoneDelayed s = (k : ℕ) → (s.tasks k).phase ≡ ph.Waiting → (s.tasks k).cancelled ≡ false → (s.tasks k).timing ≡ t.Once → (s.tasks k).due ≤ s.moment

-- the due moment that is known of each task is that of its terms, after its starts and some last finish
abbrev pub IsDue : List Planned → View → Type 0
IsDue calls v = (k : ℕ) → (last : Option ℕ) × ((v.fate k).due ≡ due_at (terms_of calls k) (v.fate k).starts last)

-- each task that was submitted has the timing of its terms
abbrev pub TimingsAgree : List Planned → State → Type 0
TimingsAgree calls s = (k : ℕ) → (s.tasks k).phase ≢ ph.Vacant → (s.tasks k).timing ≡ (terms_of calls k).timing

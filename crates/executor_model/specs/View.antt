-- What an answer looks at: the moment, what is known of each task, the work of each worker, the policies, and whether
-- the executor is shut, and stopped.
-- Where a definition names a class, its source is the Java SE 17 documentation of that class.
-- Where it names no source, it is this project's rule.
use Rattle.std.specs.Prelude.{ℕ, ◌==◌, ◌&&◌, ◌||◌, Bool, not, nat_le, if◌then◌else◌, List, [], ◌∷◌, Option, Some, None}
use Rattle.delay_queue.specs.Queues.{comes_before}
use Rattle.sched_time.specs.declared.policies.Policies.{Policies}

-- what is known of one task
pub record Fate : Type 0 where
  -- its submission was accepted
  pub accepted : Bool
  -- it was cancelled
  pub cancelled : Bool
  -- its one run ended well
  pub done : Bool
  -- a run of it failed
  pub failed : Bool
  -- how often it started and finished
  pub starts : ℕ
  pub finishes : ℕ
  -- the due moment of its next run; of a task with a fixed delay that runs, that of this run
  pub due : ℕ
  -- it was cancelled while it waited, and still stands in the queue
  pub kept : Bool

-- what an answer looks at: the calls made, the moment, each task by its number, each worker's work, the
-- policies, and whether the executor is shut, and stopped
-- (this project's rule)
pub record View : Type 0 where
  -- how many calls were made
  pub made : ℕ
  pub moment : ℕ
  pub fate : ℕ → Fate
  -- the task of a busy worker
  pub work : ℕ → Option ℕ
  pub policies : Policies
  -- a call to shut down was made, orderly or at once
  pub shut : Bool
  -- a call to shut down at once was made
  pub stopped : Bool

-- a run is under way: the task started once more than it finished (this project's rule)
abbrev pub is_running : Fate → Bool
is_running f = not (f.starts == f.finishes)

-- no further run comes: the task was cancelled, or the one run of a one-shot task ended, or a run failed
-- (ScheduledExecutorService.schedule: "a value-returning one-shot task"; scheduleAtFixedRate: "An
-- execution of the task throws an exception. [..] Subsequent executions are suppressed."; that a one-shot task
-- whose run failed is not done, and that nothing of a cancelled task comes, are this project's rules)
abbrev pub is_over : Fate → Bool
is_over f = f.cancelled || (f.failed || f.done)

-- a run is still to come and none is under way: accepted, not running and not over (this project's rule)
abbrev pub is_waiting : Fate → Bool
is_waiting f = f.accepted && (not (is_running f) && not (is_over f))

-- a cancel would have an effect: it waits, or a run is under way and it was not cancelled (this project's rule)
abbrev pub is_cancellable : Fate → Bool
is_cancellable f = is_waiting f || (is_running f && not f.cancelled)

-- it waits, and its due moment is reached
-- (ScheduledThreadPoolExecutor: "Delayed tasks execute no sooner than they are enabled, but without any
-- real-time guarantees about when, after they are enabled, they will commence.")
abbrev pub is_enabled : View → ℕ → Bool
is_enabled v k = is_waiting (v.fate k) && nat_le (v.fate k).due v.moment

-- tasks are ordered by due moment, and tasks with the same due moment by number: this project's rule
-- (by due moment as in DelayQueue: "The head of the queue is that Delayed element whose delay expired
-- furthest in the past."; at the same one as in ScheduledThreadPoolExecutor: "Tasks scheduled for exactly
-- the same execution time are enabled in first-in-first-out (FIFO) order of submission.")
abbrev pub precedes : View → ℕ → ℕ → Bool
precedes v j k = comes_before (v.fate j).due j (v.fate k).due k

-- of a task and maybe another, the one that precedes (this project's rule)
abbrev pub earlier : View → ℕ → Option ℕ → ℕ
earlier v k None = k
earlier v k (Some j) = if precedes v j k then j else k

-- the first enabled task among some, and none where none is enabled (this project's rule)
abbrev pub first_enabled : View → List ℕ → Option ℕ
first_enabled v [] = None
first_enabled v (k ∷ ks) = if is_enabled v k then Some (earlier v k (first_enabled v ks)) else first_enabled v ks

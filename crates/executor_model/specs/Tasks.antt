-- The words of tasks, and how many of them are not cancelled. All of it is this project's rule.
use Rattle.std.specs.Prelude.{ℕ, not, List}
use Rattle.task_word.specs.Words.{Parts}
use Rattle.task_word.specs.declared.phases.Phase.{Phase as WordPhase}
use Rattle.task_word.specs.declared.phases.Phase.TheVariants as w
use Rattle.queue_code.specs.Calls.{how_many}
use Rattle.executor_model.specs.declared.task.Stage.{Stage}
use Rattle.executor_model.specs.declared.task.Stage.TheVariants as ph
use Rattle.executor_model.specs.declared.task.Task.{Task}

-- the phase of a task's word: a cancelled word stands still, also once the run has ended
abbrev pub word_phase : Stage → WordPhase
word_phase ph.Vacant = w.Vacant
word_phase ph.Waiting = w.New
word_phase ph.Running = w.Running
word_phase ph.Dropped = w.Running
word_phase ph.Done = w.Done
word_phase ph.Failed = w.Failed

-- the word of a task
abbrev pub word_of_task : Task → Parts
word_of_task task = record { phase = word_phase task.phase; run = task.run; marked = task.cancelled }

-- how many tasks are not cancelled
abbrev pub uncancelled_in : List Task → ℕ
uncancelled_in tasks = how_many (λ t. not t.cancelled) tasks

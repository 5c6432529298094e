-- How the tasks of a plan are kept: in two tables, with numbers beside them. No contract of a public call cites it but through
-- the view or the invariant of `Tasks`. All of it is this project's rule.
use Rattle.std.specs.Prelude.{◌≡◌, ℕ, ◌+◌, ◌^◌, ◌<◌, ◌≤◌, Bool, true, false, not, List, [], ◌∷◌, length, slice_index_or}
use Rattle.task_word.specs.Words.{Parts}
use Rattle.task_word.specs.declared.phases.Phase.{Phase as WordPhase}
use Rattle.task_word.specs.declared.phases.Phase.TheVariants as w
use Rattle.executor_model.specs.declared.task.Stage.{Stage}
use Rattle.executor_model.specs.declared.task.Stage.TheVariants as ph
use Rattle.executor_model.specs.declared.task.Task.{Task}
use Rattle.executor_model.specs.declared.types.Outcome.{Outcome}
use Rattle.executor_model.specs.declared.types.Outcome.TheVariants as o
use Rattle.executor_core.specs.declared.plan_table.tasks.Detail.{Detail}
use Rattle.executor_core.specs.declared.plan_table.tallies.Tallies.{Tallies}
use Rattle.executor_model.specs.State.{vacant}
use Rattle.executor_model.specs.Tasks.{uncancelled_in}
use Rattle.executor_core.specs.plan_table.Tasks.{waits_again, periodic_in}

-- the phase of a task whose word has this one, and whose run was maybe dropped
abbrev pub phase_in : WordPhase → Bool → Stage
phase_in w.Vacant over = ph.Vacant
phase_in w.New over = ph.Waiting
phase_in w.Running true = ph.Dropped
phase_in w.Running false = ph.Running
phase_in w.Done over = ph.Done
phase_in w.Failed over = ph.Failed

-- the task of a word and what is held beside it
abbrev pub task_of : Parts → Detail → Task
task_of word detail = record { phase = phase_in word.phase detail.over; run = word.run; due = detail.due; timing = detail.timing; cancelled = word.marked; kept = detail.kept }

-- the tasks of two tables
abbrev pub tasks_in_tables : List Parts → List Detail → List Task
tasks_in_tables [] details = []
tasks_in_tables (word ∷ words) [] = []
tasks_in_tables (word ∷ words) (detail ∷ details) = task_of word detail ∷ tasks_in_tables words details

-- the numbers of some tasks that are kept beside them
abbrev pub AreTallies : Tallies → List Task → Type 0
AreTallies tallies tasks = (tallies.uncancelled ≡ uncancelled_in tasks) × (tallies.periodic ≡ periodic_in tasks)

-- a run that comes to this is the last one of its task, and the word does not say so
abbrev pub is_over : Outcome → Bool
is_over o.Dropped = true
is_over o.Ended = true
is_over _ = false

-- the task waits for another run
abbrev pub is_again : Outcome → Bool
is_again (o.Again due) = true
is_again _ = false

-- one where a test passes
abbrev pub one : Bool → ℕ
one true = 1
one false = 0

-- the numbers count a task, and have room for one more
abbrev pub Count : Tallies → Task → Type 0
Count tallies task = (one (not task.cancelled) ≤ tallies.uncancelled) × (one (waits_again task) ≤ tallies.periodic)
    × (tallies.uncancelled < 2 ^ 63) × (tallies.periodic < 2 ^ 63)

-- the numbers once one task stands for another
abbrev pub IsRecount : Tallies → Tallies → Task → Task → Type 0
IsRecount old new before after = (new.uncancelled + one (not before.cancelled) ≡ old.uncancelled + one (not after.cancelled))
    × (new.periodic + one (waits_again before) ≡ old.periodic + one (waits_again after))

-- what is so of the two tables of some tasks, and of their numbers: a task has a number below 2^32, and of one that was not
-- submitted nothing is kept
pub record TablesAgree (words : List Parts) (details : List Detail) (tallies : Tallies) : Type 0 where
  pub paired : length words ≡ length details
  pub few : length words ≤ 2 ^ 32
  pub counted : AreTallies tallies (tasks_in_tables words details)
  pub blank : (k : ℕ) → (slice_index_or (tasks_in_tables words details) k vacant).phase ≡ ph.Vacant → slice_index_or (tasks_in_tables words details) k vacant ≡ vacant

-- Which words a step moves, read on the state before it, and what else is known before it.
-- All of it is this project's rule.
use Rattle.std.specs.Prelude.{◌≡◌, ℕ, ◌≤◌, Bool, true, if◌then◌else◌, List}
use Rattle.queue_code.specs.Calls.{Planned}
use Rattle.executor_model.specs.declared.types.CancelEffect.{CancelEffect}
use Rattle.executor_model.specs.declared.types.CancelEffect.TheVariants as f
use Rattle.executor_model.specs.declared.types.Outcome.{Outcome}
use Rattle.executor_model.specs.declared.types.Outcome.TheVariants as o
use Rattle.executor_model.specs.declared.types.Answer.{Answer}
use Rattle.executor_model.specs.declared.types.Answer.TheVariants as a
use Rattle.executor_model.specs.declared.types.Happening.{Happening}
use Rattle.executor_model.specs.declared.types.Need.{Need}
use Rattle.executor_model.specs.declared.types.Need.TheVariants as n
use Rattle.executor_model.specs.View.{View}
use Rattle.executor_model.specs.Answers.{is_queued, setting_sweeps}
use Rattle.executor_model.specs.State.{State, reply_of}

-- what a cancel of task k that has this effect moves
abbrev pub need_of_cancel : ℕ → CancelEffect → Need
need_of_cancel k f.Yes = n.Cancel k
need_of_cancel k f.No = n.Nothing
need_of_cancel k f.Absent = n.Nothing

-- what the end of a run of task k with this outcome moves: a dropped one leaves the word as it is, and where periodic
-- tasks do not go on the task is cancelled
abbrev pub need_of_finish : ℕ → Outcome → Need
need_of_finish k (o.Done value) = n.Done k
need_of_finish k (o.Failed code) = n.Fail k
need_of_finish k (o.Again due) = n.Rearm k
need_of_finish k o.Dropped = n.Nothing
need_of_finish k o.Ended = n.Cancel k

-- what the step of a happening with this answer moves, where the executor was shut before it or not
abbrev pub need_of_answer : Bool → Answer → Need
need_of_answer shut (a.Submit k kind due) = n.Submit k
need_of_answer shut (a.Cancel k effect) = need_of_cancel k effect
need_of_answer shut (a.Outside k effect) = need_of_cancel k effect
need_of_answer shut (a.Policy which value) = if setting_sweeps shut which value then n.Sweep else n.Nothing
need_of_answer shut a.Shutdown = n.Sweep
need_of_answer shut a.ShutdownNow = n.Sweep
need_of_answer shut (a.Start worker k run due) = n.Start k
need_of_answer shut (a.Finish worker k run outcome) = need_of_finish k outcome
need_of_answer shut _ = n.Nothing

-- what the step of a happening moves
abbrev pub need_of : List Planned → ℕ → State → Happening → Need
need_of calls workers s happening = need_of_answer s.shut (reply_of calls workers s happening).answer

-- a task waits or is kept, and its due moment is reached
abbrev pub IsRipe : List Planned → View → Type 0
IsRipe calls v = (k : ℕ) × (is_queued (v.fate k) ≡ true) × ((v.fate k).due ≤ v.moment)

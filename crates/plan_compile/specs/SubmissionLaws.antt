-- SubmissionLaws: what holds of the submissions of each plan, beside its calls and its text.
-- All of it is this project's rule.
use Rattle.std.specs.Prelude.{◌≡◌, ℕ, ◌+◌, List, [], ◌∷◌, Option, Some, None, map, flat_map, option_map}
use Rattle.std.specs.List.{range_with_len}
use Rattle.queue_code.specs.declared.call.CodeCall.TheVariants as made
use Rattle.queue_code.specs.Calls.{Planned, numbers}
use Rattle.plan_read.specs.Plans.{BlockTree, PlanTree, names_of}
use Rattle.plan_compile.specs.PlanCalls.{calls_of_plan}
use Rattle.executor_model.specs.declared.types.Kind.{Kind}
use Rattle.executor_model.specs.Answers.{kind_of}
use Rattle.plan_compile.specs.Submissions.{Submitted, submissions_of_plan}

-- what a plan's calls tell of a submission: its task, its moment, and, where it is legal, its kind and when its first run is due
pub record Told : Type 0 where
  pub task : ℕ
  pub moment : ℕ
  pub terms : Option (Kind × ℕ)

-- what a call tells, where it is a submission: its first run is due its delay after the call
abbrev pub told_by_call : Planned → List Told
told_by_call (moment, made.Submit task timing delay) = record { task = task; moment = moment; terms = Some (kind_of timing, moment + delay) } ∷ []
told_by_call (moment, made.Illegal task) = record { task = task; moment = moment; terms = None } ∷ []
told_by_call _ = []

-- what a submission tells
abbrev pub told_by : Submitted → Told
told_by s = record { task = s.task; moment = s.moment; terms = option_map (λ due. (s.kind, due)) s.due }

-- the submissions of each plan are exactly those among its calls, in their order
abbrev pub AreThoseOfTheCalls : Type 0
AreThoseOfTheCalls = (plan : PlanTree) → map told_by (submissions_of_plan plan) ≡ flat_map told_by_call (calls_of_plan plan)

-- their numbers are those of the plan's tasks, ascending from 0
abbrev pub AreNumberedInOrder : Type 0
AreNumberedInOrder = (plan : PlanTree) → map (λ s. s.task) (submissions_of_plan plan) ≡ numbers (calls_of_plan plan)

-- the names that stand in the text of a block, in each of its iterations
abbrev pub block_names : BlockTree → List (List ℕ)
block_names b = flat_map (λ r. names_of b.calls) (range_with_len 0 b.header.times)

-- their names are those of the plan's text, block by block and iteration by iteration
abbrev pub AreNamedAsWritten : Type 0
AreNamedAsWritten = (plan : PlanTree) → map (λ s. s.name) (submissions_of_plan plan) ≡ flat_map block_names plan

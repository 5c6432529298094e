-- The submissions of a plan, in ascending number, repeated blocks written out.
-- All of it is this project's rule, but for `execute`, the row of `ops.Execute` (ScheduledThreadPoolExecutor.execute of Java SE 17:
-- "Executes command with zero required delay. This has effect equivalent to schedule(command, 0, anyUnit).").
use Rattle.std.specs.Prelude.{ℕ, ◌+◌, ◌*◌, List, [], ◌∷◌, ◌++◌, Option, Some, None, map, flat_map, option_map, option_to_list}
use Rattle.std.specs.List.{range_with_len}
use Rattle.plan_read.specs.declared.plans.Call.{Call}
use Rattle.plan_read.specs.declared.plans.Op.{Op}
use Rattle.plan_read.specs.declared.plans.Op.TheVariants as ops
use Rattle.plan_read.specs.Plans.{BlockTree, PlanTree, tasks_after}
use Rattle.executor_model.specs.declared.types.Kind.{Kind}
use Rattle.executor_model.specs.declared.types.Kind.TheVariants as kind

-- a submission: the number of its task, its name, its kind, the moment of its call, and the due moment of its first run, which is
-- none where its period, or its fixed delay, is illegal
pub record Submitted : Type 0 where
  pub task : ℕ
  pub name : List ℕ
  pub kind : Kind
  pub moment : ℕ
  pub due : Option ℕ

-- an operation with the moment of its call
abbrev pub Timed : Type 0
Timed = ℕ × Op

-- the operations of an iteration that begins at the moment `base`: the call with offset o is made at `base + o`
abbrev pub ops_at : ℕ → List Call → List Timed
ops_at base calls = map (λ (c : Call). (base + c.at, c.op)) calls

-- those of iteration r of a block, counted from 0: it begins at `at + r * every`
abbrev pub iteration_ops : BlockTree → ℕ → List Timed
iteration_ops b r = ops_at (b.header.at + r * b.header.every) b.calls

-- those of a block, iteration by iteration
abbrev pub block_ops : BlockTree → List Timed
block_ops b = flat_map (iteration_ops b) (range_with_len 0 b.header.times)

-- those of a plan, block by block
abbrev pub plan_ops : PlanTree → List Timed
plan_ops blocks = flat_map block_ops blocks

-- the submission that an operation makes at a moment as the task of this number, if it makes one
abbrev pub submission_by : ℕ → ℕ → Op → Option Submitted
submission_by task moment (ops.Schedule name delay) = Some (record { task = task; name = name; kind = kind.Schedule; moment = moment; due = Some (moment + delay) })
submission_by task moment (ops.Execute name) = Some (record { task = task; name = name; kind = kind.Schedule; moment = moment; due = Some moment })
submission_by task moment (ops.Rate name first period) =
    Some (record { task = task; name = name; kind = kind.Rate; moment = moment; due = option_map (λ _. moment + first) period })
submission_by task moment (ops.Fixed name first delay) =
    Some (record { task = task; name = name; kind = kind.Fixed; moment = moment; due = option_map (λ _. moment + first) delay })
submission_by task moment _ = None

-- the submissions among some operations, before which `task` submissions stand
abbrev pub submitted_from : ℕ → List Timed → List Submitted
submitted_from task [] = []
submitted_from task (o ∷ os) = option_to_list (submission_by task o.0 o.1) ++ submitted_from (tasks_after task o.1) os

-- the submissions of a plan: they are numbered 0, 1, .. in the order of their calls
abbrev pub submissions_of_plan : PlanTree → List Submitted
submissions_of_plan blocks = submitted_from 0 (plan_ops blocks)

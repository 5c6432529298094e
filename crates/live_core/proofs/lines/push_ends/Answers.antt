-- All lines are added.
use Rattle.std.proofs.Common.{◌≡◌, ◌++◌, ◌∷◌, [], ◌∙◌, ℕ, List, map, refl, ap, arith}
use Rattle.std.proofs.lemmas.List.{take_all}
use Rattle.executor_model.specs.declared.types.Line.{Line}
use Rattle.executor_model.specs.Flows.{end_line}
use Rattle.task_table.specs.declared.seat.TaskRef.{TaskRef}
use Rattle.task_table.specs.Endings.{numbers_of}
use Rattle.live_core.proofs.lines.push_ends.Goals as goal

-- the lines of the numbers of some tasks
lines_each : (moment : ℕ) (tasks : List TaskRef) → map (λ t. end_line moment t.number) tasks ≡ map (end_line moment) (numbers_of tasks)
lines_each moment [] = refl
lines_each moment (t ∷ tasks) = ap (λ (rest : List Line). end_line moment t.number ∷ rest) (lines_each moment tasks)

pub returns : goal.returns
returns g c =
    let old = c.args.lines.now.items in
    let tasks = c.args.ended.now in
    c.loop-task.invariant.lines
    ∙ ap (λ (l : List Line). old ++ l) (ap (λ (l : List TaskRef). map (λ t. end_line c.args.moment t.number) l) (take_all c.loop-task.task-index tasks (omega (arith, c.loop-task-test.false))) ∙ lines_each c.args.moment tasks)

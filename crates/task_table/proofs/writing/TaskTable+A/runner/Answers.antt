-- A worker has the slot of a task that is run, and no other slot.
use Rattle.std.proofs.Common.{◌≡◌, ℕ, List, Option, Some, None, sym, ap, subst, ◌∙◌}
use Rattle.std.specs.Prelude.{slice_index_or, IfSome, IfNone}
use Rattle.std.proofs.lemmas.Bool.{false≢true}
use Rattle.std.proofs.lemmas.Option.{none-some}
use Rattle.task_table.specs.Seats.{is_running_in}
use Rattle.task_table.specs.Tables.{TableView}
use Rattle.task_table.proofs.Imaged.{runner_works, runner_alone, runs_there}
use Rattle.task_table.proofs.writing.TaskTable+A.runner.Goals as goal

pub returns-then-not-is_running-clause-works : goal.returns-then-not-is_running-clause-works
returns-then-not-is_running-clause-works g c = λ w q. absurd (none-some w q)

pub returns-then-not-is_running-clause-alone : goal.returns-then-not-is_running-clause-alone
returns-then-not-is_running-clause-alone g c = λ w q.
    absurd (false≢true (sym c.if-not-is_running.true ∙ (c.is_running.ensures ∙ ap is_running_in (runs_there c.args.self.now c.args.slot w c.args.seat.now c.each_table_is_formed.ensures c.requires q))))

pub returns-clause-works : goal.returns-clause-works
returns-clause-works g c =
    let has = subst (λ (work : List (Option ℕ)). IfSome c.worker_of.result (λ v. slice_index_or work v None ≡ Some c.args.slot)) (c.deref.ensures.value ∙ ap (λ (m : TableView). m.work) c.self.view_is) c.worker_of.ensures.has in
    λ w q. runner_works c.args.self.now.work c.args.slot w c.worker_of.result has q

pub returns-clause-alone : goal.returns-clause-alone
returns-clause-alone g c =
    let work = c.deref.ensures.value ∙ ap (λ (m : TableView). m.work) c.self.view_is in
    let has = subst (λ (work : List (Option ℕ)). IfSome c.worker_of.result (λ v. slice_index_or work v None ≡ Some c.args.slot)) work c.worker_of.ensures.has in
    let none = subst (λ (work : List (Option ℕ)). IfNone c.worker_of.result ((v : ℕ) → slice_index_or work v None ≡ Some c.args.slot → ⊥)) work c.worker_of.ensures.none in
    λ w q. runner_alone c.args.self.now c.args.slot w c.worker_of.result c.each_table_is_formed.ensures has none q

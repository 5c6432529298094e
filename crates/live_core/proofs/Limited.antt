-- The first due task has had so many runs that no number is left: what a start would answer.
use Rattle.std.proofs.Common.{ℕ, Some, sym, ap, ◌∙◌}
use Rattle.executor_model.specs.declared.types.Happening.TheVariants as h
use Rattle.executor_model.specs.declared.types.Answer.TheVariants as a
use Rattle.executor_model.specs.Answers.{bare, reply}
use Rattle.executor_model.specs.Histories.{happenings}
use Rattle.executor_model.specs.State.{after}
use Rattle.task_table.specs.Tables.{workers_of}
use Rattle.task_table.specs.Runs.{IsFree, IsFull}
use Rattle.task_table.proofs.Standing.{view_there}
use Rattle.task_table.proofs.Knowing.{known}
use Rattle.task_table.proofs.Firsts.{start_said}
use Rattle.live_core.specs.Lives.{LiveView}
use Rattle.live_core.specs.Events.{WouldPassLimit}

pub would_pass : (m : LiveView) (worker : ℕ) → IsFree m.table worker → IsFull m.table → WouldPassLimit m worker
would_pass m worker free full calls past st =
    let width = workers_of m.table in
    let s = after calls width (happenings past) in
    let x = full.task in (
      x.number,
      x.due,
      ap (λ v. reply calls width v (h.Start worker)) (sym (view_there calls width past st.table.means))
          ∙ (start_said m.table calls s (λ k. (s.tasks k).kept) worker (Some x) (known calls width past st.table.orderly st.table.means) st.table.shows free.0 free.1 (full.slot, full.first)
          ∙ ap (λ (n : ℕ). bare (a.Start worker x.number n x.due)) full.last),
    )

-- A finish in two steps: what the end of a run comes to, and the step that makes it so.
use Rattle.std.proofs.Common.{◌≡◌, ℕ, Some, sym, ap, ◌∙◌, subst}
use Rattle.std.proofs.lemmas.Option.{same_Some}
use Rattle.sched_time.specs.declared.timing.Ending.{Ending}
use Rattle.executor_model.specs.declared.types.Answer.TheVariants as a
use Rattle.executor_model.specs.declared.types.Happening.TheVariants as h
use Rattle.executor_model.specs.Answers.{bare, outcome_in, stops_periodic}
use Rattle.executor_model.specs.State.{due_past}
use Rattle.task_table.specs.declared.seat.Seat.{Seat}
use Rattle.task_table.specs.declared.answers.RunEnd.{RunEnd}
use Rattle.task_table.specs.Seats.{slot_of, is_running_in}
use Rattle.task_table.specs.Tables.{TableView, EventSteps}
use Rattle.task_table.specs.Changes.{ended, finished}
use Rattle.task_table.specs.Runs.{IsEndOf, Ends, IsLeft}
use Rattle.task_table.specs.Formed.{IsFormed}
use Rattle.task_table.specs.own.Working.{IsAtWork}
use Rattle.task_table.proofs.Finishes.{finish_steps, kept_not, finish_leaves}
use Rattle.task_table.proofs.Worked.{at_work}

-- what is told of an end is of the task in its slot
pub end_there : (m : TableView) (worker : ℕ) (ending : Ending) (e : RunEnd) (x : Seat) → (is : IsEndOf m worker ending e) → slot_of m.slots e.task.slot ≡ Some x → is.task ≡ x
end_there m worker ending e x is there = same_Some is.task x (sym is.there ∙ there)

-- its run is under way
pub end_at_work : (m : TableView) (worker : ℕ) (ending : Ending) (e : RunEnd) (x : Seat) → IsFormed m → IsEndOf m worker ending e → slot_of m.slots e.task.slot ≡ Some x → IsAtWork m.moment x
end_at_work m worker ending e x formed is there = at_work m worker e.task.slot x formed is.works there

-- its due moment and its outcome are those of the task
pub end_due : (m : TableView) (worker : ℕ) (ending : Ending) (e : RunEnd) (x : Seat) → IsEndOf m worker ending e → slot_of m.slots e.task.slot ≡ Some x → e.due ≡ due_past x.timing x.due m.moment
end_due m worker ending e x is there = is.due ∙ ap (λ (z : Seat). due_past z.timing z.due m.moment) (end_there m worker ending e x is there)

pub end_outcome : (m : TableView) (worker : ℕ) (ending : Ending) (e : RunEnd) (x : Seat) → IsEndOf m worker ending e → slot_of m.slots e.task.slot ≡ Some x → e.outcome ≡ outcome_in x.cancelled (stops_periodic m.shut m.stopped m.policies) x.timing e.due ending
end_outcome m worker ending e x is there =
    is.outcome
    ∙ (ap (λ (z : Seat). outcome_in z.cancelled (stops_periodic m.shut m.stopped m.policies) z.timing (due_past z.timing z.due m.moment) ending) (end_there m worker ending e x is there)
    ∙ ap (λ d. outcome_in x.cancelled (stops_periodic m.shut m.stopped m.policies) x.timing d ending) (sym (end_due m worker ending e x is there)))

-- the step that makes it so
pub ends_as : (m new : TableView) (worker : ℕ) (ending : Ending) (e : RunEnd) (x : Seat) → IsFormed m → IsEndOf m worker ending e → slot_of m.slots e.task.slot ≡ Some x → new ≡ finished m worker e.task.slot x e.outcome e.due →
    Ends m new worker ending (record { task = e.task; run = e.run; outcome = e.outcome })
ends_as m new worker ending e x formed is there writes =
    let slot = e.task.slot in
    let same = end_there m worker ending e x is there in
    let due = end_due m worker ending e x is there in
    let outcome = end_outcome m worker ending e x is there in
    let number : e.task.number ≡ x.number = is.number ∙ ap (λ (z : Seat). z.number) same in
    let run : e.run ≡ x.run = is.run ∙ ap (λ (z : Seat). z.run) same in
    let steps = finish_steps m worker slot e.due x ending e.outcome formed is.within is.works there due outcome in
    record {
      task = x;
      works = is.works;
      there = there;
      number = number;
      run = run;
      outcome = outcome ∙ ap (λ d. outcome_in x.cancelled (stops_periodic m.shut m.stopped m.policies) x.timing d ending) due;
      is = writes ∙ ap (λ d. finished m worker slot x e.outcome d) due;
      runs = ap (λ (z : Seat). is_running_in z.phase) (sym same) ∙ is.runs;
      left = subst (λ d. IsLeft e.outcome (ended e.outcome d x)) due
          (finish_leaves x (stops_periodic m.shut m.stopped m.policies) e.due ending e.outcome (kept_not m slot x formed there (end_at_work m worker ending e x formed is there).runs) outcome);
      steps = subst (λ v. EventSteps m v (h.Finish worker ending) (bare (a.Finish worker e.task.number e.run e.outcome))) (sym writes)
          (subst (λ n. EventSteps m (finished m worker slot x e.outcome e.due) (h.Finish worker ending) (bare (a.Finish worker n e.run e.outcome))) (sym number)
          (subst (λ n. EventSteps m (finished m worker slot x e.outcome e.due) (h.Finish worker ending) (bare (a.Finish worker x.number n e.outcome))) (sym run) steps));
    }

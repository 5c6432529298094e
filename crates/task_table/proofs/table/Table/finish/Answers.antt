-- The run ends as told, or the finish is answered by an error.
use Rattle.std.proofs.Common.{Some, sym, ap, ◌∙◌}
use Rattle.executor_model.specs.Answers.{outcome_in, stops_periodic}
use Rattle.task_table.specs.Seats.{slot_of, is_running_in}
use Rattle.task_table.specs.Changes.{finished}
use Rattle.task_table.specs.Runs.{IsEndOf}
use Rattle.task_table.proofs.Finishes.{finish_refused}
use Rattle.task_table.proofs.RunEnds.{ends_as}
use Rattle.task_table.proofs.table.Table.finish.Goals as goal

pub returns-in-Ok-clause-ended : goal.returns-in-Ok-clause-ended
returns-in-Ok-clause-ended g k =
    let x = k.args in
    let n = x.self.now in
    let at = k.in-Ok.at in
    let e = k.run_end-end.result in
    let told = k.run_end-end.ensures in
    let is : IsEndOf n x.worker x.ending e = record {
      within = k.in-Ok.ensures.works.0;
      works = k.in-Ok.ensures.works.1 ∙ ap Some (sym told.slot);
      task = at.1;
      there = ap (slot_of n.slots) told.slot ∙ k.in-Ok.ensures.there;
      number = told.number;
      run = told.run;
      due = told.due;
      outcome = told.outcome ∙ ap (λ d. outcome_in at.1.cancelled (stops_periodic n.shut n.stopped n.policies) at.1.timing d x.ending) told.due;
      runs = ap is_running_in k.in-Ok.ensures.runs.runs;
    }
    in
    ends_as n k.end.new.self x.worker x.ending e at.1 k.in-Ok.ensures.formed is is.there (k.end.ensures ∙ ap (λ slot. finished n x.worker slot at.1 e.outcome e.due) (sym told.slot))

pub returns-in-Err-clause-failed : goal.returns-in-Err-clause-failed
returns-in-Err-clause-failed g k = (k.in-Err.ensures.none, finish_refused k.args.self.now k.args.worker k.args.ending k.in-Err.error k.in-Err.ensures.none)

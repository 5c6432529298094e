-- What one look at a core tells of a happening before it comes.
-- All of it is this project's rule.
use Rattle.std.specs.Prelude.{ℕ, Option, Some, None, slice_index_or}
use Rattle.sched_time.specs.declared.timing.Ending.{Ending}
use Rattle.executor_model.specs.declared.types.Happening.{Happening}
use Rattle.executor_model.specs.declared.types.Happening.TheVariants as h
use Rattle.executor_core.specs.declared.foreseen.RunEnd.{RunEnd}
use Rattle.executor_core.specs.declared.foreseen.Foreseen.{Foreseen}
use Rattle.executor_model.specs.declared.task.Task.{Task}
use Rattle.executor_model.specs.Answers.{outcome_in, stops_periodic}
use Rattle.executor_model.specs.State.{vacant, due_past}
use Rattle.executor_model.specs.Needs.{need_of}
use Rattle.executor_core.specs.CoreView.{CoreView, workers_of, state_of}

-- the end of the run of task k, as the core holds it
abbrev pub run_end : CoreView → ℕ → Ending → Task → RunEnd
run_end m k ending task = record {
  task = k;
  run = task.run;
  due = due_past task.timing task.due m.moment;
  outcome = outcome_in task.cancelled (stops_periodic m.shut m.stopped m.policies) task.timing (due_past task.timing task.due m.moment) ending;
}

-- the end of the run of a worker that has this task, or none
abbrev pub end_of_work : CoreView → Ending → Option ℕ → Option RunEnd
end_of_work m ending None = None
end_of_work m ending (Some k) = Some (run_end m k ending (slice_index_or m.tasks k vacant))

-- the end of the run that a happening ends
abbrev pub end_in : CoreView → Happening → Option RunEnd
end_in m (h.Finish w ending) = end_of_work m ending (slice_index_or m.work w None)
end_in m _ = None

-- what is told of a happening
abbrev pub foresight : CoreView → Happening → Foreseen
foresight m happening = record { happening = happening; need = need_of m.calls (workers_of m) (state_of m) happening; end = end_in m happening }

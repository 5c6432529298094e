use Rattle.std.proofs.Common.{◌∙◌, ap, None}
use Rattle.std.specs.Prelude.{is_some, slice_index_or}
use Rattle.sched_time.specs.declared.timing.Ending.TheVariants as e
use Rattle.executor_core.specs.declared.foreseen.Foreseen.{Foreseen}
use Rattle.worker_pool.proofs.Idling.{end_is_some}
use Rattle.worker_pool.proofs.desk.Desk.works.Goals as goal

pub returns : goal.returns
returns g c =
    let core = c.args.self.now.core in
    let worker = c.args.worker in
    c.is_some.ensures ∙ (ap (λ (f : Foreseen). is_some f.end) c.foresee.ensures.foreseen ∙ end_is_some core (e.Value 0) (slice_index_or core.work worker None))

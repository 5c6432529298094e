-- Whether a run is under way.
use Rattle.std.proofs.Common.{◌≡◌, ℕ, Option, Some, None, refl}
use Rattle.std.specs.Prelude.{is_some}
use Rattle.sched_time.specs.declared.timing.Ending.{Ending}
use Rattle.executor_core.specs.CoreView.{CoreView}
use Rattle.executor_core.specs.Foresight.{end_of_work}

-- the finish of a worker ends a run exactly where the worker has a task
pub end_is_some : (m : CoreView) (ending : Ending) (work : Option ℕ) → is_some (end_of_work m ending work) ≡ is_some work
end_is_some m ending None = refl
end_is_some m ending (Some k) = refl

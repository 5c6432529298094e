-- The core of the plan that a text writes.
-- All of it is this project's rule.
use Rattle.std.specs.Prelude.{◌≡◌, ℕ, ◌^◌, ◌<◌, List, []}
use Rattle.queue_code.specs.Calls.{IsPlanned}
use Rattle.executor_core.specs.CoreView.{CoreView, workers_of, Stands}
use Rattle.sched_engine.specs.Running.{IsAccepted}

-- a core of the plan that the text writes, before anything happened
pub record Opens (core : CoreView) (text : List ℕ) (workers limit : ℕ) : Type 0 where
  pub accepted : IsAccepted text core.calls workers limit
  pub count : workers_of core ≡ workers
  pub most : core.limit ≡ limit
  pub small : limit < 2 ^ 32
  pub orderly : IsPlanned core.calls
  pub taken : core.taken ≡ 0
  pub stands : Stands core []

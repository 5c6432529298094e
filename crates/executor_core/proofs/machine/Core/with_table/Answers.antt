-- The table of a plan is empty, and nothing happened yet.
use Rattle.std.proofs.Common.{false, refl}
use Rattle.queue_code.specs.Codes.{calls_of}
use Rattle.executor_core.proofs.Opens.{opening_is, opening_core}
use Rattle.executor_core.proofs.machine.Core.with_table.Goals as goal

pub invariant_of-result : goal.invariant_of-result
invariant_of-result g c =
    rw c.new.ensures.start (opening_core (calls_of c.args.code) c.args.limit c.tasks.result c.args.workers c.in_ok-table.table false c.new.ensures.orderly c.in_ok-table.ensures.workers c.requires.1 c.tasks.ensures c.in_ok-table.ensures.slots c.in_ok-table.ensures.stands refl)

pub returns : goal.returns
returns g c =
    rw c.new.ensures.start (opening_is (calls_of c.args.code) c.args.limit c.tasks.result c.args.workers c.in_ok-table.table c.new.ensures.orderly c.in_ok-table.ensures.slots c.in_ok-table.ensures.workers c.in_ok-table.ensures.stands)

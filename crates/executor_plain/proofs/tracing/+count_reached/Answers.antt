use Rattle.std.proofs.Common.{◌-◌, nat_le, length, take, drop, arith, length-take, length-drop}
use Rattle.queue_code.specs.Calls.{Planned}
use Rattle.executor_model.proofs.Flowing.{how_many-le}
use Rattle.executor_plain.proofs.tracing.+count_reached.Goals as goal

pub overflow_add-result : goal.overflow_add-result
overflow_add-result t c =
    let calls = c.args.calls.now in
    omega (arith, c.count_reached.ensures, how_many-le (λ (p : Planned). nat_le p.0 c.args.moment) (take (length calls - 1) (drop 1 calls)), length-take (length calls - 1) (drop 1 calls), length-drop 1 calls)

use Rattle.std.proofs.Common.{◌-◌, length, take, drop, arith, length-take, length-drop}
use Rattle.executor_plain.proofs.Plains.{finishes_le}
use Rattle.executor_plain.proofs.history.+finishes.Goals as goal

pub overflow_add-result : goal.overflow_add-result
overflow_add-result g t c =
    let past = c.args.past.now in
    omega (arith, c.finishes.ensures, finishes_le c.args.k (take (length past - 1) (drop 1 past)), length-take (length past - 1) (drop 1 past), length-drop 1 past)

use Rattle.std.proofs.Common.{◌-◌, length, take, drop, arith, length-take, length-drop}
use Rattle.executor_plain.proofs.Plains.{task_count_le}
use Rattle.executor_plain.proofs.tasks.+count_tasks.Goals as goal

pub overflow_add-result : goal.overflow_add-result
overflow_add-result t c =
    let calls = c.args.calls.now in
    omega (arith, c.count_tasks.ensures, task_count_le (take (length calls - 1) (drop 1 calls)), length-take (length calls - 1) (drop 1 calls), length-drop 1 calls)

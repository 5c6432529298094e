use Rattle.std.proofs.Common.{◌≡◌}
use Rattle.std.specs.List.{filter, range_with_len}
use Rattle.executor_model.specs.Answers.{is_swept}
use Rattle.executor_model.specs.Histories.{view_of_history}
use Rattle.executor_plain.proofs.ends.swept.Given as goal

abbrev pub invariant-loop-k : goal.invariant-loop-k
invariant-loop-k g l = l.ends.items ≡ filter (is_swept l.calls (record (view_of_history l.calls l.past) { moment = l.fn.now; stopped = l.stopped }) l.policies) (range_with_len 0 l.k)

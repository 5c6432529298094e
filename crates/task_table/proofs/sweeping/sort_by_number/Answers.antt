-- The tasks are in order.
use Rattle.std.proofs.Common.{rules}
use Rattle.std.proofs.lemmas.List.Sorted.{IsNonDecreasingBy-from_sort_by_key}
use Rattle.task_table.specs.declared.seat.TaskRef.{TaskRef}
use Rattle.task_table.proofs.sweeping.sort_by_number.Goals as goal

pub returns-clause-sorted : goal.returns-clause-sorted
returns-clause-sorted g k = IsNonDecreasingBy-from_sort_by_key (λ (r : TaskRef). r.number) _ k.sort_unstable_by_key.ensures.sorted (λ a r q h. search rules)

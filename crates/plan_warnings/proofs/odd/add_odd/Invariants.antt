use Rattle.std.proofs.Common.{◌≡◌, ◌++◌, map, filter, take}
use Rattle.plan_warnings.specs.Warnings.{all_kinds, odd_call}
use Rattle.plan_warnings.specs.own.Marks.{is_told_by, place_tree}
use Rattle.plan_warnings.proofs.odd.add_odd.Given as goal

abbrev pub invariant-loop-kind : goal.invariant-loop-kind
invariant-loop-kind g l = l.odd.items ≡ l.fn.odd.items ++ map (odd_call (place_tree l.place)) (filter (is_told_by l.marks (place_tree l.place)) (take l.kind-index all_kinds))

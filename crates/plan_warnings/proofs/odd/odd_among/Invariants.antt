use Rattle.std.proofs.Common.{◌≡◌, map, take}
use Rattle.std.specs.List.{flat_map}
use Rattle.plan_warnings.specs.Warnings.{odd_at}
use Rattle.plan_warnings.specs.own.Marks.{place_tree}
use Rattle.plan_warnings.proofs.odd.odd_among.Given as goal

abbrev pub invariant-loop-place : goal.invariant-loop-place
invariant-loop-place g l = l.odd.items ≡ flat_map (λ p. odd_at (map place_tree l.places) (place_tree p)) (take l.place-index l.places)

use Rattle.std.proofs.Common.{◌≡◌, drop}
use Rattle.queue_code.specs.Checks.{code_fault, AreTimed}
use Rattle.queue_code.specs.own.Walks.{walk_opening, first_fault, walked}
use Rattle.queue_code.specs.own.Sizes.{IsBounded}
use Rattle.queue_code.proofs.check.walk.Given as goal

-- the rest has the fault of the whole, and meets in the end what the whole does
abbrev pub invariant-loop-index : goal.invariant-loop-index
invariant-loop-index l = record {
  fault : first_fault l.progress (drop l.index l.instrs) ≡ code_fault l.instrs;
  ends : walked l.progress (drop l.index l.instrs) ≡ walked walk_opening l.instrs;
  timed : AreTimed (drop l.index l.instrs) → AreTimed l.instrs;
  bounded : IsBounded l.index l.progress;
}

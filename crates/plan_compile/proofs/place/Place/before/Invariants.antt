use Rattle.std.proofs.Common.{◌≡◌, length}
use Rattle.plan_compile.specs.own.Places.{ops_from, AreInTime}
use Rattle.plan_compile.proofs.place.Place.before.Given as goal

-- the same operations are left
abbrev pub invariant-loop-block : goal.invariant-loop-block
invariant-loop-block g l = record {
  same : ops_from l.iteration l.blocks ≡ ops_from l.fn.iteration l.fn.blocks;
  in_time : AreInTime (ops_from l.iteration l.blocks);
}

abbrev pub decreases-loop-block : goal.decreases-loop-block
decreases-loop-block g l = length l.blocks

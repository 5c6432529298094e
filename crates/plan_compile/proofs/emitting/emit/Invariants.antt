use Rattle.std.proofs.Common.{drop, take}
use Rattle.plan_compile.proofs.Emission.{BlocksToEmit}
use Rattle.plan_compile.proofs.emitting.emit.Given as goal

abbrev pub invariant-loop-block : goal.invariant-loop-block
invariant-loop-block g l = BlocksToEmit l.blocks (take l.block-index l.blocks) (drop l.block-index l.blocks) l.firsts.items l.first l.out.items

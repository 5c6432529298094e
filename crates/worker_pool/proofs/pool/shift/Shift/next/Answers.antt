use Rattle.std.proofs.Common.{◌∙◌, suc}
use Rattle.worker_pool.specs.own.Seen.{seen}
use Rattle.worker_pool.proofs.pool.shift.Shift.next.Goals as goal

pub loop-self-preserved : goal.loop-self-preserved
loop-self-preserved g c =
    let was = c.loop-self.invariant in
    let did = rw c.in-Ok-None.field-0-is at c.in-Ok-None.ensures.taken in
    record {
      nothing = (suc was.nothing.0, (seen c.loop-self.self, was.nothing.1, did));
      limit = c.start.ensures.limit ∙ was.limit;
      fault = did.fault ∙ was.fault;
    }

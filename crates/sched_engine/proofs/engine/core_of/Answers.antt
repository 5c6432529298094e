use Rattle.std.proofs.Common.{Err, ap}
use Rattle.sched_engine.proofs.engine.core_of.Goals as goal

pub returns-in-Err-Workers-clause-refuses : goal.returns-in-Err-Workers-clause-refuses
returns-in-Err-Workers-clause-refuses g c =
    let code = c.in_ok-code.ensures.code in
    (code.plan, code.reads, c.in-Err-Workers.ensures.workers.0 (ap Err c.in-Err-Workers.field-0-is))

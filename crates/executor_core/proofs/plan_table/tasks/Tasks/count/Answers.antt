use Rattle.std.proofs.Common.{length, ap, arith}
use Rattle.executor_core.proofs.plan_table.Pairs.{length_of}
use Rattle.executor_core.proofs.plan_table.tasks.Tasks.count.Goals as goal

pub returns : goal.returns
returns g c =
    let m = c.self.inside in
    omega (arith, c.len.ensures, m.words.ok.0, length_of m.words.items m.details.items c.self.invariant.paired, ap length c.self.view_is)

use Rattle.executor_core.proofs.plan_table.Numbered.{tasks_same}
use Rattle.executor_core.proofs.plan_table.tasks.Tasks.uncancelled.Goals as goal

pub returns-clause-same : goal.returns-clause-same
returns-clause-same g c =
    let m = c.self.inside in
    tasks_same m.words.items m.details.items c.args.self.now m.tallies c.self.invariant c.self.view_is

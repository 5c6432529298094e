use Rattle.command_work.proofs.Readings.{counts_of_plan}
use Rattle.command_work.proofs.files.plan_front.Goals as goal

pub returns-clause-counts : goal.returns-clause-counts
returns-clause-counts g c = counts_of_plan c.front_of.result _ _ _ _ c.front_of.ensures.counts

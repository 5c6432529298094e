use Rattle.command_work.specs.Fronts.{most_of_plan}
use Rattle.command_work.proofs.Readings.{plan_told}
use Rattle.command_work.proofs.files.plan_text.Goals as goal

pub returns-in-Ok-clause-fault : goal.returns-in-Ok-clause-fault
returns-in-Ok-clause-fault g c =
    plan_told g.P.Source.remaining g.P.Source.failed g.P.Source.fruitless most_of_plan c.args.opened c.in-Ok.file c.plan_front.new.file c.plan_front.result
    c.in-Ok.is c.plan_front.ensures.fault c.plan_front.ensures.taken c.plan_front.ensures.counts

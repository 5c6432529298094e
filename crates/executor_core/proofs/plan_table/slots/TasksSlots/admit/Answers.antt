use Rattle.std.proofs.Common.{ap, arith}
use Rattle.std.proofs.lemmas.Bool.{eqb-true}
use Rattle.task_table.specs.Changes.{submitted}
use Rattle.executor_core.proofs.plan_table.Numbered.{slots_length, empty_slot, put}
use Rattle.executor_core.proofs.plan_table.slots.TasksSlots.admit.Goals as goal

pub submit-requires-clause-known : goal.submit-requires-clause-known
submit-requires-clause-known g c = omega (arith, c.requires.within, slots_length 0 c.args.self.now)

pub submit-requires-clause-vacant : goal.submit-requires-clause-vacant
submit-requires-clause-vacant g c = empty_slot c.args.self.now c.args.slot c.requires.empty

pub returns : goal.returns
returns g c =
    put c.args.self.now c.submit.new.self c.args.slot _ _ (omega (arith, c.requires.within, slots_length 0 c.args.self.now)) c.submit.ensures (λ q. absurd cc)
    (ap (λ n. submitted n c.args.timing c.args.due) (eqb-true c.args.slot c.args._number c.requires.admits))

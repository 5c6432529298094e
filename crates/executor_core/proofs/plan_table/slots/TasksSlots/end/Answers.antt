use Rattle.std.proofs.Common.{◌≡◌, ◌≢◌, ◌+◌, ◌^◌, ap, rules, arith, ◌∙◌}
use Rattle.std.specs.Prelude.{slice_index_or}
use Rattle.std.proofs.lemmas.Bool.{ltb-true}
use Rattle.executor_model.specs.declared.task.Task.{Task}
use Rattle.executor_model.specs.declared.types.Outcome.TheVariants as o
use Rattle.executor_model.specs.State.{vacant, end_task}
use Rattle.executor_core.specs.plan_table.Numbered.{seat_of}
use Rattle.executor_core.specs.plan_table.Tasks.{is_periodic}
use Rattle.executor_core.proofs.plan_table.Numbered.{held_there, slot_within, again_periodic, end_there, ending_live, ends_so, ends_cancelled}
use Rattle.executor_core.proofs.plan_table.slots.TasksSlots.end.Goals as goal

pub finish-requires-clause-known : goal.finish-requires-clause-known
finish-requires-clause-known g c = slot_within c.args.self.now c.args.slot c.args._seat c.requires.there

pub finish-requires-clause-phase : goal.finish-requires-clause-phase
finish-requires-clause-phase g c = ap (λ (t : Task). t.phase) (held_there c.args.self.now c.args.slot c.args._seat c.requires.there).task ∙ c.requires.runs.0

pub finish-requires-clause-live : goal.finish-requires-clause-live
finish-requires-clause-live g c = λ other. ap (λ (t : Task). t.cancelled) (held_there c.args.self.now c.args.slot c.args._seat c.requires.there).task ∙ c.requires.live other

pub finish-requires-clause-run : goal.finish-requires-clause-run
finish-requires-clause-run g c = omega (arith, ltb-true (c.args._seat.run + 1) (2 ^ 32) c.requires.runs.1, ap (λ (t : Task). t.run) (held_there c.args.self.now c.args.slot c.args._seat c.requires.there).task)

pub finish-requires-clause-again : goal.finish-requires-clause-again
finish-requires-clause-again g c = λ more. ap (λ (t : Task). is_periodic t.timing) (held_there c.args.self.now c.args.slot c.args._seat c.requires.there).task ∙ again_periodic c.args.outcome c.args._seat.timing c.requires.again more

pub mark-requires-clause-known : goal.mark-requires-clause-known
mark-requires-clause-known g c = slot_within c.finish.new.self c.args.slot (seat_of c.args.slot (end_task c.args.outcome c.args.due (slice_index_or c.args.self.now c.args.slot vacant))) (end_there c.args.self.now c.finish.new.self c.args.slot c.args._seat c.args.outcome c.args.due c.requires.there c.finish.ensures)

pub mark-requires-clause-accepted : goal.mark-requires-clause-accepted
mark-requires-clause-accepted g c = (held_there c.finish.new.self c.args.slot (seat_of c.args.slot (end_task c.args.outcome c.args.due (slice_index_or c.args.self.now c.args.slot vacant))) (end_there c.args.self.now c.finish.new.self c.args.slot c.args._seat c.args.outcome c.args.due c.requires.there c.finish.ensures)).accepted

pub mark-requires-clause-live : goal.mark-requires-clause-live
mark-requires-clause-live g c =
    let over : c.args.outcome ≡ o.Ended = search rules in
    ending_live c.args.self.now c.finish.new.self c.args.slot c.args._seat c.args.outcome c.args.due c.requires.there c.finish.ensures over c.requires.live

pub returns-then-eq : goal.returns-then-eq
returns-then-eq g c =
    let over : c.args.outcome ≡ o.Ended = search rules in
    ends_cancelled c.args.self.now c.finish.new.self c.mark.new.self c.args.slot c.args._seat c.args.outcome c.args.due c.requires.there c.finish.ensures c.mark.ensures over

pub returns-else-eq : goal.returns-else-eq
returns-else-eq g c =
    let other : c.args.outcome ≢ o.Ended = search rules in
    ends_so c.args.self.now c.finish.new.self c.args.slot c.args._seat c.args.outcome c.args.due c.requires.there c.finish.ensures other

use Rattle.std.proofs.Common.{subst}
use Rattle.live_core.specs.Events.{BeginsNone}
use Rattle.task_table.specs.declared.answers.StartError.{StartError}
use Rattle.live_engine.proofs.Replied.{no_run, start_fails, start_taken}
use Rattle.live_engine.proofs.step_events.start.Goals as goal

pub returns-in-Ok-clause-takes : goal.returns-in-Ok-clause-takes
returns-in-Ok-clause-takes g c =
    let did = c.in-Ok.ensures in
    start_taken c.args.executor.now c.start.new.self c.args.worker c.in-Ok.begun c.start_answer.result did.happens did.stays.workers did.ended did.numbered c.start_answer.ensures

pub returns-in-Err-Refused-clause-takes : goal.returns-in-Err-Refused-clause-takes
returns-in-Err-Refused-clause-takes g c =
    start_fails c.args.executor.now c.start.new.self c.args.worker c.in-Err-Refused.error (subst (λ (error : StartError). BeginsNone c.args.executor.now c.start.new.self c.args.worker error) c.in-Err-Refused.field-0-is c.in-Err-Refused.ensures.failed).1

pub returns-in-Err-Full-clause-refuses : goal.returns-in-Err-Full-clause-refuses
returns-in-Err-Full-clause-refuses g c =
    no_run c.args.executor.now c.args.worker (subst (λ (error : StartError). BeginsNone c.args.executor.now c.start.new.self c.args.worker error) c.in-Err-Full.field-0-is c.in-Err-Full.ensures.failed).2

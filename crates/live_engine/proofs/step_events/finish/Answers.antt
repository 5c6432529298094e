use Rattle.std.proofs.Common.{refl}
use Rattle.executor_model.specs.declared.types.Event.TheVariants as v
use Rattle.executor_model.specs.declared.types.Happening.TheVariants as h
use Rattle.live_core.specs.Events.{finish_reply}
use Rattle.live_engine.proofs.Steps.{within_no_start}
use Rattle.live_engine.proofs.Replied.{event_fails, event_quiet}
use Rattle.live_engine.proofs.step_events.finish.Goals as goal

pub returns-in-Ok-clause-takes : goal.returns-in-Ok-clause-takes
returns-in-Ok-clause-takes g c =
    let did = c.in-Ok.ensures in
    event_quiet c.args.executor.now c.finish.new.self (v.Finish c.args.worker c.args.ending) (h.Finish c.args.worker c.args.ending) (finish_reply c.args.worker c.in-Ok.ended) c.finish_answer.result
    did.happens did.stays.workers c.finish.ensures.ended c.finish_answer.ensures (λ so_far same. refl) (λ workers so_far at. within_no_start)

pub returns-in-Err-clause-takes : goal.returns-in-Err-clause-takes
returns-in-Err-clause-takes g c =
    let failed = c.in-Err.ensures.failed.1 in
    event_fails c.args.executor.now c.finish.new.self (v.Finish c.args.worker c.args.ending) (h.Finish c.args.worker c.args.ending) c.in-Err.error failed.happens failed.is (λ so_far same. refl) (λ workers so_far at. within_no_start)

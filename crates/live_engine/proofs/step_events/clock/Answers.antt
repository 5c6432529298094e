use Rattle.std.proofs.Common.{refl}
use Rattle.executor_model.specs.declared.types.Answer.TheVariants as a
use Rattle.executor_model.specs.declared.types.Event.TheVariants as v
use Rattle.executor_model.specs.declared.types.Happening.TheVariants as h
use Rattle.executor_model.specs.Answers.{bare}
use Rattle.live_engine.proofs.Steps.{within_no_start}
use Rattle.live_engine.proofs.Replied.{event_fails, event_quiet}
use Rattle.live_engine.proofs.step_events.clock.Goals as goal

pub returns-in-Ok-clause-takes : goal.returns-in-Ok-clause-takes
returns-in-Ok-clause-takes g c =
    let old = c.args.executor.now in
    let did = c.in-Ok.ensures in
    event_quiet old c.clock.new.self (v.Clock c.args.moment) (h.Clock c.args.moment) (bare a.Clock) a.Clock did.happens did.workers c.clock.ensures.ended refl (λ so_far same. refl) (λ workers so_far at. within_no_start)

pub returns-in-Err-clause-takes : goal.returns-in-Err-clause-takes
returns-in-Err-clause-takes g c =
    let failed = c.in-Err.ensures.failed.1 in
    event_fails c.args.executor.now c.clock.new.self (v.Clock c.args.moment) (h.Clock c.args.moment) c.in-Err.error failed.happens failed.is (λ so_far same. refl) (λ workers so_far at. within_no_start)

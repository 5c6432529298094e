use Rattle.live_engine.proofs.Replied.{outside_given, outside_none}
use Rattle.live_engine.proofs.step_events.cancel.Goals as goal

pub returns-in-Ok-clause-takes : goal.returns-in-Ok-clause-takes
returns-in-Ok-clause-takes g c = outside_given c.args.executor.now c.cancel_number.new.self c.args.task c.in-Ok.effect c.in-Ok.ensures.done c.cancel_number.ensures.stays

pub returns-in-Err-clause-takes : goal.returns-in-Err-clause-takes
returns-in-Err-clause-takes g c = outside_none c.args.executor.now c.cancel_number.new.self c.args.task c.in-Err.error c.in-Err.ensures.failed c.cancel_number.ensures.stays

use Rattle.std.proofs.Common.{◌+◌, refl, sym, subst, arith}
use Rattle.sched_time.specs.declared.timing.Timing.TheVariants as t
use Rattle.call_text.specs.declared.call.CallLine.TheVariants as call
use Rattle.live_engine.specs.declared.stops.PieceEnd.{PieceEnd}
use Rattle.live_engine.specs.declared.live_line.LiveLine.TheVariants as l
use Rattle.live_engine.specs.own.LiveSteps.{Refuses}
use Rattle.live_engine.proofs.Replied.{call_quiet, refuses_submission, is_schedule}
use Rattle.live_engine.proofs.step_calls.schedule.Goals as goal

pub returns-in-Ok-clause-takes : goal.returns-in-Ok-clause-takes
returns-in-Ok-clause-takes g c =
    let old = c.args.executor.now in
    call_quiet old c.schedule.new.self (call.Schedule c.args.delay) _ c.submit_answer.result (old.count + 1) c.in-Ok.ensures.made.makes c.in-Ok.ensures.stays (c.submit_answer.ensures (t.Once) refl) c.in-Ok.ensures.made.near (omega (arith, c.if-numbers-ge-MOST_NUMBERS.false, c.numbers.ensures))

pub returns-in-Err-clause-refuses : goal.returns-in-Err-clause-refuses
returns-in-Err-clause-refuses g c =
    let error = c.in-Err.error in
    subst (λ (end : PieceEnd). Refuses end c.args.executor.now (l.Call (call.Schedule c.args.delay))) (sym c.stop_of.ensures)
    (refuses_submission c.args.executor.now (call.Schedule c.args.delay) (t.Once) c.args.delay error (is_schedule c.args.delay) c.in-Err.ensures.failed (c.requires.fits, tt) (omega (arith, c.if-numbers-ge-MOST_NUMBERS.false, c.numbers.ensures)))

use Rattle.std.proofs.Common.{sym, ap, ◌∙◌}
use Rattle.std.specs.Prelude.{max}
use Rattle.executor_model.specs.declared.types.Happening.{Happening}
use Rattle.executor_model.specs.Answers.{Reply}
use Rattle.executor_model.specs.Histories.{answer, now_of, happenings}
use Rattle.executor_plain.proofs.Plains.{call_replies}
use Rattle.executor_plain.proofs.table.answer_after.Goals as goal

pub answer_call-requires-clause-answered : goal.answer_call-requires-clause-answered
answer_call-requires-clause-answered g c = (c.args.workers, c.requires.answered)

pub answer_start-requires-clause-answered : goal.answer_start-requires-clause-answered
answer_start-requires-clause-answered g c = (c.args.workers, c.requires.answered)

pub answer_finish-requires-clause-answered : goal.answer_finish-requires-clause-answered
answer_finish-requires-clause-answered g c = (c.args.workers, c.requires.answered)

pub returns-in-Some : goal.returns-in-Some
returns-in-Some g c =
    c.answer_call.ensures (max (now_of c.args.calls.now (happenings c.args.past.now)) c.in-Some.field-0-0)
    ∙ ap (λ (r : Reply). r.answer) (sym (call_replies c.args.calls.now c.args.workers c.made.result c.in-Some.field-0-0 c.args.past.now c.args.happening c.in-Some.call c.in-Call.is c.made.ensures c.in-Some.ensures))

pub returns-in-Clock : goal.returns-in-Clock
returns-in-Clock g c = c.answer_clock.ensures c.args.workers ∙ ap (λ (x : Happening). (answer c.args.calls.now c.args.workers c.args.past.now x).answer) (sym c.in-Clock.is)

pub returns-in-Cancel : goal.returns-in-Cancel
returns-in-Cancel g c = c.answer_cancel.ensures c.args.workers ∙ ap (λ (x : Happening). (answer c.args.calls.now c.args.workers c.args.past.now x).answer) (sym c.in-Cancel.is)

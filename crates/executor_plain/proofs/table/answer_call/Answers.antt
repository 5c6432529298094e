use Rattle.std.proofs.Common.{sym, ap, ◌∙◌}
use Rattle.queue_code.specs.declared.call.CodeCall.{CodeCall}
use Rattle.executor_model.specs.Answers.{called}
use Rattle.executor_model.specs.Histories.{view_of_history}
use Rattle.executor_plain.proofs.table.answer_call.Goals as goal

pub returns-in-Submit : goal.returns-in-Submit
returns-in-Submit g c = λ moment.
    c.answer_submission.ensures c.in-Submit.delay moment
    ∙ ap (λ (x : CodeCall). (called c.args.calls.now (record (view_of_history c.args.calls.now c.args.past.now) { moment = moment }) x).answer) (sym c.in-Submit.is)

pub returns-in-Ask : goal.returns-in-Ask
returns-in-Ask g c = λ moment.
    c.answer_ask.ensures moment
    ∙ ap (λ (x : CodeCall). (called c.args.calls.now (record (view_of_history c.args.calls.now c.args.past.now) { moment = moment }) x).answer) (sym c.in-Ask.is)

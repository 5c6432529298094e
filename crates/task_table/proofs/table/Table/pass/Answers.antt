-- The call takes its step.
use Rattle.std.proofs.Common.{sym, subst}
use Rattle.queue_code.specs.declared.call.CodeCall.TheVariants as c
use Rattle.executor_model.specs.declared.types.Answer.TheVariants as a
use Rattle.executor_model.specs.declared.types.Happening.TheVariants as h
use Rattle.executor_model.specs.declared.types.Refusal.TheVariants as refusal
use Rattle.executor_model.specs.Answers.{bare}
use Rattle.executor_model.specs.Histories.{happenings}
use Rattle.executor_model.specs.State.{after}
use Rattle.task_table.specs.Tables.{workers_of, Takes, CallSteps}
use Rattle.task_table.specs.Ends.{effect_gone}
use Rattle.task_table.specs.Changes.{at_moment}
use Rattle.task_table.proofs.Submits.{illegal_steps}
use Rattle.task_table.proofs.Gone.{gone_call_steps}
use Rattle.task_table.proofs.table.Table.pass.Goals as goal

pub returns-clause-gone : goal.returns-clause-gone
returns-clause-gone g k = λ number new calls past stands is.
    subst (λ m. Takes (at_moment m k.args.at) calls past h.Call (bare (a.Cancel number (effect_gone ((after calls (workers_of k.args.self.now) (happenings past)).tasks number).phase)))) (sym k.self.view_is)
    (gone_call_steps k.args.self.now number k.args.at new k.requires.moment calls past stands is)

pub returns-clause-illegal : goal.returns-clause-illegal
returns-clause-illegal g k = λ number.
    subst (λ m. CallSteps k.args.self.now (at_moment m k.args.at) (k.args.at, c.Illegal number) (bare (a.Refuse number refusal.Illegal))) (sym k.self.view_is)
    (illegal_steps k.args.self.now number k.args.at k.requires.moment)

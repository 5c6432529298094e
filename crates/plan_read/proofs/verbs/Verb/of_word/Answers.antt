use Rattle.std.proofs.Common.{refl}
use Rattle.plan_read.proofs.Words.{differs}
use Rattle.plan_read.proofs.verbs.Verb.of_word.Goals as goal

pub returns-in-schedule : goal.returns-in-schedule
returns-in-schedule c = rw c.in-schedule.is refl

pub returns-in-execute : goal.returns-in-execute
returns-in-execute c = rw c.in-execute.is refl

pub returns-in-rate : goal.returns-in-rate
returns-in-rate c = rw c.in-rate.is refl

pub returns-in-fixed : goal.returns-in-fixed
returns-in-fixed c = rw c.in-fixed.is refl

pub returns-in-cancel : goal.returns-in-cancel
returns-in-cancel c = rw c.in-cancel.is refl

pub returns-in-policy : goal.returns-in-policy
returns-in-policy c = rw c.in-policy.is refl

pub returns-in-shutdown : goal.returns-in-shutdown
returns-in-shutdown c = rw c.in-shutdown.is refl

pub returns-in-shutdown_now : goal.returns-in-shutdown_now
returns-in-shutdown_now c = rw c.in-shutdown_now.is refl

pub returns-in-ask : goal.returns-in-ask
returns-in-ask c = rw c.in-ask.is refl

pub returns-in_default : goal.returns-in_default
returns-in_default c =
    let w = c.args.word.now in
    let not = c.in_default in
    rw (differs w _ not.not-schedule, differs w _ not.not-execute, differs w _ not.not-rate, differs w _ not.not-fixed, differs w _ not.not-cancel, differs w _ not.not-policy, differs w _ not.not-shutdown, differs w _ not.not-shutdown_now, differs w _ not.not-ask) refl

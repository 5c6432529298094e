use Rattle.std.proofs.Common.{◌≡◌, ℕ, sym, ap, subst, ◌∙◌}
use Rattle.executor_model.specs.declared.types.Happening.{Happening}
use Rattle.executor_model.specs.declared.types.Happening.TheVariants as h
use Rattle.executor_model.specs.declared.types.Answer.TheVariants as a
use Rattle.executor_model.specs.declared.types.CancelEffect.TheVariants as f
use Rattle.executor_model.specs.State.{reply_of}
use Rattle.executor_core.specs.CoreView.{workers_of, state_of}
use Rattle.executor_core.proofs.Continuing.{step_continues}
use Rattle.executor_core.proofs.machine.Core.happen_foreseen.Goals as goal

one_task : (k task : ℕ) → h.Cancel k ≡ h.Cancel task → k ≡ task
one_task k task same = cc

pub returns-in-Call-clause-steps : goal.returns-in-Call-clause-steps
returns-in-Call-clause-steps g c = rw c.in-Call.is c.make_call.ensures.steps

pub returns-in-Call-clause-history : goal.returns-in-Call-clause-history
returns-in-Call-clause-history g c = step_continues c.args.self.now c.make_call.new.self c.args.out.now.items c.make_call.new.out.items c.args.foreseen.happening (returns-in-Call-clause-steps g c)

pub returns-in-Clock-clause-steps : goal.returns-in-Clock-clause-steps
returns-in-Clock-clause-steps g c = rw c.in-Clock.is c.move_clock.ensures.steps

pub returns-in-Clock-clause-history : goal.returns-in-Clock-clause-history
returns-in-Clock-clause-history g c = step_continues c.args.self.now c.move_clock.new.self c.args.out.now.items c.move_clock.new.out.items c.args.foreseen.happening (returns-in-Clock-clause-steps g c)

pub returns-in-Start-clause-steps : goal.returns-in-Start-clause-steps
returns-in-Start-clause-steps g c = rw c.in-Start.is c.start.ensures.steps

pub returns-in-Start-clause-history : goal.returns-in-Start-clause-history
returns-in-Start-clause-history g c = step_continues c.args.self.now c.start.new.self c.args.out.now.items c.start.new.out.items c.args.foreseen.happening (returns-in-Start-clause-steps g c)

pub returns-in-Finish-clause-steps : goal.returns-in-Finish-clause-steps
returns-in-Finish-clause-steps g c = rw c.in-Finish.is c.finish_as.ensures.steps

pub returns-in-Finish-clause-history : goal.returns-in-Finish-clause-history
returns-in-Finish-clause-history g c = step_continues c.args.self.now c.finish_as.new.self c.args.out.now.items c.finish_as.new.out.items c.args.foreseen.happening (returns-in-Finish-clause-steps g c)

pub returns-in-Cancel-clause-steps : goal.returns-in-Cancel-clause-steps
returns-in-Cancel-clause-steps g c = rw c.in-Cancel.is c.cancel.ensures.steps

pub returns-in-Cancel-clause-history : goal.returns-in-Cancel-clause-history
returns-in-Cancel-clause-history g c = step_continues c.args.self.now c.cancel.new.self c.args.out.now.items c.cancel.new.out.items c.args.foreseen.happening (returns-in-Cancel-clause-steps g c)

pub returns-in-Cancel-clause-effective : goal.returns-in-Cancel-clause-effective
returns-in-Cancel-clause-effective g c = λ task same said.
    let k = c.in-Cancel.task in
    let named : k ≡ task = one_task k task (sym c.in-Cancel.is ∙ same) in
    let old = c.args.self.now in
    c.cancel.ensures.effective
    (subst (λ (x : Happening). (reply_of old.calls (workers_of old) (state_of old) x).answer ≡ a.Outside k f.Yes) c.in-Cancel.is (said ∙ ap (λ n. a.Outside n f.Yes) (sym named)))

pub returns-in-Purge-clause-steps : goal.returns-in-Purge-clause-steps
returns-in-Purge-clause-steps g c = rw c.in-Purge.is c.purge.ensures.steps

pub returns-in-Purge-clause-history : goal.returns-in-Purge-clause-history
returns-in-Purge-clause-history g c = step_continues c.args.self.now c.purge.new.self c.args.out.now.items c.purge.new.out.items c.args.foreseen.happening (returns-in-Purge-clause-steps g c)

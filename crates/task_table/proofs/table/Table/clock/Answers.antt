-- The clock takes its step, or is answered by an error.
use Rattle.std.proofs.Common.{◌<◌, ◌≤◌, sym, subst, ap, arith}
use Rattle.sched_time.specs.Times.{longest}
use Rattle.executor_model.specs.declared.types.Answer.TheVariants as a
use Rattle.executor_model.specs.declared.types.Happening.TheVariants as h
use Rattle.executor_model.specs.Answers.{bare}
use Rattle.task_table.specs.Tables.{TableView, EventSteps}
use Rattle.task_table.specs.Changes.{at_moment}
use Rattle.task_table.proofs.Clocks.{clock_back, clock_far, clock_steps, accepts}
use Rattle.task_table.proofs.table.Table.clock.Goals as goal

pub returns-then-moment-self-clause-failed : goal.returns-then-moment-self-clause-failed
returns-then-moment-self-clause-failed g k =
    let back : k.args.moment < k.args.self.now.moment = omega (arith, ap (λ (m : TableView). m.moment) k.self.view_is, k.if-moment-self.true) in
    (back, clock_back k.args.self.now k.args.moment back)

pub returns-then-moment-gt-LONGEST-clause-failed : goal.returns-then-moment-gt-LONGEST-clause-failed
returns-then-moment-gt-LONGEST-clause-failed g k =
    let ahead : k.args.self.now.moment ≤ k.args.moment = omega (arith, ap (λ (m : TableView). m.moment) k.self.view_is, k.if-moment-self.false) in
    let far : longest < k.args.moment = omega (arith, k.if-moment-gt-LONGEST.true) in
    ((ahead, far), clock_far k.args.self.now k.args.moment ahead far)

pub returns-clause-steps : goal.returns-clause-steps
returns-clause-steps g k =
    subst (λ m. EventSteps k.args.self.now (at_moment m k.args.moment) (h.Clock k.args.moment) (bare a.Clock)) (sym k.self.view_is)
    (clock_steps k.args.self.now k.args.moment (accepts k.args.self.now.moment k.args.moment (omega (arith, ap (λ (m : TableView). m.moment) k.self.view_is, k.if-moment-self.false)) (omega (arith, k.if-moment-gt-LONGEST.false))))

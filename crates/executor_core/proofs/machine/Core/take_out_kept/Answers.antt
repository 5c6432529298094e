-- The kept tasks are dropped.
use Rattle.std.proofs.Common.{length, ap, ◌∙◌, subst}
use Rattle.executor_model.specs.declared.types.Happening.TheVariants as h
use Rattle.executor_model.specs.declared.types.Answer.TheVariants as a
use Rattle.executor_core.specs.CoreView.{CoreView}
use Rattle.executor_core.specs.own.Invariants.{core_of}
use Rattle.executor_core.specs.own.OwnSteps.{Takes}
use Rattle.executor_core.proofs.Purging.{purges, purge_size}
use Rattle.executor_core.proofs.machine.Core.take_out_kept.Goals as goal

pub invariant_of-self : goal.invariant_of-self
invariant_of-self g c =
    let m = c.self.inside in
    let u = c.drop_kept.new.table in
    (purges m.calls.items m.limit m.taken m.calls.made m.table u m.sought c.self.invariant c.drop_kept.ensures.unkept c.drop_kept.ensures.purges).core

pub returns-clause-step : goal.returns-clause-step
returns-clause-step g c =
    let m = c.self.inside in
    let u = c.drop_kept.new.table in
    subst (λ (x : CoreView). Takes x (core_of m.calls.items m.limit m.taken m.calls.made u) h.Purge a.Purge) c.self.view_is
    (purges m.calls.items m.limit m.taken m.calls.made m.table u m.sought c.self.invariant c.drop_kept.ensures.unkept c.drop_kept.ensures.purges).takes

pub returns-clause-size : goal.returns-clause-size
returns-clause-size g c = purge_size c.self.inside.table c.drop_kept.new.table c.drop_kept.ensures.unkept ∙ ap (λ (x : CoreView). length x.tasks) c.self.view_is

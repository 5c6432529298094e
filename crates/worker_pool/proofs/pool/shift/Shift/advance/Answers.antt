use Rattle.std.proofs.Common.{◌≡◌, ◌∙◌, IfOk, sym, ap, subst}
use Rattle.executor_model.specs.declared.types.Event.TheVariants as v
use Rattle.worker_pool.specs.Books.{BookView}
use Rattle.worker_pool.specs.Applies.{Applies, Tells}
use Rattle.worker_pool.specs.own.Shifts.{Under}
use Rattle.worker_pool.proofs.Shifting.{told_of_a_clock}
use Rattle.worker_pool.proofs.pool.shift.Shift.advance.Goals as goal

pub returns-clause-told : goal.returns-clause-told
returns-clause-told g c =
    told_of_a_clock g.N.Named.cells c.args.self.now.book c.apply-applied.new.self c.args.moment c.apply-applied.result
    c.lines-before.ensures.book c.lines-after.ensures.book (c.lines-after.ensures.named.0 ∙ sym c.lines-before.ensures.named.0) c.apply-applied.ensures.applied

pub returns-clause-applied : goal.returns-clause-applied
returns-clause-applied g c =
    let old = c.args.self.now.book in
    let same : c.wake.new.self.book ≡ c.apply-applied.new.self = ap (λ (u : Under). u.book) c.wake.ensures.wakes.counted in
    subst (λ (new : BookView). IfOk c.apply-applied.result (λ told. (did : Applies old new (v.Clock c.args.moment)) × Tells old new did.last told))
    (sym same) c.apply-applied.ensures.applied

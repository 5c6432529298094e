-- More slots leave the data where they are.
use Rattle.std.proofs.Common.{subst}
use Rattle.timers.specs.Timers.{TimersView, GivesNone}
use Rattle.timers.specs.own.Rooms.{seen}
use Rattle.timers.proofs.Kept.{grown_or_same, grown_kept}
use Rattle.timers.proofs.timers.Timers.reserve.Goals as goal

pub returns-clause-keeps : goal.returns-clause-keeps
returns-clause-keeps g c =
    let e = c.self.inside in
    let new = seen c.grow.new.executor c.grow.new.user_data.items in
    subst (λ (v : TimersView). GivesNone v new) c.self.view_is
    (grown_or_same c.grow.result (seen e.executor e.user_data.items) new c.args.tasks c.grow.ensures.grown c.grow.ensures.executor c.grow.ensures.user_data)

pub invariant_of-self : goal.invariant_of-self
invariant_of-self g c =
    let e = c.self.inside in
    grown_kept c.grow.result (seen e.executor e.user_data.items) (seen c.grow.new.executor c.grow.new.user_data.items) c.args.tasks c.grow.ensures.size c.grow.ensures.grown c.grow.ensures.executor c.grow.ensures.user_data c.self.invariant

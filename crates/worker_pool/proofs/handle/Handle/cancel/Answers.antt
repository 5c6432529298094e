use Rattle.std.proofs.Common.{◌∙◌, length, ap}
use Rattle.worker_pool.proofs.Wins.{cancel_wins}
use Rattle.worker_pool.proofs.handle.Handle.cancel.Goals as goal

pub invariant_of-self : goal.invariant_of-self
invariant_of-self g c =
    let tasks = ap (λ s. s.tasks) c.shared.view_is ∙ c.self.invariant.2 in
    let wins = cancel_wins (length g.N.Named.cells) c.shared.inside.words.tasks c.args.task c.cancel.result c.self.inside.seat.view c.cancel.new.self.view tasks (λ high. (c.cancel.ensures.past high).0) c.cancel.ensures.won c.self.invariant.5 in
    (c.self.invariant.0, c.self.invariant.1, c.self.invariant.2, c.cancel.ensures.table ∙ c.self.invariant.3, c.self.invariant.4, wins)

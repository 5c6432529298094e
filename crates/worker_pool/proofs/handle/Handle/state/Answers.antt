use Rattle.std.proofs.Common.{◌∙◌, length, ap}
use Rattle.worker_pool.proofs.Wins.{look_wins}
use Rattle.worker_pool.proofs.handle.Handle.state.Goals as goal

pub invariant_of-self : goal.invariant_of-self
invariant_of-self g c =
    let wins = look_wins (length g.N.Named.cells) c.shared.inside.words.tasks c.args.task c.state.result c.self.inside.seat.view c.state.new.self.view c.state.ensures.met (λ high. ap (λ s. s.view) (c.state.ensures.past high).1) c.self.invariant.5 in
    (c.self.invariant.0, c.self.invariant.1, c.self.invariant.2, c.state.ensures.table ∙ c.self.invariant.3, c.self.invariant.4, wins)

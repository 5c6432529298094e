use Rattle.std.proofs.Common.{◌≡◌, ◌∙◌, length, sym, ap}
use Rattle.worker_pool.proofs.Wins.{wins_none}
use Rattle.worker_pool.proofs.book.Book.admit.Goals as goal

pub invariant_of-result : goal.invariant_of-result
invariant_of-result g c =
    let view = c.shared.view_is in
    let tasks : c.args.shared.now.tasks ≡ length g.N.Named.cells =
    sym (ap (λ s. s.tasks) view) ∙ (sym c.shared.invariant ∙ (ap (λ s. length s.cells) view ∙ ap length c.requires.shared.1))
    in
    let cells : c.deref.result.now ≡ g.N.Named.cells = c.deref.ensures.value ∙ (ap (λ s. s.cells) view ∙ c.requires.shared.1) in
    let split = c.in-Ok-split.ensures.ok in
    let wins = wins_none (length g.N.Named.cells) c.shared.inside.words.tasks c.in-Ok-split.seat.view split.3 in
    (c.requires.shared.0, c.requires.shared.1, tasks, split.2 ∙ c.self.invariant.2, c.in-Ok.ensures.of ∙ cells, wins)

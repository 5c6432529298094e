use Rattle.std.proofs.Common.{◌↔◌, IsTrue, subst}
use Rattle.executor_core.specs.CoreView.{state_of}
use Rattle.executor_model.specs.State.{view_of_state}
use Rattle.executor_model.specs.Needs.{IsRipe}
use Rattle.worker_pool.specs.Books.{BookView}
use Rattle.worker_pool.proofs.book.Book.ripe.Goals as goal

pub returns-clause-ripe : goal.returns-clause-ripe
returns-clause-ripe g c = subst (λ (b : BookView). IsTrue c.ripe.result ↔ IsRipe b.core.calls (view_of_state b.core.calls (state_of b.core))) c.self.view_is c.ripe.ensures

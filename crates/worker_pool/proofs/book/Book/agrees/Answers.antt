use Rattle.std.proofs.Common.{◌≡◌, ◌∙◌, refl, sym, ap, subst}
use Rattle.std.specs.Prelude.{slice_index, IsSome}
use Rattle.worker_pool.proofs.book.Book.agrees.Goals as goal

pub agreed-requires-clause-mine : goal.agreed-requires-clause-mine
agreed-requires-clause-mine g c = λ k note is.
    let knows = c.self.invariant.5.notes k note is in
    let cells : c.deref.result.now ≡ g.N.Named.cells = c.deref.ensures.value ∙ (ap (λ s. s.cells) c.shared.view_is ∙ c.requires.shared.1) in
    (knows.cell ∙ ap (λ cs. slice_index cs k) (sym cells), subst (λ o. IsSome o) (sym knows.known) refl)

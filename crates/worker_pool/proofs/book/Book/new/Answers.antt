use Rattle.std.proofs.Common.{◌≡◌, ◌∙◌, false, List, [], Option, None, subst, sym, ap, length, arith}
use Rattle.std.proofs.lemmas.List.{length-replicate}
use Rattle.once_cell.specs.declared.race.note.Note.{Note}
use Rattle.result_cell.specs.declared.verdict.Verdict.{Verdict}
use Rattle.queue_code.specs.Calls.{task_count}
use Rattle.queue_code.specs.Codes.{calls_of}
use Rattle.executor_model.specs.declared.types.Happening.{Happening}
use Rattle.executor_model.specs.declared.types.Line.{Line}
use Rattle.worker_pool.specs.Books.{IsBook}
use Rattle.worker_pool.proofs.Booking.{opening_book}
use Rattle.worker_pool.proofs.book.Book.new.Goals as goal

pub invariant_of-result : goal.invariant_of-result
invariant_of-result g c =
    let calls = calls_of c.args.code in
    let nothing : Option (Note Verdict) = None in
    let opens = c.in-Ok.ensures.opening in
    let cells : c.shared.inside.cells.items ≡ g.N.Named.cells = ap (λ s. s.cells) c.shared.view_is ∙ c.requires.shared.1 in
    let tasks : length g.N.Named.cells ≡ c.args.shared.now.tasks = ap length (sym cells) ∙ (c.shared.invariant ∙ ap (λ s. s.tasks) c.shared.view_is) in (
      opens.calls ∙ c.requires.named.0,
      opens.count ∙ c.requires.named.1,
      c.requires.seat.0 ∙ c.requires.shared.0,
      tasks ∙ (c.requires.tasks ∙ ap task_count c.requires.named.0),
      omega (arith, ap length c.in-Ok-empty_notes.ensures.none, length-replicate c.len-count.result nothing, c.len-count.ensures, c.shared.inside.cells.ok.0, ap length cells),
      subst (λ (hs : List Happening). IsBook g.N.Named.cells (record { core = c.in-Ok.core; seat = c.args.seat.view; table = c.args.seat.table; happened = hs; lines = c.new-3.result.items; notes = c.in-Ok-empty_notes.notes.items; forestalled = false })) (sym c.new-2.ensures.items)
          (subst (λ (ls : List Line). IsBook g.N.Named.cells (record { core = c.in-Ok.core; seat = c.args.seat.view; table = c.args.seat.table; happened = []; lines = ls; notes = c.in-Ok-empty_notes.notes.items; forestalled = false })) (sym c.new-3.ensures.items)
          (opening_book g.N.Named.cells c.args.seat.table calls c.args.workers c.args.limit c.args.shared.now.tasks c.len-count.result c.in-Ok.core c.args.seat.view c.in-Ok-empty_notes.notes.items false c.calls-calls.ensures.orderly opens c.requires.seat.1 c.requires.tasks c.in-Ok-empty_notes.ensures.none)),
      c.requires.named.1,
    )

use Rattle.std.proofs.Common.{◌≡◌, ◌+◌, ◌-◌, ◌∙◌, List, sym, ap, subst, length, arith}
use Rattle.queue_code.specs.Calls.{task_count}
use Rattle.executor_model.specs.Histories.{HistoryEntry}
use Rattle.worker_pool.specs.Books.{BookView}
use Rattle.worker_pool.specs.Applies.{OnlyMarks, OnlyNotes, TellsUpTo}
use Rattle.worker_pool.specs.own.Steps.{OnlyNoted, OnlyOwnGrows}
use Rattle.worker_pool.proofs.Applying.{book_of}
use Rattle.worker_pool.proofs.Retiring.{length_noted, looked_book, looked_notes, book_knows}
use Rattle.worker_pool.proofs.book.Book.note_cancels.Goals as goal

pub overflow_sub-result : goal.overflow_sub-result
overflow_sub-result g c =
    let roomy = c.make_room.new.self in
    let new = c.look_all.new.self in
    let many = length_noted roomy.core new.core roomy.happenings.items new.happenings.items c.look_all.ensures.noted in
    omega (arith, many, c.len-before.ensures, c.len.ensures, roomy.happenings.ok.0, new.happenings.ok.0)

pub invariant_of-self-2 : goal.invariant_of-self-2
invariant_of-self-2 g c =
    let desk = c.self.inside.desk in
    let b = book_of desk.seat.table desk.core desk.seat.view desk.happenings.items desk.lines.items c.self.inside.notes.items c.self.inside.forestalled in
    let roomy = c.make_room.new.self in
    let new = c.look_all.new.self in
    let only : OnlyNoted b.core new.core b.happened new.happenings.items =
    subst (λ m. OnlyNoted m new.core b.happened new.happenings.items) c.make_room.ensures.core (subst (λ hs. OnlyNoted roomy.core new.core hs new.happenings.items) c.make_room.ensures.happenings c.look_all.ensures.noted)
    in
    let handles = subst (λ v. OnlyOwnGrows v new.seat.view) (ap (λ s. s.view) c.make_room.ensures.seat) c.look_all.ensures.handles in (
      only.same.calls ∙ c.self.invariant.0,
      only.same.workers ∙ c.self.invariant.1,
      c.look_all.ensures.table ∙ (ap (λ s. s.table) c.make_room.ensures.seat ∙ c.self.invariant.2),
      c.self.invariant.3,
      c.self.invariant.4,
      looked_book g.N.Named.cells b new.seat.table new.core new.seat.view new.happenings.items new.lines.items c.self.invariant.5 c.look_all.ensures.kept only handles,
      c.self.invariant.6,
    )

pub returns-clause-noted : goal.returns-clause-noted
returns-clause-noted g c =
    let desk = c.self.inside.desk in
    let b = book_of desk.seat.table desk.core desk.seat.view desk.happenings.items desk.lines.items c.self.inside.notes.items c.self.inside.forestalled in
    let roomy = c.make_room.new.self in
    let new = c.look_all.new.self in
    let only : OnlyNoted b.core new.core b.happened new.happenings.items =
    subst (λ m. OnlyNoted m new.core b.happened new.happenings.items) c.make_room.ensures.core (subst (λ hs. OnlyNoted roomy.core new.core hs new.happenings.items) c.make_room.ensures.happenings c.look_all.ensures.noted)
    in
    let handles = subst (λ v. OnlyOwnGrows v new.seat.view) (ap (λ s. s.view) c.make_room.ensures.seat) c.look_all.ensures.handles in
    let own = c.look_all.ensures.own ∙ ap (λ s. s.view.own) c.make_room.ensures.seat in
    let marks = subst (λ v. OnlyMarks v new.seat.view) (ap (λ s. s.view) c.make_room.ensures.seat) c.look_all.ensures.entries in
    let many = length_noted b.core new.core b.happened new.happenings.items only in
    let count : length new.happenings.items ≡ length b.happened + (c.len.result - c.len-before.result) =
    omega (arith, many, c.len-before.ensures, c.len.ensures, roomy.happenings.ok.0, new.happenings.ok.0, ap length c.make_room.ensures.happenings)
    in
    let all = book_of new.seat.table new.core new.seat.view new.happenings.items new.lines.items b.notes b.forestalled in
    subst (λ (old : BookView). (noted : List HistoryEntry) × OnlyNotes old all noted × (length noted ≡ c.len.result - c.len-before.result)) c.self.view_is
    (looked_notes g.N.Named.cells b new.seat.table new.core new.seat.view new.happenings.items new.lines.items (c.len.result - c.len-before.result) c.self.invariant.5 c.look_all.ensures.kept only handles own marks count)

pub returns-clause-known : goal.returns-clause-known
returns-clause-known g c =
    let new = c.look_all.new.self in
    book_knows g.N.Named.cells (book_of new.seat.table new.core new.seat.view new.happenings.items new.lines.items c.self.inside.notes.items c.self.inside.forestalled) (invariant_of-self-2 g c).5

pub returns-clause-looked : goal.returns-clause-looked
returns-clause-looked g c =
    let new = c.look_all.new.self in
    let calls = c.look_all.ensures.noted.same.calls ∙ ap (λ m. m.calls) c.make_room.ensures.core in
    let cells = ap (λ s. s.cells) c.shared.view_is ∙ c.requires.shared.1 in
    let tasks = sym c.shared.invariant ∙ (ap length cells ∙ (c.self.invariant.3 ∙ (ap task_count (sym c.self.invariant.0) ∙ ap task_count (sym calls)))) in
    subst (λ n. TellsUpTo new.seat.view n) tasks c.look_all.ensures.tells

use Rattle.std.proofs.Common.{◌∙◌, sym, ap, subst, length}
use Rattle.queue_code.specs.Calls.{task_count}
use Rattle.task_word.specs.Views.{joined_with}
use Rattle.task_word.specs.declared.views.CoreSeatView.{CoreSeatView}
use Rattle.worker_pool.specs.Books.{BookView}
use Rattle.worker_pool.specs.Applies.{OnlyMarks, Retires, TellsUpTo}
use Rattle.worker_pool.specs.own.Steps.{IsKept, OnlyNoted, OnlyOwnGrows, WinsBelow}
use Rattle.worker_pool.proofs.Applying.{book_of}
use Rattle.worker_pool.proofs.Booking.{book_kept}
use Rattle.worker_pool.proofs.Retiring.{kept_joined, retired_book, retired}
use Rattle.worker_pool.proofs.book.Book.retire.Goals as goal

pub look_all-requires-clause-kept : goal.look_all-requires-clause-kept
look_all-requires-clause-kept g c =
    let desk = c.self.inside.desk in
    let b = book_of desk.seat.table desk.core desk.seat.view desk.happenings.items desk.lines.items c.self.inside.notes.items c.self.inside.forestalled in
    let roomy = c.make_room.new.self in
    let kept : IsKept roomy.core roomy.seat.view roomy.happenings.items roomy.lines.items =
    subst (λ m. IsKept m roomy.seat.view roomy.happenings.items roomy.lines.items) (sym c.make_room.ensures.core)
    (subst (λ s. IsKept b.core s roomy.happenings.items roomy.lines.items) (sym (ap (λ s. s.view) c.make_room.ensures.seat))
    (subst (λ hs. IsKept b.core b.seat hs roomy.lines.items) (sym c.make_room.ensures.happenings)
    (subst (λ ls. IsKept b.core b.seat b.happened ls) (sym c.make_room.ensures.lines) (book_kept g.N.Named.cells b c.self.invariant.5))))
    in
    subst (λ v. IsKept roomy.core v roomy.happenings.items roomy.lines.items) (sym c.join.ensures.view) (kept_joined roomy.core roomy.seat.view c.into_seat.result.view roomy.happenings.items roomy.lines.items kept)

pub invariant_of-self-2 : goal.invariant_of-self-2
invariant_of-self-2 g c =
    let desk = c.self.inside.desk in
    let b = book_of desk.seat.table desk.core desk.seat.view desk.happenings.items desk.lines.items c.self.inside.notes.items c.self.inside.forestalled in
    let roomy = c.make_room.new.self in
    let new = c.look_all.new.self in
    let only : OnlyNoted b.core new.core b.happened new.happenings.items =
    subst (λ m. OnlyNoted m new.core b.happened new.happenings.items) c.make_room.ensures.core (subst (λ hs. OnlyNoted roomy.core new.core hs new.happenings.items) c.make_room.ensures.happenings c.look_all.ensures.noted)
    in
    let cells = ap (λ s. s.cells) c.shared.view_is ∙ c.requires.shared.1 in
    let tasks = sym c.shared.invariant ∙ (ap length cells ∙ (c.self.invariant.3 ∙ (ap task_count (sym c.self.invariant.0) ∙ ap task_count (sym only.same.calls)))) in
    let tells : TellsUpTo new.seat.view (task_count new.core.calls) = subst (λ n. TellsUpTo new.seat.view n) tasks c.look_all.ensures.tells in
    let count = c.self.invariant.3 ∙ (ap task_count (sym c.self.invariant.0) ∙ ap task_count (sym only.same.calls)) in
    let wins : WinsBelow (task_count new.core.calls) c.into_seat.result.view = subst (λ n. WinsBelow n c.into_seat.result.view) count c.into_seat.ensures.won in
    let met = ap (λ s. s.view) c.make_room.ensures.seat in
    let handles = subst (λ v. OnlyOwnGrows v new.seat.view) (c.join.ensures.view ∙ ap (λ v. joined_with v c.into_seat.result.view) met) c.look_all.ensures.handles in (
      only.same.calls ∙ c.self.invariant.0,
      only.same.workers ∙ c.self.invariant.1,
      c.look_all.ensures.table ∙ (c.join.ensures.table ∙ (ap (λ s. s.table) c.make_room.ensures.seat ∙ c.self.invariant.2)),
      c.self.invariant.3,
      c.self.invariant.4,
      retired_book g.N.Named.cells b new.seat.table c.into_seat.result.view new.core new.seat.view new.happenings.items new.lines.items c.self.invariant.5 wins c.look_all.ensures.kept only handles tells,
      c.self.invariant.6,
    )

pub returns-clause-retired : goal.returns-clause-retired
returns-clause-retired g c =
    let desk = c.self.inside.desk in
    let b = book_of desk.seat.table desk.core desk.seat.view desk.happenings.items desk.lines.items c.self.inside.notes.items c.self.inside.forestalled in
    let roomy = c.make_room.new.self in
    let new = c.look_all.new.self in
    let only : OnlyNoted b.core new.core b.happened new.happenings.items =
    subst (λ m. OnlyNoted m new.core b.happened new.happenings.items) c.make_room.ensures.core (subst (λ hs. OnlyNoted roomy.core new.core hs new.happenings.items) c.make_room.ensures.happenings c.look_all.ensures.noted)
    in
    let cells = ap (λ s. s.cells) c.shared.view_is ∙ c.requires.shared.1 in
    let tasks = sym c.shared.invariant ∙ (ap length cells ∙ (c.self.invariant.3 ∙ (ap task_count (sym c.self.invariant.0) ∙ ap task_count (sym only.same.calls)))) in
    let tells : TellsUpTo new.seat.view (task_count new.core.calls) = subst (λ n. TellsUpTo new.seat.view n) tasks c.look_all.ensures.tells in
    let met = ap (λ s. s.view) c.make_room.ensures.seat in
    let joined = c.join.ensures.view ∙ (λ i. joined_with (met i) (c.into_seat.ensures.view i)) in
    let handles = subst (λ v. OnlyOwnGrows v new.seat.view) joined c.look_all.ensures.handles in
    let own = c.look_all.ensures.own ∙ ap (λ (v : CoreSeatView). v.own) joined in
    let marks : OnlyMarks b.seat new.seat.view = subst (λ v. OnlyMarks v new.seat.view) joined c.look_all.ensures.entries in
    let count = c.self.invariant.3 ∙ (ap task_count (sym c.self.invariant.0) ∙ ap task_count (sym only.same.calls)) in
    let wins : WinsBelow (task_count new.core.calls) c.args.handle.seat =
    subst (λ v. WinsBelow (task_count new.core.calls) v) c.into_seat.ensures.view (subst (λ n. WinsBelow n c.into_seat.result.view) count c.into_seat.ensures.won)
    in
    subst (λ (old : BookView). Retires old (book_of new.seat.table new.core new.seat.view new.happenings.items new.lines.items b.notes b.forestalled) c.args.handle.seat) c.self.view_is
    (retired g.N.Named.cells b new.seat.table c.args.handle.seat new.core new.seat.view new.happenings.items new.lines.items c.self.invariant.5 wins c.look_all.ensures.kept only handles own marks tells)

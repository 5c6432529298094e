use Rattle.std.proofs.Common.{◌≡◌, ◌⊎◌, ◌<◌, ◌-◌, ◌∙◌, ℕ, List, Option, Some, None, ◌||◌, sym, ap, subst, length, length-append, arith}
use Rattle.std.specs.Prelude.{IsSome, IfNone, IfSome, slice_index_or}
use Rattle.once_cell.specs.declared.race.note.Note.{Note}
use Rattle.result_cell.specs.declared.verdict.Verdict.{Verdict}
use Rattle.queue_code.specs.Calls.{task_count}
use Rattle.executor_model.specs.declared.types.Answer.{Answer}
use Rattle.worker_pool.specs.declared.applied.Applied.{Applied}
use Rattle.worker_pool.specs.Books.{BookView, ending_in}
use Rattle.worker_pool.specs.Applies.{Applies, Tells, work_started}
use Rattle.worker_pool.specs.own.Results.{HasNoteOf, TookVerdict, verdict_told}
use Rattle.worker_pool.proofs.Applying.{Took, book_of, took_room, last_said, lines_added, verdict_fits, none_before, settled, took_book, took_applies}
use Rattle.worker_pool.proofs.Settling.{back_lacks}
use Rattle.worker_pool.proofs.Verdicts.{puts_alone}
use Rattle.worker_pool.proofs.book.Book.apply.Goals as goal

pub overflow_sub-count : goal.overflow_sub-count
overflow_sub-count g c =
    let desk = c.self.inside.desk in
    let b = book_of desk.seat.table desk.core desk.seat.view desk.happenings.items desk.lines.items c.self.inside.notes.items c.self.inside.forestalled in
    let roomy = c.make_room.new.self in
    let new = c.take.new.self in
    let t : Took b new.core new.seat.view new.happenings.items new.lines.items c.args.event =
    took_room b roomy.core c.count.new.self new.core roomy.seat.view new.seat.view roomy.happenings.items new.happenings.items new.lines.items c.args.event
    c.make_room.ensures.core (ap (λ s. s.view) c.make_room.ensures.seat) c.make_room.ensures.happenings c.count.ensures.same c.take.ensures.same c.take.ensures.handles c.take.ensures.kept c.take.ensures.took
    in
    let added = lines_added g.N.Named.cells b new.core new.seat.view new.happenings.items new.lines.items c.args.event c.self.invariant.5 t in
    omega (arith, c.len-first.ensures, c.len.ensures, ap length added.1, length-append b.lines added.0, ap length c.make_room.ensures.lines, roomy.lines.ok.0, new.lines.ok.0)

pub settle-back-requires-clause-below : goal.settle-back-requires-clause-below
settle-back-requires-clause-below g c = λ task ending said is tells.
    let desk = c.self.inside.desk in
    let b = book_of desk.seat.table desk.core desk.seat.view desk.happenings.items desk.lines.items c.self.inside.notes.items c.self.inside.forestalled in
    let roomy = c.make_room.new.self in
    let new = c.take.new.self in
    let t : Took b new.core new.seat.view new.happenings.items new.lines.items c.args.event =
    took_room b roomy.core c.count.new.self new.core roomy.seat.view new.seat.view roomy.happenings.items new.happenings.items new.lines.items c.args.event
    c.make_room.ensures.core (ap (λ s. s.view) c.make_room.ensures.seat) c.make_room.ensures.happenings c.count.ensures.same c.take.ensures.same c.take.ensures.handles c.take.ensures.kept c.take.ensures.took
    in
    let last = last_said b new.core new.seat.view new.happenings.items new.lines.items c.args.event t in
    let answer = c.last_answer-answer.ensures last.0 last.1 t.took.last.answer last.2 in
    let same : said ≡ t.took.last.answer = some_same said t.took.last.answer (sym is ∙ answer) in
    let fits = (verdict_fits g.N.Named.cells b new.core new.seat.view new.happenings.items new.lines.items c.args.event (record { task = task; ending = ending }) c.self.invariant.5 t (ap (ending_in task) (sym same) ∙ tells)).0 in
    let cells : c.deref.result.now ≡ g.N.Named.cells = c.deref.ensures.value ∙ (ap (λ s. s.cells) c.shared.view_is ∙ c.requires.shared.1) in
    let count : length c.deref.result.now ≡ task_count b.core.calls = ap length cells ∙ (c.self.invariant.3 ∙ ap task_count (sym c.self.invariant.0)) in
    subst (λ n. task < n) (sym count) fits
  where
    some_same : (x y : Answer) → Some x ≡ Some y → x ≡ y
    some_same x y q = ap (λ (o : Option Answer). Rattle.std.specs.Option.option_map_or (λ n. n) o x) q

pub settle-back-requires-clause-room : goal.settle-back-requires-clause-room
settle-back-requires-clause-room g c = λ tells.
    let desk = c.self.inside.desk in
    let b = book_of desk.seat.table desk.core desk.seat.view desk.happenings.items desk.lines.items c.self.inside.notes.items c.self.inside.forestalled in
    let roomy = c.make_room.new.self in
    let new = c.take.new.self in
    let t : Took b new.core new.seat.view new.happenings.items new.lines.items c.args.event =
    took_room b roomy.core c.count.new.self new.core roomy.seat.view new.seat.view roomy.happenings.items new.happenings.items new.lines.items c.args.event
    c.make_room.ensures.core (ap (λ s. s.view) c.make_room.ensures.seat) c.make_room.ensures.happenings c.count.ensures.same c.take.ensures.same c.take.ensures.handles c.take.ensures.kept c.take.ensures.took
    in
    let last = last_said b new.core new.seat.view new.happenings.items new.lines.items c.args.event t in
    let answer = c.last_answer-answer.ensures last.0 last.1 t.took.last.answer last.2 in
    puts_alone g.N.Named.cells b new.core new.seat.view new.happenings.items new.lines.items c.args.event c.self.invariant.5 t (subst (λ o. IsSome (verdict_told o)) answer tells) (λ w ending is. c.in-Ok.ensures.finish w ending is)

pub invariant_of-self-2 : goal.invariant_of-self-2
invariant_of-self-2 g c =
    let desk = c.self.inside.desk in
    let b = book_of desk.seat.table desk.core desk.seat.view desk.happenings.items desk.lines.items c.self.inside.notes.items c.self.inside.forestalled in
    let roomy = c.make_room.new.self in
    let new = c.take.new.self in
    let t : Took b new.core new.seat.view new.happenings.items new.lines.items c.args.event =
    took_room b roomy.core c.count.new.self new.core roomy.seat.view new.seat.view roomy.happenings.items new.happenings.items new.lines.items c.args.event
    c.make_room.ensures.core (ap (λ s. s.view) c.make_room.ensures.seat) c.make_room.ensures.happenings c.count.ensures.same c.take.ensures.same c.take.ensures.handles c.take.ensures.kept c.take.ensures.took
    in
    let last = last_said b new.core new.seat.view new.happenings.items new.lines.items c.args.event t in
    let answer = c.last_answer-answer.ensures last.0 last.1 t.took.last.answer last.2 in
    let cells : c.deref.result.now ≡ g.N.Named.cells = c.deref.ensures.value ∙ (ap (λ s. s.cells) c.shared.view_is ∙ c.requires.shared.1) in
    let notes = c.settle-back.new.notes.items in
    let go = settled g.N.Named.cells b new.core new.seat.view new.happenings.items new.lines.items c.args.event c.last_answer-answer.result notes c.self.invariant.5 t answer
    (subst (λ (cs : List ℕ). (k : ℕ) → (slice_index_or notes k None ≡ slice_index_or b.notes k None) ⊎ ((note : Note Verdict) × (slice_index_or notes k None ≡ Some note) × TookVerdict cs c.last_answer-answer.result k note)) cells c.settle-back.ensures.each)
    in (
      t.calls ∙ c.self.invariant.0,
      t.workers ∙ c.self.invariant.1,
      c.take.ensures.table ∙ (ap (λ s. s.table) c.make_room.ensures.seat ∙ c.self.invariant.2),
      c.self.invariant.3,
      c.settle-back.ensures.count ∙ c.self.invariant.4,
      took_book g.N.Named.cells b new.seat.table new.core new.seat.view new.happenings.items new.lines.items notes (c.self.inside.forestalled || c.is_some.result) c.args.event c.self.invariant.5 t go,
      c.self.invariant.6,
    )

pub returns-clause-applied : goal.returns-clause-applied
returns-clause-applied g c =
    let desk = c.self.inside.desk in
    let b = book_of desk.seat.table desk.core desk.seat.view desk.happenings.items desk.lines.items c.self.inside.notes.items c.self.inside.forestalled in
    let roomy = c.make_room.new.self in
    let new = c.take.new.self in
    let t : Took b new.core new.seat.view new.happenings.items new.lines.items c.args.event =
    took_room b roomy.core c.count.new.self new.core roomy.seat.view new.seat.view roomy.happenings.items new.happenings.items new.lines.items c.args.event
    c.make_room.ensures.core (ap (λ s. s.view) c.make_room.ensures.seat) c.make_room.ensures.happenings c.count.ensures.same c.take.ensures.same c.take.ensures.handles c.take.ensures.kept c.take.ensures.took
    in
    let last = last_said b new.core new.seat.view new.happenings.items new.lines.items c.args.event t in
    let answer = c.last_answer-answer.ensures last.0 last.1 t.took.last.answer last.2 in
    let cells : c.deref.result.now ≡ g.N.Named.cells = c.deref.ensures.value ∙ (ap (λ s. s.cells) c.shared.view_is ∙ c.requires.shared.1) in
    let notes = c.settle-back.new.notes.items in
    let go = settled g.N.Named.cells b new.core new.seat.view new.happenings.items new.lines.items c.args.event c.last_answer-answer.result notes c.self.invariant.5 t answer
    (subst (λ (cs : List ℕ). (k : ℕ) → (slice_index_or notes k None ≡ slice_index_or b.notes k None) ⊎ ((note : Note Verdict) × (slice_index_or notes k None ≡ Some note) × TookVerdict cs c.last_answer-answer.result k note)) cells c.settle-back.ensures.each)
    in
    let back = back_lacks (λ back v. back.value ≡ v) c.deref.result.now b.notes notes t.took.last.answer c.settle-back.result
    (λ none. (c.settle-back.ensures.untold (ap verdict_told answer ∙ none)).0)
    (subst (λ (o : Option Answer). IfSome (verdict_told o) (λ v. IfNone c.settle-back.result (HasNoteOf c.deref.result.now notes v) × IfSome c.settle-back.result (λ back. (back.value ≡ v) × (notes ≡ b.notes)))) answer c.settle-back.ensures.told)
    (λ verdict so. none_before g.N.Named.cells b new.core new.seat.view new.happenings.items new.lines.items c.args.event verdict c.self.invariant.5 t so)
    in
    let forestalled = b.forestalled || c.is_some.result in
    let did = took_applies g.N.Named.cells b new.seat.table new.core new.seat.view new.happenings.items new.lines.items notes forestalled c.args.event c.self.invariant.5 t go (ap (λ f. b.forestalled || f) (c.is_some.ensures ∙ back)) in
    let added = lines_added g.N.Named.cells b new.core new.seat.view new.happenings.items new.lines.items c.args.event c.self.invariant.5 t in
    let all = book_of new.seat.table new.core new.seat.view new.happenings.items new.lines.items notes forestalled in
    let told : Applied = record { first = c.len-first.result; count = c.len.result - c.len-first.result; work = c.work_of.result } in
    subst (λ (old : BookView). (d : Applies old all c.args.event) × Tells old all d.last told) c.self.view_is (
      did.0,
      record {
        first = omega (arith, c.len-first.ensures, ap length c.make_room.ensures.lines, roomy.lines.ok.0);
        count = omega (arith, c.len-first.ensures, c.len.ensures, ap length added.1, length-append b.lines added.0, ap length c.make_room.ensures.lines, roomy.lines.ok.0, new.lines.ok.0);
        work = c.work_of.ensures t.took.last.answer answer ∙ ap (λ e. work_started e.answer) (sym did.1);
      },
    )

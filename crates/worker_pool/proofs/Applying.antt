-- What an event adds to a book.
use Rattle.std.proofs.Common.{◌≡◌, ◌⊎◌, ℕ, ◌+◌, ◌<◌, Bool, ◌||◌, false, inl, inr, List, [], ◌∷◌, ◌++◌, Option, Some, None, refl, sym, ap, ◌∙◌, subst}
use Rattle.std.specs.Prelude.{slice_index, slice_index_or, slice_get}
use Rattle.std.specs.List.{All}
use Rattle.atomic_table.specs.Seated.{TableId}
use Rattle.once_cell.specs.declared.race.note.Note.{Note}
use Rattle.task_word.specs.declared.views.CoreSeatView.{CoreSeatView}
use Rattle.result_cell.specs.declared.verdict.Verdict.{Verdict}
use Rattle.queue_code.specs.Calls.{task_count}
use Rattle.executor_model.specs.declared.types.Answer.{Answer}
use Rattle.executor_model.specs.declared.types.Event.{Event}
use Rattle.executor_model.specs.declared.types.Event.TheVariants as v
use Rattle.executor_model.specs.declared.types.Happening.{Happening}
use Rattle.executor_model.specs.declared.types.Line.{Line}
use Rattle.executor_model.specs.Histories.{HistoryEntry, IsHistoryOf, happenings, is_call, now_of, is_end as stands_in}
use Rattle.executor_model.specs.Flows.{happening_of, answer_line, lines_of}
use Rattle.executor_core.specs.CoreView.{CoreView, workers_of, Counts}
use Rattle.worker_pool.specs.own.Results.{TookVerdict}
use Rattle.worker_pool.specs.Books.{BookView, IsBook, KnowsVerdict, EndedSo, ending_in, past_of, was_outside}
use Rattle.worker_pool.specs.Applies.{Applies, KnowsEnding, lacks_note}
use Rattle.worker_pool.specs.own.Steps.{IsKept, Agrees, past_in, part_in, Completes, SamePlan, OnlyOwnGrows}
use Rattle.worker_pool.proofs.Entries.{takes_noted, lines_more, last_line}
use Rattle.worker_pool.proofs.Booking.{book_kept, kept_book, outside_stays, knows_still, ended_ran, ends_once}

-- an event is no call
no_call : (event : Event) → is_call (happening_of event) ≡ false
no_call (v.Clock moment) = refl
no_call (v.Start worker) = refl
no_call (v.Finish worker ending) = refl
no_call (v.Cancel task) = refl

-- the desk of a book took an event that was counted
pub record Took (old : BookView) (core : CoreView) (seat : CoreSeatView) (happened : List Happening) (lines : List Line) (event : Event) : Type 0 where
  pub kept : IsKept core seat happened lines
  pub calls : core.calls ≡ old.core.calls
  pub workers : workers_of core ≡ workers_of old.core
  pub taken : core.taken ≡ old.core.taken + 1
  pub handles : OnlyOwnGrows old.seat seat
  pub took : Completes old.core.calls (workers_of old.core) old.seat.own seat.own (past_of old) (past_in core happened) (part_in old.core event)

-- it was counted before
pub took_counted : (old : BookView) (counted core : CoreView) (seat : CoreSeatView) (happened : List Happening) (lines : List Line) (event : Event) → Counts old.core counted → SamePlan counted core → OnlyOwnGrows old.seat seat → IsKept core seat happened lines →
    Completes counted.calls (workers_of counted) old.seat.own seat.own (past_in counted old.happened) (past_in core happened) (part_in counted event) → Took old core seat happened lines event
took_counted old counted core seat happened lines event counts same handles kept took = record {
  kept = kept;
  calls = same.calls ∙ ap (λ (m : CoreView). m.calls) counts;
  workers = same.workers ∙ ap workers_of counts;
  taken = same.taken ∙ ap (λ (m : CoreView). m.taken) counts;
  handles = handles;
  took = subst (λ (m : CoreView). Completes m.calls (workers_of m) old.seat.own seat.own (past_in m old.happened) (past_in core happened) (part_in m event)) counts took;
}

-- the history is that of the old calls and workers too
pub history_same : (old : BookView) (core : CoreView) (seat : CoreSeatView) (happened : List Happening) (lines : List Line) (event : Event) → Took old core seat happened lines event → IsHistoryOf old.core.calls (workers_of old.core) (past_in core happened)
history_same old core seat happened lines event t = subst (λ c. IsHistoryOf c (workers_of old.core) (past_in core happened)) t.calls (subst (λ w. IsHistoryOf core.calls w (past_in core happened)) t.workers t.kept.means)

-- the last entry is the event's
pub last_event : (old : BookView) (core : CoreView) (seat : CoreSeatView) (happened : List Happening) (lines : List Line) (event : Event) → (t : Took old core seat happened lines event) → is_call t.took.last.happening ≡ false
last_event old core seat happened lines event t = ap (λ hs. is_call (Rattle.std.specs.Prelude.slice_index_or hs 0 (happening_of event))) t.took.part ∙ no_call event

-- its answer is in the last line
pub last_said : (old : BookView) (core : CoreView) (seat : CoreSeatView) (happened : List Happening) (lines : List Line) (event : Event) → (t : Took old core seat happened lines event) →
    (before : List Line) × (moment : ℕ) × (lines ≡ before ++ answer_line moment t.took.last.answer ∷ [])
last_said old core seat happened lines event t =
    let e = t.took.last in
    let rest = t.took.between ++ past_of old in
    let means = subst (IsHistoryOf core.calls (workers_of core)) t.took.past t.kept.means in (
      lines_of core.calls rest,
      now_of core.calls (happenings (e ∷ rest)),
      t.kept.written ∙ (ap (lines_of core.calls) t.took.past ∙ last_line core.calls (workers_of core) rest e means (last_event old core seat happened lines event t)),
    )

-- the lines were added behind those before
pub lines_added : (cells : List ℕ) (old : BookView) (core : CoreView) (seat : CoreSeatView) (happened : List Happening) (lines : List Line) (event : Event) → IsBook cells old → Took old core seat happened lines event → (more : List Line) × (lines ≡ old.lines ++ more)
lines_added cells old core seat happened lines event book t =
    let r = lines_more core.calls (t.took.last ∷ t.took.between) (past_of old) in (
      r.0,
      t.kept.written ∙ (ap (lines_of core.calls) t.took.past ∙ (r.1 ∙ ap (λ xs. xs ++ r.0) (ap (λ c. lines_of c (past_of old)) t.calls ∙ sym book.written))),
    )

-- the task of a verdict that the answer tells is one of the calls, and no note was there
pub verdict_fits : (cells : List ℕ) (old : BookView) (core : CoreView) (seat : CoreSeatView) (happened : List Happening) (lines : List Line) (event : Event) (verdict : Verdict) → IsBook cells old → (t : Took old core seat happened lines event) →
    ending_in verdict.task t.took.last.answer ≡ Some verdict.ending → (verdict.task < task_count old.core.calls) × ((note : Note Verdict) → slice_index_or old.notes verdict.task None ≡ Some note → ⊥)
verdict_fits cells old core seat happened lines event verdict book t said =
    let calls = old.core.calls in
    let workers = workers_of old.core in
    let rest = t.took.between ++ past_of old in
    let e = t.took.last in
    let means = subst (IsHistoryOf calls workers) t.took.past (history_same old core seat happened lines event t) in (
      (ended_ran calls workers rest e verdict.task verdict.ending book.orderly.1 means said).task,
      λ note there.
          let knows = book.notes verdict.task note there in
          let still = knows_still cells t.took.between (past_of old) verdict.task note knows in
          ends_once calls workers rest e verdict.task verdict.ending still.ending book.orderly.1 means said still.ended,
    )

none_there : (o : Option (Note Verdict)) → ((note : Note Verdict) → o ≡ Some note → ⊥) → o ≡ None
none_there None never = refl
none_there (Some note) never = absurd (never note refl)

pub none_before : (cells : List ℕ) (old : BookView) (core : CoreView) (seat : CoreSeatView) (happened : List Happening) (lines : List Line) (event : Event) (verdict : Verdict) → IsBook cells old → (t : Took old core seat happened lines event) →
    ending_in verdict.task t.took.last.answer ≡ Some verdict.ending → slice_index_or old.notes verdict.task None ≡ None
none_before cells old core seat happened lines event verdict book t said =
    none_there (slice_index_or old.notes verdict.task None) (verdict_fits cells old core seat happened lines event verdict book t said).1

-- what became of the notes: each stays as it is, or there was none, and it knows how the answer says that its task ended; and a new
-- one is that of the verdict that the answer tells
pub record NotesGo (cells : List ℕ) (old now : List (Option (Note Verdict))) (past : List HistoryEntry) (answer : Answer) : Type 0 where
  pub each : (k : ℕ) → (slice_index_or now k None ≡ slice_index_or old k None) ⊎ ((slice_index_or old k None ≡ None) × KnowsEnding now k (ending_in k answer))
  pub come : (k : ℕ) (note : Note Verdict) → slice_index_or now k None ≡ Some note → (slice_index_or old k None ≡ Some note) ⊎ KnowsVerdict cells past k note

-- what the book is then
abbrev pub book_of : TableId → CoreView → CoreSeatView → List Happening → List Line → List (Option (Note Verdict)) → Bool → BookView
book_of table core seat happened lines notes forestalled = record { core = core; seat = seat; table = table; happened = happened; lines = lines; notes = notes; forestalled = forestalled }

pub took_book : (cells : List ℕ) (old : BookView) (table : TableId) (core : CoreView) (seat : CoreSeatView) (happened : List Happening) (lines : List Line) (notes : List (Option (Note Verdict))) (forestalled : Bool) (event : Event) → IsBook cells old → (t : Took old core seat happened lines event) →
    NotesGo cells old.notes notes (past_in core happened) t.took.last.answer → IsBook cells (book_of table core seat happened lines notes forestalled)
took_book cells old table core seat happened lines notes forestalled event book t go =
    let added = t.took.last ∷ t.took.between in
    kept_book cells (book_of table core seat happened lines notes forestalled) t.kept
    (λ k is. ap (was_outside k) t.took.past ∙ outside_stays k added (past_of old) (book.joined k (ap (stands_in k) (sym t.handles.joined) ∙ is)))
    (λ k note is. elim (go.come k note is) [
      | inl was ↦ subst (λ p. KnowsVerdict cells p k note) (sym t.took.past) (knows_still cells added (past_of old) k note (book.notes k note was))
      | inr knows ↦ knows
    ])

pub took_applies : (cells : List ℕ) (old : BookView) (table : TableId) (core : CoreView) (seat : CoreSeatView) (happened : List Happening) (lines : List Line) (notes : List (Option (Note Verdict))) (forestalled : Bool) (event : Event) → IsBook cells old → (t : Took old core seat happened lines event) →
    NotesGo cells old.notes notes (past_in core happened) t.took.last.answer → forestalled ≡ (old.forestalled || lacks_note notes t.took.last.answer) → (did : Applies old (book_of table core seat happened lines notes forestalled) event) × (did.last ≡ t.took.last)
took_applies cells old table core seat happened lines notes forestalled event book t go put =
    let calls = old.core.calls in
    let workers = workers_of old.core in
    let agrees : Agrees calls workers (past_in core happened) seat = subst (λ c. Agrees c workers (past_in core happened) seat) t.calls (subst (λ w. Agrees core.calls w (past_in core happened) seat) t.workers t.kept.agrees) in (
      record {
        last = t.took.last;
        between = t.took.between;
        past = t.took.past;
        each = takes_noted calls workers (past_of old) (past_in core happened) old.seat seat (part_in old.core event) (history_same old core seat happened lines event t) (book_kept cells old book).agrees agrees t.took;
        way = t.took.way;
        part = t.took.part;
        own = t.took.own;
        grows = (t.handles.these, t.handles.grows);
        joined = t.handles.joined;
        ranks = t.handles.ranks;
        out = t.handles.out;
        taken = t.taken;
        notes = go.each;
        put = put;
      },
      refl,
    )

-- the book's desk had room made, and the event was counted
pub took_room : (old : BookView) (roomy counted core : CoreView) (met seat : CoreSeatView) (before happened : List Happening) (lines : List Line) (event : Event) → roomy ≡ old.core → met ≡ old.seat → before ≡ old.happened → Counts roomy counted →
    SamePlan counted core → OnlyOwnGrows met seat → IsKept core seat happened lines → Completes counted.calls (workers_of counted) met.own seat.own (past_in counted before) (past_in core happened) (part_in counted event) → Took old core seat happened lines event
took_room old roomy counted core met seat before happened lines event r s b counts same handles kept took =
    took_counted old counted core seat happened lines event (subst (λ m. Counts m counted) r counts) same (subst (λ v. OnlyOwnGrows v seat) s handles) kept
    (subst (λ (v : CoreSeatView). Completes counted.calls (workers_of counted) v.own seat.own (past_in counted old.happened) (past_in core happened) (part_in counted event)) s
    (subst (λ hs. Completes counted.calls (workers_of counted) met.own seat.own (past_in counted hs) (past_in core happened) (part_in counted event)) b took))

-- the verdict that the answer tells was put
pub settled : (cells : List ℕ) (old : BookView) (core : CoreView) (seat : CoreSeatView) (happened : List Happening) (lines : List Line) (event : Event) (answer : Option Answer) (notes : List (Option (Note Verdict))) → IsBook cells old → (t : Took old core seat happened lines event) →
    answer ≡ Some t.took.last.answer → ((k : ℕ) → (slice_index_or notes k None ≡ slice_index_or old.notes k None) ⊎ ((note : Note Verdict) × (slice_index_or notes k None ≡ Some note) × TookVerdict cells answer k note)) →
    NotesGo cells old.notes notes (past_in core happened) t.took.last.answer
settled cells old core seat happened lines event answer notes book t is each = record {
  each = λ k. elim (each k) [
    | inl same ↦ inl same
    | inr new ↦ inr (
      none_before cells old core seat happened lines event (record { task = k; ending = new.2.ending }) book t (told k new.0 new.2),
      subst (λ o. KnowsEnding notes k o) (sym (told k new.0 new.2)) (new.0, new.1, new.2.known),
    )
  ];
  come = λ k note there. elim (each k) [
    | inl same ↦ inl (sym same ∙ there)
    | inr new ↦ inr (subst (λ m. KnowsVerdict cells (past_in core happened) k m) (one new.0 note (sym new.1 ∙ there)) (knows k new.0 new.2))
  ];
}
  where
    one : (a b : Note Verdict) → Some a ≡ Some b → a ≡ b
    one a b q = ap (λ (o : Option (Note Verdict)). Rattle.std.specs.Option.option_map_or (λ n. n) o a) q

    two : (a b : Answer) → Some a ≡ Some b → a ≡ b
    two a b q = ap (λ (o : Option Answer). Rattle.std.specs.Option.option_map_or (λ n. n) o a) q

    told : (k : ℕ) (note : Note Verdict) → (took : TookVerdict cells answer k note) → ending_in k t.took.last.answer ≡ Some took.ending
    told k note took = ap (ending_in k) (two t.took.last.answer took.said (sym is ∙ took.answered)) ∙ took.tells

    knows : (k : ℕ) (note : Note Verdict) → TookVerdict cells answer k note → KnowsVerdict cells (past_in core happened) k note
    knows k note took = record {
      cell = took.cell;
      ending = took.ending;
      known = took.known;
      ended = subst (EndedSo k took.ending) (sym t.took.past) (inl (told k note took));
    }

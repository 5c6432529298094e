-- What a book keeps, taken apart and put together.
use Rattle.std.proofs.Common.{◌≡◌, ◌⊎◌, ℕ, zero, suc, ◌<◌, ◌==◌, ◌&&◌, ◌||◌, Bool, true, false, inl, inr, List, [], ◌∷◌, ◌++◌, length, Option, Some, None, cond, refl, sym, ap, ◌∙◌, subst}
use Rattle.std.specs.Prelude.{slice_index_or, replicate}
use Rattle.std.proofs.lemmas.Bool.{false≢true, eqb-true}
use Rattle.std.proofs.lemmas.List.Elements.{All-head}
use Rattle.atomic_table.specs.Seated.{TableId}
use Rattle.once_cell.specs.declared.race.note.Note.{Note}
use Rattle.sched_time.specs.declared.timing.Ending.{Ending}
use Rattle.std.proofs.lemmas.List.{length-replicate}
use Rattle.task_word.specs.Words.{Parts, vacant_word}
use Rattle.task_word.specs.Writes.{done, fail}
use Rattle.task_word.specs.declared.phases.Phase.TheVariants as wp
use Rattle.task_word.specs.Views.{entry, new_core}
use Rattle.task_word.specs.declared.views.CoreSeatView.{CoreSeatView}
use Rattle.result_cell.specs.declared.verdict.Verdict.{Verdict}
use Rattle.queue_code.specs.Calls.{Planned, IsOrderly, IsPlanned, task_count}
use Rattle.executor_model.specs.declared.types.Answer.{Answer}
use Rattle.executor_model.specs.declared.types.Answer.TheVariants as a
use Rattle.executor_model.specs.declared.types.Outcome.{Outcome}
use Rattle.executor_model.specs.declared.types.Outcome.TheVariants as o
use Rattle.executor_model.specs.declared.types.Need.TheVariants as n
use Rattle.executor_model.specs.Histories.{HistoryEntry, IsHistoryOf, is_finish_with, is_done, is_failed, was_done, was_failed, is_end as stands_in}
use Rattle.executor_model.specs.Answers.{Reply}
use Rattle.executor_model.specs.State.{State, vacant, reply_of}
use Rattle.executor_model.specs.Tasks.{word_of_task}
use Rattle.executor_core.specs.CoreView.{CoreView, IsOpening}
use Rattle.executor_model.specs.Needs.{need_of_answer}
use Rattle.executor_model.proofs.Agree.{after_agrees, answers_alike}
use Rattle.executor_laws.specs.TaskWords.{word_after}
use Rattle.executor_laws.proofs.TaskWords.{words_tell_the_history}
use Rattle.worker_pool.specs.Books.{BookView, IsBook, KnowsVerdict, EndedSo, FitsWord, ending_in, ending_of_outcome, past_of, is_outside, was_outside}
use Rattle.worker_pool.specs.own.Steps.{IsKept}
use Rattle.worker_pool.proofs.Bools.{or_true, any_append}
use Rattle.worker_pool.proofs.NoteLists.{none_at}
use Rattle.worker_pool.proofs.Steps.{state_at, Written, writes_at}

-- ---- a book and its desk

pub book_kept : (cells : List ℕ) (b : BookView) → IsBook cells b → IsKept b.core b.seat b.happened b.lines
book_kept cells b book = record {
  orderly = book.orderly;
  means = book.means;
  unpurged = book.unpurged;
  stands = book.stands;
  written = book.written;
  agrees = record {
    count = book.entries;
    each = λ k. subst (FitsWord (entry b.seat k)) (ap (λ (s : State). word_of_task (s.tasks k)) book.stands) (book.words k);
    cancelled = book.cancelled;
  };
}

-- what joined handles won had a cancel from outside
abbrev pub AreJoined : BookView → Type 0
AreJoined b = (k : ℕ) → stands_in k b.seat.joined ≡ true → was_outside k (past_of b) ≡ true

-- each note knows the verdict of its task
abbrev pub KnowAll : List ℕ → BookView → Type 0
KnowAll cells b = (k : ℕ) (note : Note Verdict) → slice_index_or b.notes k None ≡ Some note → KnowsVerdict cells (past_of b) k note

pub kept_book : (cells : List ℕ) (b : BookView) → IsKept b.core b.seat b.happened b.lines → AreJoined b → KnowAll cells b → IsBook cells b
kept_book cells b kept joined notes = record {
  orderly = kept.orderly;
  means = kept.means;
  unpurged = kept.unpurged;
  stands = kept.stands;
  written = kept.written;
  entries = kept.agrees.count;
  words = λ k. subst (FitsWord (entry b.seat k)) (ap (λ (s : State). word_of_task (s.tasks k)) (sym kept.stands)) (kept.agrees.each k);
  cancelled = kept.agrees.cancelled;
  joined = joined;
  notes = notes;
}

-- ---- what stays so in a longer history

pub outside_stays : (k : ℕ) (more past : List HistoryEntry) → was_outside k past ≡ true → was_outside k (more ++ past) ≡ true
outside_stays k more past q = any_append (λ (e : HistoryEntry). is_outside k e.answer) more past ∙ or_true (was_outside k more) (was_outside k past) q

pub ended_stays : (k : ℕ) (ending : Ending) (more past : List HistoryEntry) → EndedSo k ending past → EndedSo k ending (more ++ past)
ended_stays k ending [] past q = q
ended_stays k ending (e ∷ more) past q = inr (ended_stays k ending more past q)

pub knows_still : (cells : List ℕ) (more past : List HistoryEntry) (k : ℕ) (note : Note Verdict) → KnowsVerdict cells past k note → KnowsVerdict cells (more ++ past) k note
knows_still cells more past k note knows = record { cell = knows.cell; ending = knows.ending; known = knows.known; ended = ended_stays k knows.ending more past knows.ended }

-- ---- a task is done or fails once

-- an answer says so only of a finish
ends_done : (k : ℕ) (answer : Answer) (ending : Ending) → ending_in k answer ≡ Some ending → (is_finish_with is_done k answer ≡ true) ⊎ (is_finish_with is_failed k answer ≡ true)
ends_done k (a.Finish w j run outcome) ending q = by (j == k) refl outcome q
  where
    by : (b : Bool) → (j == k) ≡ b → (outcome : Outcome) → cond b (ending_of_outcome outcome) None ≡ Some ending → (((j == k) && is_done outcome) ≡ true) ⊎ (((j == k) && is_failed outcome) ≡ true)
    by true same (o.Done value) q = inl (ap (λ b. b && true) same)
    by true same (o.Failed code) q = inr (ap (λ b. b && true) same)
    by true same (o.Again due) q = absurd cc
    by true same o.Dropped q = absurd cc
    by true same o.Ended q = absurd cc
    by false apart outcome q = absurd cc
ends_done k _ ending q = absurd cc

ended_done : (k : ℕ) (ending : Ending) (past : List HistoryEntry) → EndedSo k ending past → (was_done k past ≡ true) ⊎ (was_failed k past ≡ true)
ended_done k ending [] q = absurd q
ended_done k ending (e ∷ past) (inl now) = elim (ends_done k e.answer ending now) [ inl d ↦ inl (ap (λ b. b || was_done k past) d) | inr f ↦ inr (ap (λ b. b || was_failed k past) f) ]
ended_done k ending (e ∷ past) (inr then) = elim (ended_done k ending past then) [
  | inl d ↦ inl (or_true (is_finish_with is_done k e.answer) (was_done k past) d)
  | inr f ↦ inr (or_true (is_finish_with is_failed k e.answer) (was_failed k past) f)
]

-- what an answer that says so needs
ends_need : (shut : Bool) (k : ℕ) (answer : Answer) (ending : Ending) → ending_in k answer ≡ Some ending → (need_of_answer shut answer ≡ n.Done k) ⊎ (need_of_answer shut answer ≡ n.Fail k)
ends_need shut k (a.Finish w j run outcome) ending q = by (j == k) refl outcome q
  where
    by : (b : Bool) → (j == k) ≡ b → (outcome : Outcome) → cond b (ending_of_outcome outcome) None ≡ Some ending → (need_of_answer shut (a.Finish w j run outcome) ≡ n.Done k) ⊎ (need_of_answer shut (a.Finish w j run outcome) ≡ n.Fail k)
    by true same (o.Done value) q = inl (ap (λ i. n.Done i) (eqb-true j k same))
    by true same (o.Failed code) q = inr (ap (λ i. n.Fail i) (eqb-true j k same))
    by true same (o.Again due) q = absurd cc
    by true same o.Dropped q = absurd cc
    by true same o.Ended q = absurd cc
    by false apart outcome q = absurd cc
ends_need shut k _ ending q = absurd cc

-- the task of a finish that says so is one of the calls, and ran
pub record Ran (calls : List Planned) (workers : ℕ) (past : List HistoryEntry) (k : ℕ) : Type 0 where
  pub task : k < task_count calls
  pub phase : (word_after calls workers past k).phase ≡ wp.Running

pub ended_ran : (calls : List Planned) (workers : ℕ) (past : List HistoryEntry) (e : HistoryEntry) (k : ℕ) (ending : Ending) → IsOrderly calls → IsHistoryOf calls workers (e ∷ past) → ending_in k e.answer ≡ Some ending → Ran calls workers past k
ended_ran calls workers past e k ending orderly means now =
    let s = state_at calls workers past in
    let y = e.happening in
    let said : e.answer ≡ (reply_of calls workers s y).answer = means.2 ∙ ap (λ (r : Reply). r.answer) (sym (answers_alike calls workers s past y (after_agrees calls workers past means.0))) in
    let ends = (reply_of calls workers s y).ends in
    elim (ends_need s.shut k (reply_of calls workers s y).answer ending (ap (ending_in k) (sym said) ∙ now)) [
      | inl need ↦
          let one = All-head (Written calls workers past y) (k, done) [] (writes_at calls workers past y (n.Done k) orderly means.0 need).made in
          record { task = one.0; phase = ap (λ (p : Parts). p.phase) one.1.1 }
      | inr need ↦
          let one = All-head (Written calls workers past y) (k, fail) [] (writes_at calls workers past y (n.Fail k) orderly means.0 need).made in
          record { task = one.0; phase = ap (λ (p : Parts). p.phase) one.1.1 }
    ]

-- so it did not end before
pub ends_once : (calls : List Planned) (workers : ℕ) (past : List HistoryEntry) (e : HistoryEntry) (k : ℕ) (ending other : Ending) → IsOrderly calls → IsHistoryOf calls workers (e ∷ past) → ending_in k e.answer ≡ Some ending → EndedSo k other past → ⊥
ends_once calls workers past e k ending other orderly means now then =
    let ran = ended_ran calls workers past e k ending orderly means now in
    let tells = words_tell_the_history calls workers past k means.0 in
    elim (ended_done k other past then) [
      | inl d ↦ let clash : wp.Running ≡ wp.Done = sym ran.phase ∙ tells.done.1 d in cc
      | inr f ↦ let clash : wp.Running ≡ wp.Failed = sym ran.phase ∙ tells.failed.1 f in cc
    ]

-- ---- before anything happened

vacant_at : (n k : ℕ) → slice_index_or (replicate n vacant_word) k vacant_word ≡ vacant_word
vacant_at zero k = refl
vacant_at (suc n) zero = refl
vacant_at (suc n) (suc k) = vacant_at n k

pub opening_book : (cells : List ℕ) (table : TableId) (calls : List Planned) (workers limit n tasks : ℕ) (m : CoreView) (v : CoreSeatView) (notes : List (Option (Note Verdict))) (forestalled : Bool) → IsPlanned calls → IsOpening m calls workers limit → v ≡ new_core n → n ≡ task_count calls →
    notes ≡ replicate tasks None → IsBook cells (record { core = m; seat = v; table = table; happened = []; lines = []; notes = notes; forestalled = forestalled })
opening_book cells table calls workers limit n tasks m v notes forestalled orderly opens seat count none = record {
  orderly = subst IsPlanned (sym opens.calls) orderly;
  means = tt;
  unpurged = refl;
  stands = opens.stands;
  written = refl;
  entries = ap (λ (w : CoreSeatView). length w.entries) seat ∙ (length-replicate n vacant_word ∙ (count ∙ ap task_count (sym opens.calls)));
  words = λ k.
      let e : entry v k ≡ vacant_word = ap (λ w. entry w k) seat ∙ vacant_at n k in
      let u : slice_index_or m.tasks k vacant ≡ vacant = ap (λ (s : State). s.tasks k) opens.stands in
      subst (λ x. FitsWord x (word_of_task (slice_index_or m.tasks k vacant))) (sym e) (subst (λ x. FitsWord vacant_word (word_of_task x)) (sym u) (record { phase = refl; run = refl; cancelled = refl }));
  cancelled = λ k. sym (ap (λ (w : CoreSeatView). stands_in k w.own || false) seat);
  joined = λ k q. absurd (false≢true (sym (ap (λ (w : CoreSeatView). stands_in k w.joined) seat) ∙ q));
  notes = λ k note q. let clash : None ≡ Some note = sym (ap (λ xs. slice_index_or xs k None) none ∙ none_at tasks k) ∙ q in absurd cc;
}

-- What holds once each word was looked at, after a handle came back.
use Rattle.std.proofs.Common.{◌≡◌, ℕ, zero, suc, ◌+◌, ◌<◌, ◌≤◌, ◌==◌, ◌&&◌, ◌||◌, Bool, true, false, not, cond, inl, inr, List, [], ◌∷◌, ◌++◌, length, reverse, refl, sym, ap, ◌∙◌, subst, arith, length-append}
use Rattle.std.specs.Prelude.{slice_index, slice_index_or}
use Rattle.std.proofs.lemmas.Bool.{false≢true}
use Rattle.std.specs.List.{All}
use Rattle.std.proofs.lemmas.List.{length-reverse}
use Rattle.std.proofs.lemmas.List.Sums.{sum_by-cons}
use Rattle.atomic_table.specs.Seated.{TableId}
use Rattle.task_word.specs.Words.{is_cancelled, rank, rank_in, vacant_word}
use Rattle.task_word.specs.Views.{entry, times, joined_with}
use Rattle.task_word.specs.Rule.{flag}
use Rattle.task_word.specs.Steps.{CoreTells}
use Rattle.task_word.specs.declared.views.CoreSeatView.{CoreSeatView}
use Rattle.task_word.specs.declared.views.HandleSeatView.{HandleSeatView}
use Rattle.task_word.proofs.Uses.{greater_right}
use Rattle.queue_code.specs.Calls.{Planned, task_count}
use Rattle.executor_model.specs.declared.types.Happening.{Happening}
use Rattle.executor_model.specs.declared.types.Line.{Line}
use Rattle.executor_model.specs.Histories.{HistoryEntry, IsHistoryOf, is_end as stands_in}
use Rattle.executor_model.specs.Flows.{history_from}
use Rattle.executor_model.specs.State.{State, vacant}
use Rattle.executor_model.specs.Tasks.{word_of_task}
use Rattle.executor_core.specs.CoreView.{CoreView, workers_of}
use Rattle.executor_laws.proofs.TaskWords.{words_tell_the_history}
use Rattle.worker_pool.specs.Books.{BookView, IsBook, KnowsVerdict, past_of, was_outside}
use Rattle.worker_pool.specs.Applies.{IsNoted, Retires, OnlyMarks, OnlyNotes, KnowsCancels, TellsUpTo, HasMetRanks, AllAreJoined}
use Rattle.worker_pool.specs.own.Steps.{Agrees, IsKept, past_in, OnlyNoted, OnlyOwnGrows, WinsBelow}
use Rattle.worker_pool.proofs.Bools.{any_append, false_unless, neither, or_true}
use Rattle.worker_pool.proofs.Sweeps.{low_or}
use Rattle.worker_pool.proofs.Entries.{noting_noted}
use Rattle.worker_pool.proofs.Booking.{book_kept, kept_book, AreJoined, KnowAll, outside_stays, knows_still}
use Rattle.worker_pool.proofs.Applying.{book_of}

-- ---- how often a task stands in a list

times_cons : (k j : ℕ) (xs : List ℕ) → times k (j ∷ xs) ≡ cond (j == k) 1 0 + times k xs
times_cons k j xs = sum_by-cons (λ x. cond (x == k) 1 0) j xs

pub stands_often : (k : ℕ) (xs : List ℕ) → stands_in k xs ≡ true → 1 ≤ times k xs
stands_often k [] q = absurd (false≢true q)
stands_often k (j ∷ xs) q =
    let count = times_cons k j xs in
    let behind : stands_in k xs ≡ true → 1 ≤ times k xs = λ p. stands_often k xs p in
    let pick : (b : Bool) → (j == k) ≡ b → 1 ≤ cond b 1 0 + times k xs = elim [
      | true ↦ λ is. omega arith
      | false ↦ λ is. let more = behind (ap (λ b. b || stands_in k xs) (sym is) ∙ q) in omega (arith, more)
    ]
    in
    subst (λ n. 1 ≤ n) (sym count) (pick (j == k) refl)

pub stands_never : (k : ℕ) (xs : List ℕ) → stands_in k xs ≡ false → times k xs ≡ 0
stands_never k [] q = refl
stands_never k (j ∷ xs) q =
    let count = times_cons k j xs in
    let behind : stands_in k xs ≡ false → times k xs ≡ 0 = λ p. stands_never k xs p in
    let pick : (b : Bool) → (j == k) ≡ b → cond b 1 0 + times k xs ≡ 0 = elim [
      | true ↦ λ is. absurd (false≢true (sym q ∙ ap (λ b. b || stands_in k xs) is))
      | false ↦ λ is. let none = behind (ap (λ b. b || stands_in k xs) (sym is) ∙ q) in omega (arith, none)
    ]
    in
    count ∙ pick (j == k) refl

-- ---- what is so of each task

-- what each look met says of a task: whether it is cancelled, and where it stands
pub record Stood (b : BookView) (k : ℕ) : Type 0 where
  pub cancelled : Bool
  pub is : (stands_in k b.seat.own || was_outside k (past_of b)) ≡ cancelled
  pub once : times k b.seat.own + times k b.seat.joined ≤ flag cancelled
  pub alone : b.seat.out ≡ 0 → times k b.seat.own + times k b.seat.joined ≡ flag cancelled

stood : (b : BookView) (k : ℕ) → IsKept b.core b.seat b.happened b.lines → CoreTells b.seat k (entry b.seat k) → Stood b k
stood b k kept tells = record {
  cancelled = is_cancelled (entry b.seat k);
  is = sym (kept.agrees.cancelled k) ∙ (sym (words_tell_the_history b.core.calls (workers_of b.core) (past_of b) k kept.means).cancelled ∙ sym (kept.agrees.each k).cancelled);
  once = tells.once;
  alone = tells.alone;
}

-- past the last task nothing was cancelled
beyond : {X : Type 0} (xs : List X) (k : ℕ) (d : X) → length xs ≤ k → slice_index_or xs k d ≡ d
beyond [] k d high = refl
beyond (x ∷ xs) zero d high = absurd (omega (arith, high))
beyond (x ∷ xs) (suc k) d high = beyond xs k d (omega (arith, high))

pub none_outside : (b : BookView) (k : ℕ) → IsKept b.core b.seat b.happened b.lines → task_count b.core.calls ≤ k → was_outside k (past_of b) ≡ false
none_outside b k kept high =
    let past_end : entry b.seat k ≡ vacant_word = beyond b.seat.entries k vacant_word (subst (λ n. n ≤ k) (sym kept.agrees.count) high) in
    let tells = words_tell_the_history b.core.calls (workers_of b.core) (past_of b) k kept.means in
    let all : (stands_in k b.seat.own || was_outside k (past_of b)) ≡ false =
    sym (kept.agrees.cancelled k) ∙ (sym tells.cancelled ∙ (sym (kept.agrees.each k).cancelled ∙ ap is_cancelled past_end))
    in
    (neither (stands_in k b.seat.own) (was_outside k (past_of b)) all).1

-- what handles won that came back, or one that comes back now
pub joined_below : (cells : List ℕ) (b : BookView) (handle : HandleSeatView) → IsBook cells b → WinsBelow (task_count b.core.calls) handle → (k : ℕ) → stands_in k (b.seat.joined ++ handle.won) ≡ true → k < task_count b.core.calls
joined_below cells b handle book wins k q = elim (low_or k (task_count b.core.calls)) [
  | inl low ↦ low
  | inr high ↦
      let never = none_outside b k (book_kept cells b book) high in
      let before : stands_in k b.seat.joined ≡ false = false_unless (stands_in k b.seat.joined) (λ p. false≢true (sym never ∙ book.joined k p)) in
      wins k (ap (λ x. x || stands_in k handle.won) (sym before) ∙ (sym (any_append (λ j. j == k) b.seat.joined handle.won) ∙ q))
]

joined_outside : (own joined out cancelled : Bool) (m n : ℕ) → (own || out) ≡ cancelled → m + n ≤ flag cancelled → (own ≡ true → 1 ≤ m) → (joined ≡ true → 1 ≤ n) → joined ≡ true → out ≡ true
joined_outside own joined true cancelled m n is once owns joins q = refl
joined_outside true joined false true m n is once owns joins q = let a' = owns refl in let b' = joins q in absurd (omega (arith, a', b', once))
joined_outside true joined false false m n is once owns joins q = absurd (false≢true (sym is))
joined_outside false joined false true m n is once owns joins q = absurd (false≢true is)
joined_outside false joined false false m n is once owns joins q = let b' = joins q in absurd (omega (arith, b', once))

all_joined : (own joined out cancelled : Bool) (m n : ℕ) → (own || out) ≡ cancelled → m + n ≡ flag cancelled → (own ≡ true → 1 ≤ m) → (own ≡ false → m ≡ 0) → (joined ≡ true → 1 ≤ n) → (joined ≡ false → n ≡ 0) → joined ≡ (out && not own)
all_joined true true out true m n is all owns lacks joins never = let a' = owns refl in let b' = joins refl in absurd (omega (arith, a', b', all))
all_joined true false true true m n is all owns lacks joins never = refl
all_joined true false false true m n is all owns lacks joins never = refl
all_joined true joined out false m n is all owns lacks joins never = absurd (false≢true (sym is))
all_joined false true true cancelled m n is all owns lacks joins never = refl
all_joined false true false true m n is all owns lacks joins never = absurd (false≢true is)
all_joined false true false false m n is all owns lacks joins never = let b' = joins refl in absurd (omega (arith, b', all))
all_joined false false true true m n is all owns lacks joins never = let a' = lacks refl in let b' = never refl in absurd (omega (arith, a', b', all))
all_joined false false true false m n is all owns lacks joins never = absurd (false≢true (sym is))
all_joined false false false cancelled m n is all owns lacks joins never = refl

-- what joined handles won is among the tasks
abbrev AreBelow : BookView → Type 0
AreBelow b = (k : ℕ) → stands_in k b.seat.joined ≡ true → k < task_count b.core.calls

pub tells_joined : (b : BookView) → IsKept b.core b.seat b.happened b.lines → TellsUpTo b.seat (task_count b.core.calls) → AreBelow b → AreJoined b
tells_joined b kept tells below k q =
    let low = below k q in
    let s = stood b k kept (tells k low) in
    joined_outside (stands_in k b.seat.own) (stands_in k b.seat.joined) (was_outside k (past_of b)) s.cancelled (times k b.seat.own) (times k b.seat.joined) s.is s.once (stands_often k b.seat.own) (stands_often k b.seat.joined) q

pub tells_all : (b : BookView) → IsKept b.core b.seat b.happened b.lines → TellsUpTo b.seat (task_count b.core.calls) → AreJoined b → AllAreJoined b
tells_all b kept tells joined none k = elim (low_or k (task_count b.core.calls)) [
  | inl low ↦
      let s = stood b k kept (tells k low) in
      all_joined (stands_in k b.seat.own) (stands_in k b.seat.joined) (was_outside k (past_of b)) s.cancelled (times k b.seat.own) (times k b.seat.joined) s.is (s.alone none)
      (stands_often k b.seat.own) (stands_never k b.seat.own) (stands_often k b.seat.joined) (stands_never k b.seat.joined)
  | inr high ↦
      let never = none_outside b k kept high in
      false_unless (stands_in k b.seat.joined) (λ q. false≢true (sym never ∙ joined k q)) ∙ sym (ap (λ o. o && not (stands_in k b.seat.own)) never)
]

pub tells_ranks : (b : BookView) (before : CoreSeatView) (handle : HandleSeatView) → IsKept b.core b.seat b.happened b.lines → TellsUpTo b.seat (task_count b.core.calls) → b.seat.ranks ≡ (joined_with before handle).ranks → HasMetRanks b handle
tells_ranks b before handle kept tells is k low =
    let met = (tells k low).met in
    let more = greater_right before.ranks handle.ranks k in
    let same = ap (λ xs. slice_index xs k) is in
    let fit = kept.agrees.each k in
    let word : rank (entry b.seat k) ≡ rank (word_of_task (slice_index_or b.core.tasks k vacant)) =
    (λ i. rank_in (fit.phase i) (fit.run i)) ∙ ap (λ (s : State). rank (word_of_task (s.tasks k))) (sym kept.stands)
    in
    omega (arith, met, more, same, word)

-- ---- a handle came back, and cancels were noted

-- the seat took the handle's lists over
pub kept_joined : (m : CoreView) (v : CoreSeatView) (handle : HandleSeatView) (happened : List Happening) (lines : List Line) → IsKept m v happened lines → IsKept m (joined_with v handle) happened lines
kept_joined m v handle happened lines kept = record {
  orderly = kept.orderly;
  means = kept.means;
  unpurged = kept.unpurged;
  stands = kept.stands;
  written = kept.written;
  agrees = record { count = kept.agrees.count; each = kept.agrees.each; cancelled = kept.agrees.cancelled };
}

-- ---- what was noted, and the book then

length_from : (calls : List Planned) (workers : ℕ) (hs : List Happening) → length (history_from calls workers [] hs) ≡ length hs
length_from calls workers [] = refl
length_from calls workers (y ∷ hs) = ap suc (length_from calls workers hs)

pub length_past : (m : CoreView) (happened : List Happening) → length (past_in m happened) ≡ length happened
length_past m happened = length_from m.calls (workers_of m) (reverse happened) ∙ length-reverse happened

-- how many were noted
pub length_noted : (old : CoreView) (new : CoreView) (before happened : List Happening) → (only : OnlyNoted old new before happened) → length happened ≡ length before + length only.noting.noted
length_noted old new before happened only =
    let all = length-append only.noting.noted (past_in old before) in
    omega (arith, length_past old before, length_past new happened, ap length only.noting.past, all)

pub looked_noted : (cells : List ℕ) (old : BookView) (v : CoreSeatView) (core : CoreView) (seat : CoreSeatView) (happened : List Happening) (lines : List Line) → IsKept old.core v old.happened old.lines → IsKept core seat happened lines →
    (only : OnlyNoted old.core core old.happened happened) → seat.own ≡ v.own → All (IsNoted seat) only.noting.noted
looked_noted cells old v core seat happened lines kept new_kept only own =
    let calls = old.core.calls in
    let workers = workers_of old.core in
    let now = past_in core happened in
    let means : IsHistoryOf calls workers now = subst (λ c. IsHistoryOf c workers now) only.same.calls (subst (λ w. IsHistoryOf core.calls w now) only.same.workers new_kept.means) in
    let agrees : Agrees calls workers now seat = subst (λ c. Agrees c workers now seat) only.same.calls (subst (λ w. Agrees core.calls w now seat) only.same.workers new_kept.agrees) in
    noting_noted calls workers (past_of old) now v seat means kept.agrees agrees own only.noting

-- the notes go on knowing
pub know_still : (cells : List ℕ) (old : BookView) (table : TableId) (core : CoreView) (seat : CoreSeatView) (happened : List Happening) (lines : List Line) → IsBook cells old → OnlyNoted old.core core old.happened happened → KnowAll cells (book_of table core seat happened lines old.notes old.forestalled)
know_still cells old table core seat happened lines book only = λ k note is.
    subst (λ p. KnowsVerdict cells p k note) (sym only.noting.past) (knows_still cells only.noting.noted (past_of old) k note (book.notes k note is))

-- cancels were noted, and no handle came back
pub looked_book : (cells : List ℕ) (old : BookView) (table : TableId) (core : CoreView) (seat : CoreSeatView) (happened : List Happening) (lines : List Line) → IsBook cells old → IsKept core seat happened lines → OnlyNoted old.core core old.happened happened → OnlyOwnGrows old.seat seat →
    IsBook cells (book_of table core seat happened lines old.notes old.forestalled)
looked_book cells old table core seat happened lines book kept only handles =
    kept_book cells (book_of table core seat happened lines old.notes old.forestalled) kept
    (λ k is. ap (was_outside k) only.noting.past ∙ outside_stays k only.noting.noted (past_of old) (book.joined k (ap (stands_in k) (sym handles.joined) ∙ is)))
    (know_still cells old table core seat happened lines book only)

pub looked_notes : (cells : List ℕ) (old : BookView) (table : TableId) (core : CoreView) (seat : CoreSeatView) (happened : List Happening) (lines : List Line) (count : ℕ) → IsBook cells old → IsKept core seat happened lines → OnlyNoted old.core core old.happened happened →
    OnlyOwnGrows old.seat seat → seat.own ≡ old.seat.own → OnlyMarks old.seat seat → length happened ≡ length old.happened + count → (noted : List HistoryEntry) × OnlyNotes old (book_of table core seat happened lines old.notes old.forestalled) noted × (length noted ≡ count)
looked_notes cells old table core seat happened lines count book kept only handles own marks many = (
  only.noting.noted,
  record {
    past = only.noting.past;
    each = looked_noted cells old old.seat core seat happened lines (book_kept cells old book) kept only own;
    taken = only.same.taken;
    limit = only.same.limit;
    own = own;
    joined = handles.joined;
    ranks = handles.ranks;
    out = handles.out;
    entries = marks;
    notes = refl;
    forestalled = refl;
  },
  omega (arith, many, length_noted old.core core old.happened happened only),
)

-- the history has each cancel that the seat's view has
pub book_knows : (cells : List ℕ) (b : BookView) → IsBook cells b → KnowsCancels b
book_knows cells b book k q =
    sym (words_tell_the_history b.core.calls (workers_of b.core) (past_of b) k book.means).cancelled ∙ (sym ((book_kept cells b book).agrees.each k).cancelled ∙ q)

-- a handle came back first: what it won is among the tasks, and so is what joined before
pub retired_joined : (cells : List ℕ) (old : BookView) (table : TableId) (handle : HandleSeatView) (core : CoreView) (seat : CoreSeatView) (happened : List Happening) (lines : List Line) → IsBook cells old → WinsBelow (task_count core.calls) handle → IsKept core seat happened lines →
    OnlyNoted old.core core old.happened happened → OnlyOwnGrows (joined_with old.seat handle) seat → TellsUpTo seat (task_count core.calls) → AreJoined (book_of table core seat happened lines old.notes old.forestalled)
retired_joined cells old table handle core seat happened lines book wins kept only handles tells =
    let calls = ap task_count only.same.calls in
    let before : WinsBelow (task_count old.core.calls) handle = subst (λ n. WinsBelow n handle) calls wins in
    tells_joined (book_of table core seat happened lines old.notes old.forestalled) kept tells
    (λ k q. subst (λ n. k < n) (sym calls) (joined_below cells old handle book before k (ap (stands_in k) (sym handles.joined) ∙ q)))

pub retired_book : (cells : List ℕ) (old : BookView) (table : TableId) (handle : HandleSeatView) (core : CoreView) (seat : CoreSeatView) (happened : List Happening) (lines : List Line) → IsBook cells old → WinsBelow (task_count core.calls) handle → IsKept core seat happened lines →
    OnlyNoted old.core core old.happened happened → OnlyOwnGrows (joined_with old.seat handle) seat → TellsUpTo seat (task_count core.calls) → IsBook cells (book_of table core seat happened lines old.notes old.forestalled)
retired_book cells old table handle core seat happened lines book wins kept only handles tells =
    kept_book cells (book_of table core seat happened lines old.notes old.forestalled) kept (retired_joined cells old table handle core seat happened lines book wins kept only handles tells)
    (know_still cells old table core seat happened lines book only)

pub retired : (cells : List ℕ) (old : BookView) (table : TableId) (handle : HandleSeatView) (core : CoreView) (seat : CoreSeatView) (happened : List Happening) (lines : List Line) → IsBook cells old → WinsBelow (task_count core.calls) handle → IsKept core seat happened lines →
    OnlyNoted old.core core old.happened happened → OnlyOwnGrows (joined_with old.seat handle) seat → seat.own ≡ old.seat.own → OnlyMarks old.seat seat → TellsUpTo seat (task_count core.calls) → Retires old (book_of table core seat happened lines old.notes old.forestalled) handle
retired cells old table handle core seat happened lines book wins kept only handles own marks tells =
    let all = book_of table core seat happened lines old.notes old.forestalled in
    let joined = retired_joined cells old table handle core seat happened lines book wins kept only handles tells in
    record {
      noted = only.noting.noted;
      past = only.noting.past;
      each = looked_noted cells old (joined_with old.seat handle) core seat happened lines (kept_joined old.core old.seat handle old.happened old.lines (book_kept cells old book)) kept only own;
      taken = only.same.taken;
      limit = only.same.limit;
      own = own;
      joined = handles.joined;
      met = handles.ranks;
      out = handles.out;
      entries = marks;
      notes = refl;
      forestalled = refl;
      won = λ k q. joined k (ap (stands_in k) handles.joined ∙ (any_append (λ j. j == k) old.seat.joined handle.won ∙ or_true (stands_in k old.seat.joined) (stands_in k handle.won) q));
      ranks = tells_ranks all old.seat handle kept tells handles.ranks;
      all = tells_all all kept tells joined;
      looked = tells;
    }

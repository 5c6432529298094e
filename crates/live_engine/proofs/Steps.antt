-- Steps: the steps of an executor are lines that are taken.
use Rattle.std.proofs.Common.{◌≡◌, ◌⊎◌, inl, inr, ℕ, zero, suc, ◌<◌, ◌≤◌, Bool, true, false, cond, List, [], ◌∷◌, ◌++◌, length, Some, None, refl, sym, ap, ◌∙◌, arith, subst}
use Rattle.std.specs.Prelude.{slice_get, max, nat_lt}
use Rattle.std.proofs.lemmas.Bool.{false≢true}
use Rattle.std.proofs.lemmas.Bool.Decides.{nat_tests}
use Rattle.sched_time.specs.Times.{longest}
use Rattle.queue_code.specs.Calls.{Planned, task_count}
use Rattle.executor_model.specs.declared.Event.{Event}
use Rattle.executor_model.specs.declared.Happening.{Happening}
use Rattle.executor_model.specs.declared.Happening.TheVariants as h
use Rattle.executor_model.specs.declared.Answer.{Answer}
use Rattle.executor_model.specs.declared.Answer.TheVariants as a
use Rattle.executor_model.specs.declared.Event.TheVariants as v
use Rattle.executor_model.specs.Answers.{Reply, moment_after}
use Rattle.executor_model.specs.Histories.{HistoryEntry, answer, entry_of, happenings, made, now_of, IsHistoryOf}
use Rattle.call_text.specs.declared.call.CallLine.{CallLine}
use Rattle.call_text.specs.declared.call.CallLine.TheVariants as call
use Rattle.task_table.specs.Tables.{workers_of}
use Rattle.live_core.specs.Lives.{LiveView, Calls, Happens, Makes, Meets, after_clock, moment_of_call}
use Rattle.live_core.specs.Events.{run_limit}
use Rattle.live_core.proofs.Making.{now_there}
use Rattle.live_engine.specs.declared.live_line.LiveLine.{LiveLine}
use Rattle.live_engine.specs.declared.live_line.LiveLine.TheVariants as l
use Rattle.live_engine.specs.declared.stops.PieceEnd.{PieceEnd}
use Rattle.call_journal.specs.MadeCalls.{code_of}
use Rattle.live_engine.specs.LiveLines.{FitsLive, IsBeyond, IsOutOfNumbers, IsOverLimit, LiveHistory, after_call, after_happening, happening_in, meant, meant_in, most_numbers, next_moment, not_given, planned_of}
use Rattle.live_engine.specs.LiveRuns.{IsLiveHistory}
use Rattle.live_engine.specs.own.LiveSteps.{IsAt, IsLonger, IsMeant, IsNotTaken, TakesAfter, TakesLine}

-- ---- where an executor stands

-- its history is allowed
pub allowed : (workers : ℕ) (m : LiveView) (so_far : LiveHistory) → IsAt workers m so_far → IsLiveHistory workers so_far
allowed workers m so_far at = record {
  orderly = at.stands.table.orderly;
  means = subst (λ n. IsHistoryOf so_far.calls n so_far.past) at.width at.stands.table.means;
  made = at.stands.made;
}

later : (now clock moment earliest : ℕ) → now ≡ moment → clock ≡ earliest → max 0 (max moment earliest) ≡ max now clock
later now clock moment earliest p q = grind (arith, p, q)

-- the moment of a call at no moment of its own is that of the call that comes next
pub next_is : (workers : ℕ) (m : LiveView) (so_far : LiveHistory) → IsAt workers m so_far → moment_of_call m 0 ≡ next_moment so_far
next_is workers m so_far at =
    later (now_of so_far.calls (happenings so_far.past)) (after_clock so_far.past) m.table.moment m.earliest
    (now_there m.table so_far.calls so_far.past at.stands.table.means at.stands.table.shows) (sym at.stands.clock)

-- ---- what a line means

-- a number and a line, of a call that cancels one
abbrev cancel_as : Bool → ℕ → LiveLine
cancel_as given task = cond given (l.Call (call.Cancel task)) (l.Event (v.Cancel task))

-- it is meant as it stands
pub is_meant : (numbers : ℕ) (line : LiveLine) → IsMeant numbers (meant numbers line)
is_meant numbers (l.Event event) = tt
is_meant numbers (l.Call (call.Schedule delay)) = tt
is_meant numbers (l.Call call.Execute) = tt
is_meant numbers (l.Call (call.Rate first period)) = tt
is_meant numbers (l.Call (call.Fixed first delay)) = tt
is_meant numbers (l.Call (call.Policy which value)) = tt
is_meant numbers (l.Call call.Shutdown) = tt
is_meant numbers (l.Call call.ShutdownNow) = tt
is_meant numbers (l.Call call.Ask) = tt
is_meant numbers (l.Call (call.Cancel task)) = by (nat_lt task numbers) refl
  where
    by : (b : Bool) → nat_lt task numbers ≡ b → IsMeant numbers (cancel_as b task)
    by true given = grind (arith, nat_tests, given)
    by false given = tt

-- and fits where the line does
pub fits_meant : (numbers : ℕ) (line : LiveLine) → FitsLive line → FitsLive (meant numbers line)
fits_meant numbers (l.Event event) fits = fits
fits_meant numbers (l.Call (call.Schedule delay)) fits = fits
fits_meant numbers (l.Call call.Execute) fits = fits
fits_meant numbers (l.Call (call.Rate first period)) fits = fits
fits_meant numbers (l.Call (call.Fixed first delay)) fits = fits
fits_meant numbers (l.Call (call.Policy which value)) fits = fits
fits_meant numbers (l.Call call.Shutdown) fits = fits
fits_meant numbers (l.Call call.ShutdownNow) fits = fits
fits_meant numbers (l.Call call.Ask) fits = fits
fits_meant numbers (l.Call (call.Cancel task)) fits = by (nat_lt task numbers)
  where
    by : (b : Bool) → FitsLive (cancel_as b task)
    by true = fits
    by false = fits

-- an executor knows how many numbers were given out
pub meant_there : (workers : ℕ) (m : LiveView) (so_far : LiveHistory) (line : LiveLine) → IsAt workers m so_far → meant m.count line ≡ meant_in so_far line
meant_there workers m so_far line at = ap (λ n. meant n line) (sym at.stands.count)

-- so a line that it takes as it is meant is taken so behind the history
pub takes_meant : (old new : LiveView) (line : LiveLine) (r : Reply) → TakesLine old new (meant old.count line) r → (workers : ℕ) (so_far : LiveHistory) → IsAt workers old so_far → TakesAfter workers new so_far (meant_in so_far line) r
takes_meant old new line r takes workers so_far at = subst (λ (line : LiveLine). TakesAfter workers new so_far line r) (meant_there workers old so_far line at) (takes workers so_far at)

-- and there is room for it
pub has_room_meant : (workers : ℕ) (old : LiveView) (so_far : LiveHistory) (line : LiveLine) → IsAt workers old so_far → (IsBeyond workers so_far (meant old.count line) → ⊥) → IsBeyond workers so_far (meant_in so_far line) → ⊥
has_room_meant workers old so_far line at room = subst (λ (line : LiveLine). IsBeyond workers so_far line → ⊥) (meant_there workers old so_far line at) room

-- or it is not taken so
pub not_taken_meant : (end : PieceEnd) (workers : ℕ) (old : LiveView) (so_far : LiveHistory) (line : LiveLine) → IsAt workers old so_far → IsNotTaken end workers so_far (meant old.count line) → IsNotTaken end workers so_far (meant_in so_far line)
not_taken_meant end workers old so_far line at stop = subst (IsNotTaken end workers so_far) (meant_there workers old so_far line at) stop

-- ---- replies

-- a reply that is the answer
told : (y : Happening) (r s : Reply) → r.answer ≡ s.answer → r.ends ≡ s.ends → entry_of y r ≡ entry_of y s
told y r s p q = ap (λ (x : Answer). entry_of y (record { answer = x; ends = r.ends })) p ∙ ap (λ (x : List ℕ). entry_of y (record { answer = s.answer; ends = x })) q

-- ---- calls

-- what is known of a call that a line makes, by how many numbers were given out: the one that it names was, or one is left for it
abbrev pub IsGiven : ℕ → CallLine → Type 0
IsGiven count (call.Cancel task) = task < count
IsGiven count (call.Schedule delay) = count < most_numbers
IsGiven count call.Execute = count < most_numbers
IsGiven count (call.Rate first period) = count < most_numbers
IsGiven count (call.Fixed first delay) = count < most_numbers
IsGiven count asked = Unit {0}

-- a number is left for it, if it needs one
number_left : (count : ℕ) (so_far : LiveHistory) (asked : CallLine) → task_count so_far.calls ≡ count → IsGiven count asked → IsOutOfNumbers so_far (l.Call asked) → ⊥
number_left count so_far (call.Schedule delay) same given many = omega (arith, same, given, many.1)
number_left count so_far call.Execute same given many = omega (arith, same, given, many.1)
number_left count so_far (call.Rate first period) same given many = omega (arith, same, given, many.1)
number_left count so_far (call.Fixed first delay) same given many = omega (arith, same, given, many.1)
number_left count so_far (call.Cancel task) same given many = false≢true many.0
number_left count so_far (call.Policy which value) same given many = false≢true many.0
number_left count so_far call.Shutdown same given many = false≢true many.0
number_left count so_far call.ShutdownNow same given many = false≢true many.0
number_left count so_far call.Ask same given many = false≢true many.0

-- it is beyond no limit
pub within_call : (workers : ℕ) (m : LiveView) (so_far : LiveHistory) (asked : CallLine) → IsAt workers m so_far → moment_of_call m 0 ≤ longest → IsGiven m.count asked → IsOverLimit workers so_far (l.Call asked) → ⊥
within_call workers m so_far asked at near given (inl late) = omega (arith, late, near, next_is workers m so_far at)
within_call workers m so_far asked at near given (inr (inl many)) = number_left m.count so_far asked at.stands.count given many
within_call workers m so_far asked at near given (inr (inr none)) = none

longer_call : (workers : ℕ) (old new : LiveView) (so_far : LiveHistory) (p : Planned) (r : Reply) → IsAt workers old so_far → workers_of new.table ≡ workers_of old.table → Makes new so_far.calls so_far.past p r →
    IsLonger workers new so_far (after_call workers so_far p) r
longer_call workers old new so_far p r at width makes =
    let calls = so_far.calls ++ p ∷ [] in
    let means = makes.stands.table.means in
    let all = width ∙ at.width in
    let entry : entry_of h.Call r ≡ entry_of h.Call (answer calls workers so_far.past h.Call) =
    subst (λ n. entry_of h.Call r ≡ entry_of h.Call (answer calls n so_far.past h.Call)) all (told h.Call r (answer calls (workers_of new.table) so_far.past h.Call) means.2 means.3) in
    subst (λ (e : HistoryEntry). IsLonger workers new so_far (record { calls = calls; past = e ∷ so_far.past }) r) entry (record {
      at = record { stands = makes.stands; width = all };
      lines = makes.lines;
    })

planned_is : (workers : ℕ) (m : LiveView) (so_far : LiveHistory) (asked : CallLine) → IsAt workers m so_far → (moment_of_call m 0, code_of m.count asked) ≡ planned_of so_far asked
planned_is workers m so_far asked at =
    ap (λ n. (n, code_of m.count asked)) (next_is workers m so_far at) ∙ ap (λ n. (next_moment so_far, code_of n asked)) (sym at.stands.count)

-- a call that the executor makes at no moment of its own is the line of a call that is taken
pub takes_call : (old new : LiveView) (asked : CallLine) (r : Reply) → Calls old new (moment_of_call old 0, code_of old.count asked) r → workers_of new.table ≡ workers_of old.table → moment_of_call old 0 ≤ longest → IsGiven old.count asked →
    TakesLine old new (l.Call asked) r
takes_call old new asked r calls width near given workers so_far at = record {
  within = within_call workers old so_far asked at near given;
  longer = subst (λ (p : Planned). IsLonger workers new so_far (after_call workers so_far p) r) (planned_is workers old so_far asked at)
      (longer_call workers old new so_far (moment_of_call old 0, code_of old.count asked) r at width (calls so_far.calls so_far.past at.stands));
}

-- ---- events

longer_event : (workers : ℕ) (old new : LiveView) (so_far : LiveHistory) (y : Happening) (r : Reply) → IsAt workers old so_far → workers_of new.table ≡ workers_of old.table →
    Meets new so_far.calls so_far.past y r → IsLonger workers new so_far (after_happening workers so_far y) r
longer_event workers old new so_far y r at width meets =
    let calls = so_far.calls in
    let means = meets.stands.table.means in
    let all = width ∙ at.width in
    let entry : entry_of y r ≡ entry_of y (answer calls workers so_far.past y) =
    subst (λ n. entry_of y r ≡ entry_of y (answer calls n so_far.past y)) all (told y r (answer calls (workers_of new.table) so_far.past y) means.2 means.3) in
    subst (λ (e : HistoryEntry). IsLonger workers new so_far (record { calls = calls; past = e ∷ so_far.past }) r) entry (record {
      at = record { stands = meets.stands; width = all };
      lines = meets.lines;
    })

-- an event that the executor meets is the line of an event that is taken
pub takes_event : (old new : LiveView) (event : Event) (y : Happening) (r : Reply) → Happens old new y r → workers_of new.table ≡ workers_of old.table →
    ((so_far : LiveHistory) → task_count so_far.calls ≡ old.count → y ≡ happening_in so_far event) → ((workers : ℕ) (so_far : LiveHistory) → IsAt workers old so_far → IsOverLimit workers so_far (l.Event event) → ⊥) → TakesLine old new (l.Event event) r
takes_event old new event y r happens width is within workers so_far at = record {
  within = within workers so_far at;
  longer = subst (λ (y : Happening). IsLonger workers new so_far (after_happening workers so_far y) r) (is so_far at.stands.count)
      (longer_event workers old new so_far y r at width (happens so_far.calls so_far.past at.stands));
}

-- an event that is no start is beyond no limit
pub within_no_start : ⊥ ⊎ (⊥ ⊎ ⊥) → ⊥
within_no_start (inl over) = over
within_no_start (inr (inl over)) = over
within_no_start (inr (inr over)) = over

-- the number of the run that an answer says was begun, and 0 where none was
abbrev pub run_begun : Answer → ℕ
run_begun (a.Start worker task run due) = run
run_begun _ = 0

-- a start is beyond none where the run that it begins has a number
pub within_start : (old new : LiveView) (worker : ℕ) (r : Reply) → Happens old new (h.Start worker) r → workers_of new.table ≡ workers_of old.table → run_begun r.answer < run_limit →
    (workers : ℕ) (so_far : LiveHistory) → IsAt workers old so_far → IsOverLimit workers so_far (l.Event (v.Start worker)) → ⊥
within_start old new worker r happens width low workers so_far at (inl over) = over
within_start old new worker r happens width low workers so_far at (inr (inl over)) = over
within_start old new worker r happens width low workers so_far at (inr (inr out)) =
    let means = (happens so_far.calls so_far.past at.stands).stands.table.means in
    let said : r.answer ≡ (answer so_far.calls workers so_far.past (h.Start worker)).answer =
    subst (λ n. r.answer ≡ (answer so_far.calls n so_far.past (h.Start worker)).answer) (width ∙ at.width) means.2 in
    let none : run_begun r.answer ≡ run_limit = ap run_begun said ∙ ap (λ (x : Reply). run_begun x.answer) out.2 in
    omega (arith, low, none)

-- a cancel from outside of a number that was given out
pub cancel_given : (task count given : ℕ) → task < count → given ≡ count → h.Cancel task ≡ h.Cancel (cond (nat_lt task given) task (not_given task))
cancel_given task count given low same = by (nat_lt task given) (grind (arith, nat_tests, low, same))
  where
    by : (b : Bool) → b ≡ true → h.Cancel task ≡ h.Cancel (cond b task (not_given task))
    by true q = refl
    by false q = cc

-- and of one that was not
pub cancel_none : (task count given : ℕ) → count ≤ task → given ≡ count → h.Cancel (not_given task) ≡ h.Cancel (cond (nat_lt task given) task (not_given task))
cancel_none task count given high same = by (nat_lt task given) (grind (arith, nat_tests, high, same))
  where
    by : (b : Bool) → b ≡ false → h.Cancel (not_given task) ≡ h.Cancel (cond b task (not_given task))
    by true q = cc
    by false q = refl

-- ---- the moment of a call that was made

still_there : (calls : List Planned) (p : Planned) (n : ℕ) → n < length calls → slice_get (calls ++ p ∷ []) n ≡ slice_get calls n
still_there [] p n low = absurd (omega (arith, low))
still_there (x ∷ calls) p zero low = refl
still_there (x ∷ calls) p (suc n) low = still_there calls p n (omega (arith, low))

pub behind_all : (calls : List Planned) (p : Planned) (n : ℕ) → n ≡ length calls → slice_get (calls ++ p ∷ []) n ≡ Some p
behind_all [] p n is = ap (slice_get (p ∷ [])) is
behind_all (x ∷ calls) p zero is = absurd (omega (arith, is))
behind_all (x ∷ calls) p (suc n) is = behind_all calls p n (omega (arith, is))

-- what happened looks at no further call
now_still : (calls : List Planned) (p : Planned) (past : List Happening) → made past ≤ length calls → now_of (calls ++ p ∷ []) past ≡ now_of calls past
now_still calls p [] few = refl
now_still calls p (h.Call ∷ past) few =
    let before = now_still calls p past (omega (arith, few)) in
    ap (λ n. moment_after n (slice_get (calls ++ p ∷ []) (made past)) h.Call) before ∙ ap (λ o. moment_after (now_of calls past) o h.Call) (still_there calls p (made past) (omega (arith, few)))
now_still calls p (h.Clock t ∷ past) few = ap (λ n. moment_after n None (h.Clock t)) (now_still calls p past few)
now_still calls p (h.Start w ∷ past) few = now_still calls p past few
now_still calls p (h.Finish w ending ∷ past) few = now_still calls p past few
now_still calls p (h.Cancel k ∷ past) few = now_still calls p past few
now_still calls p (h.Purge ∷ past) few = now_still calls p past few

latest : (now clock : ℕ) → max now (max now clock) ≡ max now clock
latest now clock = grind arith

-- a call that a line makes has the moment of the call that comes next
pub call_moment : (old new : LiveView) (asked : CallLine) (r : Reply) (workers : ℕ) (so_far : LiveHistory) → TakesLine old new (l.Call asked) r → IsAt workers old so_far → new.table.moment ≡ next_moment so_far
call_moment old new asked r workers so_far takes at =
    let p = planned_of so_far asked in
    let longer = (takes workers so_far at).longer.at.stands in
    let past = happenings so_far.past in
    let now = now_of so_far.calls past in
    let all = now_there new.table (so_far.calls ++ p ∷ []) (after_call workers so_far p).past longer.table.means longer.table.shows in
    let before = now_still so_far.calls p past (omega (arith, at.stands.made)) in
    sym all ∙ (ap (λ n. moment_after n (slice_get (so_far.calls ++ p ∷ []) (made past)) h.Call) before
    ∙ (ap (λ o. moment_after now o h.Call) (behind_all so_far.calls p (made past) at.stands.made) ∙ latest now (after_clock so_far.past)))

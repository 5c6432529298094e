-- Replied: what the executor's calls and events answer, as lines that are taken, and why some are not.
use Rattle.std.proofs.Common.{◌≡◌, ℕ, ◌<◌, ◌≤◌, true, List, [], Option, Some, None, IfSome, Result, Ok, Err, IfErr, inl, inr, refl, sym, ap, ◌∙◌, arith, subst}
use Rattle.sched_time.specs.Times.{longest}
use Rattle.sched_time.specs.declared.timing.Timing.{Timing}
use Rattle.queue_code.specs.Calls.{submits_task, task_count}
use Rattle.executor_model.specs.declared.types.Event.TheVariants as v
use Rattle.executor_model.specs.declared.types.Happening.{Happening}
use Rattle.executor_model.specs.declared.types.Happening.TheVariants as h
use Rattle.executor_model.specs.declared.types.EventError.{EventError}
use Rattle.executor_model.specs.declared.types.CancelEffect.{CancelEffect}
use Rattle.executor_model.specs.declared.types.Answer.{Answer}
use Rattle.executor_model.specs.declared.types.Answer.TheVariants as a
use Rattle.executor_model.specs.declared.Event.{Event}
use Rattle.executor_model.specs.Answers.{Reply, bare}
use Rattle.executor_model.specs.Histories.{answer}
use Rattle.call_text.specs.declared.call.CallLine.{CallLine}
use Rattle.call_text.specs.declared.call.CallLine.TheVariants as call
use Rattle.task_table.specs.declared.seat.TaskRef.{TaskRef}
use Rattle.task_table.specs.declared.answers.Begun.{Begun}
use Rattle.task_table.specs.Tables.{workers_of}
use Rattle.live_core.specs.declared.error.CallError.{CallError}
use Rattle.live_core.specs.declared.error.CallError.TheVariants as ce
use Rattle.live_core.specs.Lives.{LiveView, Calls, Happens, Stays, StaysQuiet, moment_of_call, quiet}
use Rattle.live_core.specs.Said.{IsPeriodicError, IsShort, IsSubmitError, ending}
use Rattle.live_core.specs.Cancels.{CancelsNone, CancelsOutside, IsCancelError}
use Rattle.live_core.specs.Shutting.{IsTooFar}
use Rattle.live_core.specs.Events.{Fails, WouldPassLimit, run_limit, start_reply}
use Rattle.live_engine.specs.declared.live_line.LiveLine.{LiveLine}
use Rattle.live_engine.specs.declared.live_line.LiveLine.TheVariants as l
use Rattle.live_engine.specs.declared.stops.PieceEnd.{PieceEnd}
use Rattle.live_engine.specs.declared.stops.PieceEnd.TheVariants as e
use Rattle.call_journal.specs.MadeCalls.{code_of}
use Rattle.live_engine.specs.LiveLines.{IsCallLine, IsOverLimit, LiveHistory, happening_in, most_numbers}
use Rattle.live_engine.specs.own.LiveSteps.{IsAt, Refuses, TakesLine, stop_of}
use Rattle.live_engine.proofs.Steps.{IsGiven, cancel_given, cancel_none, next_is, run_begun, takes_call, takes_event, within_call, within_no_start, within_start}
use Rattle.live_engine.proofs.Lengths.{submission_adds, wants_memory}

-- an answer that ends no task
ending_none : (answer : Answer) (ended : List TaskRef) → ended ≡ [] → ending answer ended ≡ bare answer
ending_none answer ended none = ap (λ (tasks : List TaskRef). ending answer tasks) none

-- ---- calls

-- a call that ends no task
pub call_quiet : (old new : LiveView) (asked : CallLine) (r : Reply) (answer : Answer) (numbers : ℕ) → Calls old new (moment_of_call old 0, code_of old.count asked) r → StaysQuiet old new numbers → bare answer ≡ r →
    moment_of_call old 0 ≤ longest → IsGiven old.count asked → TakesLine old new (l.Call asked) (ending answer new.ended)
call_quiet old new asked r answer numbers calls stays is near given =
    subst (λ (r : Reply). TakesLine old new (l.Call asked) r) (sym is ∙ sym (ending_none answer new.ended stays.ended)) (takes_call old new asked r calls stays.stays.workers near given)

-- a call that may end some
pub call_ending : (old new : LiveView) (asked : CallLine) (answer : Answer) (numbers : ℕ) → Calls old new (moment_of_call old 0, code_of old.count asked) (ending answer new.ended) → Stays old new numbers →
    moment_of_call old 0 ≤ longest → IsGiven old.count asked → TakesLine old new (l.Call asked) (ending answer new.ended)
call_ending old new asked answer numbers calls stays near given = takes_call old new asked (ending answer new.ended) calls stays.workers near given

-- its moment would be too late
too_late : (m : LiveView) (asked : CallLine) → longest < moment_of_call m 0 → Refuses e.Full m (l.Call asked)
too_late m asked late workers so_far at = inl (subst (λ n. longest < n) (next_is workers m so_far at) late)

-- what is known of a line that submits a task: it needs but a number
pub record IsSubmission (asked : CallLine) : Type 0 where
  pub submits : (k : ℕ) → submits_task (code_of k asked) ≡ true
  pub given : (count : ℕ) → count < most_numbers → IsGiven count asked

pub is_schedule : (delay : ℕ) → IsSubmission (call.Schedule delay)
is_schedule delay = record { submits = λ k. refl; given = λ count few. few }

pub is_execute : IsSubmission call.Execute
is_execute = record { submits = λ k. refl; given = λ count few. few }

pub is_rate : (first period : ℕ) → IsSubmission (call.Rate first period)
is_rate first period = record { submits = λ k. refl; given = λ count few. few }

pub is_fixed : (first delay : ℕ) → IsSubmission (call.Fixed first delay)
is_fixed first delay = record { submits = λ k. refl; given = λ count few. few }

-- memory is wanting for one
no_slot : (m : LiveView) (asked : CallLine) → IsSubmission asked → moment_of_call m 0 ≤ longest → m.count < most_numbers → Refuses e.Memory m (l.Call asked)
no_slot m asked is near few workers so_far at = (
  tt,
  within_call workers m so_far asked at near (is.given m.count few),
  submission_adds workers so_far asked at.stands.made (is.submits (task_count so_far.calls)),
)

-- why a submission is not taken
pub refuses_submission : (m : LiveView) (asked : CallLine) (timing : Timing) (delay : ℕ) (error : CallError) → IsSubmission asked → IsSubmitError m 0 timing delay error → IsShort timing delay → m.count < most_numbers → Refuses (stop_of error) m (l.Call asked)
refuses_submission m asked timing delay ce.TooLong line is short few = absurd (is short)
refuses_submission m asked timing delay ce.TooFar line is short few = too_late m asked is.1
refuses_submission m asked timing delay ce.Full line is short few = absurd (omega (arith, is.2, few))
refuses_submission m asked timing delay ce.Memory line is short few = no_slot m asked line is.1 few
refuses_submission m asked timing delay ce.Illegal line is short few = absurd is
refuses_submission m asked timing delay ce.NoTask line is short few = absurd is

-- the same of a periodic one
pub refuses_periodic : (span : ℕ) (m : LiveView) (asked : CallLine) (timing : Timing) (delay : ℕ) (error : CallError) → IsSubmission asked → IsPeriodicError span m 0 timing delay error → 0 < span → IsShort timing delay → m.count < most_numbers → Refuses (stop_of error) m (l.Call asked)
refuses_periodic span m asked timing delay ce.Illegal line is some short few = absurd (omega (arith, is, some))
refuses_periodic span m asked timing delay ce.TooLong line is some short few = refuses_submission m asked timing delay ce.TooLong line is.1 short few
refuses_periodic span m asked timing delay ce.TooFar line is some short few = refuses_submission m asked timing delay ce.TooFar line is.1 short few
refuses_periodic span m asked timing delay ce.Full line is some short few = refuses_submission m asked timing delay ce.Full line is.1 short few
refuses_periodic span m asked timing delay ce.Memory line is some short few = refuses_submission m asked timing delay ce.Memory line is.1 short few
refuses_periodic span m asked timing delay ce.NoTask line is some short few = refuses_submission m asked timing delay ce.NoTask line is.1 short few

-- why a cancel by a call, of a number that was given out, is not taken
pub refuses_cancel : (m : LiveView) (task : ℕ) (error : CallError) → task < m.count → IsCancelError m 0 task error → Refuses (stop_of error) m (l.Call (call.Cancel task))
refuses_cancel m task ce.NoTask given is = absurd (omega (arith, is, given))
refuses_cancel m task ce.TooFar given is = too_late m (call.Cancel task) is.1
refuses_cancel m task ce.TooLong given is = absurd is
refuses_cancel m task ce.Full given is = absurd is
refuses_cancel m task ce.Memory given is = absurd is
refuses_cancel m task ce.Illegal given is = absurd is

-- why any other call is not taken
pub refuses_late : (m : LiveView) (asked : CallLine) (error : CallError) → IsTooFar m 0 error → Refuses (stop_of error) m (l.Call asked)
refuses_late m asked ce.TooFar is = too_late m asked is
refuses_late m asked ce.NoTask is = absurd is
refuses_late m asked ce.TooLong is = absurd is
refuses_late m asked ce.Full is = absurd is
refuses_late m asked ce.Memory is = absurd is
refuses_late m asked ce.Illegal is = absurd is

-- want of memory for the answer to one that ends no task
pub memory_refuses : (old new : LiveView) (line : LiveLine) (r : Reply) (told : Result Answer PieceEnd) → IsCallLine line → TakesLine old new line r → r.ends ≡ [] → IfErr told (λ end. end ≡ e.Memory) → IfErr told (λ end. Refuses end old line)
memory_refuses old new line r (Ok answer) calls takes none is = tt
memory_refuses old new line r (Err end) calls takes none is = subst (λ (end : PieceEnd). Refuses end old line) (sym is) (wants_memory old new line r calls takes none)

-- ---- events

-- an event that ends no task
pub event_quiet : (old new : LiveView) (event : Event) (y : Happening) (r : Reply) (answer : Answer) → Happens old new y r → workers_of new.table ≡ workers_of old.table → new.ended ≡ [] → bare answer ≡ r →
    ((so_far : LiveHistory) → task_count so_far.calls ≡ old.count → y ≡ happening_in so_far event) → ((workers : ℕ) (so_far : LiveHistory) → IsAt workers old so_far → IsOverLimit workers so_far (l.Event event) → ⊥) →
    TakesLine old new (l.Event event) (ending answer new.ended)
event_quiet old new event y r answer happens width none is comes within =
    subst (λ (r : Reply). TakesLine old new (l.Event event) r) (sym is ∙ sym (ending_none answer new.ended none)) (takes_event old new event y r happens width comes within)

-- an event that is answered by an error
pub event_fails : (old new : LiveView) (event : Event) (y : Happening) (error : EventError) → Happens old new y (bare (a.Error error)) → new ≡ quiet old old.table →
    ((so_far : LiveHistory) → task_count so_far.calls ≡ old.count → y ≡ happening_in so_far event) → ((workers : ℕ) (so_far : LiveHistory) → IsAt workers old so_far → IsOverLimit workers so_far (l.Event event) → ⊥) →
    TakesLine old new (l.Event event) (ending (a.Error error) new.ended)
event_fails old new event y error happens same comes within =
    event_quiet old new event y (bare (a.Error error)) (a.Error error) happens (ap (λ (m : LiveView). workers_of m.table) same) (ap (λ (m : LiveView). m.ended) same) refl comes within

-- a cancel from outside of a number that was given out
pub outside_given : (old new : LiveView) (task : ℕ) (effect : CancelEffect) → CancelsOutside old new task effect → StaysQuiet old new old.count → TakesLine old new (l.Event (v.Cancel task)) (ending (a.Outside task effect) new.ended)
outside_given old new task effect cancels stays =
    event_quiet old new (v.Cancel task) (h.Cancel task) (bare (a.Outside task effect)) (a.Outside task effect) cancels.happens stays.stays.workers stays.ended refl
    (λ so_far same. cancel_given task old.count (task_count so_far.calls) cancels.given same) (λ workers so_far at. within_no_start)

-- and of one that was not
pub outside_none : (old new : LiveView) (task : ℕ) (error : EventError) → CancelsNone old new task error → StaysQuiet old new old.count → TakesLine old new (l.Event (v.Cancel task)) (ending (a.Error error) new.ended)
outside_none old new task error cancels stays =
    subst (λ (error : EventError). TakesLine old new (l.Event (v.Cancel task)) (ending (a.Error error) new.ended)) (sym cancels.is)
    (event_quiet old new (v.Cancel task) _ _ _ cancels.happens stays.stays.workers stays.ended refl (λ so_far same. cancel_none task old.count (task_count so_far.calls) cancels.free same)
    (λ workers so_far at. within_no_start))

-- a start
pub start_taken : (old new : LiveView) (worker : ℕ) (begun : Option Begun) (answer : Answer) → Happens old new (h.Start worker) (start_reply worker begun) → workers_of new.table ≡ workers_of old.table → new.ended ≡ [] →
    IfSome begun (λ b. b.run < run_limit) → bare answer ≡ start_reply worker begun → TakesLine old new (l.Event (v.Start worker)) (ending answer new.ended)
start_taken old new worker begun answer happens width none low is =
    event_quiet old new (v.Start worker) (h.Start worker) (start_reply worker begun) answer happens width none is (λ so_far same. refl)
    (within_start old new worker (start_reply worker begun) happens width (numbered begun low))
  where
    numbered : (begun : Option Begun) → IfSome begun (λ b. b.run < run_limit) → run_begun (start_reply worker begun).answer < run_limit
    numbered None low = omega arith
    numbered (Some b) low = low

-- one that is answered by an error
pub start_fails : (old new : LiveView) (worker : ℕ) (error : EventError) → Fails old new (h.Start worker) error → TakesLine old new (l.Event (v.Start worker)) (ending (a.Error error) new.ended)
start_fails old new worker error fails =
    event_fails old new (v.Start worker) (h.Start worker) error fails.happens fails.is (λ so_far same. refl)
    (within_start old new worker (bare (a.Error error)) fails.happens (ap (λ (m : LiveView). workers_of m.table) fails.is) (omega arith))

-- no number is left for the run that one would begin
pub no_run : (m : LiveView) (worker : ℕ) → WouldPassLimit m worker → Refuses e.Full m (l.Event (v.Start worker))
no_run m worker passes workers so_far at =
    let out = passes so_far.calls so_far.past at.stands in
    inr (inr (out.0, out.1, subst (λ n. answer so_far.calls n so_far.past (h.Start worker) ≡ bare (a.Start worker out.0 run_limit out.1)) at.width out.2))

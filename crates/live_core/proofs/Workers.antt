-- What a start and a finish leave behind, as the table tells of them.
use Rattle.std.proofs.Common.{◌≡◌, ℕ, ◌<◌, Result, Ok, Err, IfOk, cond, List, ◌∷◌, Option, Some, None, refl, sym, ap, ◌∙◌, subst}
use Rattle.std.specs.Prelude.{slice_index_or, slice_set, IfSome}
use Rattle.std.proofs.lemmas.Bool.{eq-eqb}
use Rattle.std.proofs.lemmas.List.{length-set}
use Rattle.sched_time.specs.declared.timing.Ending.{Ending}
use Rattle.queue_code.specs.Calls.{Planned}
use Rattle.executor_model.specs.declared.types.Happening.TheVariants as h
use Rattle.executor_model.specs.declared.types.Outcome.{Outcome}
use Rattle.executor_model.specs.declared.types.Outcome.TheVariants as o
use Rattle.executor_model.specs.declared.types.EventError.{EventError}
use Rattle.executor_model.specs.Answers.{Reply}
use Rattle.executor_model.specs.Histories.{HistoryEntry, entry_of, answer, IsHistoryOf}
use Rattle.executor_model.specs.State.{due_past}
use Rattle.executor_model.proofs.Tables.{at_set}
use Rattle.task_table.specs.declared.answers.Begun.{Begun}
use Rattle.task_table.specs.declared.answers.Ended.{Ended}
use Rattle.task_table.specs.declared.seat.Seat.{Seat}
use Rattle.task_table.specs.declared.seat.TaskRef.{TaskRef}
use Rattle.task_table.specs.Seats.{slot_of}
use Rattle.task_table.specs.Tables.{TableView, workers_of, Stands, EventSteps, EventStepsBefore}
use Rattle.task_table.specs.Runs.{IsFree, Starts, Ends}
use Rattle.task_table.specs.Changes.{begun, ended}
use Rattle.task_table.proofs.Written.{set_writes, slot_within}
use Rattle.task_table.proofs.Starts.{stands_before}
use Rattle.live_core.specs.Events.{start_reply, finish_reply, IsRunBy}
use Rattle.live_core.specs.Empties.{held_numbers}
use Rattle.live_core.specs.own.Formed.{AreNoted}
use Rattle.live_core.specs.own.Shed.{Sheds, released}
use Rattle.live_core.proofs.Held.{held_put, number_there}
use Rattle.live_core.proofs.Indexed.{number_given}
use Rattle.live_core.proofs.Noted.{noted_still}

-- ---- what a worker runs

-- a task that a worker runs has a number that was given out
pub runs_given : (m : TableView) (worker count : ℕ) (t : TaskRef) (free : List ℕ) (entries : List TaskRef) (slot_room ended_room : ℕ) → AreNoted m.slots count free entries slot_room ended_room → IsRunBy m worker t → t.number < count
runs_given m worker count t free entries slot_room ended_room noted runs =
    subst (λ n. n < count) runs.named (number_given (held_numbers m.slots) entries count t.slot runs.task.number noted.index (number_there m.slots t.slot runs.task runs.there))

-- so does one of which it begins a run
pub begun_given : (m : TableView) (worker count : ℕ) (b : Option Begun) (free : List ℕ) (entries : List TaskRef) (slot_room ended_room : ℕ) → AreNoted m.slots count free entries slot_room ended_room → IfSome b (λ r. IsRunBy m worker r.task) →
    IfSome b (λ r. r.task.number < count)
begun_given m worker count None free entries slot_room ended_room noted runs = tt
begun_given m worker count (Some r) free entries slot_room ended_room noted runs = runs_given m worker count r.task free entries slot_room ended_room noted runs

-- and one whose run it ends
pub ended_given : (m : TableView) (worker count : ℕ) (r : Result Ended EventError) (free : List ℕ) (entries : List TaskRef) (slot_room ended_room : ℕ) → AreNoted m.slots count free entries slot_room ended_room → IfOk r (λ e. IsRunBy m worker e.task) →
    IfOk r (λ e. e.task.number < count)
ended_given m worker count (Ok e) free entries slot_room ended_room noted runs = runs_given m worker count e.task free entries slot_room ended_room noted runs
ended_given m worker count (Err error) free entries slot_room ended_room noted runs = tt

-- ---- a start

-- the numbers in the slots stay
pub start_numbers : (m new : TableView) (worker : ℕ) (b : Option Begun) → Starts m new worker b → held_numbers new.slots ≡ held_numbers m.slots
start_numbers m new worker None s = ap (λ (v : TableView). held_numbers v.slots) s.is
start_numbers m new worker (Some b) s = ap (λ (v : TableView). held_numbers v.slots) s.is ∙ held_put m.slots b.task.slot s.task (begun s.task) s.first.there refl

pub noted_started : (m new : TableView) (worker : ℕ) (b : Option Begun) (count : ℕ) (free : List ℕ) (entries : List TaskRef) (slot_room ended_room : ℕ) → Starts m new worker b →
    AreNoted m.slots count free entries slot_room ended_room → AreNoted new.slots count free entries slot_room ended_room
noted_started m new worker b count free entries slot_room ended_room s noted =
    noted_still m.slots new.slots count free entries slot_room ended_room (start_numbers m new worker b s) noted

-- the worker runs the task
pub runs_started : (m new : TableView) (worker : ℕ) (b : Option Begun) → Starts m new worker b → IfSome b (λ r. IsRunBy new worker r.task)
runs_started m new worker None s = tt
runs_started m new worker (Some b) s =
    let slot = b.task.slot in
    let works : slice_index_or (slice_set m.work worker (Some slot)) worker None ≡ Some slot =
    at_set m.work worker worker (Some slot) None s.free.0 ∙ ap (λ c. cond c (Some slot) (slice_index_or m.work worker None)) (eq-eqb worker worker refl)
    in
    record {
      works = ap (λ (v : TableView). slice_index_or v.work worker None) s.is ∙ works;
      task = begun s.task;
      there = ap (λ (v : TableView). slot_of v.slots slot) s.is ∙ (set_writes m.slots slot (begun s.task) (slot_within m.slots slot s.task s.first.there)).here;
      named = sym s.number;
      runs = refl;
    }

-- it takes its step, once the kept tasks that it meets are gone
pub steps_started : (old m new : TableView) (worker : ℕ) (b : Option Begun) → IsFree old worker → Sheds old m → Starts m new worker b → EventSteps old new (h.Start worker) (start_reply worker b)
steps_started old m new worker b free sheds s calls past st = by b s calls past (sheds.before worker free calls past (stands_before old calls past (h.Start worker) st))
  where
    by : (b : Option Begun) → Starts m new worker b → EventStepsBefore m new (h.Start worker) (start_reply worker b)
    by None s = s.steps
    by (Some b) s = s.steps

-- a task whose run ended keeps its number
same_number : (outcome : Outcome) (due : ℕ) (x : Seat) → (ended outcome due x).number ≡ x.number
same_number (o.Done value) due x = refl
same_number (o.Failed code) due x = refl
same_number o.Dropped due x = refl
same_number o.Ended due x = refl
same_number (o.Again next) due x = refl

-- the numbers in the slots stay
pub finish_numbers : (m new : TableView) (worker : ℕ) (ending : Ending) (e : Ended) → Ends m new worker ending e → held_numbers new.slots ≡ held_numbers m.slots
finish_numbers m new worker ending e s =
    let due = due_past s.task.timing s.task.due m.moment in
    ap (λ (v : TableView). held_numbers v.slots) s.is ∙ held_put m.slots e.task.slot s.task (ended e.outcome due s.task) s.there (same_number e.outcome due s.task)

pub noted_finished : (m new : TableView) (worker : ℕ) (ending : Ending) (e : Ended) (count : ℕ) (free : List ℕ) (entries : List TaskRef) (slot_room ended_room : ℕ) → Ends m new worker ending e →
    AreNoted m.slots count free entries slot_room ended_room → AreNoted new.slots count free entries slot_room ended_room
noted_finished m new worker ending e count free entries slot_room ended_room s noted =
    noted_still m.slots new.slots count free entries slot_room ended_room (finish_numbers m new worker ending e s) noted

-- the workers stay
workers_released : (outcome : Outcome) (m : TableView) (slot : ℕ) → workers_of (released outcome m slot) ≡ workers_of m
workers_released (o.Done value) m slot = refl
workers_released (o.Failed code) m slot = refl
workers_released o.Dropped m slot = refl
workers_released o.Ended m slot = refl
workers_released (o.Again next) m slot = refl

workers_ended : (old m : TableView) (worker : ℕ) (ending : Ending) (e : Ended) → Ends old m worker ending e → workers_of m ≡ workers_of old
workers_ended old m worker ending e s = ap workers_of s.is ∙ length-set old.work worker None

-- it takes its step, also once the slot is emptied
pub steps_finished : (old m new : TableView) (worker : ℕ) (ending : Ending) (e : Ended) → Ends old m worker ending e → new ≡ released e.outcome m e.task.slot →
    ((calls : List Planned) (past : List HistoryEntry) → Stands m calls past → Stands new calls past) → EventSteps old new (h.Finish worker ending) (finish_reply worker e)
steps_finished old m new worker ending e s is carries calls past st =
    let takes = s.steps calls past st in
    let there : Stands m calls (entry_of (h.Finish worker ending) (finish_reply worker e) ∷ past) = record {
      orderly = st.orderly;
      means = (
        subst (λ n. IsHistoryOf calls n past) (sym (workers_ended old m worker ending e s)) st.means,
        tt,
        sym (ap (λ (q : Reply). q.answer) takes.said),
        sym (ap (λ (q : Reply). q.ends) takes.said),
      );
      shows = takes.shows;
    } in
    record {
      said = subst (λ n. answer calls n past (h.Finish worker ending) ≡ finish_reply worker e) (sym (ap workers_of is ∙ workers_released e.outcome m e.task.slot)) takes.said;
      shows = (carries calls (entry_of (h.Finish worker ending) (finish_reply worker e) ∷ past) there).shows;
    }

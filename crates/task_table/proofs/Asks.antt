-- What an ask counts of a table, and its step.
use Rattle.std.proofs.Common.{◌≡◌, ℕ, zero, suc, ◌<◌, ◌≤◌, ◌||◌, Bool, true, false, List, [], ◌∷◌, length, Option, Some, None, is_some, refl, sym, ap, ◌∙◌, arith, subst}
use Rattle.std.specs.Prelude.{slice_index_or}
use Rattle.std.specs.Option.{option_map_or}
use Rattle.std.proofs.lemmas.Bool.{false≢true, or_left}
use Rattle.std.proofs.lemmas.Option.{none-some}
use Rattle.queue_code.specs.declared.call.CodeCall.TheVariants as c
use Rattle.queue_code.specs.Calls.{Planned, terms_of, task_count, how_many}
use Rattle.executor_model.specs.declared.types.Answer.TheVariants as a
use Rattle.executor_model.specs.declared.task.Stage.{Stage}
use Rattle.executor_model.specs.declared.task.Stage.TheVariants as ph
use Rattle.executor_model.specs.declared.task.Task.{Task}
use Rattle.executor_model.specs.View.{is_running}
use Rattle.executor_model.specs.Answers.{bare, is_queued, queue_size, running_count, is_terminated}
use Rattle.executor_model.specs.State.{State, vacant, view_of_state, seen_task}
use Rattle.executor_model.specs.own.Phases.{is_running_phase}
use Rattle.executor_model.proofs.Seen.{seen_runs, seen_waits}
use Rattle.executor_model.proofs.Keeping.{kept_stays}
use Rattle.task_table.specs.declared.seat.Seat.{Seat}
use Rattle.task_table.specs.Seats.{task_in, slot_of, waits, is_running_in}
use Rattle.task_table.specs.Tables.{TableView, WorkIs, Shows, CallSteps}
use Rattle.task_table.specs.Firsts.{stands_in_queue, queue_in}
use Rattle.task_table.specs.Changes.{at_moment}
use Rattle.task_table.specs.Formed.{IsFormed}
use Rattle.task_table.proofs.Written.{slot_within}
use Rattle.task_table.proofs.Standing.{Known}
use Rattle.task_table.proofs.Knowing.{known_number}
use Rattle.task_table.proofs.Sweeps.{waits_alike}
use Rattle.task_table.proofs.Counting.{matched_list}
use Rattle.task_table.proofs.Policies.{still_steps}

-- ---- the queue

-- a task stands in the queue
abbrev stands : Task → Bool
stands t = waits t || t.kept

-- it is seen to
stands_so : (calls : List Planned) (s : State) (k : ℕ) → Known calls s → is_queued (seen_task (terms_of calls k) (s.tasks k)) ≡ stands (s.tasks k)
stands_so calls s k knows = ap (λ b. b || (s.tasks k).kept) (seen_waits (terms_of calls k) (s.tasks k) (knows.sound.over k) ∙ sym (waits_alike (s.tasks k)))

-- a number whose task passes a test that a vacant one does not is one of a submission
below_count : (calls : List Planned) (s : State) (test : Task → Bool) (k : ℕ) → Known calls s → test vacant ≡ false → test (s.tasks k) ≡ true → k < task_count calls
below_count calls s test k knows fails q = known_number calls s knows k (λ is. false≢true (sym (ap test is ∙ fails) ∙ q))

-- a slot whose task stands in the queue holds one
standing_seat : (o : Option Seat) → stands_in_queue o ≡ true → (x : Seat) × (o ≡ Some x) × (stands (task_in x) ≡ true)
standing_seat None q = absurd (false≢true q)
standing_seat (Some x) q = (x, refl, q)

-- the number of the task in a slot, and 0 where there is none
abbrev number_in : Option Seat → ℕ
number_in o = option_map_or (λ x. x.number) o 0

-- as many slots hold tasks that stand in the queue as there are such tasks
queue_counts : (m : TableView) (calls : List Planned) (s : State) → IsFormed m → Known calls s → Shows m s → queue_size calls (view_of_state calls s) ≡ queue_in m.slots
queue_counts m calls s formed knows shows =
    matched_list (λ k. is_queued (seen_task (terms_of calls k) (s.tasks k))) (task_count calls) stands_in_queue m.slots None (λ i. number_in (slot_of m.slots i)) each apart all
  where
    each : (i : ℕ) → i < length m.slots → stands_in_queue (slot_of m.slots i) ≡ true →
        (number_in (slot_of m.slots i) < task_count calls) × (is_queued (seen_task (terms_of calls (number_in (slot_of m.slots i))) (s.tasks (number_in (slot_of m.slots i)))) ≡ true)
    each i low q =
        let e = standing_seat (slot_of m.slots i) q in
        let in_queue : stands (s.tasks e.0.number) ≡ true = ap stands (shows.held i e.0 e.1) ∙ e.2 in
        subst (λ (o : Option Seat). (number_in o < task_count calls) × (is_queued (seen_task (terms_of calls (number_in o)) (s.tasks (number_in o))) ≡ true)) (sym e.1)
        (below_count calls s stands e.0.number knows refl in_queue, stands_so calls s e.0.number knows ∙ in_queue)

    apart : (i j : ℕ) → i < length m.slots → j < length m.slots → stands_in_queue (slot_of m.slots i) ≡ true → stands_in_queue (slot_of m.slots j) ≡ true → number_in (slot_of m.slots i) ≡ number_in (slot_of m.slots j) → i ≡ j
    apart i j p q r t same =
        let e = standing_seat (slot_of m.slots i) r in
        let d = standing_seat (slot_of m.slots j) t in
        formed.apart i j e.0 d.0 e.1 d.1 (sym (ap number_in e.1) ∙ (same ∙ ap number_in d.1))

    all : (k : ℕ) → k < task_count calls → is_queued (seen_task (terms_of calls k) (s.tasks k)) ≡ true → (i : ℕ) × (i < length m.slots) × (stands_in_queue (slot_of m.slots i) ≡ true) × (number_in (slot_of m.slots i) ≡ k)
    all k low q =
        let in_queue : stands (s.tasks k) ≡ true = sym (stands_so calls s k knows) ∙ q in
        let e = shows.known k (or_left (stands (s.tasks k)) (is_running_in (s.tasks k).phase) in_queue) in
        let here : stands (task_in e.1) ≡ true = sym (ap stands (shows.held e.0 e.1 e.2)) ∙ (ap (λ j. stands (s.tasks j)) e.3 ∙ in_queue) in
        (e.0, slot_within m.slots e.0 e.1 e.2, ap stands_in_queue e.2 ∙ here, ap number_in e.2 ∙ e.3)

-- ---- the runs

-- a run of a task is under way
abbrev runs : Task → Bool
runs t = is_running_phase t.phase

-- a task is in that phase then
runs_phase : (p : Stage) → is_running_phase p ≡ true → p ≡ ph.Running
runs_phase ph.Running q = refl
runs_phase p q = absurd (false≢true q)

-- an item that there is is within its list
item_within : {X : Type 0} (xs : List (Option X)) (i : ℕ) → is_some (slice_index_or xs i None) ≡ true → i < length xs
item_within [] i q = absurd (false≢true q)
item_within (x ∷ xs) zero q = omega arith
item_within (x ∷ xs) (suc i) q = omega (arith, item_within xs i q)

-- a worker with a task has its number
at_work : (slots : List (Option Seat)) (o work : Option ℕ) → WorkIs slots o work → is_some o ≡ true → (k : ℕ) × (work ≡ Some k)
at_work slots None work is q = absurd (false≢true q)
at_work slots (Some i) work is q = (is.0.number, is.2)

-- a worker that has a number has a task
has_work : (slots : List (Option Seat)) (o work : Option ℕ) (k : ℕ) → WorkIs slots o work → work ≡ Some k → is_some o ≡ true
has_work slots None work k is q = absurd (none-some k (sym is ∙ q))
has_work slots (Some i) work k is q = refl

-- the number of a worker's task, and 0 where it has none
abbrev number_of : Option ℕ → ℕ
number_of work = option_map_or (λ k. k) work 0

-- as many workers have tasks as there are tasks whose run is under way
run_counts : (m : TableView) (calls : List Planned) (s : State) → Known calls s → Shows m s → running_count calls (view_of_state calls s) ≡ how_many is_some m.work
run_counts m calls s knows shows =
    matched_list (λ k. is_running (seen_task (terms_of calls k) (s.tasks k))) (task_count calls) is_some m.work None (λ w. number_of (s.workers w)) each apart all
  where
    each : (w : ℕ) → w < length m.work → is_some (slice_index_or m.work w None) ≡ true → (number_of (s.workers w) < task_count calls) × (is_running (seen_task (terms_of calls (number_of (s.workers w))) (s.tasks (number_of (s.workers w)))) ≡ true)
    each w low q =
        let e = at_work m.slots (slice_index_or m.work w None) (s.workers w) (shows.work w) q in
        let running : runs (s.tasks e.0) ≡ true = ap is_running_phase (knows.sound.at_work w e.0 e.1) in
        subst (λ (o : Option ℕ). (number_of o < task_count calls) × (is_running (seen_task (terms_of calls (number_of o)) (s.tasks (number_of o))) ≡ true)) (sym e.1)
        (below_count calls s runs e.0 knows refl running, seen_runs (terms_of calls e.0) (s.tasks e.0) ∙ running)

    apart : (v w : ℕ) → v < length m.work → w < length m.work → is_some (slice_index_or m.work v None) ≡ true → is_some (slice_index_or m.work w None) ≡ true → number_of (s.workers v) ≡ number_of (s.workers w) → v ≡ w
    apart v w p q r t same =
        let e = at_work m.slots (slice_index_or m.work v None) (s.workers v) (shows.work v) r in
        let d = at_work m.slots (slice_index_or m.work w None) (s.workers w) (shows.work w) t in
        knows.sound.apart v w e.0 e.1 (d.1 ∙ ap Some (sym (sym (ap number_of e.1) ∙ (same ∙ ap number_of d.1))))

    all : (k : ℕ) → k < task_count calls → is_running (seen_task (terms_of calls k) (s.tasks k)) ≡ true → (w : ℕ) × (w < length m.work) × (is_some (slice_index_or m.work w None) ≡ true) × (number_of (s.workers w) ≡ k)
    all k low q =
        let e = knows.sound.staffed k (runs_phase (s.tasks k).phase (sym (seen_runs (terms_of calls k) (s.tasks k)) ∙ q)) in
        let there = has_work m.slots (slice_index_or m.work e.0 None) (s.workers e.0) k (shows.work e.0) e.1 in
        (e.0, item_within m.work e.0 there, there, ap number_of e.1)

-- ---- the step

-- an ask is answered by the counts that the table has
pub ask_steps : (m : TableView) (at queue running : ℕ) → IsFormed m → m.moment ≤ at → queue ≡ queue_in m.slots → running ≡ how_many is_some m.work →
    CallSteps m (at_moment m at) (at, c.Ask) (bare (a.Ask queue running m.shut (is_terminated m.shut queue running)))
ask_steps m at queue running formed ahead standing working =
    let told = a.Ask queue running m.shut (is_terminated m.shut queue running) in
    still_steps m at c.Ask told m.policies ahead
    (record {
      moves = λ timing now k task. refl;
      cancels = λ k. refl;
      keeps = λ v k same. kept_stays v k told refl refl refl;
      works = λ w work. refl;
      sets = refl;
      shuts = refl;
      stops = refl;
    })
    (λ calls s knows shows.
    let queue_so : queue_size calls (view_of_state calls s) ≡ queue = queue_counts m calls s formed knows shows ∙ sym standing in
    let run_so : running_count calls (view_of_state calls s) ≡ running = run_counts m calls s knows shows ∙ sym working in
    λ i. bare (a.Ask (queue_so i) (run_so i) (shows.shut i) (is_terminated (shows.shut i) (queue_so i) (run_so i))))

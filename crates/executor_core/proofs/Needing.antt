-- What steps move of the words, and whether a task is due.
use Rattle.std.proofs.Common.{◌≡◌, ◌≢◌, ℕ, ◌<◌, ◌≤◌, ◌&&◌, ◌||◌, nat_le, nat_lt, max, Bool, true, false, cond, List, [], length, Option, Some, None, inl, inr, ◌⊎◌, refl, sym, ap, ◌∙◌, arith, subst}
use Rattle.std.specs.Prelude.{slice_get, slice_index_or}
use Rattle.std.specs.Option.{option_map_or}
use Rattle.std.proofs.lemmas.Bool.{false≢true, ltb-true}
use Rattle.std.proofs.lemmas.Bool.Decides.{nat_tests}
use Rattle.std.proofs.lemmas.List.{get_or_past}
use Rattle.sched_time.specs.declared.timing.Ending.{Ending}
use Rattle.sched_time.specs.declared.policies.Policies.{Policies}
use Rattle.sched_time.specs.declared.policies.Which.{Which}
use Rattle.sched_time.specs.Policies.{set_policy}
use Rattle.queue_code.specs.declared.call.CodeCall.{CodeCall}
use Rattle.queue_code.specs.declared.call.CodeCall.TheVariants as c
use Rattle.queue_code.specs.Calls.{Planned, IsOrderly, Terms, terms_of, task_count}
use Rattle.executor_model.specs.declared.task.Task.{Task}
use Rattle.executor_model.specs.declared.task.Stage.TheVariants as ph
use Rattle.executor_model.specs.declared.types.Answer.TheVariants as a
use Rattle.executor_model.specs.declared.types.Happening.{Happening}
use Rattle.executor_model.specs.declared.types.Happening.TheVariants as h
use Rattle.executor_model.specs.declared.types.CancelEffect.{CancelEffect}
use Rattle.executor_model.specs.declared.types.CancelEffect.TheVariants as ef
use Rattle.executor_model.specs.declared.types.Need.{Need}
use Rattle.executor_model.specs.declared.types.Need.TheVariants as n
use Rattle.executor_model.specs.Answers.{Reply, bare, called, effect_on, setting_sweeps, is_queued, is_swept, is_ended_by, swept}
use Rattle.executor_model.specs.Histories.{is_end, AreMade}
use Rattle.executor_model.specs.State.{State, vacant, reply_of, seen_task, due_seen, view_of_state}
use Rattle.executor_model.specs.own.Phases.{waits_with}
use Rattle.executor_model.specs.Needs.{need_of, need_of_answer, need_of_cancel, need_of_finish, IsRipe}
use Rattle.executor_model.proofs.Called.{view_at}
use Rattle.executor_model.proofs.Effects.{of_vacant, outside_reply, no_task_reply}
use Rattle.executor_model.proofs.Flowing.{all_reached}
use Rattle.executor_model.proofs.Seen.{seen_waits}
use Rattle.executor_model.proofs.Swept.{swept_under, ends_are}
use Rattle.task_table.specs.declared.seat.Seat.{Seat}
use Rattle.task_table.specs.declared.answers.RunEnd.{RunEnd as TableEnd}
use Rattle.task_table.specs.Seats.{task_in, slot_of, waits}
use Rattle.task_table.specs.Tables.{TableView}
use Rattle.task_table.specs.Firsts.{IsFirstDue, NoneDue}
use Rattle.task_table.specs.Firsts.{IsRipe as IsRipeTable}
use Rattle.task_table.specs.Ends.{effect_of, is_swept as is_swept_seat}
use Rattle.task_table.specs.Runs.{IsFree}
use Rattle.task_table.specs.Runs.{IsEndOf}
use Rattle.task_table.proofs.Standing.{Known}
use Rattle.task_table.proofs.Cancels.{effect_is}
use Rattle.task_table.proofs.Firsts.{waits_is}
use Rattle.task_table.proofs.Sweeps.{waits_alike}
use Rattle.executor_core.specs.plan_table.Numbered.{task_at, tasks_at}
use Rattle.executor_core.specs.CoreView.{CoreView, workers_of, state_of}
use Rattle.executor_core.specs.own.Invariants.{core_of, IsCore}
use Rattle.executor_core.proofs.Opens.{tells_none}
use Rattle.executor_core.proofs.Reaching.{read_task, count_tasks, core_known}
use Rattle.executor_core.proofs.Starting.{core_start_said}
use Rattle.executor_core.proofs.Ending.{runs_is, finish_said}

either : (a b : Bool) → (a || b) ≡ true → (a ≡ true) ⊎ (b ≡ true)
either true b q = inl refl
either false b q = inr q

-- what a core needs, as one sees it
needs_of : (m old : CoreView) (happening : Happening) (need : Need) → m ≡ old → need_of m.calls (workers_of m) (state_of m) happening ≡ need → need ≡ need_of old.calls (workers_of old) (state_of old) happening
needs_of m old happening need same is = sym is ∙ ap (λ (x : CoreView). need_of x.calls (workers_of x) (state_of x) happening) same

-- ---- whether a call is left

-- where the next call is later than some moment, each one up to it was made
pub all_made : (calls : List Planned) (made t : ℕ) (p : Planned) → IsOrderly calls → slice_get calls made ≡ Some p → t < p.0 → AreMade calls made t
all_made calls made t p orderly is later i q there l =
    let none = tells_none calls made t p orderly is (le-ltb' p.0 t later) in
    omega (arith, none, all_reached 0 0 t calls made i q orderly there l)
  where
    le-ltb' : (a b : ℕ) → b < a → nat_le a b ≡ false
    le-ltb' a b l = grind (arith, nat_tests)

-- ---- what a cancel from outside moves

-- what a cancel does to the task of which a slot holds this
abbrev pub effect_at : Option Seat → CancelEffect
effect_at o = option_map_or effect_of o ef.Absent

-- it does the same to what is seen of the task
effects_alike : (terms : Terms) (o : Option Seat) → ((x : Seat) → o ≡ Some x → (x.phase ≢ ph.Vacant) × (x.phase ≡ ph.Dropped → x.cancelled ≡ true)) → effect_at o ≡ effect_on (seen_task terms (task_at o))
effects_alike terms None is = of_vacant terms vacant refl
effects_alike terms (Some x) is = let e = is x refl in sym (effect_is terms x e.0 e.1)

-- in the core
effect_there : (calls : List Planned) (limit taken count : ℕ) (t : TableView) (sought : Bool) (k : ℕ) → IsCore (core_of calls limit taken count t) t sought →
    effect_at (slot_of t.slots k) ≡ effect_on (seen_task (terms_of calls k) (slice_index_or (tasks_at t.slots) k vacant))
effect_there calls limit taken count t sought k core =
    let knows = core_known calls limit taken count t core.past core.reached core.placed in
    effects_alike (terms_of calls k) (slot_of t.slots k)
    (λ x q.
    let task : slice_index_or (tasks_at t.slots) k vacant ≡ task_in x = read_task t.slots k ∙ ap task_at q in
    ((core.placed k x q).submitted, λ dropped. ap (λ (y : Task). y.cancelled) (sym task) ∙ knows.sound.over k (ap (λ (y : Task). y.phase) task ∙ dropped)))
    ∙ ap (λ y. effect_on (seen_task (terms_of calls k) y)) (sym (read_task t.slots k))

-- of a task of the plan
pub cancel_moves : (m : CoreView) (k : ℕ) → k < task_count m.calls → need_of_cancel k (effect_on (seen_task (terms_of m.calls k) (slice_index_or m.tasks k vacant))) ≡ need_of m.calls (workers_of m) (state_of m) (h.Cancel k)
cancel_moves m k low = ap (λ (r : Reply). need_of_answer m.shut r.answer) (sym (outside_reply m.calls (workers_of m) k (state_of m) low))

-- of a number that the plan has no task of
pub cancel_moves_none : (m : CoreView) (k : ℕ) → task_count m.calls ≤ k → n.Nothing ≡ need_of m.calls (workers_of m) (state_of m) (h.Cancel k)
cancel_moves_none m k high = ap (λ (r : Reply). need_of_answer m.shut r.answer) (sym (no_task_reply m.calls (workers_of m) k (state_of m) high))

-- what is moved by a cancel that has this effect
pub cancel_needs : (calls : List Planned) (limit taken count : ℕ) (t : TableView) (sought : Bool) (k : ℕ) (effect : CancelEffect) (old : CoreView) → IsCore (core_of calls limit taken count t) t sought → core_of calls limit taken count t ≡ old → effect ≡ effect_at (slot_of t.slots k) →
    need_of_cancel k effect ≡ need_of old.calls (workers_of old) (state_of old) (h.Cancel k)
cancel_needs calls limit taken count t sought k effect old core same is = by (nat_lt k (task_count calls)) refl ∙ ap (λ (x : CoreView). need_of x.calls (workers_of x) (state_of x) (h.Cancel k)) same
  where
    m : CoreView
    m = core_of calls limit taken count t

    by : (b : Bool) → nat_lt k (task_count calls) ≡ b → need_of_cancel k effect ≡ need_of calls (length t.work) (state_of m) (h.Cancel k)
    by true low = ap (need_of_cancel k) (is ∙ effect_there calls limit taken count t sought k core) ∙ cancel_moves m k (ltb-true k (task_count calls) low)
    by false high =
        let above : task_count calls ≤ k = grind (arith, nat_tests, high) in
        let past : slot_of t.slots k ≡ None = get_or_past t.slots k None (omega (arith, above, core.count, count_tasks t.slots)) in
        ap (need_of_cancel k) (is ∙ ap effect_at past) ∙ cancel_moves_none m k above

-- ---- what a start and a finish move

-- a start that gets a task
pub started_needs : (calls : List Planned) (limit taken count : ℕ) (t : TableView) (sought : Bool) (w slot : ℕ) (x : Seat) (old : CoreView) → IsCore (core_of calls limit taken count t) t sought → core_of calls limit taken count t ≡ old → IsFree t w → IsFirstDue t slot x →
    n.Start slot ≡ need_of old.calls (workers_of old) (state_of old) (h.Start w)
started_needs calls limit taken count t sought w slot x old core same free first =
    let m = core_of calls limit taken count t in
    let said = core_start_said calls limit taken count t sought w (Some x) core free (slot, first) in
    let named : x.number ≡ slot = (core.placed slot x first.there).named in
    needs_of m old (h.Start w) (n.Start slot) same (ap (λ (r : Reply). need_of_answer t.shut r.answer) said ∙ ap n.Start named)

-- a start that gets none
pub idle_needs : (calls : List Planned) (limit taken count : ℕ) (t : TableView) (sought : Bool) (w : ℕ) (old : CoreView) → IsCore (core_of calls limit taken count t) t sought → core_of calls limit taken count t ≡ old → IsFree t w → NoneDue t →
    n.Nothing ≡ need_of old.calls (workers_of old) (state_of old) (h.Start w)
idle_needs calls limit taken count t sought w old core same free none =
    let m = core_of calls limit taken count t in
    needs_of m old (h.Start w) n.Nothing same (ap (λ (r : Reply). need_of_answer t.shut r.answer) (core_start_said calls limit taken count t sought w None core free none))

-- a finish of a worker that works
pub finished_needs : (calls : List Planned) (limit taken count : ℕ) (t : TableView) (sought : Bool) (w : ℕ) (ending : Ending) (e : TableEnd) (old : CoreView) → IsCore (core_of calls limit taken count t) t sought → core_of calls limit taken count t ≡ old → IsEndOf t w ending e →
    need_of_finish e.task.slot e.outcome ≡ need_of old.calls (workers_of old) (state_of old) (h.Finish w ending)
finished_needs calls limit taken count t sought w ending e old core same is =
    let m = core_of calls limit taken count t in
    let said = finish_said calls limit taken count t sought w e.task.slot ending is.task core is.works is.there (runs_is is.task.phase is.runs) in
    needs_of m old (h.Finish w ending) (need_of_finish e.task.slot e.outcome) same (ap (λ (r : Reply). need_of_answer t.shut r.answer) said ∙ ap (need_of_finish e.task.slot) (sym is.outcome))

-- ---- whether a task is ripe

-- a task that stands in the queue is seen to
stands_alike : (calls : List Planned) (s : State) (k : ℕ) → Known calls s → is_queued (seen_task (terms_of calls k) (s.tasks k)) ≡ (waits (s.tasks k) || (s.tasks k).kept)
stands_alike calls s k knows = ap (λ b. b || (s.tasks k).kept) (seen_waits (terms_of calls k) (s.tasks k) (knows.sound.over k) ∙ sym (waits_alike (s.tasks k)))

-- it is in the phase of one that waits
stands_phase : (calls : List Planned) (s : State) (k : ℕ) → Known calls s → (waits (s.tasks k) || (s.tasks k).kept) ≡ true → (s.tasks k).phase ≡ ph.Waiting
stands_phase calls s k knows stands = elim (either (waits (s.tasks k)) (s.tasks k).kept stands) [
  | inl waiting ↦ (waits_is (s.tasks k) waiting).0
  | inr kept ↦ (knows.sound.kept k kept).0
]

-- a ripe task of the table is one of the state
pub ripe_there : (calls : List Planned) (limit taken count : ℕ) (t : TableView) (sought : Bool) (old : CoreView) → IsCore (core_of calls limit taken count t) t sought → core_of calls limit taken count t ≡ old → IsRipeTable t → IsRipe old.calls (view_of_state old.calls (state_of old))
ripe_there calls limit taken count t sought old core same ripe =
    let (i, x, there, stands, due) = ripe in
    let m = core_of calls limit taken count t in
    let knows = core_known calls limit taken count t core.past core.reached core.placed in
    let task : slice_index_or (tasks_at t.slots) i vacant ≡ task_in x = read_task t.slots i ∙ ap task_at there in
    let here : (waits (slice_index_or (tasks_at t.slots) i vacant) || (slice_index_or (tasks_at t.slots) i vacant).kept) ≡ true = ap (λ (y : Task). waits y || y.kept) task ∙ stands in
    let phase = stands_phase calls (state_of m) i knows here in
    subst (λ (y : CoreView). IsRipe y.calls (view_of_state y.calls (state_of y))) same
    (i, stands_alike calls (state_of m) i knows ∙ here, omega (arith, due, ap (λ (y : Task). y.due) task, ap (λ p. due_seen (terms_of calls i) p (slice_index_or (tasks_at t.slots) i vacant).due) phase))

seat_at : (o : Option Seat) → (waits (task_at o) || (task_at o).kept) ≡ true → (x : Seat) × (o ≡ Some x)
seat_at None q = absurd (false≢true q)
seat_at (Some x) q = (x, refl)

-- and the other way
pub ripe_here : (calls : List Planned) (limit taken count : ℕ) (t : TableView) (sought : Bool) (old : CoreView) → IsCore (core_of calls limit taken count t) t sought → core_of calls limit taken count t ≡ old → IsRipe old.calls (view_of_state old.calls (state_of old)) → IsRipeTable t
ripe_here calls limit taken count t sought old core same ripe =
    let m = core_of calls limit taken count t in
    let (k, stands, due) = subst (λ (y : CoreView). IsRipe y.calls (view_of_state y.calls (state_of y))) (sym same) ripe in
    let knows = core_known calls limit taken count t core.past core.reached core.placed in
    let here : (waits (slice_index_or (tasks_at t.slots) k vacant) || (slice_index_or (tasks_at t.slots) k vacant).kept) ≡ true = sym (stands_alike calls (state_of m) k knows) ∙ stands in
    let seat = seat_at (slot_of t.slots k) (ap (λ (y : Task). waits y || y.kept) (sym (read_task t.slots k)) ∙ here) in
    let task : slice_index_or (tasks_at t.slots) k vacant ≡ task_in seat.0 = read_task t.slots k ∙ ap task_at seat.1 in
    let phase = stands_phase calls (state_of m) k knows here in
    (k, seat.0, seat.1, ap (λ (y : Task). waits y || y.kept) (sym task) ∙ here, omega (arith, due, ap (λ (y : Task). y.due) task, ap (λ p. due_seen (terms_of calls k) p (slice_index_or (tasks_at t.slots) k vacant).due) phase))

-- ---- which tasks a call ends

-- what a sweep makes of the task of which a slot holds this
abbrev pub ended_at : Bool → Policies → ℕ → Option Seat → Bool
ended_at stopped policies now o = option_map_or (is_swept_seat stopped policies now) o false

ended_alike : (stopped : Bool) (policies : Policies) (now : ℕ) (o : Option Seat) → ended_at stopped policies now o ≡ (waits_with (task_at o) && is_ended_by stopped policies now (task_at o).timing (task_at o).due)
ended_alike stopped policies now None = refl
ended_alike stopped policies now (Some x) = ap (λ b. b && is_ended_by stopped policies now x.timing x.due) (waits_alike (task_in x))

-- a sweep ends a task where it waits and the policies do not let it run
pub tests_so : (calls : List Planned) (limit taken count : ℕ) (t : TableView) (sought : Bool) (k now : ℕ) (stopped : Bool) (policies : Policies) → IsCore (core_of calls limit taken count t) t sought →
    ended_at stopped policies now (slot_of t.slots k) ≡ is_swept calls (record (view_of_state calls (state_of (core_of calls limit taken count t))) { moment = now; stopped = stopped }) policies k
tests_so calls limit taken count t sought k now stopped policies core =
    let knows = core_known calls limit taken count t core.past core.reached core.placed in
    ended_alike stopped policies now (slot_of t.slots k)
    ∙ (ap (λ (y : Task). waits_with y && is_ended_by stopped policies now y.timing y.due) (sym (read_task t.slots k))
    ∙ sym (swept_under (terms_of calls k) (slice_index_or (tasks_at t.slots) k vacant) stopped policies now (knows.sound.over k) (knows.timing k)))

-- and then it is one of those that the sweep ends
pub ends_so : (calls : List Planned) (limit taken count : ℕ) (t : TableView) (sought : Bool) (k now : ℕ) (stopped : Bool) (policies : Policies) → IsCore (core_of calls limit taken count t) t sought →
    ended_at stopped policies now (slot_of t.slots k) ≡ is_end k (swept calls (record (view_of_state calls (state_of (core_of calls limit taken count t))) { moment = now; stopped = stopped }) policies)
ends_so calls limit taken count t sought k now stopped policies core =
    let m = core_of calls limit taken count t in
    let test : ℕ → Bool = is_swept calls (record (view_of_state calls (state_of m)) { moment = now; stopped = stopped }) policies in
    let past : task_count calls ≤ k → test k ≡ false =
    λ high. sym (tests_so calls limit taken count t sought k now stopped policies core) ∙ ap (ended_at stopped policies now) (get_or_past t.slots k None (omega (arith, high, core.count, count_tasks t.slots)))
    in
    tests_so calls limit taken count t sought k now stopped policies core ∙ sym (ends_are test (task_count calls) k past)

-- ---- which tasks the next call ends

-- what the next call ends
next_ends : (m old : CoreView) (at k : ℕ) (call : CodeCall) (b : Bool) → m ≡ old → slice_get old.calls old.made ≡ Some (at, call) → b ≡ is_end k (called m.calls (view_at m.calls (state_of m) at) call).ends →
    b ≡ is_end k (reply_of old.calls (workers_of old) (state_of old) h.Call).ends
next_ends m old at k call b same is there =
    there ∙ (ap (λ (x : CoreView). is_end k (called x.calls (view_at x.calls (state_of x) at) call).ends) same
    ∙ ap (λ q. is_end k (option_map_or (λ (p : Planned). called old.calls (view_at old.calls (state_of old) p.0) p.1) q (bare a.Clock)).ends) (sym is))

-- what is told of a sweep by these policies at this moment
sweep_told : (calls : List Planned) (limit taken count : ℕ) (t : TableView) (sought : Bool) (k now moment : ℕ) (stopped stops b : Bool) (policies set : Policies) → IsCore (core_of calls limit taken count t) t sought →
    b ≡ ended_at stopped policies now (slot_of t.slots k) → now ≡ moment → stopped ≡ stops → policies ≡ set →
    b ≡ is_end k (swept calls (record (view_of_state calls (state_of (core_of calls limit taken count t))) { moment = moment; stopped = stops }) set)
sweep_told calls limit taken count t sought k now moment stopped stops b policies set core told at stop with =
    told ∙ ((λ i. ended_at (stop i) (with i) (at i) (slot_of t.slots k)) ∙ ends_so calls limit taken count t sought k moment stops set core)

-- a setting of a policy that sweeps
pub setting_ends : (calls : List Planned) (limit taken count : ℕ) (t : TableView) (sought : Bool) (k at now : ℕ) (which : Which) (value stopped b : Bool) (policies : Policies) (old : CoreView) → IsCore (core_of calls limit taken count t) t sought → core_of calls limit taken count t ≡ old →
    slice_get old.calls old.made ≡ Some (at, c.SetPolicy which value) → setting_sweeps t.shut which value ≡ true → now ≡ max t.moment at → stopped ≡ t.stopped → policies ≡ set_policy which value t.policies →
    b ≡ ended_at stopped policies now (slot_of t.slots k) → b ≡ is_end k (reply_of old.calls (workers_of old) (state_of old) h.Call).ends
setting_ends calls limit taken count t sought k at now which value stopped b policies old core same is sweeps moment stop with told =
    let m = core_of calls limit taken count t in
    next_ends m old at k (c.SetPolicy which value) b same is
    (sweep_told calls limit taken count t sought k now (max t.moment at) stopped t.stopped b policies (set_policy which value t.policies) core told moment stop with
    ∙ ap (λ d. is_end k (cond d (swept calls (view_at calls (state_of m) at) (set_policy which value t.policies)) [])) (sym sweeps))

-- a first shutdown
pub shutdown_ends : (calls : List Planned) (limit taken count : ℕ) (t : TableView) (sought : Bool) (k at now : ℕ) (stopped b : Bool) (policies : Policies) (old : CoreView) → IsCore (core_of calls limit taken count t) t sought → core_of calls limit taken count t ≡ old →
    slice_get old.calls old.made ≡ Some (at, c.Shutdown) → t.shut ≡ false → now ≡ max t.moment at → stopped ≡ t.stopped → policies ≡ t.policies →
    b ≡ ended_at stopped policies now (slot_of t.slots k) → b ≡ is_end k (reply_of old.calls (workers_of old) (state_of old) h.Call).ends
shutdown_ends calls limit taken count t sought k at now stopped b policies old core same is first moment stop with told =
    let m = core_of calls limit taken count t in
    next_ends m old at k c.Shutdown b same is
    (sweep_told calls limit taken count t sought k now (max t.moment at) stopped t.stopped b policies t.policies core told moment stop with
    ∙ ap (λ d. is_end k (cond d (bare a.ShutdownAgain) (record { answer = a.Shutdown; ends = swept calls (view_at calls (state_of m) at) t.policies })).ends) (sym first))

-- a shutdown at once
pub stop_ends : (calls : List Planned) (limit taken count : ℕ) (t : TableView) (sought : Bool) (k at now : ℕ) (b : Bool) (policies : Policies) (old : CoreView) → IsCore (core_of calls limit taken count t) t sought → core_of calls limit taken count t ≡ old →
    slice_get old.calls old.made ≡ Some (at, c.ShutdownNow) → now ≡ max t.moment at → policies ≡ t.policies →
    b ≡ ended_at true policies now (slot_of t.slots k) → b ≡ is_end k (reply_of old.calls (workers_of old) (state_of old) h.Call).ends
stop_ends calls limit taken count t sought k at now b policies old core same is moment with told =
    next_ends (core_of calls limit taken count t) old at k c.ShutdownNow b same is
    (sweep_told calls limit taken count t sought k now (max t.moment at) true true b policies t.policies core told moment refl with)

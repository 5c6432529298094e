-- The calls that sweep: the tasks that they end are those that the equations of the executor end, and none is kept after them.
use Rattle.std.proofs.Common.{◌≡◌, ℕ, ◌≤◌, ◌&&◌, ◌||◌, max, Bool, true, false, cond, List, [], Option, Some, None, refl, sym, ap, ◌∙◌, arith, subst}
use Rattle.std.specs.Prelude.{slice_get, slice_index_or, option_map, not}
use Rattle.std.specs.Option.{option_map_or}
use Rattle.std.specs.List.{filter, range_with_len}
use Rattle.std.proofs.lemmas.Bool.{false≢true, false_from_ne_true, and_parts, or_left, or_right}
use Rattle.sched_time.specs.declared.policies.Policies.{Policies}
use Rattle.sched_time.specs.declared.policies.Which.{Which}
use Rattle.sched_time.specs.Policies.{set_policy}
use Rattle.queue_code.specs.declared.call.CodeCall.{CodeCall}
use Rattle.queue_code.specs.declared.call.CodeCall.TheVariants as c
use Rattle.queue_code.specs.Calls.{Planned, terms_of, task_count}
use Rattle.executor_model.specs.declared.types.Happening.TheVariants as h
use Rattle.executor_model.specs.declared.types.Answer.{Answer}
use Rattle.executor_model.specs.declared.types.Answer.TheVariants as a
use Rattle.executor_model.specs.declared.task.Stage.{Stage}
use Rattle.executor_model.specs.declared.task.Stage.TheVariants as ph
use Rattle.executor_model.specs.declared.task.Task.{Task}
use Rattle.executor_model.specs.View.{View, is_waiting}
use Rattle.executor_model.specs.Answers.{Reply, bare, called, swept as ends_of, is_swept as is_in_sweep, is_ended_by, setting_sweeps}
use Rattle.executor_model.specs.Histories.{happenings, is_end, cancels, kept_after}
use Rattle.executor_model.specs.State.{State, vacant, after, reply_of, state_after, task_after, view_of_state, seen_task}
use Rattle.executor_model.specs.own.Phases.{waits_with, is_waiting_phase}
use Rattle.executor_model.proofs.Called.{view_at}
use Rattle.executor_model.proofs.Keeping.{kept_swept}
use Rattle.executor_model.proofs.Swept.{ends_are, and_left, swept_under, IsSweeping}
use Rattle.executor_model.proofs.Swept as sweeps
use Rattle.task_table.specs.declared.seat.Seat.{Seat}
use Rattle.task_table.specs.Seats.{task_in, slot_of, waits, is_alive, is_waiting_in, is_running_in}
use Rattle.task_table.specs.Tables.{TableView, workers_of, WorkIs, Shows, keeping, CallStepsBefore}
use Rattle.task_table.specs.Firsts.{NoneKept}
use Rattle.task_table.specs.Ends.{AreEnded, is_swept}
use Rattle.task_table.specs.Changes.{at_moment, swept, after_sweep}
use Rattle.task_table.proofs.Standing.{Known, made_there, takes}
use Rattle.task_table.proofs.Knowing.{known, known_number}
use Rattle.task_table.proofs.Formed.{at_swept, read_swept}
use Rattle.task_table.proofs.Ascending.{agree, ascending_same, filtered_ascends}

-- ---- tasks that a sweep ends

phase_alike : (p : Stage) → is_waiting_in p ≡ is_waiting_phase p
phase_alike ph.Vacant = refl
phase_alike ph.Waiting = refl
phase_alike ph.Running = refl
phase_alike ph.Done = refl
phase_alike ph.Failed = refl
phase_alike ph.Dropped = refl

-- a task waits for a run of the table as of the executor
pub waits_alike : (t : Task) → waits t ≡ waits_with t
waits_alike t = ap (λ b. b && not t.cancelled) (phase_alike t.phase)

-- of a task that waits something may come
waiting_alive : (t : Task) → waits t ≡ true → is_alive t ≡ true
waiting_alive t q = or_left (waits t || t.kept) (is_running_in t.phase) (or_left (waits t) t.kept q)

-- a sweep under these policies, at this moment, ends a task
abbrev ends_task : Bool → Policies → ℕ → Task → Bool
ends_task stopped policies moment t = waits t && is_ended_by stopped policies moment t.timing t.due

-- a task after such a sweep
abbrev ended_task : Bool → Policies → ℕ → Task → Task
ended_task stopped policies moment t = record t { cancelled = ends_task stopped policies moment t || t.cancelled; kept = false }

-- what a call that sweeps looks at
abbrev view_then : List Planned → State → ℕ → Bool → View
view_then calls s moment stops = record (view_of_state calls s) { moment = moment; stopped = stops }

-- the equations end the tasks that such a sweep ends
ends_so : (calls : List Planned) (s : State) (moment : ℕ) (stops : Bool) (policies : Policies) (k : ℕ) → Known calls s → is_in_sweep calls (view_then calls s moment stops) policies k ≡ ends_task stops policies moment (s.tasks k)
ends_so calls s moment stops policies k knows =
    swept_under (terms_of calls k) (s.tasks k) stops policies moment (knows.sound.over k) (knows.timing k)
    ∙ ap (λ b. b && is_ended_by stops policies moment (s.tasks k).timing (s.tasks k).due) (sym (waits_alike (s.tasks k)))

-- no number that no call submits is ended
past_ends : (calls : List Planned) (s : State) (moment : ℕ) (stops : Bool) (policies : Policies) (k : ℕ) → Known calls s → task_count calls ≤ k → is_in_sweep calls (view_then calls s moment stops) policies k ≡ false
past_ends calls s moment stops policies k knows past =
    let vacant_is : s.tasks k ≡ vacant → is_in_sweep calls (view_then calls s moment stops) policies k ≡ false =
    ap (λ (t : Task). is_waiting (seen_task (terms_of calls k) t) && is_ended_by stops policies moment (terms_of calls k).timing (seen_task (terms_of calls k) t).due)
    in
    false_from_ne_true (is_in_sweep calls (view_then calls s moment stops) policies k) (λ q. absurd (omega (arith, past, known_number calls s knows k (λ is. false≢true (sym (vacant_is is) ∙ q)))))

-- ---- the table at such a call

-- the call is made at this moment, the policies are these, and the executor is shut, and maybe stopped
abbrev at_sweep : TableView → ℕ → Policies → Bool → TableView
at_sweep m at policies stops = record m { moment = at; policies = policies; shut = true; stopped = stops }

-- which numbers are among those that the table ends
ended_so : (m : TableView) (calls : List Planned) (s : State) (kept : ℕ → Bool) (at : ℕ) (policies : Policies) (stops : Bool) (ends : List ℕ) → Shows m (keeping s kept) → AreEnded (at_sweep m at policies stops) ends →
    (k : ℕ) → is_end k ends ≡ ends_task stops policies at (s.tasks k)
ended_so m calls s kept at policies stops ends shows ended k = agree (is_end k ends) (ends_task stops policies at (s.tasks k)) there back
  where
    there : is_end k ends ≡ true → ends_task stops policies at (s.tasks k) ≡ true
    there q =
        let e = ended.each k q in
        ap (λ j. ends_task stops policies at (s.tasks j)) (sym e.3) ∙ (ap (ends_task stops policies at) (shows.held e.0 e.1 e.2) ∙ e.4)

    back : ends_task stops policies at (s.tasks k) ≡ true → is_end k ends ≡ true
    back q =
        let waiting = (and_parts (waits (s.tasks k)) (is_ended_by stops policies at (s.tasks k).timing (s.tasks k).due) q).0 in
        let e = shows.known k (waiting_alive ((keeping s kept).tasks k) waiting) in
        let sweeps : is_swept stops policies at e.1 ≡ true = sym (ap (ends_task stops policies at) (shows.held e.0 e.1 e.2)) ∙ (ap (λ j. ends_task stops policies at (s.tasks j)) e.3 ∙ q) in
        sym (ap (λ j. is_end j ends) e.3) ∙ ended.all e.0 e.1 e.2 sweeps

-- they are those that the equations end
ends_same : (m : TableView) (calls : List Planned) (s : State) (kept : ℕ → Bool) (at : ℕ) (policies : Policies) (stops : Bool) (ends : List ℕ) → Known calls s → Shows m (keeping s kept) → AreEnded (at_sweep m at policies stops) ends →
    ends ≡ ends_of calls (view_then calls s at stops) policies
ends_same m calls s kept at policies stops ends knows shows ended =
    let test = is_in_sweep calls (view_then calls s at stops) policies in
    ascending_same ends (filter test (range_with_len 0 (task_count calls))) ended.ascending (filtered_ascends test 0 (task_count calls))
    (λ k. ended_so m calls s kept at policies stops ends shows ended k
    ∙ (sym (ends_so calls s at stops policies k knows)
    ∙ sym (ends_are test (task_count calls) k (λ past. past_ends calls s at stops policies k knows past))))

-- ---- the table after it

-- the task in a slot after a sweep
slot_swept : (m : TableView) (i : ℕ) (x : Seat) → slot_of m.slots i ≡ Some x → slot_of (after_sweep m).slots i ≡ Some (swept m.stopped m.policies m.moment x)
slot_swept m i x q = at_swept m i ∙ ap (option_map (λ y. swept m.stopped m.policies m.moment y)) q

-- a task of which something may come after a sweep is one of which something might come before it
alive_before : (waiting ended cancelled kept running : Bool) → (((waiting && not (ended || cancelled)) || false) || running) ≡ true → (((waiting && not cancelled) || kept) || running) ≡ true
alive_before waiting ended cancelled kept true q = or_right ((waiting && not cancelled) || kept) true refl
alive_before true true cancelled kept false q = absurd (false≢true q)
alive_before true false true kept false q = absurd (false≢true q)
alive_before true false false kept false q = refl
alive_before false ended cancelled kept false q = absurd (false≢true q)

-- a task after the step of a call that sweeps
swept_to : (calls : List Planned) (s : State) (moment : ℕ) (answer : Answer) (policies : Policies) (stops : Bool) (ends : List ℕ) → IsSweeping s.shut s.stopped s.policies answer policies stops →
    ((k : ℕ) → is_end k ends ≡ ends_task stops policies moment (s.tasks k)) → (k : ℕ) → task_after calls s (record { answer = answer; ends = ends }) k ≡ ended_task stops policies moment (s.tasks k)
swept_to calls s moment answer policies stops ends sweeping same k =
    let cancelled : (cancels k answer ends || (s.tasks k).cancelled) ≡ (ends_task stops policies moment (s.tasks k) || (s.tasks k).cancelled) = ap (λ b. b || (s.tasks k).cancelled) (sweeping.cancels k ends ∙ same k) in
    let gone : kept_after (view_of_state calls s) k answer ≡ false = kept_swept (view_of_state calls s) k answer sweeping.sweeps in
    λ i. record (sweeping.moves (terms_of calls k).timing s.moment k (s.tasks k) i) { cancelled = cancelled i; kept = gone i }

-- the work of a worker after a sweep
work_swept : (m : TableView) (o work : Option ℕ) → WorkIs m.slots o work → WorkIs (after_sweep m).slots o work
work_swept m None work q = q
work_swept m (Some i) work q = (swept m.stopped m.policies m.moment q.0, slot_swept m i q.0 q.1, q.2)

-- the table shows the state after it
shows_swept : (m : TableView) (calls : List Planned) (s : State) (kept : ℕ → Bool) (at : ℕ) (answer : Answer) (policies : Policies) (stops : Bool) (ends : List ℕ) → Shows m (keeping s kept) → NoneKept m →
    AreEnded (at_sweep m at policies stops) ends → IsSweeping s.shut s.stopped s.policies answer policies stops → (state_after calls s h.Call (record { answer = answer; ends = ends })).moment ≡ at →
    Shows (after_sweep (at_sweep m at policies stops)) (state_after calls s h.Call (record { answer = answer; ends = ends }))
shows_swept m calls s kept at answer policies stops ends shows none ended sweeping moment =
    let t = at_sweep m at policies stops in
    let each = swept_to calls s at answer policies stops ends sweeping (ended_so m calls s kept at policies stops ends shows ended) in
    record {
      moment = moment;
      policies = sweeping.sets;
      shut = sweeping.shuts;
      stopped = sweeping.stopping;
      held = λ i y q.
          let was = read_swept t i y q in
          let here : ended_task stops policies at (s.tasks was.0.number) ≡ task_in (swept stops policies at was.0) =
          ap (ended_task stops policies at) (shows.held i was.0 was.1) ∙ (λ j. record (task_in (swept stops policies at was.0)) { kept = sym (none i was.0 was.1) j })
          in
          subst (λ (z : Seat). task_after calls s (record { answer = answer; ends = ends }) z.number ≡ task_in z) was.2 (each was.0.number ∙ here);
      known = λ k q.
          let task = (keeping s kept).tasks k in
          let alive = alive_before (is_waiting_in task.phase) (ends_task stops policies at task) task.cancelled task.kept (is_running_in task.phase) (sym (ap is_alive (each k)) ∙ q) in
          let e = shows.known k alive in
          (e.0, swept stops policies at e.1, slot_swept t e.0 e.1 e.2, e.3);
      work = λ w. subst (WorkIs (after_sweep t).slots (slice_index_or m.work w None)) (sym (sweeping.works w (s.workers w))) (work_swept t (slice_index_or m.work w None) (s.workers w) (shows.work w));
    }

-- ---- the steps

-- what a call that sweeps is answered, where a table shows the state
abbrev IsAnsweredBySweep : TableView → ℕ → CodeCall → Answer → Policies → Bool → Type 0
IsAnsweredBySweep m at call answer policies stops = (calls : List Planned) (s : State) → s.shut ≡ m.shut → s.stopped ≡ m.stopped → s.policies ≡ m.policies →
    called calls (view_at calls s at) call ≡ record { answer = answer; ends = ends_of calls (record (view_at calls s at) { stopped = stops }) policies }

-- the step of a call that sweeps
sweep_steps : (m : TableView) (at : ℕ) (call : CodeCall) (answer : Answer) (policies : Policies) (stops : Bool) (ends : List ℕ) → NoneKept m → m.moment ≤ at → AreEnded (at_sweep m at policies stops) ends →
    IsSweeping m.shut m.stopped m.policies answer policies stops → IsAnsweredBySweep m at call answer policies stops → CallStepsBefore m (after_sweep (at_sweep m at policies stops)) (at, call) (record { answer = answer; ends = ends })
sweep_steps m at call answer policies stops ends none ahead ended sweeping answers calls past before is =
    let w = workers_of m in
    let s = after calls w (happenings past) in
    let r : Reply = record { answer = answer; ends = ends } in
    let shows = before.shows in
    let there : slice_get calls s.made ≡ Some (at, call) = ap (slice_get calls) (made_there calls w past before.means) ∙ is in
    let greatest : max s.moment at ≡ at = grind (arith, shows.moment, ahead) in
    let moment : (state_after calls s h.Call r).moment ≡ at = ap (λ (q : Option Planned). option_map_or (λ p. max s.moment p.0) q s.moment) there ∙ greatest in
    let same : ends ≡ ends_of calls (view_then calls s at stops) policies = ends_same m calls s before.kept at policies stops ends (known calls w past before.orderly before.means) shows ended in
    let said : reply_of calls w s h.Call ≡ r =
    ap (λ (q : Option Planned). option_map_or (λ p. called calls (view_at calls s p.0) p.1) q (bare a.Clock)) there
    ∙ (answers calls s shows.shut shows.stopped shows.policies
    ∙ ((λ i. record { answer = answer; ends = ends_of calls (view_then calls s (greatest i) stops) policies })
    ∙ (λ i. record { answer = answer; ends = sym same i })))
    in
    let here : IsSweeping s.shut s.stopped s.policies answer policies stops =
    subst (λ b. IsSweeping b s.stopped s.policies answer policies stops) (sym shows.shut)
    (subst (λ b. IsSweeping m.shut b s.policies answer policies stops) (sym shows.stopped)
    (subst (λ q. IsSweeping m.shut m.stopped q answer policies stops) (sym shows.policies) sweeping))
    in
    takes m (after_sweep (at_sweep m at policies stops)) calls past h.Call r before.means refl said (shows_swept m calls s before.kept at answer policies stops ends shows none ended here moment)

-- the policy is set while the executor is shut, where that sweeps
pub policy_sweeps : (m : TableView) (at : ℕ) (which : Which) (value : Bool) (ends : List ℕ) → setting_sweeps m.shut which value ≡ true → NoneKept m → m.moment ≤ at →
    AreEnded (record (at_moment m at) { policies = set_policy which value m.policies }) ends →
    CallStepsBefore m (after_sweep (record (at_moment m at) { policies = set_policy which value m.policies })) (at, c.SetPolicy which value) (record { answer = a.Policy which value; ends = ends })
policy_sweeps m at which value ends sweeping none ahead ended =
    let policies = set_policy which value m.policies in
    let shut : m.shut ≡ true = and_left m.shut _ sweeping in
    let answers : IsAnsweredBySweep m at (c.SetPolicy which value) (a.Policy which value) policies m.stopped =
    λ calls s shut stopped policies.
    let sweeps_now : setting_sweeps s.shut which value ≡ true = ap (λ b. setting_sweeps b which value) shut ∙ sweeping in
    λ i. record { answer = a.Policy which value; ends = cond (sweeps_now i) (ends_of calls (record (view_at calls s at) { stopped = stopped i }) (set_policy which value (policies i))) [] }
    in
    subst (λ b. CallStepsBefore m (after_sweep (record (at_moment m at) { policies = policies; shut = b })) (at, c.SetPolicy which value) (record { answer = a.Policy which value; ends = ends })) (sym shut)
    (sweep_steps m at (c.SetPolicy which value) (a.Policy which value) policies m.stopped ends none ahead (subst (λ b. AreEnded (record (at_moment m at) { policies = policies; shut = b }) ends) shut ended)
    (sweeps.policy_sweeps m.shut m.stopped m.policies which value sweeping) answers)

-- the first shutdown
pub shutdown_sweeps : (m : TableView) (at : ℕ) (ends : List ℕ) → m.shut ≡ false → NoneKept m → m.moment ≤ at → AreEnded (record (at_moment m at) { shut = true }) ends →
    CallStepsBefore m (after_sweep (record (at_moment m at) { shut = true })) (at, c.Shutdown) (record { answer = a.Shutdown; ends = ends })
shutdown_sweeps m at ends unshut none ahead ended =
    let answers : IsAnsweredBySweep m at c.Shutdown a.Shutdown m.policies m.stopped =
    λ calls s shut stopped policies.
    let open_still : s.shut ≡ false = shut ∙ unshut in
    λ i. cond (open_still i) (bare a.ShutdownAgain) (record { answer = a.Shutdown; ends = ends_of calls (record (view_at calls s at) { stopped = stopped i }) (policies i) })
    in
    sweep_steps m at c.Shutdown a.Shutdown m.policies m.stopped ends none ahead ended (sweeps.shutdown_sweeps m.shut m.stopped m.policies unshut) answers

-- a shutdown at once, whether the executor was shut or not
pub stop_sweeps : (m : TableView) (at : ℕ) (ends : List ℕ) → NoneKept m → m.moment ≤ at → AreEnded (record (at_moment m at) { shut = true; stopped = true }) ends →
    CallStepsBefore m (after_sweep (record (at_moment m at) { shut = true; stopped = true })) (at, c.ShutdownNow) (record { answer = a.ShutdownNow; ends = ends })
stop_sweeps m at ends none ahead ended =
    sweep_steps m at c.ShutdownNow a.ShutdownNow m.policies true ends none ahead ended (sweeps.stop_sweeps m.shut m.stopped m.policies)
    (λ calls s shut stopped policies. λ i. record { answer = a.ShutdownNow; ends = ends_of calls (record (view_at calls s at) { stopped = true }) (policies i) })

-- The calls that change no task: a policy that is set and sweeps nothing, and a shutdown of an executor that is shut.
use Rattle.std.proofs.Common.{◌≡◌, ℕ, ◌≤◌, ◌||◌, max, Bool, true, false, cond, List, [], Option, Some, None, refl, sym, ap, ◌∙◌, arith, subst}
use Rattle.std.specs.Prelude.{slice_get, slice_index_or}
use Rattle.std.specs.Option.{option_map_or}
use Rattle.sched_time.specs.declared.timing.Timing.{Timing}
use Rattle.sched_time.specs.declared.policies.Policies.{Policies}
use Rattle.sched_time.specs.declared.policies.Which.{Which}
use Rattle.sched_time.specs.Policies.{set_policy}
use Rattle.queue_code.specs.declared.call.CodeCall.{CodeCall}
use Rattle.queue_code.specs.declared.call.CodeCall.TheVariants as c
use Rattle.queue_code.specs.Calls.{Planned, terms_of}
use Rattle.executor_model.specs.declared.types.Happening.TheVariants as h
use Rattle.executor_model.specs.declared.types.Answer.{Answer}
use Rattle.executor_model.specs.declared.types.Answer.TheVariants as a
use Rattle.executor_model.specs.declared.task.Task.{Task}
use Rattle.executor_model.specs.View.{View}
use Rattle.executor_model.specs.Answers.{bare, called, swept as ends_of, setting_sweeps}
use Rattle.executor_model.specs.Histories.{happenings, cancels, kept_after, policies_after, work_after, is_shutdown, is_stop}
use Rattle.executor_model.specs.State.{State, after, reply_of, state_after, task_after, view_of_state, move_task}
use Rattle.executor_model.proofs.Called.{view_at}
use Rattle.executor_model.proofs.Keeping.{kept_stays}
use Rattle.task_table.specs.Seats.{is_alive}
use Rattle.task_table.specs.Tables.{TableView, workers_of, WorkIs, Shows, CallSteps}
use Rattle.task_table.specs.Changes.{at_moment}
use Rattle.task_table.proofs.Standing.{Known, made_there, takes}
use Rattle.task_table.proofs.Knowing.{known}

-- ---- answers that change no task

-- an answer that moves and cancels no task, drops none from the queue, and leaves the executor shut or not as it was; these are the
-- policies before and after it
pub record IsStill (shut stopped : Bool) (before : Policies) (answer : Answer) (after : Policies) : Type 0 where
  pub moves : (timing : Timing) (now k : ℕ) (task : Task) → move_task timing now k answer task ≡ task
  pub cancels : (k : ℕ) → cancels k answer [] ≡ false
  pub keeps : (v : View) (k : ℕ) → v.shut ≡ shut → kept_after v k answer ≡ (v.fate k).kept
  pub works : (w : ℕ) (work : Option ℕ) → work_after w answer work ≡ work
  pub sets : policies_after answer before ≡ after
  pub shuts : (is_shutdown answer || shut) ≡ shut
  pub stops : (is_stop answer || stopped) ≡ stopped

-- the table shows the state after such an answer
shows_still : (m : TableView) (calls : List Planned) (s : State) (at : ℕ) (answer : Answer) (after : Policies) → Shows m s → IsStill m.shut m.stopped m.policies answer after → (state_after calls s h.Call (bare answer)).moment ≡ at →
    Shows (record (at_moment m at) { policies = after }) (state_after calls s h.Call (bare answer))
shows_still m calls s at answer after shows still moment =
    let each : (k : ℕ) → task_after calls s (bare answer) k ≡ s.tasks k =
    λ k i. record (still.moves (terms_of calls k).timing s.moment k (s.tasks k) i) {
      cancelled = ap (λ b. b || (s.tasks k).cancelled) (still.cancels k) i;
      kept = still.keeps (view_of_state calls s) k shows.shut i;
    }
    in
    record {
      moment = moment;
      policies = ap (policies_after answer) shows.policies ∙ still.sets;
      shut = ap (λ b. is_shutdown answer || b) shows.shut ∙ still.shuts;
      stopped = ap (λ b. is_stop answer || b) shows.stopped ∙ still.stops;
      held = λ i x q. each x.number ∙ shows.held i x q;
      known = λ k q. shows.known k (sym (ap is_alive (each k)) ∙ q);
      work = λ w. subst (WorkIs m.slots (slice_index_or m.work w None)) (sym (still.works w (s.workers w))) (shows.work w);
    }

-- the step of a call that is answered so
pub still_steps : (m : TableView) (at : ℕ) (call : CodeCall) (answer : Answer) (after_it : Policies) → m.moment ≤ at → IsStill m.shut m.stopped m.policies answer after_it →
    ((calls : List Planned) (s : State) → Known calls s → Shows m s → called calls (view_at calls s at) call ≡ bare answer) →
    CallSteps m (record (at_moment m at) { policies = after_it }) (at, call) (bare answer)
still_steps m at call answer after_it ahead still answers calls past stands is =
    let w = workers_of m in
    let s = after calls w (happenings past) in
    let shows = stands.shows in
    let there : slice_get calls s.made ≡ Some (at, call) = ap (slice_get calls) (made_there calls w past stands.means) ∙ is in
    let greatest : max s.moment at ≡ at = grind (arith, shows.moment, ahead) in
    let moment : (state_after calls s h.Call (bare answer)).moment ≡ at = ap (λ (q : Option Planned). option_map_or (λ p. max s.moment p.0) q s.moment) there ∙ greatest in
    let said : reply_of calls w s h.Call ≡ bare answer =
    ap (λ (q : Option Planned). option_map_or (λ p. called calls (view_at calls s p.0) p.1) q (bare a.Clock)) there
    ∙ answers calls s (known calls w past stands.orderly stands.means) shows
    in
    takes m (record (at_moment m at) { policies = after_it }) calls past h.Call (bare answer) stands.means refl said (shows_still m calls s at answer after_it shows still moment)

-- ---- the calls that have them

-- a policy is set, and there is no sweep
pub policy_steps : (m : TableView) (at : ℕ) (which : Which) (value : Bool) → setting_sweeps m.shut which value ≡ false → m.moment ≤ at →
    CallSteps m (record (at_moment m at) { policies = set_policy which value m.policies }) (at, c.SetPolicy which value) (bare (a.Policy which value))
policy_steps m at which value still ahead =
    still_steps m at (c.SetPolicy which value) (a.Policy which value) (set_policy which value m.policies) ahead
    (record {
      moves = λ timing now k task. refl;
      cancels = λ k. refl;
      keeps = λ v k shut. kept_stays v k (a.Policy which value) (ap (λ b. setting_sweeps b which value) shut ∙ still) refl refl;
      works = λ w work. refl;
      sets = refl;
      shuts = refl;
      stops = refl;
    })
    (λ calls s knows shows.
    let none : setting_sweeps s.shut which value ≡ false = ap (λ b. setting_sweeps b which value) shows.shut ∙ still in
    ap (λ b. record { answer = a.Policy which value; ends = cond b (ends_of calls (view_at calls s at) (set_policy which value s.policies)) [] }) none)

-- a shutdown where the executor is shut
pub shutdown_again : (m : TableView) (at : ℕ) → m.shut ≡ true → m.moment ≤ at → CallSteps m (at_moment m at) (at, c.Shutdown) (bare a.ShutdownAgain)
shutdown_again m at shut ahead =
    still_steps m at c.Shutdown a.ShutdownAgain m.policies ahead
    (record {
      moves = λ timing now k task. refl;
      cancels = λ k. refl;
      keeps = λ v k same. kept_stays v k a.ShutdownAgain refl refl refl;
      works = λ w work. refl;
      sets = refl;
      shuts = sym shut;
      stops = refl;
    })
    (λ calls s knows shows. ap (λ b. cond b (bare a.ShutdownAgain) (record { answer = a.Shutdown; ends = ends_of calls (view_at calls s at) s.policies })) (shows.shut ∙ shut))

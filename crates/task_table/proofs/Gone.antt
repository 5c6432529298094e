-- The steps of a cancel of a task that has no slot: no more comes of it, or it was never accepted, or there is none of its number.
use Rattle.std.proofs.Common.{◌≡◌, ℕ, ◌+◌, ◌<◌, ◌≤◌, ◌&&◌, ◌||◌, Bool, true, false, List, refl, sym, ap, ◌∙◌}
use Rattle.std.specs.Prelude.{not}
use Rattle.std.proofs.lemmas.Bool.{false≢true, false_from_ne_true}
use Rattle.queue_code.specs.declared.call.CodeCall.TheVariants as c
use Rattle.executor_model.specs.declared.types.CancelEffect.{CancelEffect}
use Rattle.executor_model.specs.declared.types.EventError.TheVariants as x
use Rattle.executor_model.specs.declared.types.Happening.TheVariants as h
use Rattle.executor_model.specs.declared.types.Answer.TheVariants as a
use Rattle.executor_model.specs.declared.task.Stage.{Stage}
use Rattle.executor_model.specs.declared.task.Stage.TheVariants as ph
use Rattle.executor_model.specs.declared.task.Task.{Task}
use Rattle.queue_code.specs.Calls.{Planned, Terms, terms_of, task_count}
use Rattle.executor_model.specs.Answers.{bare, effect_on}
use Rattle.executor_model.specs.Histories.{HistoryEntry, happenings, had_effect}
use Rattle.executor_model.specs.State.{State, after, seen_task, task_after}
use Rattle.executor_model.specs.own.Soundness.{IsSound}
use Rattle.executor_model.proofs.Agree.{after_agrees}
use Rattle.executor_model.proofs.Effects.{of_vacant, of_cancelled, of_done, of_failed, no_task_reply}
use Rattle.task_table.specs.Seats.{is_alive, is_waiting_in, is_running_in, IsNew}
use Rattle.task_table.specs.Tables.{TableView, workers_of, Shows, Stands, Takes, IsNextCall}
use Rattle.task_table.specs.Ends.{effect_gone}
use Rattle.task_table.specs.Changes.{at_moment}
use Rattle.task_table.proofs.Standing.{takes}
use Rattle.task_table.proofs.Shown.{takes_call, takes_error, same_shown, later_shown}
use Rattle.task_table.proofs.Cancels.{stays_cancel, none_cancelled, outside_said}

or_true : (b : Bool) → (b || true) ≡ true
or_true true = refl
or_true false = refl

-- what a cancel does to a task of which nothing may come
gone_is : (terms : Terms) (t : Task) → is_alive t ≡ false → (t.phase ≡ ph.Dropped → t.cancelled ≡ true) → effect_on (seen_task terms t) ≡ effect_gone t.phase
gone_is terms t dead over = by t.phase t.cancelled refl refl dead
  where
    by : (p : Stage) (b : Bool) → t.phase ≡ p → t.cancelled ≡ b → (((is_waiting_in p && not b) || t.kept) || is_running_in p) ≡ false → effect_on (seen_task terms t) ≡ effect_gone p
    by ph.Vacant b q r dead = sym (of_vacant terms t q)
    by ph.Waiting true q r dead = sym (of_cancelled terms t (λ v. let clash : ph.Waiting ≡ ph.Vacant = sym q ∙ v in cc) r)
    by ph.Waiting false q r dead = absurd (false≢true (sym dead))
    by ph.Running b q r dead = absurd (false≢true (sym dead ∙ or_true t.kept))
    by ph.Done b q r dead = sym (of_done terms t q)
    by ph.Failed b q r dead = sym (of_failed terms t q)
    by ph.Dropped b q r dead = sym (of_cancelled terms t (λ v. let clash : ph.Dropped ≡ ph.Vacant = sym q ∙ v in cc) (over q))

-- it has no effect
gone_none : (p : Stage) → had_effect (effect_gone p) ≡ false
gone_none ph.Vacant = refl
gone_none ph.Waiting = refl
gone_none ph.Running = refl
gone_none ph.Done = refl
gone_none ph.Failed = refl
gone_none ph.Dropped = refl

-- nothing may come of a task that no slot holds
no_slot : (m : TableView) (s : State) (k : ℕ) → IsNew m.slots k → Shows m s → is_alive (s.tasks k) ≡ false
no_slot m s k new shows = false_from_ne_true (is_alive (s.tasks k)) (λ q. let held = shows.known k q in new held.0 held.1 held.2 held.3)

-- what a cancel does to it, in the state that the table shows
effect_without : (m : TableView) (k : ℕ) (calls : List Planned) (s : State) → IsNew m.slots k → IsSound s → Shows m s → effect_on (seen_task (terms_of calls k) (s.tasks k)) ≡ effect_gone (s.tasks k).phase
effect_without m k calls s new sound shows = gone_is (terms_of calls k) (s.tasks k) (no_slot m s k new shows) (sound.over k)

-- the table shows the state after a cancel without an effect
none_shown : (m : TableView) (k : ℕ) (effect : CancelEffect) (calls : List Planned) (s : State) → had_effect effect ≡ false → Shows m s → Shows m (record s { tasks = λ j. task_after calls s (bare (a.Outside k effect)) j })
none_shown m k effect calls s none shows = same_shown m s (λ j. task_after calls s (bare (a.Outside k effect)) j) shows (λ j. stays_cancel calls s k effect j (none_cancelled k effect j none))

-- a cancel from outside of a task that no slot holds
pub gone_steps : (m : TableView) (k : ℕ) → IsNew m.slots k → (calls : List Planned) (past : List HistoryEntry) → Stands m calls past → k < task_count calls →
    Takes m calls past (h.Cancel k) (bare (a.Outside k (effect_gone ((after calls (workers_of m) (happenings past)).tasks k).phase)))
gone_steps m k new calls past stands low =
    let w = workers_of m in
    let s = after calls w (happenings past) in
    let sound = (after_agrees calls w past stands.means).sound in
    let effect = effect_gone (s.tasks k).phase in
    let said = outside_said calls w k s low ∙ ap (λ e. bare (a.Outside k e)) (effect_without m k calls s new sound stands.shows) in
    takes m m calls past (h.Cancel k) (bare (a.Outside k effect)) stands.means refl said (none_shown m k effect calls s (gone_none (s.tasks k).phase) stands.shows)

-- a cancel of it by a call
pub gone_call_steps : (m : TableView) (k at : ℕ) → IsNew m.slots k → m.moment ≤ at → (calls : List Planned) (past : List HistoryEntry) → Stands m calls past → IsNextCall calls past (at, c.Cancel k) →
    Takes (at_moment m at) calls past h.Call (bare (a.Cancel k (effect_gone ((after calls (workers_of m) (happenings past)).tasks k).phase)))
gone_call_steps m k at new ahead calls past stands is =
    let w = workers_of m in
    let s = after calls w (happenings past) in
    let sound = (after_agrees calls w past stands.means).sound in
    let effect = effect_gone (s.tasks k).phase in
    takes_call m (at_moment m at) calls past at (c.Cancel k) (a.Cancel k effect) stands is refl (ap (λ e. bare (a.Cancel k e)) (effect_without m k calls s new sound stands.shows))
    (later_shown m (record s { tasks = λ j. task_after calls s (bare (a.Outside k effect)) j }) (1 + s.made) at ahead (none_shown m k effect calls s (gone_none (s.tasks k).phase) stands.shows))

-- a cancel from outside of a task that the calls do not submit
pub no_task_steps : (m : TableView) (k : ℕ) → (calls : List Planned) (past : List HistoryEntry) → Stands m calls past → task_count calls ≤ k → Takes m calls past (h.Cancel k) (bare (a.Error x.NoTask))
no_task_steps m k calls past stands above = takes_error m calls past (h.Cancel k) x.NoTask stands (no_task_reply calls (workers_of m) k (after calls (workers_of m) (happenings past)) above)

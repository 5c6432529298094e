-- Cancels of tasks that have no slot: no more comes of them, or they were rejected, or there are none of their number.
use Rattle.std.proofs.Common.{◌≡◌, ℕ, ◌<◌, ◌≤◌, cond, List, [], ◌∷◌, ◌++◌, refl, ap, ◌∙◌, arith, subst, inl, inr}
use Rattle.std.specs.Prelude.{nat_lt}
use Rattle.queue_code.specs.declared.call.CodeCall.TheVariants as c
use Rattle.queue_code.specs.Calls.{Planned}
use Rattle.executor_model.specs.declared.types.Happening.TheVariants as h
use Rattle.executor_model.specs.declared.types.EventError.TheVariants as x
use Rattle.executor_model.specs.declared.types.CancelEffect.TheVariants as f
use Rattle.executor_model.specs.declared.types.Answer.TheVariants as a
use Rattle.executor_model.specs.declared.task.Stage.{Stage}
use Rattle.executor_model.specs.declared.task.Stage.TheVariants as ph
use Rattle.executor_model.specs.View.{View}
use Rattle.executor_model.specs.Answers.{bare}
use Rattle.executor_model.specs.Histories.{HistoryEntry, happenings, was_accepted}
use Rattle.executor_model.specs.State.{after, was_submitted}
use Rattle.task_table.specs.Seats.{IsNew}
use Rattle.task_table.specs.Tables as tables
use Rattle.task_table.specs.Tables.{TableView, workers_of, Takes}
use Rattle.task_table.specs.Ends.{effect_gone}
use Rattle.task_table.specs.Changes.{at_moment}
use Rattle.task_table.proofs.Standing.{view_there}
use Rattle.task_table.proofs.Gone.{gone_steps, gone_call_steps, no_task_steps}
use Rattle.live_core.specs.Lives.{LiveView, Calls, Happens, never, quiet}
use Rattle.live_core.specs.own.Places.{effect_without}
use Rattle.live_core.proofs.Making.{MayAdd, makes_there}
use Rattle.live_core.proofs.Meeting.{meets_there}

-- whether a task that nothing comes of was submitted tells what a cancel does to it
effect_is : (p : Stage) → effect_gone p ≡ cond (was_submitted p) f.No f.Absent
effect_is ph.Vacant = refl
effect_is ph.Waiting = refl
effect_is ph.Running = refl
effect_is ph.Done = refl
effect_is ph.Failed = refl
effect_is ph.Dropped = refl

-- the history tells whether it was
effect_there : (m : TableView) (calls : List Planned) (past : List HistoryEntry) (k accepted : ℕ) → tables.Stands m calls past → was_accepted k past ≡ nat_lt k accepted →
    effect_gone ((after calls (workers_of m) (happenings past)).tasks k).phase ≡ effect_without accepted k
effect_there m calls past k accepted st is =
    effect_is ((after calls (workers_of m) (happenings past)).tasks k).phase
    ∙ ap (λ b. cond b f.No f.Absent) (ap (λ (v : View). (v.fate k).accepted) (view_there calls (workers_of m) past st.means) ∙ is)

-- a task that no slot holds, whose number was given out, is cancelled from outside
pub cancels_gone : (m : LiveView) (k : ℕ) → IsNew m.table.slots k → k < m.count → Happens m (quiet m m.table) (h.Cancel k) (bare (a.Outside k (effect_without m.accepted k)))
cancels_gone m k new low calls past st =
    let steps = gone_steps m.table k new calls past st.table (omega (arith, low, st.count)) in
    meets_there m (quiet m m.table) calls past (h.Cancel k) (bare (a.Outside k (effect_without m.accepted k))) refl
    (record { workers = refl; count = refl; accepted = refl; earliest = omega arith; behind = λ q. q; looks = inl low; clock = refl })
    st
    (subst (λ e. Takes m.table calls past (h.Cancel k) (bare (a.Outside k e))) (effect_there m.table calls past k m.accepted st.table (st.accepted k)) steps)

-- it is cancelled by a call
pub cancels_gone_by_call : (m : LiveView) (at k : ℕ) → IsNew m.table.slots k → MayAdd m (at, c.Cancel k) → Calls m (quiet m (at_moment m.table at)) (at, c.Cancel k) (bare (a.Cancel k (effect_without m.accepted k)))
cancels_gone_by_call m at k new may calls past st =
    let more = calls ++ (at, c.Cancel k) ∷ [] in
    makes_there m (quiet m (at_moment m.table at)) calls past (at, c.Cancel k) (bare (a.Cancel k (effect_without m.accepted k))) may
    (record { workers = refl; count = refl; earliest = refl; accepted = λ j. refl })
    st
    (λ stands is.
    subst (λ e. Takes (at_moment m.table at) more past h.Call (bare (a.Cancel k e))) (effect_there m.table more past k m.accepted stands (st.accepted k))
    (gone_call_steps m.table k at new may.ahead more past stands is))

-- a cancel from outside that names a task that no submission has, nor will ever have
pub cancels_none : (m : LiveView) (k : ℕ) → never ≤ k → Happens m (quiet m m.table) (h.Cancel k) (bare (a.Error x.NoTask))
cancels_none m k far calls past st =
    meets_there m (quiet m m.table) calls past (h.Cancel k) (bare (a.Error x.NoTask)) refl
    (record { workers = refl; count = refl; accepted = refl; earliest = omega arith; behind = λ q. q; looks = inr far; clock = refl })
    st
    (no_task_steps m.table k calls past st.table (omega (arith, far, st.count, st.few)))

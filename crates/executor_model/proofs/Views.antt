-- One step of a history and one step of a state move the view alike.
use Rattle.std.proofs.Common.{◌≡◌, ℕ, ◌+◌, ◌*◌, ◌||◌, Bool, true, false, cond, List, ◌∷◌, Option, Some, refl, arith}
use Rattle.std.specs.Prelude.{if◌then◌else◌, slice_get}
use Rattle.sched_time.specs.declared.timing.Timing.{Timing}
use Rattle.sched_time.specs.declared.timing.Timing.TheVariants as t
use Rattle.executor_model.specs.declared.types.Happening.{Happening}
use Rattle.sched_time.specs.Dues.{after_finish}
use Rattle.queue_code.specs.Calls.{Planned, Terms, terms_of, due_at}
use Rattle.executor_model.specs.View.{Fate, View}
use Rattle.executor_model.specs.Answers.{Reply, moment_after}
use Rattle.executor_model.specs.Histories.{HistoryEntry, entry_of, happenings, is_call, is_submit, cancels, kept_after, is_start, is_finish, is_finish_with, is_done, is_failed, work_after, policies_after, is_shutdown, view_of_history, starts, last_finish, now_of, is_stop}
use Rattle.executor_model.specs.State.{State, view_of_state, state_after}
use Rattle.executor_model.specs.own.Soundness.{IsDue}
use Rattle.executor_model.proofs.Moves.{moved_fate, due_after, Fits, task_moves}

-- what is known of a task after a reply
abbrev pub fate_after : List Planned → View → Reply → ℕ → Fate
fate_after calls v r k =
    moved_fate (terms_of calls k).timing (v.fate k) v.moment (is_submit k r.answer) (cancels k r.answer r.ends) (is_start k r.answer) (is_finish k r.answer) (is_finish_with is_done k r.answer) (is_finish_with is_failed k r.answer) (kept_after v k r.answer)

-- the view after a reply, with what is known of each task then
abbrev pub view_with : List Planned → View → Happening → Reply → (ℕ → Fate) → View
view_with calls v happening r fates = record {
  made = if is_call happening then 1 + v.made else v.made;
  moment = moment_after v.moment (slice_get calls v.made) happening;
  fate = fates;
  work = λ w. work_after w r.answer (v.work w);
  policies = policies_after r.answer v.policies;
  shut = is_shutdown r.answer || v.shut;
  stopped = is_stop r.answer || v.stopped;
}

-- the view after a reply
abbrev pub view_after : List Planned → View → Happening → Reply → View
view_after calls v happening r = view_with calls v happening r (λ k. fate_after calls v r k)

-- the due moment of the terms, moved by a start and a finish
pub due_moves : (terms : Terms) (n now : ℕ) (last : Option ℕ) (b c : Bool) →
    due_after terms.timing (due_at terms n last) now b c ≡ due_at terms (cond b (1 + n) n) (cond c (Some now) last)
due_moves terms n now last b c =
    let by : (timing : Timing) (first : ℕ) →
    due_after timing (due_at (record { timing = timing; first = first }) n last) now b c ≡ due_at (record { timing = timing; first = first }) (cond b (1 + n) n) (cond c (Some now) last) =
    elim [ t.Once ↦ λ first. once first now b c | t.Rate period ↦ λ first. rate period first b c | t.Fixed delay ↦ λ first. fixed delay first b c ]
    in
    by terms.timing terms.first
  where
    once : (first now : ℕ) (b c : Bool) → due_after t.Once first now b c ≡ first
    once first now true true = refl
    once first now true false = refl
    once first now false true = refl
    once first now false false = refl

    rate : (period first : ℕ) (b c : Bool) → due_after (t.Rate period) (first + n * period) now b c ≡ first + (cond b (1 + n) n) * period
    rate period first true true = omega arith
    rate period first true false = omega arith
    rate period first false true = refl
    rate period first false false = refl

    fixed : (delay first : ℕ) (b c : Bool) → due_after (t.Fixed delay) (after_finish first delay last) now b c ≡ after_finish first delay (cond c (Some now) last)
    fixed delay first true true = refl
    fixed delay first true false = refl
    fixed delay first false true = refl
    fixed delay first false false = refl

-- a longer history is seen as the view of the shorter one, moved
pub look_moves : (calls : List Planned) (past : List HistoryEntry) (happening : Happening) (r : Reply) →
    view_after calls (view_of_history calls past) happening r ≡ view_of_history calls (entry_of happening r ∷ past)
look_moves calls past happening r = λ i.
    view_with calls (view_of_history calls past) happening r
    (λ k. record (fate_after calls (view_of_history calls past) r k) { due = due_moves (terms_of calls k) (starts k past) (now_of calls (happenings past)) (last_finish calls k past) (is_start k r.answer) (is_finish k r.answer) i })

-- a state after a reply is seen as what was seen of it, moved
pub seen_moves : (calls : List Planned) (s : State) (happening : Happening) (r : Reply) →
    ((k : ℕ) → Fits (terms_of calls k) s.moment k (s.tasks k) r.answer) →
    view_of_state calls (state_after calls s happening r) ≡ view_after calls (view_of_state calls s) happening r
seen_moves calls s happening r fits = λ i.
    view_with calls (view_of_state calls s) happening r (λ k. task_moves (terms_of calls k) s.moment k (s.tasks k) r.answer (cancels k r.answer r.ends) (kept_after (view_of_state calls s) k r.answer) (fits k) i)

-- the due moments that a history shows are those of the terms
pub look_is_due : (calls : List Planned) (past : List HistoryEntry) → IsDue calls (view_of_history calls past)
look_is_due calls past = λ k. (last_finish calls k past, refl)

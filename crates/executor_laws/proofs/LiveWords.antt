-- A task that is cancelled is live, and a vacant one has run 0, after each history.
use Rattle.std.proofs.Common.{◌≡◌, ℕ, ◌||◌, ◌==◌, Bool, true, false, cond, inl, inr, List, [], ◌∷◌, refl, sym, ap, ◌∙◌, subst}
use Rattle.std.proofs.lemmas.Bool.{false≢true, and_parts, or_cases}
use Rattle.task_word.specs.Words.{is_live}
use Rattle.sched_time.specs.declared.timing.Timing.{Timing}
use Rattle.executor_model.specs.declared.types.CancelEffect.{CancelEffect}
use Rattle.executor_model.specs.declared.types.CancelEffect.TheVariants as f
use Rattle.executor_model.specs.declared.types.Happening.{Happening}
use Rattle.executor_model.specs.declared.types.Outcome.{Outcome}
use Rattle.executor_model.specs.declared.types.Outcome.TheVariants as o
use Rattle.executor_model.specs.declared.types.Answer.{Answer}
use Rattle.executor_model.specs.declared.types.Answer.TheVariants as a
use Rattle.executor_model.specs.declared.task.Stage.{Stage}
use Rattle.executor_model.specs.declared.task.Stage.TheVariants as ph
use Rattle.executor_model.specs.declared.task.Task.{Task}
use Rattle.queue_code.specs.Calls.{Planned, terms_of}
use Rattle.executor_model.specs.Histories.{HistoryEntry, IsHistoryOf, happenings, had_effect, is_cancel, is_end, is_finish_with, is_ended, is_sweep, cancels, kept_after}
use Rattle.executor_model.specs.State.{State, view_of_state, reply_of, after, move_task, submit_phase, end_task, finish_task, due_past}
use Rattle.executor_model.specs.Tasks.{word_phase}
use Rattle.executor_model.specs.own.Soundness.{IsSound}
use Rattle.executor_model.proofs.Moves.{moved_task}
use Rattle.executor_model.proofs.Sound.{waits_in}
use Rattle.executor_model.proofs.Agree.{after_agrees}
use Rattle.executor_laws.proofs.Replies.{ends_say}
use Rattle.executor_laws.proofs.WordAnswers.{Meets, meets}

-- only a live word is cancelled, and a vacant one has run 0
pub record IsLived (task : Task) : Type 0 where
  pub live : task.cancelled ≡ true → is_live (word_phase task.phase) ≡ true
  pub fresh : task.phase ≡ ph.Vacant → task.run ≡ 0

only_yes : (effect : CancelEffect) → had_effect effect ≡ true → effect ≡ f.Yes
only_yes f.Yes q = refl
only_yes _ q = absurd (false≢true q)

-- a cancel of a task leaves its phase
cancel_live : (timing : Timing) (now k : ℕ) (task : Task) (answer : Answer) → Meets k task answer → is_cancel k answer ≡ true → is_live (word_phase (move_task timing now k answer task).phase) ≡ true
cancel_live timing now k task (a.Cancel j effect) met q = let parts = and_parts (j == k) (had_effect effect) q in met parts.0 (only_yes effect parts.1)
cancel_live timing now k task (a.Outside j effect) met q = let parts = and_parts (j == k) (had_effect effect) q in met parts.0 (only_yes effect parts.1)
cancel_live timing now k task _ met q = absurd (false≢true q)

-- a sweep leaves each task in its phase
swept_still : (timing : Timing) (now k : ℕ) (task : Task) (shut : Bool) (answer : Answer) → is_sweep shut answer ≡ true → move_task timing now k answer task ≡ task
swept_still timing now k task shut (a.Submit j kind due) q = absurd (false≢true q)
swept_still timing now k task shut (a.Start u j run due) q = absurd (false≢true q)
swept_still timing now k task shut (a.Finish u j run outcome) q = absurd (false≢true q)
swept_still timing now k task shut _ q = refl

outcome_live : (timing : Timing) (now : ℕ) (task : Task) (outcome : Outcome) → is_ended outcome ≡ true → is_live (word_phase (finish_task timing now outcome task).phase) ≡ true
outcome_live timing now task o.Ended q = refl
outcome_live timing now task _ q = absurd (false≢true q)

-- a task whose run was its last one before the end has the word of a run
ended_live : (timing : Timing) (now k : ℕ) (task : Task) (answer : Answer) → is_finish_with is_ended k answer ≡ true → is_live (word_phase (move_task timing now k answer task).phase) ≡ true
ended_live timing now k task (a.Finish u j run outcome) q =
    let parts = and_parts (j == k) (is_ended outcome) q in
    let pick : (b : Bool) → b ≡ true → is_live (word_phase (cond b (finish_task timing now outcome task) task).phase) ≡ true =
    elim [ true ↦ λ is. outcome_live timing now task outcome parts.1 | false ↦ λ is. absurd (false≢true is) ]
    in
    pick (j == k) parts.0
ended_live timing now k task _ q = absurd (false≢true q)

-- a reply that cancels a task leaves it live
cancels_live : (calls : List Planned) (workers : ℕ) (s : State) (y : Happening) (k : ℕ) → IsSound s → cancels k (reply_of calls workers s y).answer (reply_of calls workers s y).ends ≡ true →
    is_live (word_phase (move_task (terms_of calls k).timing s.moment k (reply_of calls workers s y).answer (s.tasks k)).phase) ≡ true
cancels_live calls workers s y k sound q =
    let r = reply_of calls workers s y in
    let timing = (terms_of calls k).timing in
    let task = s.tasks k in
    elim (or_cases (is_cancel k r.answer) (is_end k r.ends || is_finish_with is_ended k r.answer) q) [
      | inl cancel ↦ cancel_live timing s.moment k task r.answer (meets calls workers s y sound k) cancel
      | inr other ↦ elim (or_cases (is_end k r.ends) (is_finish_with is_ended k r.answer) other) [
        | inl end ↦
            let said = ends_say calls workers (view_of_state calls s) y k end in
            ap (λ (x : Task). is_live (word_phase x.phase)) (swept_still timing s.moment k task s.shut r.answer said.sweeps) ∙ ap (λ p. is_live (word_phase p)) (waits_in calls s k sound said.waited).0
        | inr last ↦ ended_live timing s.moment k task r.answer last
      ]
    ]

submit_live : (timing : Timing) (due : ℕ) (p : Stage) (task : Task) → is_live (word_phase p) ≡ true → is_live (word_phase task.phase) ≡ true → is_live (word_phase (submit_phase timing due p task).phase) ≡ true
submit_live timing due ph.Vacant task q live = absurd (false≢true q)
submit_live timing due ph.Waiting task q live = live
submit_live timing due ph.Running task q live = live
submit_live timing due ph.Done task q live = live
submit_live timing due ph.Failed task q live = live
submit_live timing due ph.Dropped task q live = live

-- an answer leaves a cancelled task live
live_moves : (timing : Timing) (now k : ℕ) (task : Task) (answer : Answer) → Meets k task answer → task.cancelled ≡ true → is_live (word_phase task.phase) ≡ true →
    is_live (word_phase (move_task timing now k answer task).phase) ≡ true
live_moves timing now k task (a.Submit j kind due) met old live =
    let pick : (b : Bool) → is_live (word_phase (cond b (submit_phase timing due task.phase task) task).phase) ≡ true = elim [ true ↦ submit_live timing due task.phase task live live | false ↦ live ] in
    pick (j == k)
live_moves timing now k task (a.Start u j run due) met old live =
    let pick : (b : Bool) → is_live (word_phase (cond b (record task { phase = ph.Running }) task).phase) ≡ true = elim [ true ↦ refl | false ↦ live ] in
    pick (j == k)
live_moves timing now k task (a.Finish u j run outcome) met old live =
    let pick : (b : Bool) → (b ≡ true → (task.phase ≡ ph.Running) × (task.cancelled ≡ true → outcome ≡ o.Dropped)) → is_live (word_phase (cond b (finish_task timing now outcome task) task).phase) ≡ true =
    elim [ true ↦ λ met. subst (λ x. is_live (word_phase (finish_task timing now x task).phase) ≡ true) (sym ((met refl).1 old)) refl | false ↦ λ met. live ]
    in
    pick (j == k) met
live_moves timing now k task _ met old live = live

submit_fresh : (timing : Timing) (due : ℕ) (p : Stage) (task : Task) → (task.phase ≡ ph.Vacant → task.run ≡ 0) → (submit_phase timing due p task).phase ≡ ph.Vacant → (submit_phase timing due p task).run ≡ 0
submit_fresh timing due ph.Vacant task fresh q = refl
submit_fresh timing due ph.Waiting task fresh q = fresh q
submit_fresh timing due ph.Running task fresh q = fresh q
submit_fresh timing due ph.Done task fresh q = fresh q
submit_fresh timing due ph.Failed task fresh q = fresh q
submit_fresh timing due ph.Dropped task fresh q = fresh q

end_fresh : (outcome : Outcome) (due : ℕ) (task : Task) → (end_task outcome due task).phase ≡ ph.Vacant → ⊥
end_fresh (o.Done value) due task q = cc
end_fresh (o.Failed code) due task q = cc
end_fresh o.Dropped due task q = cc
end_fresh o.Ended due task q = cc
end_fresh (o.Again again) due task q = cc

-- an answer leaves a vacant task with run 0
fresh_moves : (timing : Timing) (now k : ℕ) (task : Task) (answer : Answer) → (task.phase ≡ ph.Vacant → task.run ≡ 0) → (move_task timing now k answer task).phase ≡ ph.Vacant → (move_task timing now k answer task).run ≡ 0
fresh_moves timing now k task (a.Submit j kind due) fresh =
    let pick : (b : Bool) → (cond b (submit_phase timing due task.phase task) task).phase ≡ ph.Vacant → (cond b (submit_phase timing due task.phase task) task).run ≡ 0 = elim [ true ↦ submit_fresh timing due task.phase task fresh | false ↦ fresh ] in
    pick (j == k)
fresh_moves timing now k task (a.Start u j run due) fresh =
    let pick : (b : Bool) → (cond b (record task { phase = ph.Running }) task).phase ≡ ph.Vacant → (cond b (record task { phase = ph.Running }) task).run ≡ 0 = elim [ true ↦ λ q. absurd cc | false ↦ fresh ] in
    pick (j == k)
fresh_moves timing now k task (a.Finish u j run outcome) fresh =
    let pick : (b : Bool) → (cond b (finish_task timing now outcome task) task).phase ≡ ph.Vacant → (cond b (finish_task timing now outcome task) task).run ≡ 0 =
    elim [ true ↦ λ q. absurd (end_fresh outcome (due_past timing task.due now) task q) | false ↦ fresh ]
    in
    pick (j == k)
fresh_moves timing now k task _ fresh = fresh

-- an answer leaves a task as it has to be
lived_stays : (timing : Timing) (now k : ℕ) (task : Task) (answer : Answer) (cancelled kept : Bool) → Meets k task answer → (cancelled ≡ true → is_live (word_phase (move_task timing now k answer task).phase) ≡ true) → IsLived task →
    IsLived (moved_task timing now k answer cancelled kept task)
lived_stays timing now k task answer cancelled kept met live lived = record {
  live = λ q. elim (or_cases cancelled task.cancelled q) [ inl by ↦ live by | inr old ↦ live_moves timing now k task answer met old (lived.live old) ];
  fresh = fresh_moves timing now k task answer lived.fresh;
}

-- after each history each task is so
pub lived_after : (calls : List Planned) (workers : ℕ) (past : List HistoryEntry) (k : ℕ) → IsHistoryOf calls workers past → IsLived ((after calls workers (happenings past)).tasks k)
lived_after calls workers [] k m = record { live = λ q. absurd (false≢true q); fresh = λ q. refl }
lived_after calls workers (e ∷ past) k m =
    let s = after calls workers (happenings past) in
    let r = reply_of calls workers s e.happening in
    let sound = (after_agrees calls workers past m.0).sound in
    lived_stays (terms_of calls k).timing s.moment k (s.tasks k) r.answer (cancels k r.answer r.ends) (kept_after (view_of_state calls s) k r.answer) (meets calls workers s e.happening sound k) (cancels_live calls workers s e.happening k sound)
    (lived_after calls workers past k m.0)

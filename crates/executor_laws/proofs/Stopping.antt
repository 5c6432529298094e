-- Once the executor is stopped no task waits, and nothing starts.
use Rattle.std.proofs.Common.{◌≡◌, ℕ, ◌<◌, ◌==◌, nat_lt, Bool, true, false, cond, inl, inr, List, [], ◌∷◌, ◌++◌, refl, sym, ap, ◌∙◌, arith, subst}
use Rattle.std.proofs.lemmas.Bool.{false≢true, false_from_ne_true, and_from, or_cases, or_left, or_right, or_parts, lt-ltb}
use Rattle.std.proofs.lemmas.Bool.Decides.{nat_tests}
use Rattle.sched_time.specs.declared.timing.Timing.{Timing}
use Rattle.executor_model.specs.declared.types.Happening.{Happening}
use Rattle.executor_model.specs.declared.types.Outcome.{Outcome}
use Rattle.executor_model.specs.declared.types.Outcome.TheVariants as o
use Rattle.executor_model.specs.declared.types.Answer.{Answer}
use Rattle.executor_model.specs.declared.types.Answer.TheVariants as a
use Rattle.executor_model.specs.declared.task.Stage.TheVariants as ph
use Rattle.executor_model.specs.declared.task.Task.{Task}
use Rattle.queue_code.specs.Calls.{Planned, IsOrderly, task_count, terms_of}
use Rattle.executor_model.specs.View.{View, is_waiting}
use Rattle.executor_model.specs.Answers.{is_swept}
use Rattle.executor_model.specs.Histories.{HistoryEntry, IsHistoryOf, view_of_history, happenings, now_of, is_submit, is_end, is_shutdown, is_stop, is_sweep, cancels, was_shut, was_stopped, policies_of}
use Rattle.executor_model.specs.State.{State, view_of_state, reply_of, next, state_after, after, move_task, finish_task}
use Rattle.executor_model.specs.own.Soundness.{IsSound}
use Rattle.executor_laws.specs.Policies.{NothingWaitsOnceStopped, NothingStartsAfterAStop}
use Rattle.executor_model.proofs.Sound.{Finds, reply_finds, waits_in}
use Rattle.executor_model.proofs.Agree.{after_agrees, answers_alike}
use Rattle.executor_laws.proofs.StartLaws.{means_front}
use Rattle.executor_laws.proofs.Repeats.{started_so, again_says}
use Rattle.executor_laws.proofs.TaskWords.{waits_seen}
use Rattle.executor_laws.proofs.Policies.{ends_within, sweeps_end_those}
use Rattle.executor_laws.proofs.Refusals.{accepts_none}
use Rattle.executor_laws.proofs.Termination.{queued_and_running_are_tasks}

-- the executor is stopped, so shut, and no task waits that is not cancelled
record IsHalted (s : State) : Type 0 where
  stopped : s.stopped ≡ true
  shut : s.shut ≡ true
  waits : (k : ℕ) → (s.tasks k).phase ≡ ph.Waiting → (s.tasks k).cancelled ≡ false → ⊥

-- ---- a step keeps it so

-- an answer does not say that a task waits for a further run
abbrev RearmsNone : Answer → Type 0
RearmsNone answer = (w k n due : ℕ) → answer ≡ a.Finish w k n (o.Again due) → ⊥

-- a finish that does not say so leaves no task that waits
finished_rests : (timing : Timing) (now : ℕ) (outcome : Outcome) (task : Task) → ((due : ℕ) → outcome ≡ o.Again due → ⊥) → (finish_task timing now outcome task).phase ≡ ph.Waiting → ⊥
finished_rests timing now (o.Again due) task none q = none due refl
finished_rests timing now (o.Done value) task none q = cc
finished_rests timing now (o.Failed code) task none q = cc
finished_rests timing now o.Dropped task none q = cc
finished_rests timing now o.Ended task none q = cc

-- in such a state a task that waits after an answer waited before it
waited_before : (calls : List Planned) (s : State) (answer : Answer) → IsHalted s → Finds calls s answer → RearmsNone answer → ((k : ℕ) → is_submit k answer ≡ true → ⊥) → (k : ℕ) →
    (move_task (terms_of calls k).timing s.moment k answer (s.tasks k)).phase ≡ ph.Waiting → (s.tasks k).phase ≡ ph.Waiting
waited_before calls s (a.Submit j kind due) halted found again none k q =
    let same : (j == j) ≡ true = grind (arith, nat_tests) in absurd (none j same)
waited_before calls s (a.Start w j n due) halted found again none k q = absurd (halted.waits j found.1 found.2)
waited_before calls s (a.Finish w j n outcome) halted found again none k q = by (j == k) q
  where
    by : (b : Bool) → (cond b (finish_task (terms_of calls k).timing s.moment outcome (s.tasks k)) (s.tasks k)).phase ≡ ph.Waiting → (s.tasks k).phase ≡ ph.Waiting
    by true q = absurd (finished_rests (terms_of calls k).timing s.moment outcome (s.tasks k) (λ due is. again w j n due (ap (a.Finish w j n) is)) q)
    by false q = q
waited_before calls s _ halted found again none k q = q

halted_stays : (calls : List Planned) (workers : ℕ) (s : State) (y : Happening) → IsSound s → IsHalted s → IsHalted (next calls workers s y)
halted_stays calls workers s y sound halted =
    let v = view_of_state calls s in
    let r = reply_of calls workers s y in
    let again : RearmsNone r.answer = λ w k n due q. false≢true (sym (or_parts s.stopped _ (again_says calls workers v y w k n due q).1).0 ∙ halted.stopped) in
    let before = waited_before calls s r.answer halted (reply_finds calls workers s y sound) again (λ k q. accepts_none calls workers v y k halted.shut q) in
    record {
      stopped = or_right (is_stop r.answer) s.stopped halted.stopped;
      shut = or_right (is_shutdown r.answer) s.shut halted.shut;
      waits = λ k is live. halted.waits k (before k is) (or_parts (cancels k r.answer r.ends) (s.tasks k).cancelled live).1;
    }

-- ---- a shutdown at once makes it so

-- one answer alone says that there was one
stop_is : (answer : Answer) → is_stop answer ≡ true → answer ≡ a.ShutdownNow
stop_is a.ShutdownNow q = refl
stop_is answer q = absurd (false≢true q)

-- it ends each task that waits
stop_ends : (calls : List Planned) (workers : ℕ) (past : List HistoryEntry) (e : HistoryEntry) (k : ℕ) → IsOrderly calls → IsHistoryOf calls workers (e ∷ past) → e.answer ≡ a.ShutdownNow →
    is_waiting ((view_of_history calls past).fate k) ≡ true → is_end k e.ends ≡ true
stop_ends calls workers past e k o m is waits =
    let v = record (view_of_history calls past) { moment = now_of calls (happenings (e ∷ past)); stopped = was_stopped (e ∷ past) } in
    let test = is_swept calls v (policies_of (e ∷ past)) in
    let stopped : was_stopped (e ∷ past) ≡ true = or_left (is_stop e.answer) (was_stopped past) (ap is_stop is) in
    let passes : test k ≡ true = and_from (is_waiting (v.fate k)) _ waits (or_left (was_stopped (e ∷ past)) _ stopped) in
    let low : k < task_count calls = (queued_and_running_are_tasks calls workers past k o m.0).0 (or_left (is_waiting (v.fate k)) (v.fate k).kept waits) in
    ap (is_end k) ((sweeps_end_those calls workers past e m).0 (ap (is_sweep (was_shut past)) is))
    ∙ (ends_within test (task_count calls) k ∙ and_from (nat_lt k (task_count calls)) (test k) (lt-ltb k (task_count calls) low) passes)

-- a state in which it ends each task that waits is left with none
halts : (calls : List Planned) (s : State) (y : Happening) (ends : List ℕ) → ((k : ℕ) → (s.tasks k).phase ≡ ph.Waiting → (s.tasks k).cancelled ≡ false → is_end k ends ≡ true) →
    IsHalted (state_after calls s y (record { answer = a.ShutdownNow; ends = ends }))
halts calls s y ends each = record {
  stopped = refl;
  shut = refl;
  waits = λ k is live.
      let old = or_parts (cancels k a.ShutdownNow ends) (s.tasks k).cancelled live in
      false≢true (sym (or_parts (is_end k ends) false old.0).0 ∙ each k is old.1);
}

-- the state after a history with a shutdown at once
halted_at : (calls : List Planned) (workers : ℕ) (past : List HistoryEntry) → IsOrderly calls → IsHistoryOf calls workers past → was_stopped past ≡ true → IsHalted (after calls workers (happenings past))
halted_at calls workers [] o m q = absurd (false≢true q)
halted_at calls workers (e ∷ past) o m q =
    let s = after calls workers (happenings past) in
    let agrees = after_agrees calls workers past m.0 in
    let stopped : e.answer ≡ a.ShutdownNow → IsHalted (next calls workers s e.happening) = λ is.
    let fate : (k : ℕ) → (view_of_state calls s).fate k ≡ (view_of_history calls past).fate k = λ k. ap (λ (v : View). v.fate k) agrees.view in
    let each : (k : ℕ) → (s.tasks k).phase ≡ ph.Waiting → (s.tasks k).cancelled ≡ false → is_end k e.ends ≡ true = λ k waits live.
    stop_ends calls workers past e k o m is (ap is_waiting (sym (fate k)) ∙ waits_seen (terms_of calls k) (s.tasks k).phase (s.tasks k).run (s.tasks k).due (s.tasks k).cancelled (s.tasks k).kept waits live)
    in
    let said : reply_of calls workers s e.happening ≡ record { answer = a.ShutdownNow; ends = e.ends } =
    answers_alike calls workers s past e.happening agrees ∙ (λ i. record { answer = (sym m.2 ∙ is) i; ends = sym m.3 i })
    in
    subst (λ r. IsHalted (state_after calls s e.happening r)) (sym said) (halts calls s e.happening e.ends each)
    in
    elim (or_cases (is_stop e.answer) (was_stopped past) q) [
      | inl here ↦ stopped (stop_is e.answer here)
      | inr before ↦ halted_stays calls workers s e.happening agrees.sound (halted_at calls workers past o m.0 before)
    ]

-- ---- the laws

-- the law that no task waits once the executor is stopped
pub nothing_waits_once_stopped : NothingWaitsOnceStopped
nothing_waits_once_stopped calls workers past k o m q =
    let s = after calls workers (happenings past) in
    let agrees = after_agrees calls workers past m in
    let halted = halted_at calls workers past o m q in
    false_from_ne_true (is_waiting ((view_of_history calls past).fate k)) (λ waits.
    let found = waits_in calls s k agrees.sound (ap (λ (v : View). is_waiting (v.fate k)) agrees.view ∙ waits) in halted.waits k found.0 found.1)

-- what was stopped stays so
still_stopped : (between past : List HistoryEntry) → was_stopped past ≡ true → was_stopped (between ++ past) ≡ true
still_stopped [] past q = q
still_stopped (e ∷ between) past q = or_right (is_stop e.answer) (was_stopped (between ++ past)) (still_stopped between past q)

-- the law that nothing starts after a shutdown at once
pub nothing_starts_after_a_stop : NothingStartsAfterAStop
nothing_starts_after_a_stop calls workers past between stop start w k n d o s is =
    let before = between ++ stop ∷ past in
    let means = means_front calls workers s.later (start ∷ before) s.means in
    let stopped = still_stopped between (stop ∷ past) (or_left (is_stop stop.answer) (was_stopped past) (ap is_stop is)) in
    false≢true (sym (nothing_waits_once_stopped calls workers before k o means.0 stopped) ∙ (started_so calls workers before start w k n d s).waiting)

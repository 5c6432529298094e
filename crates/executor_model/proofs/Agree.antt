-- The state that steps lead to agrees with the history.
use Rattle.std.proofs.Common.{◌≡◌, ℕ, ◌≤◌, ◌==◌, ◌||◌, Bool, true, false, cond, List, [], ◌∷◌, Option, refl, sym, ap, ◌∙◌, arith, subst}
use Rattle.std.specs.Prelude.{slice_get, max, nat_lt, Some, None}
use Rattle.std.specs.Option.{option_map_or}
use Rattle.std.proofs.lemmas.Bool.{false≢true, eqb-true}
use Rattle.std.proofs.lemmas.Option.{none-some}
use Rattle.sched_time.specs.declared.timing.Timing.{Timing}
use Rattle.sched_time.specs.declared.timing.Timing.TheVariants as t
use Rattle.queue_code.specs.declared.call.CodeCall.{CodeCall}
use Rattle.queue_code.specs.declared.call.CodeCall.TheVariants as c
use Rattle.executor_model.specs.declared.types.Happening.{Happening}
use Rattle.executor_model.specs.declared.types.Happening.TheVariants as h
use Rattle.executor_model.specs.declared.types.EventError.TheVariants as x
use Rattle.executor_model.specs.declared.types.Refusal.TheVariants as refusal
use Rattle.executor_model.specs.declared.types.Outcome.{Outcome}
use Rattle.executor_model.specs.declared.types.Outcome.TheVariants as o
use Rattle.executor_model.specs.declared.types.Answer.{Answer}
use Rattle.executor_model.specs.declared.types.Answer.TheVariants as a
use Rattle.executor_model.specs.declared.task.Stage.TheVariants as ph
use Rattle.executor_model.specs.declared.task.Task.{Task}
use Rattle.queue_code.specs.Calls.{submits_task, Planned, terms_of, due_at, numbers, task_count}
use Rattle.executor_model.specs.View.{first_enabled}
use Rattle.executor_model.specs.Answers.{reply, bare, called, kind_of, start_answer, finish_answer, effect_on}
use Rattle.executor_model.specs.Histories.{HistoryEntry, entry_of, happenings, IsHistoryOf, view_of_history, answer, cancels}
use Rattle.executor_model.specs.State.{State, view_of_state, next, after, opening, reply_of, move_task, finish_task}
use Rattle.executor_model.specs.own.Soundness.{IsSound, TimingsAgree, NoneDelayed}
use Rattle.executor_model.proofs.Views.{seen_moves, look_moves, view_after}
use Rattle.executor_model.proofs.Sound.{Finds, IsPeriodicAgain, reply_finds, fits_all}
use Rattle.executor_model.proofs.SoundSteps.{sound_stays, later}
use Rattle.executor_model.proofs.Replies.{IsAnswerTo, accepts_by, by_answer}

-- a state shows what a history shows by counting, and is sound
pub record Agrees (calls : List Planned) (s : State) (past : List HistoryEntry) : Type 0 where
  pub view : view_of_state calls s ≡ view_of_history calls past
  pub sound : IsSound s

-- the opening state is sound
pub opening_sound : IsSound opening
opening_sound = record { at_work = λ w k q. absurd (none-some k q); apart = λ v w k p q. absurd (none-some k p); reached = λ k q. absurd cc; over = λ k q. absurd cc; kept = λ k q. absurd (false≢true q); staffed = λ k q. absurd cc }

opening_agrees : (calls : List Planned) → Agrees calls opening []
opening_agrees calls = record { view = refl; sound = opening_sound }

-- a state that agrees answers as the equations do
pub answers_alike : (calls : List Planned) (workers : ℕ) (s : State) (past : List HistoryEntry) (happening : Happening) → Agrees calls s past →
    reply_of calls workers s happening ≡ answer calls workers past happening
answers_alike calls workers s past happening agrees = ap (λ v. reply calls workers v happening) agrees.view

-- and after it agrees with the longer history
pub next_agrees : (calls : List Planned) (workers : ℕ) (s : State) (past : List HistoryEntry) (happening : Happening) → Agrees calls s past →
    Agrees calls (next calls workers s happening) (entry_of happening (answer calls workers past happening) ∷ past)
next_agrees calls workers s past happening agrees =
    let r = reply_of calls workers s happening in
    let f = reply_finds calls workers s happening agrees.sound in
    record {
      view = seen_moves calls s happening r (fits_all calls s r.answer agrees.sound f)
          ∙ (ap (λ v. view_after calls v happening (reply calls workers v happening)) agrees.view ∙ look_moves calls past happening (answer calls workers past happening));
      sound = sound_stays calls s happening r agrees.sound f;
    }

-- the state that a history leads to agrees with it
pub after_agrees : (calls : List Planned) (workers : ℕ) (past : List HistoryEntry) → IsHistoryOf calls workers past → Agrees calls (after calls workers (happenings past)) past
after_agrees calls workers [] m = opening_agrees calls
after_agrees calls workers (e ∷ past) m =
    subst (λ x. Agrees calls (after calls workers (e.happening ∷ happenings past)) (x ∷ past))
    (λ i. record { happening = e.happening; answer = sym m.2 i; ends = sym m.3 i })
    (next_agrees calls workers (after calls workers (happenings past)) past e.happening (after_agrees calls workers past m.0))

-- timings, and tasks that are delayed, after a step

abbrev task_by : List Planned → State → Answer → ℕ → Task
task_by calls s answer k = move_task (terms_of calls k).timing s.moment k answer (s.tasks k)

-- what a finish leaves of a task's timing
finish_timing : (timing : Timing) (now : ℕ) (outcome : Outcome) (task : Task) → (finish_task timing now outcome task).timing ≡ task.timing
finish_timing timing now (o.Done value) task = refl
finish_timing timing now (o.Failed code) task = refl
finish_timing timing now o.Dropped task = refl
finish_timing timing now o.Ended task = refl
finish_timing timing now (o.Again due) task = refl

no_or : (p q : Bool) → (p || q) ≡ false → q ≡ false
no_or true q e = absurd (false≢true (sym e))
no_or false q e = e

-- an answer submits no task
abbrev SubmitsNone : Answer → Type 0
SubmitsNone (a.Submit j kind due) = ⊥
SubmitsNone _ = Unit {0}

-- no one-shot task waits whose due moment is not reached, also after an answer that submits none
delayed_after : (calls : List Planned) (s : State) (answer : Answer) → IsSound s → Finds calls s answer → SubmitsNone answer → TimingsAgree calls s → NoneDelayed s →
    (k : ℕ) → (task_by calls s answer k).phase ≡ ph.Waiting → (s.tasks k).cancelled ≡ false → (task_by calls s answer k).timing ≡ t.Once → (task_by calls s answer k).due ≤ s.moment
delayed_after calls s (a.Submit j kind due) sound f none agree old k = absurd none
delayed_after calls s (a.Start w j n due) sound f none agree old k = by (j == k)
  where
    by : (b : Bool) → (cond b (record (s.tasks k) { phase = ph.Running }) (s.tasks k)).phase ≡ ph.Waiting → (s.tasks k).cancelled ≡ false →
        (cond b (record (s.tasks k) { phase = ph.Running }) (s.tasks k)).timing ≡ t.Once → (cond b (record (s.tasks k) { phase = ph.Running }) (s.tasks k)).due ≤ s.moment
    by true q live once = absurd cc
    by false q live once = old k q live once
delayed_after calls s (a.Finish w j n outcome) sound f none agree old k = by (j == k) refl
  where
    ended : (x : Outcome) → IsPeriodicAgain (terms_of calls k).timing x → (s.tasks k).phase ≡ ph.Running → (finish_task (terms_of calls k).timing s.moment x (s.tasks k)).phase ≡ ph.Waiting → (s.tasks k).timing ≡ t.Once → ⊥
    ended (o.Done value) p busy q once = cc
    ended (o.Failed code) p busy q once = cc
    ended o.Dropped p busy q once = cc
    ended o.Ended p busy q once = cc
    ended (o.Again due) p busy q once = p (sym (agree k (λ v. let clash : ph.Running ≡ ph.Vacant = sym busy ∙ v in cc)) ∙ once)

    by : (b : Bool) → (j == k) ≡ b → (cond b (finish_task (terms_of calls k).timing s.moment outcome (s.tasks k)) (s.tasks k)).phase ≡ ph.Waiting → (s.tasks k).cancelled ≡ false →
        (cond b (finish_task (terms_of calls k).timing s.moment outcome (s.tasks k)) (s.tasks k)).timing ≡ t.Once → (cond b (finish_task (terms_of calls k).timing s.moment outcome (s.tasks k)) (s.tasks k)).due ≤ s.moment
    by true same q live once =
        absurd (ended outcome (subst (λ i. IsPeriodicAgain (terms_of calls i).timing outcome) (eqb-true j k same) f.2) (subst (λ i. (s.tasks i).phase ≡ ph.Running) (eqb-true j k same) (sound.at_work w j f.0)) q
        (sym (finish_timing (terms_of calls k).timing s.moment outcome (s.tasks k)) ∙ once))
    by false same q live once = old k q live once
delayed_after calls s _ sound f none agree old k = old k

-- a call submits no task where the executor is shut
shut_call : (calls : List Planned) (s : State) (moment : ℕ) (call : CodeCall) → s.shut ≡ true → SubmitsNone (called calls (record (view_of_state calls s) { moment = moment }) call).answer
shut_call calls s moment (c.Submit task timing delay) shut =
    subst (λ b. SubmitsNone (cond b (a.Refuse task refusal.Rejected) (a.Submit task (kind_of timing) (due_at (terms_of calls task) 0 None)))) (sym shut) tt
shut_call calls s moment (c.Illegal task) shut = tt
shut_call calls s moment call shut = by_answer SubmitsNone calls (record (view_of_state calls s) { moment = moment }) call (none call refl)
  where
    none : (call : CodeCall) → submits_task call ≡ false → (x : Answer) → IsAnswerTo x call → SubmitsNone x
    none call unsubmitted (a.Submit k kind due) is = false≢true (sym unsubmitted ∙ accepts_by call k due kind is)
    none call unsubmitted x is = tt

-- nothing that happens submits a task where the executor is shut
shut_submits_none : (calls : List Planned) (workers : ℕ) (s : State) (happening : Happening) → s.shut ≡ true → SubmitsNone (reply_of calls workers s happening).answer
shut_submits_none calls workers s h.Call shut =
    let pick : (q : Option Planned) → SubmitsNone (option_map_or (λ p. called calls (record (view_of_state calls s) { moment = max s.moment p.0 }) p.1) q (bare a.Clock)).answer =
    elim [ None ↦ tt | Some p ↦ shut_call calls s (max s.moment p.0) p.1 shut ]
    in
    pick (slice_get calls s.made)
shut_submits_none calls workers s (h.Clock t) shut =
    let pick : (b c : Bool) → SubmitsNone (cond b (a.Error x.Backward) (cond c (a.Error x.TooFar) a.Clock)) = elim [ true ↦ λ c. tt | false ↦ elim [ true ↦ tt | false ↦ tt ] ] in
    pick _ _
shut_submits_none calls workers s (h.Start w) shut =
    let v = view_of_state calls s in
    let first : (q : Option ℕ) → SubmitsNone (start_answer v w q) = elim [ None ↦ tt | Some k ↦ tt ] in
    let pick : (b : Bool) (work : Option ℕ) → SubmitsNone (cond b (option_map_or (λ _. a.Error x.Busy) work (start_answer v w (first_enabled v (numbers calls)))) (a.Error x.NoWorker)) =
    elim [ true ↦ elim [ None ↦ first (first_enabled v (numbers calls)) | Some k ↦ tt ] | false ↦ λ work. tt ]
    in
    pick (nat_lt w workers) (s.workers w)
shut_submits_none calls workers s (h.Finish w ending) shut =
    let v = view_of_state calls s in
    let pick : (b : Bool) (work : Option ℕ) → SubmitsNone (cond b (finish_answer calls v w ending work) (a.Error x.NoWorker)) =
    elim [ true ↦ elim [ None ↦ tt | Some k ↦ tt ] | false ↦ λ work. tt ]
    in
    pick (nat_lt w workers) (s.workers w)
shut_submits_none calls workers s (h.Cancel k) shut =
    let pick : (b : Bool) → SubmitsNone (cond b (a.Outside k (effect_on ((view_of_state calls s).fate k))) (a.Error x.NoTask)) = elim [ true ↦ tt | false ↦ tt ] in
    pick (nat_lt k (task_count calls))
shut_submits_none calls workers s h.Purge shut = tt

-- where no one-shot task waits whose due moment is not reached, a step keeps it so
pub next_none_delayed : (calls : List Planned) (workers : ℕ) (s : State) (happening : Happening) → IsSound s → TimingsAgree calls s → s.shut ≡ true → NoneDelayed s → NoneDelayed (next calls workers s happening)
next_none_delayed calls workers s happening sound agree shut old = λ k q live once.
    let r = reply_of calls workers s happening in
    omega (
      arith,
      delayed_after calls s r.answer sound (reply_finds calls workers s happening sound) (shut_submits_none calls workers s happening shut) agree old k q (no_or (cancels k r.answer r.ends) (s.tasks k).cancelled live) once,
      later s.moment (slice_get calls s.made) happening,
    )

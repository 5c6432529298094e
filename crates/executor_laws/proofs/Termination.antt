-- Which tasks an ask counts, and that a terminated executor starts none.
use Rattle.std.proofs.Common.{◌≡◌, ℕ, ◌+◌, ◌==◌, ◌&&◌, Bool, true, false, cond, inl, inr, List, [], ◌∷◌, ◌++◌, refl, sym, ap, ◌∙◌, arith, subst}
use Rattle.std.specs.Prelude.{◌<◌}
use Rattle.std.proofs.lemmas.Bool.{false≢true, and_parts, or_cases, or_right, or_parts, eqb-true}
use Rattle.std.proofs.lemmas.Bool.Decides.{nat_tests}
use Rattle.executor_model.specs.declared.types.Happening.{Happening}
use Rattle.executor_model.specs.declared.types.Answer.{Answer}
use Rattle.executor_model.specs.declared.types.Answer.TheVariants as a
use Rattle.executor_model.specs.declared.task.Stage.TheVariants as ph
use Rattle.queue_code.specs.Calls.{Planned, IsOrderly, how_many, numbers, task_count, terms_of}
use Rattle.executor_model.specs.View.{Fate, View, is_running, is_waiting}
use Rattle.executor_model.specs.Answers.{Reply, is_queued, queue_size, running_count, is_terminated}
use Rattle.executor_model.specs.Histories.{HistoryEntry, IsHistoryOf, view_of_history, happenings, is_submit, is_shutdown, cancels, was_accepted}
use Rattle.executor_model.specs.State.{State, view_of_state, was_submitted, reply_of, next, after, move_task}
use Rattle.executor_model.specs.own.Soundness.{IsSound}
use Rattle.executor_laws.specs.Policies.{QueuedAndRunningAreTasks, NothingStartsOnceTerminated}
use Rattle.executor_model.proofs.First.{is_in, in_range}
use Rattle.executor_model.proofs.Sound.{Finds, reply_finds, waits_in}
use Rattle.executor_model.proofs.Agree.{after_agrees, answers_alike}
use Rattle.executor_laws.proofs.Replies.{IsAsk, told, ask_says}
use Rattle.executor_laws.proofs.StartLaws.{means_front}
use Rattle.executor_laws.proofs.Reading.{tasks_are_submitted}
use Rattle.executor_laws.proofs.Waiting.{was_submitted as call_was_made}
use Rattle.executor_laws.proofs.TaskWords.{runs_seen, waits_seen, runs_in}
use Rattle.executor_laws.proofs.Refusals.{accepts_none}

-- ---- the tasks that are counted

-- a task that was submitted is one of the plan
pub submitted_is_a_task : (calls : List Planned) (workers : ℕ) (past : List HistoryEntry) (k : ℕ) → IsOrderly calls → IsHistoryOf calls workers past → was_submitted ((after calls workers (happenings past)).tasks k).phase ≡ true → k < task_count calls
submitted_is_a_task calls workers past k o m q =
    let accepted : was_accepted k past ≡ true = ap (λ (v : View). (v.fate k).accepted) (sym (after_agrees calls workers past m).view) ∙ q in
    let made = call_was_made calls workers past k m accepted in
    (tasks_are_submitted calls k o).1 made.place made.call made.there made.submits

-- the law that a task in the queue, and one that is run, is one of the plan
pub queued_and_running_are_tasks : QueuedAndRunningAreTasks
queued_and_running_are_tasks calls workers past k o m =
    let s = after calls workers (happenings past) in
    let agrees = after_agrees calls workers past m in
    let fate = ap (λ (v : View). v.fate k) agrees.view in
    let task = submitted_is_a_task calls workers past k o m in
    let waits : (s.tasks k).phase ≡ ph.Waiting → k < task_count calls = λ is. task (ap was_submitted is) in
    let v = view_of_history calls past in (
      λ q. elim (or_cases (is_waiting (v.fate k)) (v.fate k).kept q) [
        | inl waiting ↦ waits (waits_in calls s k agrees.sound (ap is_waiting fate ∙ waiting)).0
        | inr kept ↦ waits (agrees.sound.kept k (ap (λ (x : Fate). x.kept) fate ∙ kept)).0
      ],
      λ q. task (ap was_submitted (runs_in (terms_of calls k) (s.tasks k).phase (s.tasks k).run (s.tasks k).due (s.tasks k).cancelled (s.tasks k).kept (ap is_running fate ∙ q))),
    )

-- ---- what an answer that says so says

abbrev IsOver : List Planned → View → Type 0
IsOver calls v = is_terminated v.shut (queue_size calls v) (running_count calls v) ≡ true

-- where none of some numbers is counted, each fails the test
none_counted : (test : ℕ → Bool) (ks : List ℕ) (k : ℕ) → how_many test ks ≡ 0 → is_in k ks ≡ true → test k ≡ false
none_counted test [] k q there = absurd (false≢true there)
none_counted test (j ∷ ks) k q there =
    let pick : (b : Bool) → test j ≡ b → cond b (1 + how_many test ks) (how_many test ks) ≡ 0 → test k ≡ false =
    elim [
      | true ↦ λ is q. absurd (omega (arith, q))
      | false ↦ λ is q. elim (or_cases (j == k) (is_in k ks) there) [ inl same ↦ ap test (sym (eqb-true j k same)) ∙ is | inr rest ↦ none_counted test ks k q rest ]
    ]
    in
    pick (test j) refl q

-- ---- a state in which nothing is left

-- the executor is shut, no run is under way, and no task waits that is not cancelled
record IsQuiet (s : State) : Type 0 where
  shut : s.shut ≡ true
  runs : (k : ℕ) → (s.tasks k).phase ≡ ph.Running → ⊥
  waits : (k : ℕ) → (s.tasks k).phase ≡ ph.Waiting → (s.tasks k).cancelled ≡ false → ⊥

quiet_at : (calls : List Planned) (workers : ℕ) (past : List HistoryEntry) → IsOrderly calls → IsHistoryOf calls workers past → IsOver calls (view_of_state calls (after calls workers (happenings past))) → IsQuiet (after calls workers (happenings past))
quiet_at calls workers past o m over =
    let s = after calls workers (happenings past) in
    let v = view_of_state calls s in
    let parts = and_parts s.shut ((queue_size calls v == 0) && (running_count calls v == 0)) over in
    let none = and_parts (queue_size calls v == 0) (running_count calls v == 0) parts.1 in
    let in_plan : (k : ℕ) → was_submitted (s.tasks k).phase ≡ true → is_in k (numbers calls) ≡ true = λ k q.
    let low = submitted_is_a_task calls workers past k o m q in
    in_range 0 (task_count calls) k (omega arith) (omega (arith, low))
    in
    record {
      shut = parts.0;
      runs = λ k is.
          let idle = none_counted (λ j. is_running (v.fate j)) (numbers calls) k (eqb-true (running_count calls v) 0 none.1) (in_plan k (ap was_submitted is)) in
          false≢true (sym idle ∙ runs_seen (terms_of calls k) (s.tasks k).phase (s.tasks k).run (s.tasks k).due (s.tasks k).cancelled (s.tasks k).kept is);
      waits = λ k is live.
          let unqueued = none_counted (λ j. is_queued (v.fate j)) (numbers calls) k (eqb-true (queue_size calls v) 0 none.0) (in_plan k (ap was_submitted is)) in
          let resting = (or_parts (is_waiting (v.fate k)) (v.fate k).kept unqueued).0 in
          false≢true (sym resting ∙ waits_seen (terms_of calls k) (s.tasks k).phase (s.tasks k).run (s.tasks k).due (s.tasks k).cancelled (s.tasks k).kept is live);
    }

-- in such a state no answer moves a task
none_moves : (calls : List Planned) (s : State) (answer : Answer) → IsSound s → IsQuiet s → Finds calls s answer → ((k : ℕ) → is_submit k answer ≡ true → ⊥) → (k : ℕ) → (move_task (terms_of calls k).timing s.moment k answer (s.tasks k)).phase ≡ (s.tasks k).phase
none_moves calls s (a.Submit j kind due) sound quiet found none k =
    let same : (j == j) ≡ true = grind (arith, nat_tests) in absurd (none j same)
none_moves calls s (a.Start w j n due) sound quiet found none k = absurd (quiet.waits j found.1 found.2)
none_moves calls s (a.Finish w j n outcome) sound quiet found none k = absurd (quiet.runs j (sound.at_work w j found.0))
none_moves calls s _ sound quiet found none k = refl

quiet_stays : (calls : List Planned) (workers : ℕ) (s : State) (y : Happening) → IsSound s → IsQuiet s → IsQuiet (next calls workers s y)
quiet_stays calls workers s y sound quiet =
    let r = reply_of calls workers s y in
    let same = none_moves calls s r.answer sound quiet (reply_finds calls workers s y sound) (λ k q. accepts_none calls workers (view_of_state calls s) y k quiet.shut q) in
    record {
      shut = or_right (is_shutdown r.answer) s.shut quiet.shut;
      runs = λ k is. quiet.runs k (sym (same k) ∙ is);
      waits = λ k is live. quiet.waits k (sym (same k) ∙ is) (or_parts (cancels k r.answer r.ends) (s.tasks k).cancelled live).1;
    }

quiet_since : (calls : List Planned) (workers : ℕ) (past between : List HistoryEntry) → IsHistoryOf calls workers (between ++ past) → IsQuiet (after calls workers (happenings past)) → IsQuiet (after calls workers (happenings (between ++ past)))
quiet_since calls workers past [] m quiet = quiet
quiet_since calls workers past (e ∷ between) m quiet =
    quiet_stays calls workers (after calls workers (happenings (between ++ past))) e.happening (after_agrees calls workers (between ++ past) m.0).sound (quiet_since calls workers past between m.0 quiet)

-- the law that nothing starts once the executor is terminated
pub nothing_starts_once_terminated : NothingStartsOnceTerminated
nothing_starts_once_terminated calls workers past between asked start w k n d queue running shut o s is =
    let before = between ++ asked ∷ past in
    let means = means_front calls workers s.later (start ∷ before) s.means in
    let (asked_means, may, replied, ended) = means_front calls workers between (asked ∷ past) means.0 in
    let first = after calls workers (happenings past) in
    let agrees = after_agrees calls workers past asked_means in
    let said : a.Ask queue running shut true ≡ (reply_of calls workers first asked.happening).answer = sym is ∙ (replied ∙ ap (λ (r : Reply). r.answer) (sym (answers_alike calls workers first past asked.happening agrees))) in
    let view = view_of_state calls first in
    let tells : a.Ask queue running shut true ≡ told calls view = said ∙ ask_says calls workers view asked.happening (subst IsAsk said tt) in
    let over : IsOver calls view = cc in
    let then = quiet_stays calls workers first asked.happening agrees.sound (quiet_at calls workers past o asked_means over) in
    let quiet = quiet_since calls workers (asked ∷ past) between means.0 then in
    let last = after calls workers (happenings before) in
    let agrees_last = after_agrees calls workers before means.0 in
    let found = subst (Finds calls last) (ap (λ (r : Reply). r.answer) (answers_alike calls workers last before start.happening agrees_last) ∙ (sym means.2 ∙ s.start)) (reply_finds calls workers last start.happening agrees_last.sound) in
    quiet.waits k found.1 found.2

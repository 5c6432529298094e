-- No answer lowers the rank of the word of a task.
use Rattle.std.proofs.Common.{◌≡◌, ℕ, ◌+◌, ◌*◌, ◌≤◌, ◌==◌, Bool, true, false, cond, refl, ap, arith}
use Rattle.task_word.specs.Words.{rank, rank_in}
use Rattle.sched_time.specs.declared.timing.Timing.{Timing}
use Rattle.executor_model.specs.declared.types.Outcome.{Outcome}
use Rattle.executor_model.specs.declared.types.Outcome.TheVariants as o
use Rattle.executor_model.specs.declared.types.Answer.{Answer}
use Rattle.executor_model.specs.declared.types.Answer.TheVariants as a
use Rattle.executor_model.specs.declared.task.Stage.{Stage}
use Rattle.executor_model.specs.declared.task.Stage.TheVariants as ph
use Rattle.executor_model.specs.declared.task.Task.{Task}
use Rattle.queue_code.specs.Calls.{terms_of}
use Rattle.executor_model.specs.Histories.{happenings}
use Rattle.executor_model.specs.State.{reply_of, after, move_task, submit_phase, end_task, finish_task, due_past}
use Rattle.executor_model.specs.Tasks.{word_phase, word_of_task}
use Rattle.executor_model.proofs.Agree.{after_agrees}
use Rattle.executor_laws.specs.TaskWords.{RanksDoNotFall}
use Rattle.executor_laws.proofs.WordAnswers.{Meets, meets}

submit_rank : (timing : Timing) (due : ℕ) (p : Stage) (task : Task) → task.phase ≡ p → rank (word_of_task task) ≤ rank (word_of_task (submit_phase timing due p task))
submit_rank timing due ph.Vacant task is = let none : rank (word_of_task task) ≡ 0 = ap (λ p. rank_in (word_phase p) task.run) is in omega (arith, none)
submit_rank timing due ph.Waiting task is = omega arith
submit_rank timing due ph.Running task is = omega arith
submit_rank timing due ph.Done task is = omega arith
submit_rank timing due ph.Failed task is = omega arith
submit_rank timing due ph.Dropped task is = omega arith

end_rank : (task : Task) (due : ℕ) (outcome : Outcome) → rank_in (word_phase ph.Running) task.run ≤ rank (word_of_task (end_task outcome due task))
end_rank task due (o.Done value) = omega arith
end_rank task due (o.Failed code) = omega arith
end_rank task due o.Dropped = omega arith
end_rank task due o.Ended = omega arith
end_rank task due (o.Again again) = omega arith

rank_rises : (timing : Timing) (now k : ℕ) (task : Task) (answer : Answer) → Meets k task answer → rank (word_of_task task) ≤ rank (word_of_task (move_task timing now k answer task))
rank_rises timing now k task (a.Submit j kind due) met =
    let pick : (b : Bool) → rank (word_of_task task) ≤ rank (word_of_task (cond b (submit_phase timing due task.phase task) task)) =
    elim [ true ↦ submit_rank timing due task.phase task refl | false ↦ omega arith ]
    in
    pick (j == k)
rank_rises timing now k task (a.Start u j run due) met =
    let pick : (b : Bool) → (b ≡ true → (task.phase ≡ ph.Waiting) × (task.cancelled ≡ false)) → rank (word_of_task task) ≤ rank (word_of_task (cond b (record task { phase = ph.Running }) task)) =
    elim [
      | true ↦ λ met. let waits : rank (word_of_task task) ≡ 1 + 2 * task.run = ap (λ p. rank_in (word_phase p) task.run) (met refl).0 in omega (arith, waits)
      | false ↦ λ met. omega arith
    ]
    in
    pick (j == k) met
rank_rises timing now k task (a.Finish u j run outcome) met =
    let pick : (b : Bool) → (b ≡ true → (task.phase ≡ ph.Running) × (task.cancelled ≡ true → outcome ≡ o.Dropped)) → rank (word_of_task task) ≤ rank (word_of_task (cond b (finish_task timing now outcome task) task)) =
    elim [
      | true ↦ λ met. let runs : rank (word_of_task task) ≡ rank_in (word_phase ph.Running) task.run = ap (λ p. rank_in (word_phase p) task.run) (met refl).0 in omega (arith, runs, end_rank task (due_past timing task.due now) outcome)
      | false ↦ λ met. omega arith
    ]
    in
    pick (j == k) met
rank_rises timing now k task _ met = omega arith

-- the law that no answer lowers the rank of a word
pub ranks_do_not_fall : RanksDoNotFall
ranks_do_not_fall calls workers past e k m =
    let s = after calls workers (happenings past) in
    rank_rises (terms_of calls k).timing s.moment k (s.tasks k) (reply_of calls workers s e.happening).answer (meets calls workers s e.happening (after_agrees calls workers past m.0).sound k)

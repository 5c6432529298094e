-- What is known where a history leads, and when a step is taken.
use Rattle.std.proofs.Common.{◌≡◌, ℕ, ◌≤◌, List, ◌∷◌, take, sym, ap, ◌∙◌, subst}
use Rattle.executor_model.specs.declared.types.Happening.{Happening}
use Rattle.queue_code.specs.Calls.{Planned, task_count}
use Rattle.executor_model.specs.Answers.{Reply}
use Rattle.executor_model.specs.Histories.{HistoryEntry, happenings, made, answer, view_of_history, IsHistoryOf}
use Rattle.executor_model.specs.State.{State, vacant, after, reply_of, state_after, view_of_state}
use Rattle.executor_model.specs.own.Soundness.{IsSound, IsDue, TimingsAgree}
use Rattle.executor_model.proofs.Agree.{after_agrees, answers_alike}
use Rattle.task_table.specs.Tables.{TableView, workers_of, Shows, Takes}

-- what is known of a state to which a history of some calls leads
pub record Known (calls : List Planned) (s : State) : Type 0 where
  pub sound : IsSound s
  pub timing : TimingsAgree calls s
  pub due : IsDue calls (view_of_state calls s)
  -- what no call made submits is vacant
  pub fresh : (k : ℕ) → task_count (take s.made calls) ≤ k → s.tasks k ≡ vacant

-- how many calls were made where a history leads
pub made_there : (calls : List Planned) (workers : ℕ) (past : List HistoryEntry) → IsHistoryOf calls workers past → (after calls workers (happenings past)).made ≡ made (happenings past)
made_there calls workers past means = ap (λ v. v.made) (after_agrees calls workers past means).view

-- the view of a history is that of the state to which it leads
pub view_there : (calls : List Planned) (workers : ℕ) (past : List HistoryEntry) → IsHistoryOf calls workers past → view_of_state calls (after calls workers (happenings past)) ≡ view_of_history calls past
view_there calls workers past means = (after_agrees calls workers past means).view

-- a happening that is answered so is taken, where the table shows the state after it
pub takes : (m new : TableView) (calls : List Planned) (past : List HistoryEntry) (y : Happening) (r : Reply) → IsHistoryOf calls (workers_of m) past → workers_of new ≡ workers_of m →
    reply_of calls (workers_of m) (after calls (workers_of m) (happenings past)) y ≡ r → Shows new (state_after calls (after calls (workers_of m) (happenings past)) y r) → Takes new calls past y r
takes m new calls past y r means width said shows =
    let w = workers_of m in
    let s = after calls w (happenings past) in
    let told : answer calls w past y ≡ r = sym (answers_alike calls w s past y (after_agrees calls w past means)) ∙ said in
    record {
      said = subst (λ n. answer calls n past y ≡ r) (sym width) told;
      shows = subst (λ n. Shows new (after calls n (y ∷ happenings past))) (sym width) (subst (λ q. Shows new (state_after calls s y q)) (sym said) shows);
    }

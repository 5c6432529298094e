-- Both answer by the table of answers, after one history.
use Rattle.std.proofs.Common.{◌≡◌, ◌∷◌, ◌++◌, length, sym, ap, ◌∙◌, subst}
use Rattle.executor_model.specs.Answers.{Reply}
use Rattle.executor_model.specs.Histories.{happenings, answer, entry_of, IsHistoryOf}
use Rattle.executor_model.specs.State.{after, next, reply_of}
use Rattle.executor_model.specs.Flows.{lines_at}
use Rattle.executor_model.proofs.Agree.{after_agrees, answers_alike}
use Rattle.task_table.specs.Tables as tables
use Rattle.executor_core.specs.CoreView.{workers_of, state_of}
use Rattle.executor_core.proofs.laws.live_and_plan_give_the_same_lines.Goals as goal

pub returns : goal.returns
returns c = λ m new core next_core past before lines y r alike took.
    let calls = core.calls in
    let w = workers_of core in
    let s = after calls w (happenings past) in
    let wide : length new.work ≡ w = took.workers ∙ alike.workers in
    let means : IsHistoryOf calls w past = subst (λ n. IsHistoryOf calls n past) alike.workers alike.live.means in
    let told : answer calls w past y ≡ r = subst (λ n. answer calls n past y ≡ r) wide took.live.said in
    let said : reply_of calls w (state_of core) y ≡ r = ap (λ z. reply_of calls w z y) alike.plan ∙ (answers_alike calls w s past y (after_agrees calls w past means) ∙ told) in
    let moment : (next calls w (state_of core) y).moment ≡ new.moment =
    ap (λ z. (next calls w z y).moment) alike.plan ∙ subst (λ n. (after calls n (y ∷ happenings past)).moment ≡ new.moment) wide took.live.shows.moment
    in
    let longer : IsHistoryOf calls w (entry_of y r ∷ past) = (means, took.comes, ap (λ (q : Reply). q.answer) (sym told), ap (λ (q : Reply). q.ends) (sym told)) in
    let live : tables.Stands new calls (entry_of y r ∷ past) = record { orderly = alike.live.orderly; means = subst (λ n. IsHistoryOf calls n (entry_of y r ∷ past)) (sym wide) longer; shows = took.live.shows } in
    let plan : state_of next_core ≡ after calls w (y ∷ happenings past) = took.plan.state ∙ ap (λ z. next calls w z y) alike.plan in
    record {
      reply = said;
      given = took.plan.lines ∙ (λ i. before ++ lines_at (moment i) (said i));
      stand = record {
        live = subst (λ cs. tables.Stands new cs (entry_of y r ∷ past)) (sym took.plan.calls) live;
        plan = plan ∙ (λ i. after (sym took.plan.calls i) (sym took.plan.workers i) (y ∷ happenings past));
        workers = wide ∙ sym took.plan.workers;
      };
    }

-- Of the calls that come later nothing is seen yet, so both tell of one history.
use Rattle.std.proofs.Common.{◌≡◌, ℕ, ◌≤◌, List, [], ◌∷◌, ◌++◌, length, sym, ap, ◌∙◌, arith, subst}
use Rattle.std.specs.List.{All}
use Rattle.std.proofs.lemmas.List.Elements.{All-nil, All-cons, All-head, All-tail}
use Rattle.queue_code.specs.Calls.{Planned, IsOrderly, submits_task, task_count}
use Rattle.executor_model.specs.Histories.{HistoryEntry, happenings, IsHistoryOf}
use Rattle.executor_model.specs.State.{after}
use Rattle.executor_model.specs.Flows.{lines_of}
use Rattle.executor_model.proofs.Flowing.{how_many-le, one_answer}
use Rattle.executor_laws.specs.Additions.{AllLookBelow, StandsFor}
use Rattle.executor_laws.proofs.Adding.{many_calls_may_be_added}
use Rattle.task_table.specs.Tables as tables
use Rattle.live_core.specs.Lives.{never}
use Rattle.live_core.proofs.Making.{all_look_higher}
use Rattle.executor_core.specs.CoreView as cores
use Rattle.live_plain.proofs.laws.a_live_executor_gives_the_lines_of_a_plan.Goals as goal

-- what looks at no call from the least moment on looks at none of these
none_seen : (earliest count more : ℕ) (past : List HistoryEntry) (later : List Planned) → count ≤ more → All (λ (p : Planned). earliest ≤ p.0) later → AllLookBelow earliest count never past →
    All (λ (p : Planned). AllLookBelow p.0 more never past) later
none_seen earliest count more past [] le late below = All-nil (λ (p : Planned). AllLookBelow p.0 more never past)
none_seen earliest count more past (p ∷ later) le late below =
    let here : earliest ≤ p.0 = All-head (λ (p : Planned). earliest ≤ p.0) p later late in
    let rest = All-tail (λ (p : Planned). earliest ≤ p.0) p later late in
    All-cons (λ (p : Planned). AllLookBelow p.0 more never past) p later (all_look_higher earliest p.0 count more never past here le below) (none_seen earliest count more past later le rest below)

pub returns : goal.returns
returns c = λ m core calls later past theirs had.
    let w = tables.workers_of m.table in
    let all = calls ++ later in
    let few : length all ≤ 65536 = subst (λ (cs : List Planned). length cs ≤ 65536) had.has had.planned.0 in
    let tasks : task_count all ≤ length all = how_many-le (λ (p : Planned). submits_task p.1) all in
    let for_all : StandsFor calls all w past = many_calls_may_be_added calls w past never later had.live.table.means (record {
      orderly = subst IsOrderly had.has had.planned.1;
      numbers = omega (arith, few, tasks);
      below = none_seen m.earliest m.count (task_count calls) past later (omega (arith, had.live.count)) had.ahead had.live.below;
    }) in
    let means : IsHistoryOf all w theirs = subst (λ (cs : List Planned). IsHistoryOf cs w theirs) had.has (subst (λ n. IsHistoryOf core.calls n theirs) (sym had.workers) had.means) in
    let one : past ≡ theirs = one_answer all w past theirs for_all.means means had.same in
    let there : after calls w (happenings past) ≡ cores.state_of core =
    sym for_all.state ∙ (ap (after all w) had.same ∙ (λ i. after (sym had.has i) (had.workers i) (happenings theirs)) ∙ sym had.plan)
    in
    record {
      answers = one;
      lines = sym for_all.lines ∙ (λ i. lines_of (sym had.has i) (one i));
      shows = subst (tables.Shows m.table) there had.live.table.shows;
    }

-- The steps of an event.
use Rattle.std.proofs.Common.{◌≡◌, ◌+◌, List, [], ◌∷◌, ◌++◌, sym, ap, ◌∙◌, subst}
use Rattle.executor_model.specs.declared.types.Event.{Event}
use Rattle.executor_model.specs.declared.types.Happening.{Happening}
use Rattle.executor_model.specs.declared.types.Answer.{Answer}
use Rattle.executor_model.specs.declared.types.Line.{Line}
use Rattle.queue_code.specs.Calls.{IsOrderly}
use Rattle.executor_model.specs.Histories.{HistoryEntry, IsHistoryOf}
use Rattle.executor_model.specs.Flows.{part_of, answer_line, lines_at}
use Rattle.executor_core.specs.CoreView.{CoreView, workers_of, Counts, Steps, Stands, Continues}
use Rattle.executor_core.specs.own.OwnSteps.{Takes}
use Rattle.executor_core.proofs.Continuing.{core_continues}

-- one step with its line
pub one_step : (old new : CoreView) (before lines : List Line) (happening : Happening) (answer : Answer) → Takes old new happening answer → lines ≡ before ++ answer_line new.moment answer ∷ [] →
    Steps old new before lines (happening ∷ [])
one_step old new before lines happening answer takes put = record {
  calls = takes.calls;
  limit = takes.limit;
  workers = takes.workers;
  state = takes.state;
  lines = put ∙ (λ i. before ++ lines_at (takes.state i).moment (sym takes.said i));
}

-- the steps of a core that counted an event before are those of the core before that
pub uncounted : (old counted new : CoreView) (before lines : List Line) (hs : List Happening) → Counts old counted → Steps counted new before lines hs → Steps old new before lines hs
uncounted old counted new before lines hs one steps =
    let there = subst (λ m. Steps m new before lines hs) one steps in
    record { calls = there.calls; limit = there.limit; workers = there.workers; state = there.state; lines = there.lines }

-- and it took one event
pub counted_once : (old counted new : CoreView) → Counts old counted → new.taken ≡ counted.taken → new.taken ≡ old.taken + 1
counted_once old counted new one taken = taken ∙ ap (λ (m : CoreView). m.taken) one

-- the steps of an event are those of each history in which the core stood
pub event_continues : (old inside new : CoreView) (before lines : List Line) (event : Event) → IsOrderly inside.calls → inside ≡ old → Steps old new before lines (part_of old.calls old.made old.moment event) →
    (past : List HistoryEntry) → IsHistoryOf old.calls (workers_of old) past → Stands old past → Continues old new before lines event past
event_continues old inside new before lines event orderly is steps past means stands =
    core_continues old new before lines event (subst (λ (m : CoreView). IsOrderly m.calls) is orderly) steps past means stands

use Rattle.std.proofs.Common.{[], ◌∷◌, sym, subst, List}
use Rattle.executor_model.specs.declared.types.Happening.{Happening}
use Rattle.executor_model.specs.Flows.{happening_of}
use Rattle.executor_core.specs.CoreView.{workers_of}
use Rattle.worker_pool.specs.own.Steps.{past_in, part_in, Completes}
use Rattle.worker_pool.proofs.Growing.{for_same, same_then, handles_then, passes_take, part_last}
use Rattle.worker_pool.proofs.desk.Desk.take.Goals as goal

pub returns-clause-took : goal.returns-clause-took
returns-clause-took g c =
    let first = c.args.self.now in
    let mid = c.make_calls.new.self in
    let new = c.take_last.new.self in
    let own = first.seat.view.own in
    let begun = past_in first.core first.happenings.items in
    let then = past_in mid.core mid.happenings.items in
    let end = past_in new.core new.happenings.items in
    let passed = c.make_calls.ensures.passed in
    let event = c.args.event in
    let part = part_last mid.core event (part_in first.core event) passed.0 passed.2 c.make_calls.ensures.comes in
    let plan = first.core.calls in
    let n = workers_of first.core in
    let y = happening_of event in
    let last = for_same (λ p m. Completes p m mid.seat.view.own new.seat.view.own then end (y ∷ [])) first.core mid.core c.make_calls.ensures.same c.take_last.ensures.took in
    subst (λ (hs : List Happening). Completes plan n own new.seat.view.own begun end hs) (sym part) (passes_take plan n y own mid.seat.view.own new.seat.view.own begun then end passed.0 passed.1 last)

pub returns-clause-same : goal.returns-clause-same
returns-clause-same g c = same_then c.args.self.now.core c.make_calls.new.self.core c.take_last.new.self.core c.make_calls.ensures.same c.take_last.ensures.same

pub returns-clause-handles : goal.returns-clause-handles
returns-clause-handles g c = handles_then c.args.self.now.seat.view c.make_calls.new.self.seat.view c.take_last.new.self.seat.view c.make_calls.ensures.handles c.take_last.ensures.handles

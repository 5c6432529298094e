-- The finish takes its step, or is answered by an error.
use Rattle.std.proofs.Common.{◌<◌, vec_capacity, refl, subst}
use Rattle.std.specs.Prelude.{IfOk, IfErr}
use Rattle.executor_model.specs.declared.types.Happening.TheVariants as h
use Rattle.task_table.specs.Runs.{IsFinishError}
use Rattle.live_core.specs.Lives.{LiveView, Happens, Stays}
use Rattle.live_core.specs.Events.{Fails, finish_reply}
use Rattle.live_core.proofs.Workers.{ended_given}
use Rattle.live_core.proofs.Occurring.{finish_happens, finish_fails, live_steps}
use Rattle.live_core.proofs.Leaving.{stays_left, always_on_ok}
use Rattle.live_core.proofs.executor.ScheduledExecutor.finish.Goals as goal

pub invariant_of-self : goal.invariant_of-self
invariant_of-self g c =
    let e = c.self.inside in
    let m : LiveView = record { table = e.table; count = e.count; accepted = e.accepted; earliest = e.earliest; ended = e.ended.items } in
    let r = c.end_run in
    live_steps m r.new.table c.clear.new.self.items e.notes.free e.notes.entries e.notes.slot_room (vec_capacity e.ended) r.new.notes.free r.new.notes.entries r.new.notes.slot_room (vec_capacity c.clear.new.self) c.self.invariant
    r.ensures.moment r.ensures.shut c.clear.ensures.capacity (r.ensures.noted e.count (vec_capacity e.ended) c.self.invariant.noted) (r.ensures.alive c.self.invariant.alive)

pub returns-clause-happens : goal.returns-clause-happens
returns-clause-happens g c =
    let e = c.self.inside in
    let m : LiveView = record { table = e.table; count = e.count; accepted = e.accepted; earliest = e.earliest; ended = e.ended.items } in
    let r = c.end_run in
    let new : LiveView = record m { table = r.new.table; ended = c.clear.new.self.items } in
    subst (λ (v : LiveView). IfOk r.result (λ e. Happens v new (h.Finish c.args.worker c.args.ending) (finish_reply c.args.worker e))) c.self.view_is
    (finish_happens m r.new.table c.clear.new.self.items c.args.worker c.args.ending r.result c.clear.ensures.items r.ensures.workers r.ensures.steps)

pub returns-clause-failed : goal.returns-clause-failed
returns-clause-failed g c =
    let e = c.self.inside in
    let m : LiveView = record { table = e.table; count = e.count; accepted = e.accepted; earliest = e.earliest; ended = e.ended.items } in
    let r = c.end_run in
    let new : LiveView = record m { table = r.new.table; ended = c.clear.new.self.items } in
    subst (λ (v : LiveView). IfErr r.result (λ error. IsFinishError v.table c.args.worker error × Fails v new (h.Finish c.args.worker c.args.ending) error)) c.self.view_is
    (finish_fails m r.new.table c.clear.new.self.items c.args.worker c.args.ending r.result c.clear.ensures.items r.ensures.unchanged r.ensures.failed)

pub returns-clause-stays : goal.returns-clause-stays
returns-clause-stays g c =
    let e = c.self.inside in
    let m : LiveView = record { table = e.table; count = e.count; accepted = e.accepted; earliest = e.earliest; ended = e.ended.items } in
    let r = c.end_run in
    let new : LiveView = record m { table = r.new.table; ended = c.clear.new.self.items } in
    always_on_ok r.result (subst (λ (v : LiveView). Stays v new v.count) c.self.view_is
    (stays_left m new r.new.notes.free r.new.notes.entries r.new.notes.slot_room (vec_capacity e.ended) r.ensures.workers refl r.ensures.leaves (r.ensures.noted e.count (vec_capacity e.ended) c.self.invariant.noted)
    (r.ensures.alive c.self.invariant.alive)))

pub returns-clause-given : goal.returns-clause-given
returns-clause-given g c =
    let e = c.self.inside in
    let r = c.end_run in
    subst (λ (v : LiveView). IfOk r.result (λ x. x.task.number < v.count)) c.self.view_is
    (ended_given e.table c.args.worker e.count r.result e.notes.free e.notes.entries e.notes.slot_room (vec_capacity e.ended) c.self.invariant.noted r.ensures.ran)

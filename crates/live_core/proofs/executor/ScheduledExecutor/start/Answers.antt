-- The start takes its step, or is answered by an error.
use Rattle.std.proofs.Common.{◌≡◌, ◌<◌, IfSome, vec_capacity, refl, subst}
use Rattle.executor_model.specs.declared.types.Happening.TheVariants as h
use Rattle.task_table.specs.Runs.{IsFree, IsFull, IsStartError}
use Rattle.task_table.proofs.Clocks.{start_refused}
use Rattle.live_core.specs.Lives.{LiveView, Happens, Stays}
use Rattle.live_core.specs.Events.{Fails, WouldPassLimit, start_reply}
use Rattle.live_core.proofs.Limited.{would_pass}
use Rattle.live_core.proofs.Workers.{begun_given}
use Rattle.live_core.proofs.Occurring.{happens_there, fails_there, live_steps}
use Rattle.live_core.proofs.Leaving.{stays_left}
use Rattle.live_core.proofs.executor.ScheduledExecutor.start.Goals as goal

pub returns-in-Some-clause-failed : goal.returns-in-Some-clause-failed
returns-in-Some-clause-failed g c =
    let e = c.self.inside in
    let m : LiveView = record { table = e.table; count = e.count; accepted = e.accepted; earliest = e.earliest; ended = e.ended.items } in
    let new : LiveView = record m { ended = c.clear.new.self.items } in
    let error = c.in-Some.error in
    subst (λ (v : LiveView). IsStartError v.table c.args.worker error × Fails v new (h.Start c.args.worker) error) c.self.view_is
    (c.in-Some.ensures.refused, fails_there m e.table c.clear.new.self.items (h.Start c.args.worker) error refl refl tt c.clear.ensures.items refl (start_refused e.table c.args.worker error c.in-Some.ensures.refused))

pub invariant_of-self-2 : goal.invariant_of-self-2
invariant_of-self-2 g c =
    let e = c.self.inside in
    let m : LiveView = record { table = e.table; count = e.count; accepted = e.accepted; earliest = e.earliest; ended = e.ended.items } in
    let b = c.begin_run in
    live_steps m b.new.table c.clear-2.new.self.items e.notes.free e.notes.entries e.notes.slot_room (vec_capacity e.ended) b.new.notes.free b.new.notes.entries b.new.notes.slot_room (vec_capacity c.clear-2.new.self) c.self.invariant
    b.ensures.moment b.ensures.shut c.clear-2.ensures.capacity (b.ensures.noted e.count (vec_capacity e.ended) c.self.invariant.noted) (b.ensures.alive c.self.invariant.alive)

pub returns-clause-happens : goal.returns-clause-happens
returns-clause-happens g c =
    let e = c.self.inside in
    let m : LiveView = record { table = e.table; count = e.count; accepted = e.accepted; earliest = e.earliest; ended = e.ended.items } in
    let b = c.begin_run in
    let new : LiveView = record m { table = b.new.table; ended = c.clear-2.new.self.items } in
    subst (λ (v : LiveView). Happens v new (h.Start c.args.worker) (start_reply c.args.worker b.result)) c.self.view_is
    (happens_there m b.new.table c.clear-2.new.self.items (h.Start c.args.worker) (start_reply c.args.worker b.result) refl refl tt c.clear-2.ensures.items b.ensures.workers b.ensures.steps)

pub returns-then-is_spent-clause-failed : goal.returns-then-is_spent-clause-failed
returns-then-is_spent-clause-failed g c =
    let e = c.self.inside in
    let m : LiveView = record { table = e.table; count = e.count; accepted = e.accepted; earliest = e.earliest; ended = e.ended.items } in
    let worker = c.args.worker in
    let free : IsFree m.table worker = c.in_default.ensures.free in
    let full : IsFull m.table = c.is_spent.ensures.spent c.if-is_spent.true in
    subst (λ (v : LiveView). IsFree v.table worker × IsFull v.table × WouldPassLimit v worker × (v ≡ v)) c.self.view_is (free, full, would_pass m worker free full, refl)

pub returns-clause-stays : goal.returns-clause-stays
returns-clause-stays g c =
    let e = c.self.inside in
    let m : LiveView = record { table = e.table; count = e.count; accepted = e.accepted; earliest = e.earliest; ended = e.ended.items } in
    let b = c.begin_run in
    let new : LiveView = record m { table = b.new.table; ended = c.clear-2.new.self.items } in
    subst (λ (v : LiveView). Stays v new v.count) c.self.view_is
    (stays_left m new b.new.notes.free b.new.notes.entries b.new.notes.slot_room (vec_capacity e.ended) b.ensures.workers refl b.ensures.leaves (b.ensures.noted e.count (vec_capacity e.ended) c.self.invariant.noted)
    (b.ensures.alive c.self.invariant.alive))

pub returns-clause-given : goal.returns-clause-given
returns-clause-given g c =
    let e = c.self.inside in
    let b = c.begin_run in
    subst (λ (v : LiveView). IfSome b.result (λ r. r.task.number < v.count)) c.self.view_is
    (begun_given b.new.table c.args.worker e.count b.result b.new.notes.free b.new.notes.entries b.new.notes.slot_room (vec_capacity e.ended) (b.ensures.noted e.count (vec_capacity e.ended) c.self.invariant.noted) b.ensures.runs)

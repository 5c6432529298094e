-- A cancel from outside.
use Rattle.std.proofs.Common.{◌≡◌, ◌+◌, length, sym, ap, ◌∙◌, subst}
use Rattle.executor_model.specs.declared.types.Happening.TheVariants as h
use Rattle.executor_model.specs.declared.types.Answer.TheVariants as a
use Rattle.executor_model.specs.declared.types.CancelEffect.TheVariants as ef
use Rattle.executor_model.specs.Tasks.{uncancelled_in}
use Rattle.task_table.specs.Seats.{slot_of}
use Rattle.task_table.specs.Tables.{TableView}
use Rattle.executor_core.specs.plan_table.Numbered.{tasks_at}
use Rattle.executor_core.specs.CoreView.{CoreView}
use Rattle.executor_core.specs.own.Invariants.{core_of}
use Rattle.executor_core.specs.own.OwnSteps.{Takes}
use Rattle.executor_core.proofs.Cancelling.{outside, there_is, cancel_size, cancel_fewer}
use Rattle.executor_core.proofs.machine.Core.answer_cancel.Goals as goal

pub invariant_of-self : goal.invariant_of-self
invariant_of-self g c =
    let m = c.self.inside in
    let f = c.self.invariant in
    let k = c.args.task in
    let seat = there_is (slot_of m.table.slots k) c.seat.result c.is_none.result c.seat.ensures c.is_none.ensures c.if-is_none.false in
    let x = seat.0 in
    let did = c.cancel-effect.ensures in
    (outside m.calls.items m.limit m.taken m.calls.made m.table c.cancel-effect.new.self m.sought k c.cancel-effect.result x f seat.1 (did.slots x seat.1) (did.steps x seat.1)).1

pub returns-clause-step : goal.returns-clause-step
returns-clause-step g c =
    let m = c.self.inside in
    let f = c.self.invariant in
    let k = c.args.task in
    let seat = there_is (slot_of m.table.slots k) c.seat.result c.is_none.result c.seat.ensures c.is_none.ensures c.if-is_none.false in
    let x = seat.0 in
    let did = c.cancel-effect.ensures in
    subst (λ (y : CoreView). Takes y (core_of m.calls.items m.limit m.taken m.calls.made c.cancel-effect.new.self) (h.Cancel k) (a.Outside k c.cancel-effect.result)) c.self.view_is
    (outside m.calls.items m.limit m.taken m.calls.made m.table c.cancel-effect.new.self m.sought k c.cancel-effect.result x f seat.1 (did.slots x seat.1) (did.steps x seat.1)).0

pub returns-clause-size : goal.returns-clause-size
returns-clause-size g c =
    let m = c.self.inside in
    let f = c.self.invariant in
    let k = c.args.task in
    let seat = there_is (slot_of m.table.slots k) c.seat.result c.is_none.result c.seat.ensures c.is_none.ensures c.if-is_none.false in
    let x = seat.0 in
    let did = c.cancel-effect.ensures in
    ap (λ (v : TableView). length (tasks_at v.slots)) (did.slots x seat.1) ∙ (cancel_size m.taken m.table k x seat.1 f.placed ∙ ap (λ (y : CoreView). length y.tasks) c.self.view_is)

pub returns-clause-fewer : goal.returns-clause-fewer
returns-clause-fewer g c =
    let m = c.self.inside in
    let f = c.self.invariant in
    let k = c.args.task in
    let seat = there_is (slot_of m.table.slots k) c.seat.result c.is_none.result c.seat.ensures c.is_none.ensures c.if-is_none.false in
    let x = seat.0 in
    let did = c.cancel-effect.ensures in
    λ q.
    let yes : c.cancel-effect.result ≡ ef.Yes = cc in
    let fewer = cancel_fewer m.table k x seat.1 (sym (did.effect x seat.1) ∙ yes) in
    ap (λ (v : TableView). uncancelled_in (tasks_at v.slots) + 1) (did.slots x seat.1) ∙ (fewer ∙ ap (λ (y : CoreView). uncancelled_in y.tasks) c.self.view_is)

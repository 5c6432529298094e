-- A cancel of the plan.
use Rattle.std.proofs.Common.{◌≡◌, ◌+◌, ◌≤◌, Some, sym, ap, ◌∙◌, subst}
use Rattle.std.specs.Prelude.{slice_get}
use Rattle.queue_code.specs.declared.call.CodeCall.TheVariants as call
use Rattle.executor_model.specs.declared.types.Happening.TheVariants as h
use Rattle.executor_model.specs.declared.types.Answer.TheVariants as a
use Rattle.executor_model.specs.declared.types.CancelEffect.TheVariants as ef
use Rattle.executor_model.specs.Tasks.{uncancelled_in}
use Rattle.task_table.specs.Seats.{slot_of}
use Rattle.executor_core.specs.plan_table.Numbered.{tasks_at}
use Rattle.executor_core.specs.CoreView.{CoreView}
use Rattle.executor_core.specs.own.Invariants.{core_of}
use Rattle.executor_core.specs.own.OwnSteps.{Takes}
use Rattle.executor_core.proofs.NextCalls.{next_call}
use Rattle.executor_core.proofs.Cancelling.{there_is, none_is, call_cancels, call_cancels_none}
use Rattle.executor_core.proofs.machine.Core.cancel_by_plan.Goals as goal

pub cancel_by_call-effect-requires-clause-moment : goal.cancel_by_call-effect-requires-clause-moment
cancel_by_call-effect-requires-clause-moment g c =
    let m = c.self.inside in
    let f = c.self.invariant in
    let at = c.pass-at.result in
    let there : slice_get m.calls.items m.calls.made ≡ Some (c.requires.0, call.Cancel c.args.task) = ap (λ x. slice_get x.calls x.made) c.self.view_is ∙ c.requires.1 in
    let is : slice_get m.calls.items m.calls.made ≡ Some (at, call.Cancel c.args.task) = there ∙ ap (λ n. Some (n, call.Cancel c.args.task)) (sym (c.pass-at.ensures.moment (c.requires.0, call.Cancel c.args.task) there)) in
    let n = next_call m.calls.items m.limit m.taken m.calls.made m.table m.sought at (call.Cancel c.args.task) f is in
    n.ahead

pub cancel_by_call-effect-requires-clause-limit : goal.cancel_by_call-effect-requires-clause-limit
cancel_by_call-effect-requires-clause-limit g c =
    let m = c.self.inside in
    let f = c.self.invariant in
    let at = c.pass-at.result in
    let there : slice_get m.calls.items m.calls.made ≡ Some (c.requires.0, call.Cancel c.args.task) = ap (λ x. slice_get x.calls x.made) c.self.view_is ∙ c.requires.1 in
    let is : slice_get m.calls.items m.calls.made ≡ Some (at, call.Cancel c.args.task) = there ∙ ap (λ n. Some (n, call.Cancel c.args.task)) (sym (c.pass-at.ensures.moment (c.requires.0, call.Cancel c.args.task) there)) in
    let n = next_call m.calls.items m.limit m.taken m.calls.made m.table m.sought at (call.Cancel c.args.task) f is in
    n.limit

pub pass-requires-clause-moment : goal.pass-requires-clause-moment
pass-requires-clause-moment g c =
    let m = c.self.inside in
    let f = c.self.invariant in
    let at = c.pass-at.result in
    let there : slice_get m.calls.items m.calls.made ≡ Some (c.requires.0, call.Cancel c.args.task) = ap (λ x. slice_get x.calls x.made) c.self.view_is ∙ c.requires.1 in
    let is : slice_get m.calls.items m.calls.made ≡ Some (at, call.Cancel c.args.task) = there ∙ ap (λ n. Some (n, call.Cancel c.args.task)) (sym (c.pass-at.ensures.moment (c.requires.0, call.Cancel c.args.task) there)) in
    let n = next_call m.calls.items m.limit m.taken m.calls.made m.table m.sought at (call.Cancel c.args.task) f is in
    n.ahead

pub pass-requires-clause-limit : goal.pass-requires-clause-limit
pass-requires-clause-limit g c =
    let m = c.self.inside in
    let f = c.self.invariant in
    let at = c.pass-at.result in
    let there : slice_get m.calls.items m.calls.made ≡ Some (c.requires.0, call.Cancel c.args.task) = ap (λ x. slice_get x.calls x.made) c.self.view_is ∙ c.requires.1 in
    let is : slice_get m.calls.items m.calls.made ≡ Some (at, call.Cancel c.args.task) = there ∙ ap (λ n. Some (n, call.Cancel c.args.task)) (sym (c.pass-at.ensures.moment (c.requires.0, call.Cancel c.args.task) there)) in
    let n = next_call m.calls.items m.limit m.taken m.calls.made m.table m.sought at (call.Cancel c.args.task) f is in
    n.limit

pub invariant_of-self : goal.invariant_of-self
invariant_of-self g c =
    let m = c.self.inside in
    let f = c.self.invariant in
    let at = c.pass-at.result in
    let there : slice_get m.calls.items m.calls.made ≡ Some (c.requires.0, call.Cancel c.args.task) = ap (λ x. slice_get x.calls x.made) c.self.view_is ∙ c.requires.1 in
    let is : slice_get m.calls.items m.calls.made ≡ Some (at, call.Cancel c.args.task) = there ∙ ap (λ n. Some (n, call.Cancel c.args.task)) (sym (c.pass-at.ensures.moment (c.requires.0, call.Cancel c.args.task) there)) in
    let n = next_call m.calls.items m.limit m.taken m.calls.made m.table m.sought at (call.Cancel c.args.task) f is in
    let empty = none_is (slot_of m.table.slots c.args.task) c.seat.result c.is_none.result c.seat.ensures c.is_none.ensures c.if-is_none.true in
    rw c.pass-at.ensures.passed (call_cancels_none m.calls.items m.limit m.taken m.calls.made m.table c.pass.new.self m.sought at c.args.task f n empty c.pass.ensures.slots c.pass.ensures.gone).core

pub invariant_of-self-2 : goal.invariant_of-self-2
invariant_of-self-2 g c =
    let m = c.self.inside in
    let f = c.self.invariant in
    let at = c.pass-at.result in
    let there : slice_get m.calls.items m.calls.made ≡ Some (c.requires.0, call.Cancel c.args.task) = ap (λ x. slice_get x.calls x.made) c.self.view_is ∙ c.requires.1 in
    let is : slice_get m.calls.items m.calls.made ≡ Some (at, call.Cancel c.args.task) = there ∙ ap (λ n. Some (n, call.Cancel c.args.task)) (sym (c.pass-at.ensures.moment (c.requires.0, call.Cancel c.args.task) there)) in
    let n = next_call m.calls.items m.limit m.taken m.calls.made m.table m.sought at (call.Cancel c.args.task) f is in
    let seat = there_is (slot_of m.table.slots c.args.task) c.seat.result c.is_none.result c.seat.ensures c.is_none.ensures c.if-is_none.false in
    let x = seat.0 in
    let did = c.cancel_by_call-effect.ensures in
    rw c.pass-at.ensures.passed (call_cancels m.calls.items m.limit m.taken m.calls.made m.table c.cancel_by_call-effect.new.self m.sought at c.args.task c.cancel_by_call-effect.result x f n seat.1 (did.slots x seat.1) (did.steps x seat.1)).core

pub returns-then-is_none-clause-step : goal.returns-then-is_none-clause-step
returns-then-is_none-clause-step g c =
    let m = c.self.inside in
    let f = c.self.invariant in
    let at = c.pass-at.result in
    let there : slice_get m.calls.items m.calls.made ≡ Some (c.requires.0, call.Cancel c.args.task) = ap (λ x. slice_get x.calls x.made) c.self.view_is ∙ c.requires.1 in
    let is : slice_get m.calls.items m.calls.made ≡ Some (at, call.Cancel c.args.task) = there ∙ ap (λ n. Some (n, call.Cancel c.args.task)) (sym (c.pass-at.ensures.moment (c.requires.0, call.Cancel c.args.task) there)) in
    let n = next_call m.calls.items m.limit m.taken m.calls.made m.table m.sought at (call.Cancel c.args.task) f is in
    let empty = none_is (slot_of m.table.slots c.args.task) c.seat.result c.is_none.result c.seat.ensures c.is_none.ensures c.if-is_none.true in
    rw c.pass-at.ensures.passed (subst (λ (y : CoreView). Takes y (core_of m.calls.items m.limit m.taken (m.calls.made + 1) c.pass.new.self) h.Call (a.Cancel c.args.task ef.Absent)) c.self.view_is (call_cancels_none m.calls.items m.limit m.taken m.calls.made m.table c.pass.new.self m.sought at c.args.task f n empty c.pass.ensures.slots c.pass.ensures.gone).takes)

pub returns-clause-step : goal.returns-clause-step
returns-clause-step g c =
    let m = c.self.inside in
    let f = c.self.invariant in
    let at = c.pass-at.result in
    let there : slice_get m.calls.items m.calls.made ≡ Some (c.requires.0, call.Cancel c.args.task) = ap (λ x. slice_get x.calls x.made) c.self.view_is ∙ c.requires.1 in
    let is : slice_get m.calls.items m.calls.made ≡ Some (at, call.Cancel c.args.task) = there ∙ ap (λ n. Some (n, call.Cancel c.args.task)) (sym (c.pass-at.ensures.moment (c.requires.0, call.Cancel c.args.task) there)) in
    let n = next_call m.calls.items m.limit m.taken m.calls.made m.table m.sought at (call.Cancel c.args.task) f is in
    let seat = there_is (slot_of m.table.slots c.args.task) c.seat.result c.is_none.result c.seat.ensures c.is_none.ensures c.if-is_none.false in
    let x = seat.0 in
    let did = c.cancel_by_call-effect.ensures in
    rw c.pass-at.ensures.passed (subst (λ (y : CoreView). Takes y (core_of m.calls.items m.limit m.taken (m.calls.made + 1) c.cancel_by_call-effect.new.self) h.Call (a.Cancel c.args.task c.cancel_by_call-effect.result)) c.self.view_is (call_cancels m.calls.items m.limit m.taken m.calls.made m.table c.cancel_by_call-effect.new.self m.sought at c.args.task c.cancel_by_call-effect.result x f n seat.1 (did.slots x seat.1) (did.steps x seat.1)).takes)

pub returns-then-is_none-clause-uncancelled : goal.returns-then-is_none-clause-uncancelled
returns-then-is_none-clause-uncancelled g c =
    let m = c.self.inside in
    let f = c.self.invariant in
    let at = c.pass-at.result in
    let there : slice_get m.calls.items m.calls.made ≡ Some (c.requires.0, call.Cancel c.args.task) = ap (λ x. slice_get x.calls x.made) c.self.view_is ∙ c.requires.1 in
    let is : slice_get m.calls.items m.calls.made ≡ Some (at, call.Cancel c.args.task) = there ∙ ap (λ n. Some (n, call.Cancel c.args.task)) (sym (c.pass-at.ensures.moment (c.requires.0, call.Cancel c.args.task) there)) in
    let n = next_call m.calls.items m.limit m.taken m.calls.made m.table m.sought at (call.Cancel c.args.task) f is in
    let empty = none_is (slot_of m.table.slots c.args.task) c.seat.result c.is_none.result c.seat.ensures c.is_none.ensures c.if-is_none.true in
    subst (λ (y : CoreView). uncancelled_in (tasks_at c.pass.new.self.slots) ≤ uncancelled_in y.tasks) c.self.view_is (call_cancels_none m.calls.items m.limit m.taken m.calls.made m.table c.pass.new.self m.sought at c.args.task f n empty c.pass.ensures.slots c.pass.ensures.gone).fewer

pub returns-clause-uncancelled : goal.returns-clause-uncancelled
returns-clause-uncancelled g c =
    let m = c.self.inside in
    let f = c.self.invariant in
    let at = c.pass-at.result in
    let there : slice_get m.calls.items m.calls.made ≡ Some (c.requires.0, call.Cancel c.args.task) = ap (λ x. slice_get x.calls x.made) c.self.view_is ∙ c.requires.1 in
    let is : slice_get m.calls.items m.calls.made ≡ Some (at, call.Cancel c.args.task) = there ∙ ap (λ n. Some (n, call.Cancel c.args.task)) (sym (c.pass-at.ensures.moment (c.requires.0, call.Cancel c.args.task) there)) in
    let n = next_call m.calls.items m.limit m.taken m.calls.made m.table m.sought at (call.Cancel c.args.task) f is in
    let seat = there_is (slot_of m.table.slots c.args.task) c.seat.result c.is_none.result c.seat.ensures c.is_none.ensures c.if-is_none.false in
    let x = seat.0 in
    let did = c.cancel_by_call-effect.ensures in
    subst (λ (y : CoreView). uncancelled_in (tasks_at c.cancel_by_call-effect.new.self.slots) ≤ uncancelled_in y.tasks) c.self.view_is (call_cancels m.calls.items m.limit m.taken m.calls.made m.table c.cancel_by_call-effect.new.self m.sought at c.args.task c.cancel_by_call-effect.result x f n seat.1 (did.slots x seat.1) (did.steps x seat.1)).fewer

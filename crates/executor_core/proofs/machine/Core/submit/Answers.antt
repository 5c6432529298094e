-- The submission of a task, accepted or refused.
use Rattle.std.proofs.Common.{◌≡◌, ◌+◌, ◌≤◌, Some, sym, ap, ◌∙◌, subst}
use Rattle.std.specs.Prelude.{slice_get}
use Rattle.queue_code.specs.declared.call.CodeCall.TheVariants as call
use Rattle.std.proofs.lemmas.Bool.{eq-eqb}
use Rattle.executor_model.specs.declared.types.Happening.TheVariants as h
use Rattle.executor_model.specs.declared.types.Answer.TheVariants as a
use Rattle.executor_model.specs.declared.types.Refusal.TheVariants as refusal
use Rattle.executor_model.specs.Answers.{bare, kind_of}
use Rattle.executor_model.specs.Tasks.{uncancelled_in}
use Rattle.task_table.specs.Seats.{IsNew}
use Rattle.task_table.specs.Tables.{CallSteps}
use Rattle.task_table.specs.Changes.{admitted}
use Rattle.executor_core.specs.plan_table.Numbered.{tasks_at}
use Rattle.executor_core.specs.CoreView.{CoreView}
use Rattle.executor_core.specs.own.Invariants.{core_of}
use Rattle.executor_core.specs.own.OwnSteps.{Takes}
use Rattle.executor_core.proofs.NextCalls.{next_call}
use Rattle.executor_core.proofs.Submits.{submits, accepts, refuses}
use Rattle.executor_core.proofs.machine.Core.submit.Goals as goal

pub refuse-requires-clause-moment : goal.refuse-requires-clause-moment
refuse-requires-clause-moment g c =
    let m = c.self.inside in
    let f = c.self.invariant in
    let is : slice_get m.calls.items m.calls.made ≡ Some (c.args.moment, call.Submit c.args.task c.args.timing c.args.delay) = ap (λ x. slice_get x.calls x.made) c.self.view_is ∙ c.requires in
    let n = next_call m.calls.items m.limit m.taken m.calls.made m.table m.sought c.args.moment (call.Submit c.args.task c.args.timing c.args.delay) f is in
    let s = submits m.calls.items m.limit m.taken m.calls.made m.table m.sought c.args.moment c.args.task c.args.delay c.args.timing f is in
    n.ahead

pub refuse-requires-clause-limit : goal.refuse-requires-clause-limit
refuse-requires-clause-limit g c =
    let m = c.self.inside in
    let f = c.self.invariant in
    let is : slice_get m.calls.items m.calls.made ≡ Some (c.args.moment, call.Submit c.args.task c.args.timing c.args.delay) = ap (λ x. slice_get x.calls x.made) c.self.view_is ∙ c.requires in
    let n = next_call m.calls.items m.limit m.taken m.calls.made m.table m.sought c.args.moment (call.Submit c.args.task c.args.timing c.args.delay) f is in
    let s = submits m.calls.items m.limit m.taken m.calls.made m.table m.sought c.args.moment c.args.task c.args.delay c.args.timing f is in
    n.limit

pub admit-due-requires-clause-slot : goal.admit-due-requires-clause-slot
admit-due-requires-clause-slot g c =
    let m = c.self.inside in
    let f = c.self.invariant in
    let is : slice_get m.calls.items m.calls.made ≡ Some (c.args.moment, call.Submit c.args.task c.args.timing c.args.delay) = ap (λ x. slice_get x.calls x.made) c.self.view_is ∙ c.requires in
    let n = next_call m.calls.items m.limit m.taken m.calls.made m.table m.sought c.args.moment (call.Submit c.args.task c.args.timing c.args.delay) f is in
    let s = submits m.calls.items m.limit m.taken m.calls.made m.table m.sought c.args.moment c.args.task c.args.delay c.args.timing f is in
    s.low

pub admit-due-requires-clause-empty : goal.admit-due-requires-clause-empty
admit-due-requires-clause-empty g c =
    let m = c.self.inside in
    let f = c.self.invariant in
    let is : slice_get m.calls.items m.calls.made ≡ Some (c.args.moment, call.Submit c.args.task c.args.timing c.args.delay) = ap (λ x. slice_get x.calls x.made) c.self.view_is ∙ c.requires in
    let n = next_call m.calls.items m.limit m.taken m.calls.made m.table m.sought c.args.moment (call.Submit c.args.task c.args.timing c.args.delay) f is in
    let s = submits m.calls.items m.limit m.taken m.calls.made m.table m.sought c.args.moment c.args.task c.args.delay c.args.timing f is in
    s.empty

pub admit-due-requires-clause-number : goal.admit-due-requires-clause-number
admit-due-requires-clause-number g c =
    let m = c.self.inside in
    let f = c.self.invariant in
    let is : slice_get m.calls.items m.calls.made ≡ Some (c.args.moment, call.Submit c.args.task c.args.timing c.args.delay) = ap (λ x. slice_get x.calls x.made) c.self.view_is ∙ c.requires in
    let n = next_call m.calls.items m.limit m.taken m.calls.made m.table m.sought c.args.moment (call.Submit c.args.task c.args.timing c.args.delay) f is in
    let s = submits m.calls.items m.limit m.taken m.calls.made m.table m.sought c.args.moment c.args.task c.args.delay c.args.timing f is in
    subst (λ k. IsNew m.table.slots k) (sym c.from.ensures) s.new

pub admit-due-requires-clause-admits : goal.admit-due-requires-clause-admits
admit-due-requires-clause-admits g c =
    let m = c.self.inside in
    let f = c.self.invariant in
    let is : slice_get m.calls.items m.calls.made ≡ Some (c.args.moment, call.Submit c.args.task c.args.timing c.args.delay) = ap (λ x. slice_get x.calls x.made) c.self.view_is ∙ c.requires in
    let n = next_call m.calls.items m.limit m.taken m.calls.made m.table m.sought c.args.moment (call.Submit c.args.task c.args.timing c.args.delay) f is in
    let s = submits m.calls.items m.limit m.taken m.calls.made m.table m.sought c.args.moment c.args.task c.args.delay c.args.timing f is in
    (eq-eqb c.args.task c.from.result (sym c.from.ensures), eq-eqb c.args.task c.from.result (sym c.from.ensures))

pub admit-due-requires-clause-moment : goal.admit-due-requires-clause-moment
admit-due-requires-clause-moment g c =
    let m = c.self.inside in
    let f = c.self.invariant in
    let is : slice_get m.calls.items m.calls.made ≡ Some (c.args.moment, call.Submit c.args.task c.args.timing c.args.delay) = ap (λ x. slice_get x.calls x.made) c.self.view_is ∙ c.requires in
    let n = next_call m.calls.items m.limit m.taken m.calls.made m.table m.sought c.args.moment (call.Submit c.args.task c.args.timing c.args.delay) f is in
    let s = submits m.calls.items m.limit m.taken m.calls.made m.table m.sought c.args.moment c.args.task c.args.delay c.args.timing f is in
    n.ahead

pub admit-due-requires-clause-limit : goal.admit-due-requires-clause-limit
admit-due-requires-clause-limit g c =
    let m = c.self.inside in
    let f = c.self.invariant in
    let is : slice_get m.calls.items m.calls.made ≡ Some (c.args.moment, call.Submit c.args.task c.args.timing c.args.delay) = ap (λ x. slice_get x.calls x.made) c.self.view_is ∙ c.requires in
    let n = next_call m.calls.items m.limit m.taken m.calls.made m.table m.sought c.args.moment (call.Submit c.args.task c.args.timing c.args.delay) f is in
    let s = submits m.calls.items m.limit m.taken m.calls.made m.table m.sought c.args.moment c.args.task c.args.delay c.args.timing f is in
    n.limit

pub admit-due-requires-clause-spans : goal.admit-due-requires-clause-spans
admit-due-requires-clause-spans g c =
    let m = c.self.inside in
    let f = c.self.invariant in
    let is : slice_get m.calls.items m.calls.made ≡ Some (c.args.moment, call.Submit c.args.task c.args.timing c.args.delay) = ap (λ x. slice_get x.calls x.made) c.self.view_is ∙ c.requires in
    let n = next_call m.calls.items m.limit m.taken m.calls.made m.table m.sought c.args.moment (call.Submit c.args.task c.args.timing c.args.delay) f is in
    let s = submits m.calls.items m.limit m.taken m.calls.made m.table m.sought c.args.moment c.args.task c.args.delay c.args.timing f is in
    (s.span, s.timed)

pub invariant_of-self : goal.invariant_of-self
invariant_of-self g c =
    let m = c.self.inside in
    let f = c.self.invariant in
    let is : slice_get m.calls.items m.calls.made ≡ Some (c.args.moment, call.Submit c.args.task c.args.timing c.args.delay) = ap (λ x. slice_get x.calls x.made) c.self.view_is ∙ c.requires in
    let n = next_call m.calls.items m.limit m.taken m.calls.made m.table m.sought c.args.moment (call.Submit c.args.task c.args.timing c.args.delay) f is in
    let s = submits m.calls.items m.limit m.taken m.calls.made m.table m.sought c.args.moment c.args.task c.args.delay c.args.timing f is in
    rw c.pass.ensures.passed (refuses m.calls.items m.limit m.taken m.calls.made m.table c.refuse.new.self m.sought c.args.moment c.args.task c.args.delay c.args.timing f n c.refuse.ensures.slots c.refuse.ensures.steps).core

pub invariant_of-self-2 : goal.invariant_of-self-2
invariant_of-self-2 g c =
    let m = c.self.inside in
    let f = c.self.invariant in
    let is : slice_get m.calls.items m.calls.made ≡ Some (c.args.moment, call.Submit c.args.task c.args.timing c.args.delay) = ap (λ x. slice_get x.calls x.made) c.self.view_is ∙ c.requires in
    let n = next_call m.calls.items m.limit m.taken m.calls.made m.table m.sought c.args.moment (call.Submit c.args.task c.args.timing c.args.delay) f is in
    let s = submits m.calls.items m.limit m.taken m.calls.made m.table m.sought c.args.moment c.args.task c.args.delay c.args.timing f is in
    let slots = subst (λ k. c.admit-due.new.self ≡ admitted m.table c.args.task k c.args.moment c.args.timing c.args.delay) c.from.ensures c.admit-due.ensures.slots in
    let steps = subst (λ k. CallSteps m.table c.admit-due.new.self (c.args.moment, call.Submit k c.args.timing c.args.delay) (bare (a.Submit k (kind_of c.args.timing) c.admit-due.result))) c.from.ensures c.admit-due.ensures.steps in
    rw c.pass.ensures.passed (accepts m.calls.items m.limit m.taken m.calls.made m.table c.admit-due.new.self m.sought c.args.moment c.args.task c.args.delay c.admit-due.result c.args.timing f n s slots steps).core

pub returns-then-is_shut-clause-step : goal.returns-then-is_shut-clause-step
returns-then-is_shut-clause-step g c =
    let m = c.self.inside in
    let f = c.self.invariant in
    let is : slice_get m.calls.items m.calls.made ≡ Some (c.args.moment, call.Submit c.args.task c.args.timing c.args.delay) = ap (λ x. slice_get x.calls x.made) c.self.view_is ∙ c.requires in
    let n = next_call m.calls.items m.limit m.taken m.calls.made m.table m.sought c.args.moment (call.Submit c.args.task c.args.timing c.args.delay) f is in
    let s = submits m.calls.items m.limit m.taken m.calls.made m.table m.sought c.args.moment c.args.task c.args.delay c.args.timing f is in
    rw c.pass.ensures.passed (subst (λ (x : CoreView). Takes x (core_of m.calls.items m.limit m.taken (m.calls.made + 1) c.refuse.new.self) h.Call (a.Refuse c.args.task refusal.Rejected)) c.self.view_is (refuses m.calls.items m.limit m.taken m.calls.made m.table c.refuse.new.self m.sought c.args.moment c.args.task c.args.delay c.args.timing f n c.refuse.ensures.slots c.refuse.ensures.steps).takes)

pub returns-clause-step : goal.returns-clause-step
returns-clause-step g c =
    let m = c.self.inside in
    let f = c.self.invariant in
    let is : slice_get m.calls.items m.calls.made ≡ Some (c.args.moment, call.Submit c.args.task c.args.timing c.args.delay) = ap (λ x. slice_get x.calls x.made) c.self.view_is ∙ c.requires in
    let n = next_call m.calls.items m.limit m.taken m.calls.made m.table m.sought c.args.moment (call.Submit c.args.task c.args.timing c.args.delay) f is in
    let s = submits m.calls.items m.limit m.taken m.calls.made m.table m.sought c.args.moment c.args.task c.args.delay c.args.timing f is in
    let slots = subst (λ k. c.admit-due.new.self ≡ admitted m.table c.args.task k c.args.moment c.args.timing c.args.delay) c.from.ensures c.admit-due.ensures.slots in
    let steps = subst (λ k. CallSteps m.table c.admit-due.new.self (c.args.moment, call.Submit k c.args.timing c.args.delay) (bare (a.Submit k (kind_of c.args.timing) c.admit-due.result))) c.from.ensures c.admit-due.ensures.steps in
    let takes : Takes (core_of m.calls.items m.limit m.taken m.calls.made m.table) (core_of m.calls.items m.limit m.taken (m.calls.made + 1) c.admit-due.new.self) h.Call (a.Submit c.args.task c.kind_of-kind.result c.admit-due.result) =
    subst (λ k. Takes (core_of m.calls.items m.limit m.taken m.calls.made m.table) (core_of m.calls.items m.limit m.taken (m.calls.made + 1) c.admit-due.new.self) h.Call (a.Submit c.args.task k c.admit-due.result)) (sym c.kind_of-kind.ensures) (accepts m.calls.items m.limit m.taken m.calls.made m.table c.admit-due.new.self m.sought c.args.moment c.args.task c.args.delay c.admit-due.result c.args.timing f n s slots steps).takes
    in
    rw c.pass.ensures.passed (subst (λ (x : CoreView). Takes x (core_of m.calls.items m.limit m.taken (m.calls.made + 1) c.admit-due.new.self) h.Call (a.Submit c.args.task c.kind_of-kind.result c.admit-due.result)) c.self.view_is takes)

pub returns-then-is_shut-clause-uncancelled : goal.returns-then-is_shut-clause-uncancelled
returns-then-is_shut-clause-uncancelled g c =
    let m = c.self.inside in
    let f = c.self.invariant in
    let is : slice_get m.calls.items m.calls.made ≡ Some (c.args.moment, call.Submit c.args.task c.args.timing c.args.delay) = ap (λ x. slice_get x.calls x.made) c.self.view_is ∙ c.requires in
    let n = next_call m.calls.items m.limit m.taken m.calls.made m.table m.sought c.args.moment (call.Submit c.args.task c.args.timing c.args.delay) f is in
    let s = submits m.calls.items m.limit m.taken m.calls.made m.table m.sought c.args.moment c.args.task c.args.delay c.args.timing f is in
    subst (λ (x : CoreView). uncancelled_in (tasks_at c.refuse.new.self.slots) ≤ uncancelled_in x.tasks) c.self.view_is (refuses m.calls.items m.limit m.taken m.calls.made m.table c.refuse.new.self m.sought c.args.moment c.args.task c.args.delay c.args.timing f n c.refuse.ensures.slots c.refuse.ensures.steps).fewer

pub returns-clause-uncancelled : goal.returns-clause-uncancelled
returns-clause-uncancelled g c =
    let m = c.self.inside in
    let f = c.self.invariant in
    let is : slice_get m.calls.items m.calls.made ≡ Some (c.args.moment, call.Submit c.args.task c.args.timing c.args.delay) = ap (λ x. slice_get x.calls x.made) c.self.view_is ∙ c.requires in
    let n = next_call m.calls.items m.limit m.taken m.calls.made m.table m.sought c.args.moment (call.Submit c.args.task c.args.timing c.args.delay) f is in
    let s = submits m.calls.items m.limit m.taken m.calls.made m.table m.sought c.args.moment c.args.task c.args.delay c.args.timing f is in
    let slots = subst (λ k. c.admit-due.new.self ≡ admitted m.table c.args.task k c.args.moment c.args.timing c.args.delay) c.from.ensures c.admit-due.ensures.slots in
    let steps = subst (λ k. CallSteps m.table c.admit-due.new.self (c.args.moment, call.Submit k c.args.timing c.args.delay) (bare (a.Submit k (kind_of c.args.timing) c.admit-due.result))) c.from.ensures c.admit-due.ensures.steps in
    subst (λ (x : CoreView). uncancelled_in (tasks_at c.admit-due.new.self.slots) ≤ uncancelled_in x.tasks) c.self.view_is (accepts m.calls.items m.limit m.taken m.calls.made m.table c.admit-due.new.self m.sought c.args.moment c.args.task c.args.delay c.admit-due.result c.args.timing f n s slots steps).fewer

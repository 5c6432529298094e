-- A question how far the executor is.
use Rattle.std.proofs.Common.{◌≡◌, ◌+◌, Some, sym, ap, ◌∙◌, arith, subst}
use Rattle.std.specs.Prelude.{slice_get}
use Rattle.queue_code.specs.declared.call.CodeCall.TheVariants as call
use Rattle.executor_model.specs.declared.types.Answer.TheVariants as a
use Rattle.executor_core.specs.CoreView.{CoreView}
use Rattle.executor_model.specs.declared.types.Happening.TheVariants as h
use Rattle.executor_core.specs.own.Invariants.{core_of}
use Rattle.executor_core.specs.own.OwnSteps.{Takes}
use Rattle.executor_core.proofs.NextCalls.{next_call, still_takes, still_stays, asked_within}
use Rattle.executor_core.proofs.machine.Core.ask.Goals as goal

pub ask-asked-requires-clause-moment : goal.ask-asked-requires-clause-moment
ask-asked-requires-clause-moment g c =
    let m = c.self.inside in
    let f = c.self.invariant in
    let at = c.pass-at.result in
    let there : slice_get m.calls.items m.calls.made ≡ Some (c.requires.0, call.Ask) = ap (λ x. slice_get x.calls x.made) c.self.view_is ∙ c.requires.1 in
    let is : slice_get m.calls.items m.calls.made ≡ Some (at, call.Ask) = there ∙ ap (λ n. Some (n, call.Ask)) (sym (c.pass-at.ensures.moment (c.requires.0, call.Ask) there)) in
    let n = next_call m.calls.items m.limit m.taken m.calls.made m.table m.sought at (call.Ask) f is in
    n.ahead

pub ask-asked-requires-clause-limit : goal.ask-asked-requires-clause-limit
ask-asked-requires-clause-limit g c =
    let m = c.self.inside in
    let f = c.self.invariant in
    let at = c.pass-at.result in
    let there : slice_get m.calls.items m.calls.made ≡ Some (c.requires.0, call.Ask) = ap (λ x. slice_get x.calls x.made) c.self.view_is ∙ c.requires.1 in
    let is : slice_get m.calls.items m.calls.made ≡ Some (at, call.Ask) = there ∙ ap (λ n. Some (n, call.Ask)) (sym (c.pass-at.ensures.moment (c.requires.0, call.Ask) there)) in
    let n = next_call m.calls.items m.limit m.taken m.calls.made m.table m.sought at (call.Ask) f is in
    n.limit

pub overflow_cast-result : goal.overflow_cast-result
overflow_cast-result g c =
    let m = c.self.inside in
    omega (arith, (asked_within m.calls.items m.limit m.taken m.calls.made m.table m.sought c.self.invariant).0, c.ask-asked.ensures.queue)

pub overflow_cast-result-2 : goal.overflow_cast-result-2
overflow_cast-result-2 g c =
    let m = c.self.inside in
    omega (arith, (asked_within m.calls.items m.limit m.taken m.calls.made m.table m.sought c.self.invariant).1, c.ask-asked.ensures.running)

pub invariant_of-self : goal.invariant_of-self
invariant_of-self g c =
    let m = c.self.inside in
    let f = c.self.invariant in
    let at = c.pass-at.result in
    let there : slice_get m.calls.items m.calls.made ≡ Some (c.requires.0, call.Ask) = ap (λ x. slice_get x.calls x.made) c.self.view_is ∙ c.requires.1 in
    let is : slice_get m.calls.items m.calls.made ≡ Some (at, call.Ask) = there ∙ ap (λ n. Some (n, call.Ask)) (sym (c.pass-at.ensures.moment (c.requires.0, call.Ask) there)) in
    let n = next_call m.calls.items m.limit m.taken m.calls.made m.table m.sought at (call.Ask) f is in
    rw c.pass-at.ensures.passed (still_stays m.calls.items m.limit m.taken m.calls.made m.table c.ask-asked.new.self m.sought at (call.Ask) (a.Ask c.ask-asked.result.queue c.ask-asked.result.running c.ask-asked.result.shutdown c.ask-asked.result.terminated) f n c.ask-asked.ensures.slots (c.ask-asked.ensures.steps) (λ i task timing delay e. absurd cc))

pub returns-clause-step : goal.returns-clause-step
returns-clause-step g c =
    let m = c.self.inside in
    let f = c.self.invariant in
    let at = c.pass-at.result in
    let there : slice_get m.calls.items m.calls.made ≡ Some (c.requires.0, call.Ask) = ap (λ x. slice_get x.calls x.made) c.self.view_is ∙ c.requires.1 in
    let is : slice_get m.calls.items m.calls.made ≡ Some (at, call.Ask) = there ∙ ap (λ n. Some (n, call.Ask)) (sym (c.pass-at.ensures.moment (c.requires.0, call.Ask) there)) in
    let n = next_call m.calls.items m.limit m.taken m.calls.made m.table m.sought at (call.Ask) f is in
    rw c.pass-at.ensures.passed (subst (λ (x : CoreView). Takes x (core_of m.calls.items m.limit m.taken (m.calls.made + 1) c.ask-asked.new.self) h.Call (a.Ask c.ask-asked.result.queue c.ask-asked.result.running c.ask-asked.result.shutdown c.ask-asked.result.terminated)) c.self.view_is (still_takes m.calls.items m.limit m.taken m.calls.made m.table c.ask-asked.new.self m.sought at (call.Ask) (a.Ask c.ask-asked.result.queue c.ask-asked.result.running c.ask-asked.result.shutdown c.ask-asked.result.terminated) f n c.ask-asked.ensures.slots (c.ask-asked.ensures.steps) (λ i task timing delay e. absurd cc)))

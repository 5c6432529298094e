-- A task with an illegal period is refused.
use Rattle.std.proofs.Common.{◌≡◌, ◌+◌, Some, sym, ap, ◌∙◌, subst}
use Rattle.std.specs.Prelude.{slice_get}
use Rattle.queue_code.specs.declared.call.CodeCall.TheVariants as call
use Rattle.executor_model.specs.declared.types.Answer.TheVariants as a
use Rattle.executor_model.specs.declared.types.Refusal.TheVariants as refusal
use Rattle.executor_core.specs.CoreView.{CoreView}
use Rattle.executor_model.specs.declared.types.Happening.TheVariants as h
use Rattle.executor_core.specs.own.Invariants.{core_of}
use Rattle.executor_core.specs.own.OwnSteps.{Takes}
use Rattle.executor_core.proofs.NextCalls.{next_call, still_takes, still_stays}
use Rattle.executor_core.proofs.machine.Core.refuse.Goals as goal

pub pass-requires-clause-moment : goal.pass-requires-clause-moment
pass-requires-clause-moment g c =
    let m = c.self.inside in
    let f = c.self.invariant in
    let at = c.pass-at.result in
    let there : slice_get m.calls.items m.calls.made ≡ Some (c.requires.0, call.Illegal c.args.task) = ap (λ x. slice_get x.calls x.made) c.self.view_is ∙ c.requires.1 in
    let is : slice_get m.calls.items m.calls.made ≡ Some (at, call.Illegal c.args.task) = there ∙ ap (λ n. Some (n, call.Illegal c.args.task)) (sym (c.pass-at.ensures.moment (c.requires.0, call.Illegal c.args.task) there)) in
    let n = next_call m.calls.items m.limit m.taken m.calls.made m.table m.sought at (call.Illegal c.args.task) f is in
    n.ahead

pub pass-requires-clause-limit : goal.pass-requires-clause-limit
pass-requires-clause-limit g c =
    let m = c.self.inside in
    let f = c.self.invariant in
    let at = c.pass-at.result in
    let there : slice_get m.calls.items m.calls.made ≡ Some (c.requires.0, call.Illegal c.args.task) = ap (λ x. slice_get x.calls x.made) c.self.view_is ∙ c.requires.1 in
    let is : slice_get m.calls.items m.calls.made ≡ Some (at, call.Illegal c.args.task) = there ∙ ap (λ n. Some (n, call.Illegal c.args.task)) (sym (c.pass-at.ensures.moment (c.requires.0, call.Illegal c.args.task) there)) in
    let n = next_call m.calls.items m.limit m.taken m.calls.made m.table m.sought at (call.Illegal c.args.task) f is in
    n.limit

pub invariant_of-self : goal.invariant_of-self
invariant_of-self g c =
    let m = c.self.inside in
    let f = c.self.invariant in
    let at = c.pass-at.result in
    let there : slice_get m.calls.items m.calls.made ≡ Some (c.requires.0, call.Illegal c.args.task) = ap (λ x. slice_get x.calls x.made) c.self.view_is ∙ c.requires.1 in
    let is : slice_get m.calls.items m.calls.made ≡ Some (at, call.Illegal c.args.task) = there ∙ ap (λ n. Some (n, call.Illegal c.args.task)) (sym (c.pass-at.ensures.moment (c.requires.0, call.Illegal c.args.task) there)) in
    let n = next_call m.calls.items m.limit m.taken m.calls.made m.table m.sought at (call.Illegal c.args.task) f is in
    rw c.pass-at.ensures.passed (still_stays m.calls.items m.limit m.taken m.calls.made m.table c.pass.new.self m.sought at (call.Illegal c.args.task) (a.Refuse c.args.task refusal.Illegal) f n c.pass.ensures.slots (c.pass.ensures.illegal c.args.task) (λ i task timing delay e. absurd cc))

pub returns-clause-step : goal.returns-clause-step
returns-clause-step g c =
    let m = c.self.inside in
    let f = c.self.invariant in
    let at = c.pass-at.result in
    let there : slice_get m.calls.items m.calls.made ≡ Some (c.requires.0, call.Illegal c.args.task) = ap (λ x. slice_get x.calls x.made) c.self.view_is ∙ c.requires.1 in
    let is : slice_get m.calls.items m.calls.made ≡ Some (at, call.Illegal c.args.task) = there ∙ ap (λ n. Some (n, call.Illegal c.args.task)) (sym (c.pass-at.ensures.moment (c.requires.0, call.Illegal c.args.task) there)) in
    let n = next_call m.calls.items m.limit m.taken m.calls.made m.table m.sought at (call.Illegal c.args.task) f is in
    rw c.pass-at.ensures.passed (subst (λ (x : CoreView). Takes x (core_of m.calls.items m.limit m.taken (m.calls.made + 1) c.pass.new.self) h.Call (a.Refuse c.args.task refusal.Illegal)) c.self.view_is (still_takes m.calls.items m.limit m.taken m.calls.made m.table c.pass.new.self m.sought at (call.Illegal c.args.task) (a.Refuse c.args.task refusal.Illegal) f n c.pass.ensures.slots (c.pass.ensures.illegal c.args.task) (λ i task timing delay e. absurd cc)))

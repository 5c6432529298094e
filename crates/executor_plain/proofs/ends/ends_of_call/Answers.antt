use Rattle.std.proofs.Common.{◌≡◌, ℕ, List, Bool, cond, true, false, [], ap, sym, ◌∙◌, subst}
use Rattle.std.specs.Prelude.{IfOk}
use Rattle.queue_code.specs.declared.call.CodeCall.{CodeCall}
use Rattle.sched_time.specs.declared.policies.Policies.{Policies}
use Rattle.executor_model.specs.declared.types.Answer.TheVariants as a
use Rattle.executor_model.specs.Answers.{bare, called, setting_sweeps, swept}
use Rattle.sched_time.specs.Policies.{set_policy}
use Rattle.executor_model.specs.Histories.{view_of_history}
use Rattle.executor_plain.proofs.ends.ends_of_call.Goals as goal

pub returns-in-SetPolicy : goal.returns-in-SetPolicy
returns-in-SetPolicy g c =
    let calls = c.args.calls.now in
    let v = record (view_of_history calls c.args.past.now) { moment = c.args.now } in
    let which = c.in-SetPolicy.which in
    let value = c.in-SetPolicy.value in
    let policies = c.set_policy-policies.ensures ∙ ap (λ (p : Policies). set_policy which value p) c.policies_of-policies.ensures in
    let sweeps : true ≡ setting_sweeps v.shut which value = sym c.if-setting_sweeps.true ∙ (c.setting_sweeps.ensures ∙ ap (λ (b : Bool). setting_sweeps b which value) c.was_shut-shut.ensures) in
    let same = (λ i. swept calls (record v { stopped = c.was_stopped-stopped.ensures i }) (policies i))
    ∙ (ap (λ (b : Bool). cond b (swept calls v (set_policy which value v.policies)) []) sweeps ∙ ap (λ (x : CodeCall). (called calls v x).ends) (sym c.in-SetPolicy.is))
    in
    subst (λ (xs : List ℕ). IfOk c.swept.result (λ ends. ends.items ≡ xs)) same c.swept.ensures

pub returns-in-Shutdown : goal.returns-in-Shutdown
returns-in-Shutdown g c =
    let calls = c.args.calls.now in
    let v = record (view_of_history calls c.args.past.now) { moment = c.args.now } in
    let unshut : v.shut ≡ false = sym c.was_shut-shut.ensures ∙ c.if-not-shut.true in
    let policies = c.policies_of-policies.ensures in
    let same = (λ i. swept calls (record v { stopped = c.was_stopped-stopped.ensures i }) (policies i))
    ∙ (ap (λ (b : Bool). (cond b (bare a.ShutdownAgain) (record { answer = a.Shutdown; ends = swept calls v v.policies })).ends) (sym unshut) ∙ ap (λ (x : CodeCall). (called calls v x).ends) (sym c.in-Shutdown.is))
    in
    subst (λ (xs : List ℕ). IfOk c.swept-in-Shutdown.result (λ ends. ends.items ≡ xs)) same c.swept-in-Shutdown.ensures

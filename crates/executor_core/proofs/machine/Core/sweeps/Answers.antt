-- Which tasks the next call ends, by what it is.
use Rattle.std.proofs.Common.{◌≡◌, Some, max, ap, sym, ◌∙◌}
use Rattle.std.specs.Prelude.{slice_get}
use Rattle.sched_time.specs.Policies.{set_policy}
use Rattle.sched_time.specs.declared.policies.Policies.{Policies}
use Rattle.queue_code.specs.declared.call.CodeCall.{CodeCall}
use Rattle.queue_code.specs.declared.call.CodeCall.TheVariants as call
use Rattle.executor_core.proofs.Needing.{setting_ends, shutdown_ends, stop_ends}
use Rattle.executor_core.proofs.machine.Core.sweeps.Goals as goal

pub returns-then-setting_sweeps : goal.returns-then-setting_sweeps
returns-then-setting_sweeps g c =
    let m = c.self.inside in
    let at = c.in-Some.at in
    let which = c.in-SetPolicy.which in
    let value = c.in-SetPolicy.value in
    let is : slice_get c.args.self.now.calls c.args.self.now.made ≡ Some (at, call.SetPolicy which value) = sym c.in-Some.ensures.call ∙ ap (λ (q : CodeCall). Some (at, q)) c.in-SetPolicy.is in
    let now : c.max-now.result ≡ max m.table.moment at = c.max-now.ensures ∙ ap (λ n. max n at) c.now.ensures.value in
    setting_ends m.calls.items m.limit m.taken m.calls.made m.table m.sought c.args.task at c.max-now.result which value c.is_stopped-stopped.result c.ends_under.result c.with.result c.args.self.now c.self.invariant c.self.view_is
    is (sym c.setting_sweeps.ensures ∙ c.if-setting_sweeps.true) now c.is_stopped-stopped.ensures (c.with.ensures ∙ ap (λ (p : Policies). set_policy which value p) c.policies-policies.ensures) c.ends_under.ensures

pub returns-then-not-is_shut : goal.returns-then-not-is_shut
returns-then-not-is_shut g c =
    let m = c.self.inside in
    let at = c.in-Some.at in
    let is : slice_get c.args.self.now.calls c.args.self.now.made ≡ Some (at, call.Shutdown) = sym c.in-Some.ensures.call ∙ ap (λ (q : CodeCall). Some (at, q)) c.in-Shutdown.is in
    let now : c.max-now.result ≡ max m.table.moment at = c.max-now.ensures ∙ ap (λ n. max n at) c.now.ensures.value in
    shutdown_ends m.calls.items m.limit m.taken m.calls.made m.table m.sought c.args.task at c.max-now.result c.is_stopped-stopped.result c.ends_under-then-not-is_shut.result c.policies-policies.result c.args.self.now c.self.invariant c.self.view_is
    is (sym c.is_shut.ensures ∙ c.if-not-is_shut.true) now c.is_stopped-stopped.ensures c.policies-policies.ensures c.ends_under-then-not-is_shut.ensures

pub returns-in-ShutdownNow : goal.returns-in-ShutdownNow
returns-in-ShutdownNow g c =
    let m = c.self.inside in
    let at = c.in-Some.at in
    let is : slice_get c.args.self.now.calls c.args.self.now.made ≡ Some (at, call.ShutdownNow) = sym c.in-Some.ensures.call ∙ ap (λ (q : CodeCall). Some (at, q)) c.in-ShutdownNow.is in
    let now : c.max-now.result ≡ max m.table.moment at = c.max-now.ensures ∙ ap (λ n. max n at) c.now.ensures.value in
    stop_ends m.calls.items m.limit m.taken m.calls.made m.table m.sought c.args.task at c.max-now.result c.ends_under-in-ShutdownNow.result c.policies-policies.result c.args.self.now c.self.invariant c.self.view_is
    is now c.policies-policies.ensures c.ends_under-in-ShutdownNow.ensures

use Rattle.std.proofs.Common.{◌≡◌, ℕ, List, ap, sym, ◌∙◌, subst}
use Rattle.std.specs.Prelude.{IfOk, max}
use Rattle.executor_model.specs.Answers.{Reply, called}
use Rattle.executor_model.specs.Histories.{view_of_history}
use Rattle.executor_plain.proofs.Plains.{call_replies}
use Rattle.executor_plain.proofs.ends.ends_after.Goals as goal

pub returns-in-Some : goal.returns-in-Some
returns-in-Some g c =
    let calls = c.args.calls.now in
    let past = c.args.past.now in
    let v = view_of_history calls past in
    let now = c.max-now.ensures ∙ ap (λ (n : ℕ). max n c.in-Some.moment) c.now_of.ensures in
    let same = ap (λ (n : ℕ). (called calls (record v { moment = n }) c.in-Some.call).ends) now
    ∙ ap (λ (r : Reply). r.ends) (sym (call_replies calls c.args.workers c.made.result c.in-Some.moment past c.args.happening c.in-Some.call c.in-Call.is c.made.ensures c.in-Some.ensures))
    in
    subst (λ (xs : List ℕ). IfOk c.ends_of_call.result (λ ends. ends.items ≡ xs)) same c.ends_of_call.ensures

use Rattle.std.proofs.Common.{◌≡◌, ℕ, [], ◌∷◌, sym, ap, ◌∙◌, subst}
use Rattle.std.specs.Prelude.{OnOk, replicate}
use Rattle.executor_model.specs.declared.types.Happening.TheVariants as h
use Rattle.executor_model.specs.Flows.{history_from}
use Rattle.executor_model.specs.Within.{IsAnsweredByTable}
use Rattle.executor_model.proofs.Within.{answered_from}
use Rattle.executor_plain.proofs.Plains.{count_before}
use Rattle.executor_plain.proofs.tracing.take_event.Goals as goal

pub happen-requires-clause-answered : goal.happen-requires-clause-answered
happen-requires-clause-answered g c =
    subst (IsAnsweredByTable c.args.calls.now c.args.workers) (sym c.in_ok-make_calls.ensures)
    (answered_from c.args.calls.now c.args.workers c.args.past.now.items (replicate c.calls_before-count.result h.Call) c.requires.answered)

pub returns : goal.returns
returns g c =
    let calls = c.args.calls.now in
    let workers = c.args.workers in
    let past = c.args.past.now.items in
    let count = count_before calls c.calls_before-count.result c.made.result c.now_of.result c.args.event past c.deref.result.now c.deref-2.result.now
    c.calls_before-count.ensures c.made.ensures c.now_of.ensures c.deref.ensures.value c.deref-2.ensures.value
    in
    let mid = c.in_ok-make_calls.ensures ∙ ap (λ (n : ℕ). history_from calls workers past (replicate n h.Call)) count in
    subst (λ (T : Type 0). T) (λ i. OnOk c.happen.result (c.happen.new.past.items ≡ history_from calls workers (mid i) (c.happening_of.ensures i ∷ []))) c.happen.ensures

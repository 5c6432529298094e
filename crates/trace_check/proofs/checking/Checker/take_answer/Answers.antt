use Rattle.std.proofs.Common.{sym, ap, ◌∙◌, subst, slice_index_or, false}
use Rattle.std.specs.Prelude.{IsTrue}
use Rattle.std.proofs.lemmas.Bool.{false≢true}
use Rattle.executor_model.specs.Said.{message_of}
use Rattle.executor_core.specs.CoreView.{workers_of, state_of}
use Rattle.trace_check.specs.Representatives.{busy_after}
use Rattle.trace_check.specs.own.Standing.{representative_of_message}
use Rattle.trace_check.proofs.Taking.{refuses_unknown, refuses_early, refuses_other, takes_line, took, first_line}
use Rattle.trace_check.proofs.checking.Checker.take_answer.Goals as goal

pub returns-in_default-clause-breaks : goal.returns-in_default-clause-breaks
returns-in_default-clause-breaks g c = λ u lines at.
    let self = c.args.self.now in
    let line = c.args.line.now in
    refuses_unknown self.core.calls (workers_of self.core) (state_of self.core) lines self.busy.flags line at
    (λ h is. c.in_default.not-Some h (c.representative.ensures lines at.busy ∙ (ap (λ n. representative_of_message n lines c.moment.result (message_of c.said.result.now)) c.requires.ready.count
    ∙ (ap (λ t. representative_of_message (workers_of self.core) lines t (message_of c.said.result.now)) c.moment.ensures ∙ (ap (λ x. representative_of_message (workers_of self.core) lines line.moment x) c.said.ensures ∙ is)))))

pub returns-then-not-may_come-clause-breaks : goal.returns-then-not-may_come-clause-breaks
returns-then-not-may_come-clause-breaks g c = λ u lines at.
    let self = c.args.self.now in
    let line = c.args.line.now in
    refuses_early self.core.calls (workers_of self.core) (state_of self.core) lines self.busy.flags line c.in-Some.happening at
    (sym c.in-Some.is ∙ (c.representative.ensures lines at.busy ∙ (ap (λ n. representative_of_message n lines c.moment.result (message_of c.said.result.now)) c.requires.ready.count
    ∙ (ap (λ t. representative_of_message (workers_of self.core) lines t (message_of c.said.result.now)) c.moment.ensures ∙ ap (λ x. representative_of_message (workers_of self.core) lines line.moment x) c.said.ensures))))
    (λ may. false≢true (subst IsTrue c.if-not-may_come.true (c.may_come.ensures.1 may)))

pub returns-then-not-is_same-clause-breaks : goal.returns-then-not-is_same-clause-breaks
returns-then-not-is_same-clause-breaks g c = λ u lines at.
    let self = c.args.self.now in
    let line = c.args.line.now in
    refuses_other self.core.calls (workers_of self.core) (state_of self.core) lines self.busy.flags line c.in-Some.happening at
    (sym c.in-Some.is ∙ (c.representative.ensures lines at.busy ∙ (ap (λ n. representative_of_message n lines c.moment.result (message_of c.said.result.now)) c.requires.ready.count
    ∙ (ap (λ t. representative_of_message (workers_of self.core) lines t (message_of c.said.result.now)) c.moment.ensures ∙ ap (λ x. representative_of_message (workers_of self.core) lines line.moment x) c.said.ensures))))
    (λ same. false≢true (subst IsTrue c.if-not-is_same.true (c.is_same.ensures.1 (c.index.ensures
    ∙ (first_line self.core c.happen.new.self c.in-Some.happening c.happen.new.out.items c.index.result.now
    (took self.core c.count.new.self c.happen.new.self c.in-Some.happening c.clear.new.self.items c.happen.new.out.items c.count.ensures.same c.clear.ensures.items c.happen.ensures.steps) ∙ same)))))

pub returns-clause-goes : goal.returns-clause-goes
returns-clause-goes g c = λ u lines at.
    let self = c.args.self.now in
    let line = c.args.line.now in
    takes_line self.core c.happen.new.self c.happen.new.out.items lines self.busy.flags c.note.new.self.flags line c.in-Some.happening c.index.result.now at
    (sym c.in-Some.is ∙ (c.representative.ensures lines at.busy ∙ (ap (λ n. representative_of_message n lines c.moment.result (message_of c.said.result.now)) c.requires.ready.count
    ∙ (ap (λ t. representative_of_message (workers_of self.core) lines t (message_of c.said.result.now)) c.moment.ensures ∙ ap (λ x. representative_of_message (workers_of self.core) lines line.moment x) c.said.ensures))))
    (c.may_come.ensures.0 c.if-not-may_come.false)
    (took self.core c.count.new.self c.happen.new.self c.in-Some.happening c.clear.new.self.items c.happen.new.out.items c.count.ensures.same c.clear.ensures.items c.happen.ensures.steps)
    (sym c.index.ensures ∙ c.is_same.ensures.0 c.if-not-is_same.false)
    (λ w low. c.note.ensures.flags w low ∙ ap (λ x. busy_after w x (slice_index_or self.busy.flags w false)) c.said-2.ensures)

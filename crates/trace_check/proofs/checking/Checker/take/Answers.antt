use Rattle.std.proofs.Common.{◌∷◌, ◌+◌, arith, subst, drop}
use Rattle.std.specs.Prelude.{IsTrue}
use Rattle.std.proofs.lemmas.Bool.{false≢true}
use Rattle.executor_core.specs.CoreView.{workers_of, state_of}
use Rattle.trace_check.specs.own.Standing.{IsStanding}
use Rattle.trace_check.proofs.Taking.{takes_owed, refuses_owed, owed_here, owed_none}
use Rattle.trace_check.proofs.checking.Checker.take.Goals as goal

pub returns-then-not-is_same-clause-breaks : goal.returns-then-not-is_same-clause-breaks
returns-then-not-is_same-clause-breaks g c = λ u lines at.
    let self = c.args.self.now in
    refuses_owed self.core.calls (workers_of self.core) (state_of self.core) c.index.result.now c.args.line.now (drop (self.met + 1) self.out.items) lines self.busy.flags
    (subst (λ o. IsStanding self.core o self.busy.flags lines) (owed_here self.out.items self.met c.index.result.now (omega (arith, c.if-self-len.true, c.len.ensures)) c.index.ensures) at)
    (λ same. false≢true (subst IsTrue c.if-not-is_same.true (c.is_same.ensures.1 same)))

pub returns-then-self-len-clause-goes : goal.returns-then-self-len-clause-goes
returns-then-self-len-clause-goes g c = λ u lines at.
    let self = c.args.self.now in
    subst (λ x. IsStanding self.core (drop (self.met + 1) self.out.items) self.busy.flags (x ∷ lines)) (c.is_same.ensures.0 c.if-not-is_same.false)
    (takes_owed self.core.calls (workers_of self.core) (state_of self.core) c.index.result.now (drop (self.met + 1) self.out.items) lines self.busy.flags
    (subst (λ o. IsStanding self.core o self.busy.flags lines) (owed_here self.out.items self.met c.index.result.now (omega (arith, c.if-self-len.true, c.len.ensures)) c.index.ensures) at))

pub returns-clause-goes : goal.returns-clause-goes
returns-clause-goes g c = λ u lines at.
    let self = c.args.self.now in
    c.take_answer.ensures.goes u lines (subst (λ o. IsStanding self.core o self.busy.flags lines) (owed_none self.out.items self.met (omega (arith, c.if-self-len.false, c.len.ensures))) at)

pub returns-clause-breaks : goal.returns-clause-breaks
returns-clause-breaks g c = λ u lines at.
    let self = c.args.self.now in
    c.take_answer.ensures.breaks u lines (subst (λ o. IsStanding self.core o self.busy.flags lines) (owed_none self.out.items self.met (omega (arith, c.if-self-len.false, c.len.ensures))) at)

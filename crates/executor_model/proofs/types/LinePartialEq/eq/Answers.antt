use Rattle.std.proofs.Common.{sym, ap, ◌∙◌}
use Rattle.executor_model.specs.Said.{said_of}
use Rattle.executor_model.specs.own.Said.{said_of_message}
use Rattle.executor_model.proofs.types.LinePartialEq.eq.Goals as goal

pub returns : goal.returns
returns c =
    let mine = sym (said_of_message (λ s. s) c.t1-1.inside.said) ∙ ap (λ v. said_of v.message) c.t1-1.view_is in
    let other = sym (said_of_message (λ s. s) c.t2-1.inside.said) ∙ ap (λ v. said_of v.message) c.t2-1.view_is in
    let moments = ap (λ v. v.moment) c.t1-1.view_is in
    let others = ap (λ v. v.moment) c.t2-1.view_is in
    rw (c.and_eq.ensures, c.eq.ensures, mine, other, moments, others)

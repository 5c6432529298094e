use Rattle.std.proofs.Common.{◌≡◌, ◌==◌, true, refl, sym, ap, ◌∙◌, arith, subst}
use Rattle.std.proofs.lemmas.Bool.{and_from, and_parts, eqb-true}
use Rattle.executor_model.specs.Lines.{LineView}
use Rattle.executor_model.specs.Said.{said_of, message_of}
use Rattle.executor_model.specs.own.Said.{message_of_said}
use Rattle.executor_model.specs.contracts.types.LinePartialEq.TheImpl as equality
use Rattle.executor_model.specs.contracts.said.SaidPartialEq.TheImpl as said
use Rattle.executor_model.proofs.laws.line_equality_tells.Goals as goal

pub returns : goal.returns
returns c = λ a b. (λ q. same a b q, λ same. subst (λ x. equality.ghosts.eq a x ≡ true) same (itself a))
  where
    itself : (a : LineView) → equality.ghosts.eq a a ≡ true
    itself a = and_from (a.moment == a.moment) (said.ghosts.eq (said_of a.message) (said_of a.message)) (grind (arith)) ((c.said_equality_tells.ensures (said_of a.message) (said_of a.message)).1 refl)

    same : (a b : LineView) → equality.ghosts.eq a b ≡ true → a ≡ b
    same a b q =
        let parts = and_parts (a.moment == b.moment) (said.ghosts.eq (said_of a.message) (said_of b.message)) q in
        let moment = eqb-true a.moment b.moment parts.0 in
        let message = sym (message_of_said a.message) ∙ ap message_of ((c.said_equality_tells.ensures (said_of a.message) (said_of b.message)).0 parts.1) ∙ message_of_said b.message in
        λ i. record { moment = moment i; message = message i }

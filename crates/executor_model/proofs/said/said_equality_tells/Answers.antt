use Rattle.std.proofs.Common.{◌≡◌, true, subst}
use Rattle.executor_model.specs.contracts.said.SaidPartialEq.TheImpl as equality
use Rattle.executor_model.proofs.SaidEquality.{said_is_same, said_equals_itself}
use Rattle.executor_model.proofs.said.said_equality_tells.Goals as goal

pub returns : goal.returns
returns c = λ a b. (λ q. said_is_same a b q, λ same. subst (λ x. equality.ghosts.eq a x ≡ true) same (said_equals_itself a))

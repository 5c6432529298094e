-- What is in the slot of a task that it holds.
use Rattle.std.proofs.Common.{◌≡◌, true, sym, subst, ◌∙◌}
use Rattle.live_core.specs.Said.{is_there}
use Rattle.timers.specs.Timers.{TimersView}
use Rattle.timers.proofs.Kept.{given_there}
use Rattle.timers.proofs.timers.Timers.user_data_of.Goals as goal

pub returns-clause-given : goal.returns-clause-given
returns-clause-given g c =
    let m : TimersView = c.args.self.now in
    let is : is_there m.live.table c.args.task ≡ true = subst (λ (v : TimersView). is_there v.live.table c.args.task ≡ true) c.self.view_is (sym c.holds.ensures ∙ c.if-not-holds.false) in
    given_there m c.args.task c.data_in.result is c.data_in.ensures

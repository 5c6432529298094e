-- A clock that is accepted.
use Rattle.std.proofs.Common.{◌≡◌, true, sym, ap, subst}
use Rattle.std.specs.Result.{is_ok}
use Rattle.executor_model.specs.Answers.{is_accepted}
use Rattle.executor_model.specs.Histories.{AreMade}
use Rattle.executor_core.specs.CoreView.{CoreView}
use Rattle.executor_core.proofs.Clocking.{clock, clock_near}
use Rattle.executor_core.proofs.machine.Core.answer_clock.Goals as goal

pub invariant_of-self-2 : goal.invariant_of-self-2
invariant_of-self-2 g c =
    let m = c.self.inside in
    let accepted : is_accepted m.table.moment c.args.moment ≡ true = c.clock.ensures.accepted.0 (ap is_ok c.in_default.is) in
    let all : AreMade m.calls.items m.calls.made c.args.moment = subst (λ (y : CoreView). is_accepted y.moment c.args.moment ≡ true → AreMade y.calls y.made c.args.moment) (sym c.self.view_is) c.requires accepted in
    (clock m.calls.items m.limit m.taken m.calls.made m.table c.clock.new.self m.sought c.args.moment c.self.invariant accepted (clock_near m.table.moment c.args.moment accepted) all c.in_default.ensures.moved c.in_default.ensures.steps).1

-- The run that ends was of the task in its slot.
use Rattle.std.proofs.Common.{subst}
use Rattle.timers.specs.Timers.{TimersView, WasGivenWith}
use Rattle.timers.specs.own.Rooms.{seen}
use Rattle.timers.proofs.Kept.{given_at, event_kept, same_kept}
use Rattle.timers.proofs.timers.Timers.finish.Goals as goal

pub returns-clause-given : goal.returns-clause-given
returns-clause-given g c =
    let e = c.self.inside in
    let task = c.in_ok-ended.ended.task in
    let ran = c.in_ok-ended.ensures.finishes.ran in
    subst (λ (v : TimersView). WasGivenWith v task.number c.data_in.result) c.self.view_is
    (given_at (seen e.executor e.user_data.items) task.slot task.number c.data_in.result ran.task ran.there ran.named c.data_in.ensures)

pub invariant_of-self : goal.invariant_of-self
invariant_of-self g c =
    let e = c.self.inside in
    same_kept e.executor c.end.new.executor e.user_data.items c.in_err-ended.ensures.refused c.self.invariant

pub invariant_of-self-2 : goal.invariant_of-self-2
invariant_of-self-2 g c =
    let e = c.self.inside in
    let f = c.in_ok-ended.ensures.finishes in
    event_kept e.executor f.between c.end.new.executor e.user_data.items c.args.now f.clock f.stays f.ended c.self.invariant

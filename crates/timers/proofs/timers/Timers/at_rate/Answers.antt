-- These data were given too, or nothing has changed.
use Rattle.timers.specs.own.Rooms.{seen}
use Rattle.timers.proofs.Kept.{submitted_kept}
use Rattle.timers.proofs.timers.Timers.at_rate.Goals as goal

pub invariant_of-self : goal.invariant_of-self
invariant_of-self g c =
    let e = c.self.inside in
    submitted_kept c.submit.result (seen e.executor e.user_data.items) (seen c.submit.new.executor c.submit.new.user_data.items) c.args.user_data c.submit.ensures.size c.submit.ensures.gives c.submit.ensures.executor c.submit.ensures.user_data c.self.invariant

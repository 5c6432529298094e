-- A poll that begins no run leaves the data where they are.
use Rattle.std.proofs.Common.{subst}
use Rattle.timers.specs.Timers.{TimersView, GivesNone}
use Rattle.timers.specs.own.Rooms.{seen}
use Rattle.timers.proofs.Kept.{kept_unpolled, event_kept, unpolled_kept}
use Rattle.timers.proofs.timers.Timers.poll.Goals as goal

pub returns-in_err-begun-clause-keeps : goal.returns-in_err-begun-clause-keeps
returns-in_err-begun-clause-keeps g c =
    let kept = c.self.inside.user_data.items in
    let new = c.begin.new.executor in
    subst (λ (v : TimersView). GivesNone v (seen new kept)) c.self.view_is
    (kept_unpolled c.self.inside.executor new kept c.args.now c.args.worker c.in_err-begun.field-0.0 c.in_err-begun.ensures.failed)

pub invariant_of-self : goal.invariant_of-self
invariant_of-self g c =
    let e = c.self.inside in
    unpolled_kept e.executor c.begin.new.executor e.user_data.items c.args.now c.args.worker c.in_err-begun.field-0.0 c.in_err-begun.ensures.failed c.self.invariant

pub invariant_of-self-in-Some : goal.invariant_of-self-in-Some
invariant_of-self-in-Some g c =
    let e = c.self.inside in
    let p = c.in_ok-begun.ensures.polls in
    event_kept e.executor p.between c.begin.new.executor e.user_data.items c.args.now p.clock p.stays p.ended c.self.invariant

pub invariant_of-self-in-None : goal.invariant_of-self-in-None
invariant_of-self-in-None g c =
    let e = c.self.inside in
    let p = c.in_ok-begun.ensures.polls in
    event_kept e.executor p.between c.begin.new.executor e.user_data.items c.args.now p.clock p.stays p.ended c.self.invariant

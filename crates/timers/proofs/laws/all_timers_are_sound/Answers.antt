-- The executor is sound, and some data were given: that stays true of all timers.
use Rattle.std.proofs.Common.{subst}
use Rattle.live_core.specs.Snapshots.{IsSound}
use Rattle.timers.specs.Timers.{TimersView, WereGiven}
use Rattle.timers.proofs.laws.all_timers_are_sound.Goals as goal

pub returns-clause-sound : goal.returns-clause-sound
returns-clause-sound g c = subst (λ (v : TimersView). IsSound v.live) c.timers.view_is c.each_executor_is_sound.ensures

pub returns-clause-given : goal.returns-clause-given
returns-clause-given g c =
    let kept = c.timers.invariant in
    (kept.given, subst (λ (v : TimersView). WereGiven v kept.given) c.timers.view_is kept.were_given)

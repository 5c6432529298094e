use Rattle.std.proofs.Common.{sym, subst}
use Rattle.live_engine.specs.LiveLines.{after_line}
use Rattle.live_engine.specs.declared.live_line.LiveLine.TheVariants as l
use Rattle.live_plain.specs.own.Scripts.{Shows}
use Rattle.live_plain.proofs.Showing.{event_shows}
use Rattle.live_plain.proofs.script.Script.take_event.Goals as goal

pub returns-clause-shows : goal.returns-clause-shows
returns-clause-shows g c workers so_far shows = subst (λ s. Shows workers (after_line workers so_far (l.Event c.args.event)) s) (sym c.in_ok-meet.ensures) (event_shows workers so_far c.args.self.now c.args.event shows)

-- What stays true of each executor says so.
use Rattle.std.proofs.Common.{subst}
use Rattle.live_core.specs.Empties.{held_numbers}
use Rattle.live_core.specs.Snapshots.{IsSound}
use Rattle.live_core.proofs.Held.{number_there}
use Rattle.live_core.proofs.Indexed.{number_given}
use Rattle.live_core.proofs.laws.each_executor_is_sound.Goals as goal

pub returns : goal.returns
returns g c =
    let e = c.executor.inside in
    let live = c.executor.invariant in
    subst IsSound c.executor.view_is (record {
      table = c.each_table_is_formed.ensures;
      few = live.few;
      behind = live.behind;
      unshut = live.unshut;
      given = λ i x q. number_given (held_numbers e.table.slots) e.notes.entries e.count i x.number live.noted.index (number_there e.table.slots i x q);
      alive = live.alive;
    })

-- Nothing was given yet.
use Rattle.std.proofs.Common.{length, ap, sym, ◌∙◌}
use Rattle.timers.specs.own.Rooms.{seen}
use Rattle.timers.proofs.Kept.{none_kept, none_given}
use Rattle.timers.proofs.timers.Timers.new.Goals as goal

pub invariant_of-result : goal.invariant_of-result
invariant_of-result g c =
    let m = seen c.in_ok-new.field-0 c.new-2.result.items in
    let new = c.in_ok-new.ensures in
    none_kept m (ap length c.new-2.ensures.items ∙ sym (ap length new.slots)) (none_given m new.first new.slots new.ended)

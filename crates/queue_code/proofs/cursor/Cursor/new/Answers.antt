use Rattle.std.proofs.Common.{refl, arith}
use Rattle.queue_code.proofs.cursor.Cursor.new.Goals as goal

pub returns : goal.returns
returns g c =
    let order = c.instrs-instrs.ensures.sound.order in
    record {
      cursor = record { at = record { within = omega arith; fits = (refl, refl); order = (0, order.1); room = omega (arith, order.0) }; counted = omega (arith, order.0) };
      left = refl;
      steps = refl;
    }

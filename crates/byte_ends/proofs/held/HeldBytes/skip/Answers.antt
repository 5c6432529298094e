use Rattle.std.proofs.Common.{ℕ, length, drop, ap, ◌∙◌, arith, length-take}
use Rattle.byte_ends.proofs.Ranges.{range_skip}
use Rattle.byte_ends.proofs.held.HeldBytes.skip.Goals as goal

pub returns : goal.returns
returns g c =
    let held = c.self.inside in
    range_skip held.buffer.items held.from held.to c.args.n (omega (arith, ap length c.self.view_is, length-take {A = ℕ})) ∙ ap (drop c.args.n) c.self.view_is

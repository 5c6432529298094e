use Rattle.std.proofs.Common.{◌+◌, ◌*◌, ◌%◌, ◌^◌, sym, ◌∙◌}
use Rattle.snapshot_text.specs.Sums.{factor}
use Rattle.snapshot_text.proofs.Summing.{sums_more}
use Rattle.snapshot_text.proofs.sum.add_to_sum.Goals as goal

pub loop-i-preserved : goal.loop-i-preserved
loop-i-preserved c =
    (λ i. (c.loop-i.invariant i * factor % 2 ^ 64 + c.from.ensures i) % 2 ^ 64) ∙ sym (sums_more c.args.so_far c.args.bytes.now c.loop-i.i c.loop-i-test.true)

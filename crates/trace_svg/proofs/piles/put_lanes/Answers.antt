use Rattle.std.proofs.Common.{ℕ, map, string_bytes, arith}
use Rattle.std.specs.Prelude.{flat_map}
use Rattle.trace_svg.specs.Piles.{pile_text, piles_in}
use Rattle.trace_svg.proofs.Ranges.{one_more}
use Rattle.trace_svg.proofs.piles.put_lanes.Goals as goal

pub loop-worker-preserved : goal.loop-worker-preserved
loop-worker-preserved g c =
    one_more (λ (worker : ℕ). flat_map (pile_text c.args.window (map (λ n. n.now) c.args.names.now)) (piles_in c.args.window worker c.args.bars.now))
    (string_bytes c.loop-worker.text) (string_bytes c.put_lane.new.text) _ c.loop-worker.worker c.args.lanes (omega arith) c.in_ok-put_lane.ensures c.loop-worker.invariant

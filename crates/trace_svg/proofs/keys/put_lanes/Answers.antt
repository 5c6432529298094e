use Rattle.std.proofs.Common.{string_bytes, arith}
use Rattle.trace_svg.specs.Keys.{lane_text}
use Rattle.trace_svg.proofs.Ranges.{one_more}
use Rattle.trace_svg.proofs.keys.put_lanes.Goals as goal

pub loop-worker-preserved : goal.loop-worker-preserved
loop-worker-preserved g c =
    one_more lane_text (string_bytes c.loop-worker.text) (string_bytes c.put_lane.new.text) _ c.loop-worker.worker c.args.workers (omega arith) c.in_ok-put_lane.ensures c.loop-worker.invariant

use Rattle.std.proofs.Common.{◌≡◌, ◌-◌, ◌++◌, string_bytes}
use Rattle.std.specs.Prelude.{flat_map}
use Rattle.std.specs.List.{range_with_len}
use Rattle.trace_svg.specs.Keys.{lane_text, lanes_text}
use Rattle.trace_svg.proofs.keys.put_lanes.Given as goal

-- the text, and the lanes that are left, are the whole
abbrev pub invariant-loop-worker : goal.invariant-loop-worker
invariant-loop-worker g l = string_bytes l.text ++ flat_map lane_text (range_with_len l.worker (l.workers - l.worker)) ≡ string_bytes l.fn.text ++ lanes_text l.workers

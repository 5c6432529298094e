use Rattle.std.proofs.Common.{◌≡◌, ◌++◌, drop, string_bytes}
use Rattle.std.specs.Prelude.{flat_map}
use Rattle.trace_svg.specs.Keys.{tick_text}
use Rattle.trace_svg.proofs.axis.put_ticks.Given as goal

-- the text, and the ticks that are left, are the whole
abbrev pub invariant-loop-tick : goal.invariant-loop-tick
invariant-loop-tick g l =
    string_bytes l.text ++ flat_map (tick_text l.window l.workers) (drop l.tick-index l.ticks) ≡ string_bytes l.fn.text ++ flat_map (tick_text l.window l.workers) l.ticks

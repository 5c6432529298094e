use Rattle.std.proofs.Common.{◌≡◌, ◌++◌, drop, string_bytes}
use Rattle.std.specs.Prelude.{flat_map}
use Rattle.trace_svg.specs.Keys.{fill_key}
use Rattle.trace_svg.proofs.keys.put_fills.Given as goal

-- the text, and the keys that are left, are the whole
abbrev pub invariant-loop-key : goal.invariant-loop-key
invariant-loop-key g l = string_bytes l.text ++ flat_map fill_key (drop l.key-index l.keys) ≡ string_bytes l.fn.text ++ flat_map fill_key l.keys

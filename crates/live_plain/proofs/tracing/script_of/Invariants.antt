use Rattle.std.proofs.Common.{ℕ, take}
use Rattle.std.specs.Prelude.{reverse}
use Rattle.live_plain.specs.own.Scripts.{ShowsAll}
use Rattle.live_plain.proofs.tracing.script_of.Given as goal

-- the lines so far are plain, and the script shows their history
abbrev pub invariant-loop-line : goal.invariant-loop-line
invariant-loop-line g l = (workers : ℕ) → ShowsAll workers (reverse (take l.line-index l.lines)) l.script

use Rattle.std.proofs.Common.{◌≢◌, ℕ, ◌<◌, false}
use Rattle.std.specs.Prelude.{slice_index_or}
use Rattle.trace_check.proofs.busy.Busy.first.Given as goal

abbrev pub invariant-loop-w : goal.invariant-loop-w
invariant-loop-w l = (v : ℕ) → v < l.w → slice_index_or l.self.flags v false ≢ l.wanted

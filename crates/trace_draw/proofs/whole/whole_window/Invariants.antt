use Rattle.std.proofs.Common.{◌≡◌, take}
use Rattle.std.specs.Prelude.{min, max, fold}
use Rattle.trace_draw.proofs.whole.whole_window.Given as goal

abbrev pub invariant-loop-line : goal.invariant-loop-line
invariant-loop-line l = record {
  from : l.window.from ≡ fold (λ n line. min n line.moment) l.initial.window.from (take l.line-index l.rest);
  to : l.window.to ≡ fold (λ n line. max n line.moment) l.initial.window.to (take l.line-index l.rest);
}

use Rattle.std.proofs.Common.{◌≤◌, All, length}
use Rattle.near_words.specs.Near.{IsNear}
use Rattle.near_words.proofs.nearness.in_few_edits.Given as goal

abbrev pub invariant-loop-other : goal.invariant-loop-other
invariant-loop-other g l = record {
  least : l.least ≤ 2;
  near : All (λ other. IsNear l.word l.words other.now) l.those.items;
  few : length l.those.items ≤ 3;
}

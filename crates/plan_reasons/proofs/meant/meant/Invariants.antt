use Rattle.std.proofs.Common.{All, Any}
use Rattle.std.specs.Prelude.{string_bytes}
use Rattle.near_words.specs.Near.{IsNear, IsSameBut}
use Rattle.plan_reasons.proofs.meant.meant.Given as goal

abbrev pub invariant-loop-other : goal.invariant-loop-other
invariant-loop-other l = record {
  near : All (λ t. IsNear l.word l.words (string_bytes t)) l.texts.items;
  alone : Any (λ other. IsSameBut l.word other.now) l.words → All (λ t. IsSameBut l.word (string_bytes t)) l.texts.items;
}

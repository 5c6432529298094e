use Rattle.std.proofs.Common.{◌≡◌, ◌<◌, ◌≤◌, ℕ, List, [], get_or, length, All}
use Rattle.std.specs.Borrow.{Bor}
use Rattle.near_words.specs.Near.{IsNear, IsSameBut}
use Rattle.near_words.proofs.nearness.in_other_case.Given as goal

abbrev pub invariant-loop-other : goal.invariant-loop-other
invariant-loop-other g l = record {
  near : All (λ other. IsNear l.word l.words other.now) l.those.items;
  same : All (λ other. IsSameBut l.word other.now) l.those.items;
  none : l.those.items ≡ [] → (i : ℕ) (x : Bor (List ℕ)) → i < l.other-index → get_or l.words i x ≡ x → IsSameBut l.word x.now → ⊥;
  few : length l.those.items ≤ 3;
}

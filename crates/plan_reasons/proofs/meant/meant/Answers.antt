use Rattle.std.proofs.Common.{All, List, ℕ, [], subst, sym}
use Rattle.std.proofs.lemmas.List.Elements.{All-push}
use Rattle.std.specs.Borrow.{Bor}
use Rattle.std.specs.Prelude.{string_bytes}
use Rattle.near_words.specs.Near.{IsNear, IsSameBut}
use Rattle.plan_reasons.proofs.meant.meant.Goals as goal

pub loop-other-preserved : goal.loop-other-preserved
loop-other-preserved c =
    let old = c.loop-other.invariant in
    let word = c.args.word.now in
    let words = c.args.words.now in
    let i = c.loop-other.other-index in
    let d : Bor (List ℕ) = record { ref_ptr = (0, 0); now = [] } in
    let those = c.in_ok-those.ensures in
    let told = sym c.in_ok-from_str.ensures.ok in
    let near = subst (All (λ other. IsNear word words other.now)) (sym c.as_slice-other-items.ensures.value) those.near in
    rw c.in_ok-push.ensures.items record {
      near = All-push (λ t. IsNear word words (string_bytes t)) _ _ old.near (subst (IsNear word words) told (near i d c.loop-other-test.true));
      alone = λ some.
          let same = subst (All (λ other. IsSameBut word other.now)) (sym c.as_slice-other-items.ensures.value) (those.alone some) in
          All-push (λ t. IsSameBut word (string_bytes t)) _ _ (old.alone some) (subst (IsSameBut word) told (same i d c.loop-other-test.true));
    }

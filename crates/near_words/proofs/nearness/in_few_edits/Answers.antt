use Rattle.std.proofs.Common.{◌≡◌, ◌≤◌, [], ℕ, List, Option, All, arith, subst, get_or, length, length-append}
use Rattle.std.proofs.lemmas.List.Elements.{All-push, All-nil}
use Rattle.std.specs.Borrow.{Bor}
use Rattle.std.specs.Prelude.{IfSome}
use Rattle.near_words.specs.Near.{IsNear, edits_between}
use Rattle.near_words.proofs.Places.{is_near}
use Rattle.near_words.proofs.nearness.in_few_edits.Goals as goal
use Rattle.near_words.proofs.nearness.in_few_edits.Goals.{then-edits-least, else-edits-least}
use Rattle.near_words.proofs.nearness.in_few_edits.Goals.{then-len-lt-MOST_NEAR+in_ok-push, else-len-lt-MOST_NEAR}

pub loop-other-preserved : goal.loop-other-preserved
loop-other-preserved g c =
    let old = c.loop-other.invariant in
    let word = c.args.word.now in
    let words = c.args.words.now in
    let P : Bor (List ℕ) → Type 0 = λ other. IsNear word words other.now in
    let other = (get_or words c.loop-other.other-index (record { ref_ptr = (0, 0); now = [] })).now in
    let edits : c.in-Some.edits ≡ edits_between word other = subst (λ (o : Option ℕ). IfSome o (λ n. n ≡ edits_between word other)) c.in-Some.is c.in_ok-edits.ensures.edits in
    let few : c.in-Some.edits ≤ c.loop-other.least = subst (λ (o : Option ℕ). IfSome o (λ n. n ≤ c.loop-other.least)) c.in-Some.is c.in_ok-edits.ensures.few in
    let kept : All P c.if-edits-least.those.items =
    elim c.if-edits-least.branch [ then-edits-least w ↦ rw (w.those-is, w.clear.ensures.items) (All-nil P) | else-edits-least w ↦ rw w.those-is old.near ] in
    let shorter : length c.if-edits-least.those.items ≤ 3 =
    elim c.if-edits-least.branch [ then-edits-least w ↦ rw (w.those-is, w.clear.ensures.items) (omega arith) | else-edits-least w ↦ rw w.those-is old.few ] in
    record {
      least = elim c.if-edits-least.branch [ then-edits-least w ↦ omega (arith, w.least-is, w.if-edits-least.true, old.least) | else-edits-least w ↦ omega (arith, w.least-is, old.least) ];
      near = elim c.if-len-lt-MOST_NEAR.branch [
        | then-len-lt-MOST_NEAR+in_ok-push w ↦ rw (w.those-is, w.in_ok-push.ensures.items) (All-push P _ _ kept (is_near word words c.loop-other.other-index _ c.in-Some.edits c.loop-other-test.true edits (omega (arith, few, old.least))))
        | else-len-lt-MOST_NEAR w ↦ rw w.those-is kept
      ];
      few = elim c.if-len-lt-MOST_NEAR.branch [
        | then-len-lt-MOST_NEAR+in_ok-push w ↦ rw (w.those-is, w.in_ok-push.ensures.items) (grind (arith, length-append, c.len.ensures, w.if-len-lt-MOST_NEAR.true))
        | else-len-lt-MOST_NEAR w ↦ rw w.those-is shorter
      ];
    }

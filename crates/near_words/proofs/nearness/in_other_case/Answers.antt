use Rattle.std.proofs.Common.{◌≡◌, ◌∙◌, ◌+◌, ◌<◌, [], ℕ, List, ap, arith, get_or, length, length-append, subst, sym}
use Rattle.std.proofs.lemmas.List.{get_or_default}
use Rattle.std.proofs.lemmas.List.Elements.{All-push}
use Rattle.std.specs.Borrow.{Bor}
use Rattle.near_words.specs.Near.{IsNear, IsSameBut}
use Rattle.near_words.proofs.Places.{is_near_but}
use Rattle.near_words.proofs.nearness.in_other_case.Goals as goal
use Rattle.near_words.proofs.nearness.in_other_case.Goals.{then-len-lt-MOST_NEAR+then-eq_ignore_ascii_case+in_ok-push, else-len-lt-MOST_NEAR, else-len-lt-MOST_NEAR-via-then-len-lt-MOST_NEAR+else-eq_ignore_ascii_case, else-len-lt-MOST_NEAR-via-else-len-lt-MOST_NEAR}

-- where none of the first `n` words is the same, and not the next one, none of the first `n + 1` is
one_more : (word : List ℕ) (words : List (Bor (List ℕ))) (n : ℕ) (d : Bor (List ℕ)) → n < length words
    → ((i : ℕ) (x : Bor (List ℕ)) → i < n → get_or words i x ≡ x → IsSameBut word x.now → ⊥) → (IsSameBut word (get_or words n d).now → ⊥)
    → (i : ℕ) (x : Bor (List ℕ)) → i < n + 1 → get_or words i x ≡ x → IsSameBut word x.now → ⊥
one_more word words n d some old here i x within is same =
    let there : get_or words n d ≡ get_or words n x = get_or_default words n d x some in
    let last : i ≡ n → IsSameBut word (get_or words n d).now = λ e. subst (λ (y : Bor (List ℕ)). IsSameBut word y.now) (sym is ∙ ap (λ j. get_or words j x) e ∙ sym there) same in
    grind (arith, old i x, λ (e : i ≡ n). here (last e))

pub loop-other-preserved : goal.loop-other-preserved
loop-other-preserved g c =
    let old = c.loop-other.invariant in
    let word = c.args.word.now in
    let words = c.args.words.now in
    let n = c.loop-other.other-index in
    let d : Bor (List ℕ) = record { ref_ptr = (0, 0); now = [] } in
    elim c.if-len-lt-MOST_NEAR.branch [
      | then-len-lt-MOST_NEAR+then-eq_ignore_ascii_case+in_ok-push w ↦
          let same : IsSameBut word (get_or words n d).now = w.eq_ignore_ascii_case.ensures.test.0 w.if-eq_ignore_ascii_case.true in
          rw (w.those-is, w.in_ok-push.ensures.items) record {
            near = All-push (λ other. IsNear word words other.now) _ _ old.near (is_near_but word words n d c.loop-other-test.true same);
            same = All-push (λ other. IsSameBut word other.now) _ _ old.same same;
            none = λ empty. absurd (grind (arith, length-append, ap length empty));
            few = grind (arith, length-append, c.len.ensures, w.if-len-lt-MOST_NEAR.true);
          }
      | else-len-lt-MOST_NEAR w ↦ rw w.those-is record {
        near = old.near;
        same = old.same;
        none = λ empty. elim w.else-len-lt-MOST_NEAR.branch [
          | else-len-lt-MOST_NEAR-via-then-len-lt-MOST_NEAR+else-eq_ignore_ascii_case v ↦
              one_more word words n d c.loop-other-test.true (old.none empty) (λ same. grind (arith, v.eq_ignore_ascii_case.ensures.test.1 same, v.if-eq_ignore_ascii_case.false))
          | else-len-lt-MOST_NEAR-via-else-len-lt-MOST_NEAR v ↦ absurd (grind (arith, ap length empty, c.len.ensures, v.if-len-lt-MOST_NEAR.false))
        ];
        few = old.few;
      }
    ]

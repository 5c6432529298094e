use Rattle.std.proofs.Common.{◌≡◌, ◌∙◌, ℕ, List, [], ◌∷◌, All, IfSome, Option, ap, arith, subst, sym}
use Rattle.std.specs.Borrow.{Bor}
use Rattle.std.specs.Prelude.{slice_get}
use Rattle.near_words.specs.Near.{IsNear}
use Rattle.line_reasons.proofs.word_fault.meant.Goals as goal

-- what is so of all is so of the first, where there is one
first_of : (P : Bor (List ℕ) → Type 0) (xs : List (Bor (List ℕ))) (r : Option (Bor (List ℕ))) → r ≡ slice_get xs 0 → All P xs → IfSome r P
first_of P [] r e all = subst (λ (o : Option (Bor (List ℕ))). IfSome o P) (sym e) tt
first_of P (x ∷ xs) r e all = subst (λ (o : Option (Bor (List ℕ))). IfSome o P) (sym e) (all 0 x (omega arith))

pub returns-in-Ok-near : goal.returns-in-Ok-near
returns-in-Ok-near g c =
    let first = c.copied.ensures ∙ (c.first.ensures.value ∙ ap (λ (xs : List (Bor (List ℕ))). slice_get xs 0) c.deref.ensures.value) in
    subst (λ (word : List ℕ). IfSome c.copied.result (λ other. IsNear word c.args.words.now other.now)) c.in-Ok.ensures.cases.0
    (first_of (λ other. IsNear c.in-Ok.word.now c.args.words.now other.now) c.in-Ok-near.those.items c.copied.result first c.in-Ok-near.ensures.near)

-- What is wrong with a line.
use Rattle.std.proofs.Common.{◌≡◌, ℕ, ◌+◌, ◌-◌, ◌^◌, ◌<◌, Bool, true, false, not, eqb, List, [], ◌∷◌, ◌++◌, Option, Some, None, take, drop, length, get_or, refl, sym, ap, ◌∙◌, subst, arith, inl, inr}
use Rattle.std.specs.Prelude.{◌⊎◌, ◌↔◌, Contains, Decides, IsTrue, MatchOption, is_none, is_some}
use Rattle.std.specs.Cmp.Lexicographic.{pointwise}
use Rattle.std.specs.List.{IsAnyAnswer}
use Rattle.std.proofs.lemmas.Bool.Decides.{Decides-eqb}
use Rattle.std.proofs.lemmas.List.Elements.{contains_decides, Decides-contains}
use Rattle.std.proofs.lemmas.Slice.Eq.{starts_is, ends_is}
use Rattle.std.proofs.lemmas.Bool.{cases_lt, false≢true}
use Rattle.std.proofs.lemmas.List.{take-append-drop, length-append, get_or-append-add, get_or_read}
use Rattle.std.proofs.lemmas.List.Prefix.{at_from_reads, front_reads}
use Rattle.std.proofs.lemmas.Iterator.{YieldsList}
use Rattle.std.proofs.lemmas.Iterator.Consumers.{YieldsList-turn, YieldsList-end}
use Rattle.std.specs.Iterator.{Yields}
use Rattle.memchr.specs.Find.{OccursAt, FindsNeedle}
use Rattle.line_reasons.specs.declared.number.NumberFault.{NumberFault}
use Rattle.line_reasons.specs.Numbers.{IsNumber, IsNumberFault}
use Rattle.line_reasons.specs.Lines.{BeginsWith, EndsWith, Has, IsWordFault, IsBehindNumber, IsFaultAt, NoneBefore}

-- ---- bytes in a row

has_at : (line part : List ℕ) (k : ℕ) → OccursAt line part k → Has line part
has_at line part k found =
    (take k line, drop (k + length part) line, sym (take-append-drop k line) ∙ ap (λ l. take k line ++ l) (at_from_reads 0 line part k found.fits found.reads))

place_of : (line part : List ℕ) → (has : Has line part) → OccursAt line part (length has.0)
place_of line part has = record {
  fits = omega (arith, ap length has.2, length-append has.0 (part ++ has.1), length-append part has.1);
  reads = λ j below. ap (λ l. get_or l (length has.0 + j) 0) has.2 ∙ (get_or-append-add has.0 (part ++ has.1) j 0 ∙ front_reads 0 (part ++ has.1) part has.1 refl j below);
}

-- what a search finds
pub found : (line part : List ℕ) (place : Option ℕ) → FindsNeedle line part 0 place → MatchOption place (¬ (Has line part)) (λ _. Has line part)
found line part None none = λ has. let at = place_of line part has in none (length has.0) (omega arith) (omega (arith, at.fits)) at
found line part (Some k) is = has_at line part k is.1

-- ---- tests

pub contains_is : (line : List ℕ) (byte : ℕ) (test : Bool) → IsAnyAnswer (λ y b. eqb y byte ≡ b) line test → Decides test (Contains line byte)
contains_is line byte test answer = Decides-contains line byte test (contains_decides eqb Decides-eqb line byte test answer)

pub begins_is : (line part : List ℕ) (test : Bool) → test ≡ pointwise eqb part (take (length part) line) → Decides test (BeginsWith line part)
begins_is line part test value =
    let is = starts_is Decides-eqb line part test value in (λ t. (drop (length part) line, is.0 t), λ b. is.1 b.0 b.1)

pub end_is : (line part : List ℕ) (test : Bool) → test ≡ pointwise eqb part (drop (length line - length part) line) → Decides test (EndsWith line part)
end_is line part test value =
    let is = ends_is Decides-eqb line part test value in (λ t. (take (length line - length part) line, is.0 t), λ b. is.1 b.0 b.1)

pub found_is : (line part : List ℕ) (place : Option ℕ) (test : Bool) → FindsNeedle line part 0 place → test ≡ is_some place → Decides test (Has line part)
found_is line part None test none value = (λ t. absurd (false≢true (sym value ∙ t)), λ has. absurd (found line part None none has))
found_is line part (Some k) test is value = (λ _. found line part (Some k) is, λ _. value)

pub negated : (a b : Bool) → not a ≡ b → a ≡ not b
negated true b is = ap not is
negated false b is = ap not is

pub nothing : (line : List ℕ) → length line ≡ 0 → line ≡ []
nothing [] e = refl
nothing (b ∷ line) e = absurd (omega (arith, e))

pub not_empty : (line : List ℕ) (empty newline : Bool) → empty ≡ false → empty ≡ eqb (length line) 0 → newline ≡ false → (line ≡ 10 ∷ [] → newline ≡ true) → ¬ ((line ≡ []) ⊎ (line ≡ 10 ∷ []))
not_empty line empty newline is_false value no_newline tells (inl is) = false≢true (sym is_false ∙ (value ∙ ap (λ (l : List ℕ). eqb (length l) 0) is))
not_empty line empty newline is_false value no_newline tells (inr is) = false≢true (sym no_newline ∙ tells is)

-- ---- words

-- a turn of a `for` over a chain, and its end, where the turn says what the chain's steps are
pub turn_of : {S A B : Type 0} {steps : S → Option A → S → Type 0} {v : A → B} {s : S} {all : List B} (xs : List A) (t : S) (y : Yields steps s xs t) → (r : Option A) (u : S) (x : A) → r ≡ Some x → steps t r u → YieldsList steps v s all → (length xs < length all) × (v x ≡ get_or all (length xs) (v x))
turn_of xs t y r u x is step e = YieldsList-turn e xs t y r u x is step

pub end_of : {S A B : Type 0} {steps : S → Option A → S → Type 0} {v : A → B} {s : S} {all : List B} (xs : List A) (t : S) (y : Yields steps s xs t) → (r : Option A) (u : S) → r ≡ None → steps t r u → YieldsList steps v s all → length xs ≡ length all
end_of xs t y r u is step e = (YieldsList-end e xs t y r u is step).1

same_fault : (P Q : Type 0) (word : List ℕ) (why : NumberFault) → (P → Q) → IsWordFault P word why → IsWordFault Q word why
same_fault P Q word why f (inl number) = inl number
same_fault P Q word why f (inr unit) = inr (unit.0, unit.1, f unit.2)

module _ (words : List (List ℕ)) (at : ℕ) (word : List ℕ) (within : at < length words) (is : word ≡ get_or words at word) (behind : Bool) (tells : IsTrue behind ↔ IsBehindNumber words at) where
  pub word_is : word ≡ get_or words at []
  word_is = get_or_read words at word within is []

  -- the word at this place is told of
  pub fault_at : (why : NumberFault) → IsWordFault (IsTrue behind) word why → IsFaultAt words at why
  fault_at why fault = subst (λ (w : List ℕ). IsWordFault (IsBehindNumber words at) w why) word_is (same_fault _ _ word why tells.0 fault)

  -- or it is not
  pub none_more : NoneBefore words at → ((why : NumberFault) → ¬ (IsWordFault (IsTrue behind) word why)) → NoneBefore words (at + 1)
  none_more none here k why below fault =
      elim (cases_lt k at) [
        | inl before ↦ none k why before fault
        | inr past ↦
            let last : k ≡ at = omega arith in
            let at_last : IsFaultAt words at why = subst (λ (i : ℕ). IsFaultAt words i why) last fault in
            here why (same_fault _ _ word why tells.1 (subst (λ (w : List ℕ). IsWordFault (IsBehindNumber words at) w why) (sym word_is) at_last))
      ]

  before : at ≡ at + 1 - 1
  before = omega arith

  -- whether the next word stands behind a number
  pub behind_more : (fault : Option NumberFault) → MatchOption fault (IsNumber (2 ^ 64 - 1) word) (IsNumberFault (2 ^ 64 - 1) word) → (IsNumber (2 ^ 64 - 1) word → fault ≡ None) → IsTrue (is_none fault) ↔ IsBehindNumber words (at + 1)
  behind_more None number only = (λ _. (omega arith, subst (IsNumber (2 ^ 64 - 1)) (word_is ∙ ap (λ i. get_or words i []) before) number), λ _. refl)
  behind_more (Some why) fault only = (
    λ test. absurd (false≢true test),
    λ next.
        let number : IsNumber (2 ^ 64 - 1) word = subst (IsNumber (2 ^ 64 - 1)) (sym (word_is ∙ ap (λ i. get_or words i []) before)) next.1 in
        let none : Some why ≡ None = only number in
        absurd (cc),
  )

-- Texts of which some lines of one kind were read.
use Rattle.std.proofs.Common.{◌≡◌, ◌==◌, false, ℕ, ◌+◌, ◌<◌, ◌≤◌, List, [], ◌∷◌, ◌++◌, length, sym, ap, ◌∙◌, arith, append_assoc, append-nil, length-append}
use Rattle.std.specs.Prelude.{All, flat_map}
use Rattle.std.specs.List.{AllByRecursion}
use Rattle.std.proofs.lemmas.Bool.{false≢true}
use Rattle.std.proofs.lemmas.Grind.{flat_map-append}
use Rattle.std.proofs.lemmas.List.Elements.{All-push, recursion_from_All}
use Rattle.trace_text.specs.Reading.{IsUnread}
use Rattle.trace_text.proofs.Parts.{IsOnce}
use Rattle.line_reasons.specs.Texts.{AreLines, IsFirstLine, IsFirstOtherThan}

-- of a text some lines are read, the rest is left, and the next line has this number
pub record IsLeft {V : Type 0} (spell : V → List ℕ) (fits : V → Type 0) (text rest : List ℕ) (number : ℕ) : Type 0 where
  pub values : List V
  pub fit : All fits values
  pub spelled : text ≡ flat_map spell values ++ rest
  pub counted : number ≡ length values + 1

-- where some bytes are left
pub some_left : (rest : List ℕ) → (length rest == 0) ≡ false → 0 < length rest
some_left [] not = absurd (false≢true (sym not))
some_left (b ∷ rest) not = omega arith

-- a line has a byte at least
abbrev pub HaveBytes : {V : Type 0} → (V → List ℕ) → (V → Type 0) → Type 0
HaveBytes {V} spell fits = (value : V) → fits value → 0 < length (spell value)

module _ {V : Type 0} (spell : V → List ℕ) (fits : V → Type 0) where
  -- the text of some lines, and one more
  text_more : (values : List V) (value : V) → flat_map spell (values ++ value ∷ []) ≡ flat_map spell values ++ spell value
  text_more values value = flat_map-append spell values (value ∷ []) ∙ ap (λ l. flat_map spell values ++ l) (append-nil (spell value))

  -- behind a line less is left
  pub fewer_left : HaveBytes spell fits → (value : V) (rest behind : List ℕ) → fits value → rest ≡ spell value ++ behind → length behind + 1 ≤ length rest
  fewer_left some value rest behind fit is = omega (arith, some value fit, ap length is, length-append (spell value) behind)

  -- one more line is read
  pub one_read : (text rest behind : List ℕ) (number : ℕ) (value : V) → IsLeft spell fits text rest number → fits value → rest ≡ spell value ++ behind → IsLeft spell fits text behind (number + 1)
  one_read text rest behind number value left fit is = record {
    values = left.values ++ value ∷ [];
    fit = All-push fits left.values value left.fit fit;
    spelled = left.spelled ∙ (ap (λ l. flat_map spell left.values ++ l) is ∙ (sym (append_assoc (flat_map spell left.values) (spell value) behind) ∙ ap (λ l. l ++ behind) (sym (text_more left.values value))));
    counted = omega (arith, left.counted, length-append left.values (value ∷ []));
  }

  -- where no line of the kind stands in front of what is left, its first line is the first of another
  pub other_left : (text rest line : List ℕ) (number : ℕ) → IsLeft spell fits text rest number → IsUnread spell fits rest → 0 < length rest → IsFirstLine line rest → IsFirstOtherThan spell fits text number line
  other_left text rest line number left none some first = record {
    values = left.values;
    fit = left.fit;
    rest = rest;
    spelled = left.spelled;
    counted = left.counted;
    none = none;
    some = some;
    first = first;
  }

  -- ---- no other reading

  -- lines and a rest, which is some bytes and begins with none, are no lines of the kind
  no_lines : HaveBytes spell fits → IsOnce spell fits → (xs ys : List V) (rest : List ℕ) → AllByRecursion fits xs → AllByRecursion fits ys → IsUnread spell fits rest → 0 < length rest → flat_map spell xs ++ rest ≡ flat_map spell ys → ⊥
  no_lines bytes once [] [] rest p q none some h = omega (arith, some, ap length h)
  no_lines bytes once [] (y ∷ ys) rest p q none some h = none y (flat_map spell ys) q.0 h
  no_lines bytes once (x ∷ xs) [] rest p q none some h =
      omega (arith, bytes x p.0, ap length h, length-append (flat_map spell (x ∷ xs)) rest, length-append (spell x) (flat_map spell xs))
  no_lines bytes once (x ∷ xs) (y ∷ ys) rest p q none some h =
      let both = once x y (flat_map spell xs ++ rest) (flat_map spell ys) p.0 q.0 (sym (append_assoc (spell x) (flat_map spell xs) rest) ∙ h) in
      no_lines bytes once xs ys rest p.1 q.1 none some both.1

  -- a text with a line of another kind is not that of lines of this one
  pub other_denies : HaveBytes spell fits → IsOnce spell fits → (text line : List ℕ) (number : ℕ) → IsFirstOtherThan spell fits text number line → AreLines spell fits text → ⊥
  other_denies bytes once text line number other are =
      no_lines bytes once other.values are.0 other.rest (recursion_from_All fits other.values other.fit) (recursion_from_All fits are.0 are.1) other.none other.some (sym other.spelled ∙ are.2)

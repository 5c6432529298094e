-- Words in the places of numbers. All of it is this project's rule.
use Rattle.std.specs.Prelude.{◌≡◌, ℕ, List}
use Rattle.std.specs.Fmt.{decimal}
use Rattle.line_reasons.specs.declared.form.EventNumber.{EventNumber}
use Rattle.line_reasons.specs.Numbers.{FitsNumber}

-- a word is the decimal text of a number that fits in this place
abbrev pub IsPlaced : EventNumber → List ℕ → Type 0
IsPlaced number word = (n : ℕ) × FitsNumber number n × (word ≡ decimal n)

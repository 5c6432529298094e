-- What is wrong with a line, whatever forms of lines there are. All of it is this project's rule.
use Rattle.std.specs.Prelude.{◌≡◌, ◌≢◌, ℕ, ◌-◌, ◌^◌, ◌<◌, ◌==◌, ◌⊎◌, List, [], ◌∷◌, ◌++◌, Option, Some, None, Contains, length, take, slice_index_or, codes}
use Rattle.std.specs.List.{slice_split}
use Rattle.line_reasons.specs.declared.line.LineFault.{LineFault}
use Rattle.line_reasons.specs.declared.line.LineFault.TheVariants as fault
use Rattle.line_reasons.specs.declared.number.NumberFault.{NumberFault}
use Rattle.line_reasons.specs.declared.number.NumberFault.TheVariants as number
use Rattle.line_reasons.specs.Numbers.{IsNumber, IsNumberFault, units}

-- some bytes begin with others, end with others, or have others somewhere
abbrev pub BeginsWith : List ℕ → List ℕ → Type 0
BeginsWith bytes front = (rest : List ℕ) × (bytes ≡ front ++ rest)

abbrev pub EndsWith : List ℕ → List ℕ → Type 0
EndsWith bytes end = (front : List ℕ) × (bytes ≡ front ++ end)

abbrev pub Has : List ℕ → List ℕ → Type 0
Has bytes part = (front rest : List ℕ) × (bytes ≡ front ++ (part ++ rest))

-- what is wrong with a line, with its newline, whatever its words are
abbrev pub IsFormFault : List ℕ → LineFault → Type 0
IsFormFault line fault.Empty = (line ≡ []) ⊎ (line ≡ codes "\n")
IsFormFault line fault.CarriageReturn = Contains line 13
IsFormFault line fault.NoNewline = ¬ (EndsWith line (codes "\n"))
IsFormFault line fault.Tab = Contains line 9
IsFormFault line fault.SpaceInFront = BeginsWith line (codes " ")
IsFormFault line fault.SpaceAtEnd = EndsWith line (codes " \n")
IsFormFault line fault.TwoSpaces = Has line (codes "  ")
IsFormFault line _ = ⊥

-- these, in the order in which they are told
abbrev pub space_faults : List LineFault
space_faults = fault.Tab ∷ fault.SpaceInFront ∷ fault.SpaceAtEnd ∷ fault.TwoSpaces ∷ []

abbrev pub form_faults : List LineFault
form_faults = fault.Empty ∷ fault.CarriageReturn ∷ fault.NoNewline ∷ space_faults

-- the first of some faults that is so of a line; none where none is
abbrev pub IsFirstFault : List LineFault → List ℕ → Option LineFault → Type 0
IsFirstFault [] line told = told ≡ None
IsFirstFault (first ∷ later) line told = (IsFormFault line first × (told ≡ Some first)) ⊎ (¬ (IsFormFault line first) × IsFirstFault later line told)

-- the words of a line: what stands between its spaces, up to its newline
abbrev pub words_of : List ℕ → List (List ℕ)
words_of line = slice_split (λ byte. byte == 32) (take (length line - 1) line)

-- a word is told of as a number: it is one but for this fault, or it is a unit behind one
abbrev pub IsWordFault : Type 0 → List ℕ → NumberFault → Type 0
IsWordFault is_behind word why =
    (IsNumberFault (2 ^ 64 - 1) word why × (why ≢ number.NoNumber)) ⊎ ((why ≡ number.Unit) × Contains units word × is_behind)

-- the word before this place is a number
abbrev pub IsBehindNumber : List (List ℕ) → ℕ → Type 0
IsBehindNumber words at = (0 < at) × IsNumber (2 ^ 64 - 1) (slice_index_or words (at - 1) [])

-- the word at this place is told of as a number
abbrev pub IsFaultAt : List (List ℕ) → ℕ → NumberFault → Type 0
IsFaultAt words at why = IsWordFault (IsBehindNumber words at) (slice_index_or words at []) why

-- no word before this place is
abbrev pub NoneBefore : List (List ℕ) → ℕ → Type 0
NoneBefore words end = (at : ℕ) (why : NumberFault) → at < end → ¬ (IsFaultAt words at why)

-- what is wrong with the words of a line: the first that is told of, or none
abbrev pub IsWordsFault : List (List ℕ) → LineFault → Type 0
IsWordsFault words (fault.Number word why) = (at : ℕ) × (at < length words) × (word.now ≡ slice_index_or words at []) × IsFaultAt words at why × NoneBefore words at
IsWordsFault words fault.NoSuchLine = NoneBefore words (length words)
IsWordsFault words _ = ⊥

-- what is wrong with a line, with its newline: with its form, or else with its words
abbrev pub IsLineFault : List ℕ → LineFault → Type 0
IsLineFault line told = IsFirstFault form_faults line (Some told) ⊎ (IsFirstFault form_faults line None × IsWordsFault (words_of line) told)

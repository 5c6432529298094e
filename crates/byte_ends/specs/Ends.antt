-- Ends: how the faults of a source or a sink are counted, and what tries at either did.
-- The counting is this project's rule; the words on bytes are those of std's readers and writers.
use Rattle.std.specs.Prelude.{◌≡◌, ◌≢◌, ℕ, ◌+◌, ◌-◌, ◌^◌, ◌<◌, ◌≤◌, ◌⊎◌, min, List, Option, Some, None, Bool, true, false, take, length, Result, MatchResult}
use Rattle.std.specs.IoError.{error_kind}
use Rattle.std.specs.Io.KnownBytes.{Consumes, Appends, Keeps, IsAtEnd}
use Rattle.std.specs.declared.io.Error.{Error}
use Rattle.std.specs.declared.io.ErrorKind.{ErrorKind}
use Rattle.std.specs.declared.io.ErrorKind.TheVariants.{Interrupted}

-- the greatest value of a count, at which it stays (this project's rule)
abbrev pub greatest : ℕ
greatest = 2 ^ 64 - 1

-- how many fruitless calls of an end in a row are a fault (this project's rule)
abbrev pub most_fruitless : ℕ
most_fruitless = 1000

-- a count grows by n, but not past its greatest value (this project's rule)
abbrev pub RisesBy : ℕ → ℕ → ℕ → Type 0
RisesBy n count count' = count' ≡ count + min n (greatest - count)

-- none of some calls of an end failed, and n of them were fruitless
abbrev pub NoneFailed : ℕ → ℕ → ℕ → ℕ → ℕ → Type 0
NoneFailed n failed fruitless failed' fruitless' = (failed' ≡ failed) × RisesBy n fruitless fruitless'

-- one of some calls of an end failed, and n of them were fruitless
abbrev pub OneFailed : ℕ → ℕ → ℕ → ℕ → ℕ → Type 0
OneFailed n failed fruitless failed' fruitless' = RisesBy 1 failed failed' × RisesBy n fruitless fruitless'

-- ---- one call of an end

-- what a fault of this kind counts: one of kind Interrupted as fruitless, and each other one as failed (this project's rule)
abbrev pub CountsFault : ErrorKind → ℕ → ℕ → ℕ → ℕ → Type 0
CountsFault kind failed fruitless failed' fruitless' =
    (kind ≡ Interrupted → NoneFailed 1 failed fruitless failed' fruitless')
    × (kind ≢ Interrupted → OneFailed 0 failed fruitless failed' fruitless')

-- what a read counts: its faults alone
abbrev pub CountsRead : Result ℕ Error → ℕ → ℕ → ℕ → ℕ → Type 0
CountsRead r failed fruitless failed' fruitless' = MatchResult r
    (λ _. NoneFailed 0 failed fruitless failed' fruitless')
    (λ e. CountsFault (error_kind e) failed fruitless failed' fruitless')

-- what a write counts: its faults, and a write that took nothing of a text that isn't empty, as failed (this project's rule)
abbrev pub CountsWrite : Result ℕ Error → List ℕ → ℕ → ℕ → ℕ → ℕ → Type 0
CountsWrite r text failed fruitless failed' fruitless' = MatchResult r
    (λ n. (0 < n → NoneFailed 0 failed fruitless failed' fruitless')
    × (length text ≡ 0 → NoneFailed 0 failed fruitless failed' fruitless')
    × (n ≡ 0 → 0 < length text → OneFailed 0 failed fruitless failed' fruitless'))
    (λ e. CountsFault (error_kind e) failed fruitless failed' fruitless')

-- ---- one try: calls of an end up to the first that is not fruitless, and as many in a row as are a fault at most (this project's rule)

-- `Some n`: n bytes came, and none only at the end or with no room for one; `None`: nothing was consumed
abbrev pub ReadsSome : Option ℕ → Option (List ℕ) → Option (List ℕ) → List ℕ → Type 0
ReadsSome (Some n) old new buf = (n ≤ length buf) × Consumes old new (take n buf) × (n ≡ 0 → 0 < length buf → IsAtEnd new)
ReadsSome None old new buf = Keeps old new

-- `Some n`: the first n bytes were appended, one at least; `None`: nothing was
abbrev pub WritesSome : Option ℕ → Option (List ℕ) → Option (List ℕ) → List ℕ → Type 0
WritesSome (Some n) old new text = (0 < n) × (n ≤ length text) × Appends old new (take n text)
WritesSome None old new text = Keeps old new

-- the last call did something
abbrev pub IsGoodTry : ℕ → ℕ → ℕ → ℕ → Type 0
IsGoodTry failed fruitless failed' fruitless' = (n : ℕ) × (n < most_fruitless) × NoneFailed n failed fruitless failed' fruitless'

-- the last call failed, or all were fruitless, and as many as are a fault
abbrev pub IsBadTry : ℕ → ℕ → ℕ → ℕ → Type 0
IsBadTry failed fruitless failed' fruitless' =
    ((n : ℕ) × (n < most_fruitless) × OneFailed n failed fruitless failed' fruitless')
    ⊎ NoneFailed most_fruitless failed fruitless failed' fruitless'

-- `Some n` is a good try, and `None` a bad one
abbrev pub CountsTry : Option ℕ → ℕ → ℕ → ℕ → ℕ → Type 0
CountsTry (Some n) failed fruitless failed' fruitless' = IsGoodTry failed fruitless failed' fruitless'
CountsTry None failed fruitless failed' fruitless' = IsBadTry failed fruitless failed' fruitless'

-- ---- tries one behind the other

-- what tries count of which each was good: no call failed, and some were fruitless
abbrev pub AllGood : ℕ → ℕ → ℕ → ℕ → Type 0
AllGood failed fruitless failed' fruitless' = (n : ℕ) × NoneFailed n failed fruitless failed' fruitless'

-- what tries count of which the last alone was bad: one call failed, or at least as many were fruitless as are a fault. That
-- these stood in a row is said of each try by itself, as IsBadTry has it
abbrev pub LastBad : ℕ → ℕ → ℕ → ℕ → Type 0
LastBad failed fruitless failed' fruitless' =
    ((n : ℕ) × OneFailed n failed fruitless failed' fruitless')
    ⊎ ((n : ℕ) × (most_fruitless ≤ n) × NoneFailed n failed fruitless failed' fruitless')

-- `true`: the whole text was appended; `false`: a front of it
abbrev pub WritesText : Bool → Option (List ℕ) → Option (List ℕ) → List ℕ → Type 0
WritesText true old new text = Appends old new text
WritesText false old new text = (n : ℕ) × (n ≤ length text) × Appends old new (take n text)

-- `true`: what good tries count; `false`: what they count where the last was bad
abbrev pub CountsTries : Bool → ℕ → ℕ → ℕ → ℕ → Type 0
CountsTries true failed fruitless failed' fruitless' = AllGood failed fruitless failed' fruitless'
CountsTries false failed fruitless failed' fruitless' = LastBad failed fruitless failed' fruitless'

-- ---- what contracts see of ends

-- what contracts see of a wrapper: the end within, and its two counts
pub record Counted (E : Type 0) : Type 0 where
  pub end : E
  pub failed : ℕ
  pub fruitless : ℕ

-- what contracts see of a source over memory: the bytes that are left, and how many of them it gives a read at most
pub record Supply : Type 0 where
  pub left : List ℕ
  pub most : ℕ

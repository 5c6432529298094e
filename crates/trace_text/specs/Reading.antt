-- Reading: what stands at the front of some bytes (this project's rule).
use Rattle.std.specs.Prelude.{◌≡◌, ◌≢◌, ℕ, ◌<◌, ◌≤◌, List, ◌++◌, drop, length, codes, slice_index}
use Rattle.std.specs.Fmt.{decimal}
use Rattle.std.specs.Int.{IsInRange}
use Rattle.executor_model.specs.declared.Event.{Event}
use Rattle.executor_model.specs.declared.Line.{Line}
use Rattle.trace_text.specs.declared.front.Front.{Front}
use Rattle.trace_text.specs.declared.front.Front.TheVariants as front
use Rattle.trace_text.specs.Spelling.{IsLine, event_line, FitsEvent, line_text, FitsLine}

-- the greatest number of bytes of a line that is read as an event's, with its newline (this project's limit; no event's is so long)
abbrev pub most_event_bytes : ℕ
most_event_bytes = 63

-- the spelling of a value that fits stands at the front, and what follows it
abbrev pub IsRead : {V : Type 0} → (V → List ℕ) → (V → Type 0) → List ℕ → V → List ℕ → Type 0
IsRead spell fits bytes v rest = fits v × (bytes ≡ spell v ++ rest)

-- no spelling of a value that fits stands at the front
abbrev pub IsUnread : {V : Type 0} → (V → List ℕ) → (V → Type 0) → List ℕ → Type 0
IsUnread {V} spell fits bytes = (v : V) (rest : List ℕ) → fits v → bytes ≢ spell v ++ rest

-- a number, and a word behind it
abbrev pub number_then : List ℕ → ℕ → List ℕ
number_then word n = decimal n ++ word

-- what is said of a value, and a word behind it
abbrev pub text_then : {V : Type 0} → (V → List ℕ) → List ℕ → V → List ℕ
text_then text word v = text v ++ word

-- below a limit
abbrev pub Below : ℕ → ℕ → Type 0
Below limit n = n < limit

-- each value fits
abbrev pub Any : {V : Type 0} → V → Type 0
Any v = Unit {0}

-- no digit stands in front, so that a number before these bytes ends there: past the last byte stands 0, which is no digit
abbrev pub EndsNumber : List ℕ → Type 0
EndsNumber rest = IsInRange 48 57 (slice_index rest 0) → ⊥

-- no newline yet, and fewer bytes than are read as a line: none of an event, perhaps, whatever follows
abbrev pub IsPart : List ℕ → Type 0
IsPart bytes = IsLine bytes × (length bytes < most_event_bytes)

-- one of three. `Event e n`: the line of the event e stands at the front, n bytes with its newline; `Part`: bytes of which
-- more may make a line; `Refused`: neither, so that the first line is no event's, or is too long
abbrev pub IsFront : Front → List ℕ → Type 0
IsFront (front.Event e n) bytes = IsRead event_line FitsEvent bytes e (drop n bytes) × (0 < n) × (n ≤ length bytes)
IsFront front.Part bytes = IsPart bytes
IsFront front.Refused bytes = IsUnread event_line FitsEvent bytes × (IsPart bytes → ⊥)

-- of some bytes one front is so
abbrev pub FrontsAreOne : Type 0
FrontsAreOne = (a b : Front) (bytes : List ℕ) → IsFront a bytes → IsFront b bytes → a ≡ b

-- a front that is no part is so whatever follows
abbrev pub FrontsStay : Type 0
FrontsStay = (a : Front) (bytes more : List ℕ) → a ≢ front.Part → IsFront a bytes → IsFront a (bytes ++ more)

-- one line spells one event, and no event's line is the front of another's
abbrev pub EventLinesAreOne : Type 0
EventLinesAreOne = (e f : Event) (rest tail : List ℕ) → FitsEvent e → FitsEvent f → event_line e ++ rest ≡ event_line f ++ tail → (e ≡ f) × (rest ≡ tail)

-- one text spells one line, and no line's text is the front of another's
abbrev pub LinesAreOne : Type 0
LinesAreOne = (a b : Line) (rest tail : List ℕ) → FitsLine a → FitsLine b → line_text a ++ rest ≡ line_text b ++ tail → (a ≡ b) × (rest ≡ tail)

-- a line has one newline, and it is its last byte
abbrev pub LinesEndOnce : Type 0
LinesEndOnce = (line : Line) → FitsLine line → (front : List ℕ) × IsLine front × (line_text line ≡ front ++ codes "\n")

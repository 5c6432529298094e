-- Texts: the text of a line has a byte at least, and that of lines goes on by a line.
use Rattle.std.proofs.Common.{◌≡◌, ℕ, zero, suc, ◌+◌, ◌/◌, ◌%◌, ◌==◌, ◌<◌, List, [], ◌∷◌, ◌++◌, Bool, true, false, cond, Some, take, length, decimal, ap, ◌∙◌, arith, append-nil, length-append}
use Rattle.std.specs.Fmt.{digits, digits_onto, digit_glyph}
use Rattle.std.specs.Prelude.{slice_get}
use Rattle.std.proofs.lemmas.List.{take_more}
use Rattle.std.proofs.lemmas.List.Concat.{flat_map-append, flat_map-cons}
use Rattle.std.proofs.lemmas.Option.{slice_get_within, get_or_from_slice_get}
use Rattle.executor_model.specs.declared.types.Line.{Line}
use Rattle.trace_text.specs.Spelling.{line_text, lines_text, message_text}

either_some : (b : Bool) (xs ys : List ℕ) → 0 < length xs → 0 < length ys → 0 < length (cond b xs ys)
either_some true xs ys some _ = some
either_some false xs ys _ some = some

onto_some : (k n x : ℕ) (acc : List ℕ) → 0 < length (digits_onto k 10 false n (x ∷ acc))
onto_some zero n x acc = omega arith
onto_some (suc k) n x acc = let d = digit_glyph false (n % 10) in either_some (n / 10 == 0) (d ∷ x ∷ acc) (digits_onto k 10 false (n / 10) (d ∷ x ∷ acc)) (omega arith) (onto_some k (n / 10) d (x ∷ acc))

-- a number has a digit, however great it is
decimal_some : (n : ℕ) → 0 < length (decimal n)
unfolding digits
decimal_some n = let d = digit_glyph false (n % 10) in either_some (n / 10 == 0) (d ∷ []) (digits_onto 63 10 false (n / 10) (d ∷ [])) (omega arith) (onto_some 63 (n / 10) d [])

-- the text of a line has a byte
pub line_some : (line : Line) → 0 < length (line_text line)
line_some line = omega (arith, decimal_some line.moment, length-append (decimal line.moment) (message_text line.message))

-- the text of one line more
pub lines_on : (all : List Line) (i : ℕ) (line : Line) → slice_get all i ≡ Some line → lines_text (take (i + 1) all) ≡ lines_text (take i all) ++ line_text line
lines_on all i line next =
    let low : i < length all = slice_get_within all i line next in
    let more : take (i + 1) all ≡ take i all ++ (line ∷ []) = take_more all i line low ∙ ap (λ l. take i all ++ (l ∷ [])) (get_or_from_slice_get all i line line next) in
    ap lines_text more ∙ (flat_map-append line_text (take i all) (line ∷ []) ∙ ap (λ l. lines_text (take i all) ++ l) (flat_map-cons line_text line [] ∙ append-nil (line_text line)))

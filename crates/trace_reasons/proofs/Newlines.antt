-- Where the first newline of a text stands.
use Rattle.std.proofs.Common.{◌≡◌, ℕ, List, length, Some, None, arith}
use Rattle.std.proofs.lemmas.Bool.{false_from_ne_true}
use Rattle.std.proofs.lemmas.List.Sums.{position_or_len_is}
use Rattle.std.specs.List.{position_or_len}
use Rattle.memchr.specs.Find.{IsFirstByte, is_byte}
use Rattle.trace_reasons.specs.Standing.{is_newline}

-- it is found
pub newline_found : (text : List ℕ) (end : ℕ) → IsFirstByte (is_byte 10) text (Some end) → position_or_len is_newline text ≡ end
newline_found text end first =
    position_or_len_is is_newline text end 0 (omega (arith, first.0.high)) (λ k below. false_from_ne_true _ (first.0.before k (omega arith) below)) (λ within. first.1)

-- there is none
pub newline_missing : (text : List ℕ) → IsFirstByte (is_byte 10) text None → position_or_len is_newline text ≡ length text
newline_missing text none =
    position_or_len_is is_newline text (length text) 0 (omega arith) (λ k below. false_from_ne_true _ (none k (omega arith) below)) (λ within. absurd (omega (arith, within)))

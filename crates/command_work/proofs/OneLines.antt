-- The first line of a text is one line.
use Rattle.std.proofs.Common.{◌≡◌, ℕ, ◌+◌, ◌≤◌, ◌<◌, ◌∙◌, List, [], ◌∷◌, ◌++◌, length, length-append, Option, Some, None, false, true, refl, sym, ap, arith, get_or, take}
use Rattle.std.specs.Prelude.{codes, unwrap_or}
use Rattle.std.proofs.lemmas.Bool.{false_from_ne_true}
use Rattle.std.proofs.lemmas.List.{get_or-take, get_or_append_left, get_or_at, length-take-le}
use Rattle.std.proofs.lemmas.List.Sums.{fails_before_first, position_or_len_is}
use Rattle.std.specs.List.{before_first, position_or_len}
use Rattle.memchr.specs.Find.{IsFirstByte, is_byte}
use Rattle.command_work.specs.Refusals.{IsOneLine, front_line}
use Rattle.trace_reasons.specs.Standing.{is_newline}

-- where a search for a newline ends
pub end_found : (text : List ℕ) (place : Option ℕ) → IsFirstByte (is_byte 10) text place → unwrap_or place (length text) ≡ position_or_len is_newline text
end_found text (Some end) first =
    sym (position_or_len_is is_newline text end 0 (omega (arith, first.0.high)) (λ k below. false_from_ne_true _ (first.0.before k (omega arith) below)) (λ within. first.1))
end_found text None none =
    sym (position_or_len_is is_newline text (length text) 0 (omega arith) (λ k below. false_from_ne_true _ (none k (omega arith) below)) (λ within. absurd (omega (arith, within))))

-- the first line with a newline behind it is one line
pub front_is_one : (text : List ℕ) → position_or_len is_newline text ≤ length text → IsOneLine (front_line text)
front_is_one text within =
    ap (λ n. n + 1) (position_or_len_is is_newline (front ++ 10 ∷ []) (length front) 0 (omega (arith, long))
    (λ k below. ap is_newline (get_or_append_left front (10 ∷ []) 0 k below ∙ get_or-take end text k 0 (omega (arith, size, below))) ∙ fails_before_first is_newline text k 0 (omega (arith, size, below)))
    (λ before. ap is_newline (get_or_at front 10 [] 0 (length front) refl)))
    ∙ sym long
  where
    end : ℕ
    end = position_or_len is_newline text

    front : List ℕ
    front = before_first is_newline text

    size : length front ≡ end
    size = length-take-le end text within

    long : length (front ++ 10 ∷ []) ≡ length front + 1
    long = length-append front (10 ∷ [])

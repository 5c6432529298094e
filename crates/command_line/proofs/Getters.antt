-- Getters: what the getters of clap read, in the words of `AsksFor`.
use Rattle.std.proofs.Common.{ap, codes, refl, subst, sym, ℕ, Bool, true, false, Option, Some, None, ◌≡◌, ◌∙◌}
use Rattle.std.specs.Prelude.{option_map, unwrap_or, Ok, Err, Result}
use Rattle.std.specs.Borrow.{Bor}
use Rattle.std.specs.Str.Parse.{ExplainsUnsignedError, HasUnsignedDigitsIfOk, ParsesUnsigned}
use Rattle.std.specs.declared.num.ParseIntError.{ParseIntError}
use Rattle.clap.specs.Words.{ReadsOne, Text, one_of, one_text, rows_of}
use Rattle.clap.specs.declared.parser.matches.Found.{Found}
use Rattle.clap.proofs.WalkLemmas.{one_text-rows}
use Rattle.command_line.specs.Arguments.{IsFlagOf, IsMaybeNumberOf, IsNumberOf}

-- the text of an argument, or a text that stands for it
pub text_of_argument : (found : Option (Bor Text)) (other : Bor Text) → (unwrap_or found other).now ≡ unwrap_or (option_map (λ s. s.now) found) other.now
text_of_argument None other = refl
text_of_argument (Some s) other = refl

-- the number of an argument, or 0
number_of_argument : (E : Type 0) (Gives : Text → Result ℕ E → Type 0) (bits : ℕ) (text : Option Text) (read : Option ℕ)
    → ((t : Text) (r : Result ℕ E) → Gives t r → ParsesUnsigned bits 10 t r)
    → (text ≡ None → read ≡ None) → ((t : Text) → text ≡ Some t → ReadsOne Gives t read)
    → IsNumberOf bits text (unwrap_or read 0)
number_of_argument E Gives bits None read parses none value = ap (λ (r : Option ℕ). unwrap_or r 0) (none refl)
number_of_argument E Gives bits (Some t) read parses none value = go read (value t refl)
  where
    go : (r : Option ℕ) → ReadsOne Gives t r → IsNumberOf bits (Some t) (unwrap_or r 0)
    go (Some n) h =
        let parsed = parses t (Ok n) h in
        (λ _. parsed.1, λ no. absurd (no parsed.0))
    go None h = (λ writes. absurd (parses t (Err h.0) h.1 writes), λ _. refl)

-- the number of an argument, where it has one
maybe_number_of_argument : (E : Type 0) (Gives : Text → Result ℕ E → Type 0) (bits : ℕ) (text : Option Text) (read : Option ℕ)
    → ((t : Text) (r : Result ℕ E) → Gives t r → ParsesUnsigned bits 10 t r)
    → (text ≡ None → read ≡ None) → ((t : Text) → text ≡ Some t → ReadsOne Gives t read)
    → IsMaybeNumberOf bits text read
maybe_number_of_argument E Gives bits None read parses none value = none refl
maybe_number_of_argument E Gives bits (Some t) read parses none value = go read (value t refl)
  where
    go : (r : Option ℕ) → ReadsOne Gives t r → IsMaybeNumberOf bits (Some t) r
    go (Some n) h =
        let parsed = parses t (Ok n) h in
        (λ _. ap Some parsed.1, λ no. absurd (no parsed.0))
    go None h = (λ writes. absurd (parses t (Err h.0) h.1 writes), λ _. refl)

-- what std's parse of an unsigned number gives
abbrev Gives : ℕ → Text → Result ℕ ParseIntError → Type 0
Gives bits text r = ParsesUnsigned bits 10 text r × ExplainsUnsignedError 10 text r × HasUnsignedDigitsIfOk text r

-- the number that `get_one` gives, by the rows of the matches, or 0
pub number_found : (bits : ℕ) (found : Found) (id : Text) (read : Option ℕ) (n : ℕ)
    → (one_text found id ≡ None → read ≡ None) → ((t : Text) → one_text found id ≡ Some t → ReadsOne (Gives bits) t read)
    → n ≡ unwrap_or read 0 → IsNumberOf bits (one_of id (rows_of found)) n
number_found bits found id read n none value is =
    let by_rows : IsNumberOf bits (one_of id (rows_of found)) (unwrap_or read 0) =
    subst (λ (t : Option Text). IsNumberOf bits t (unwrap_or read 0)) (one_text-rows found id)
    (number_of_argument ParseIntError (Gives bits) bits (one_text found id) read (λ t r g. g.0) none value) in
    subst (IsNumberOf bits (one_of id (rows_of found))) (sym is) by_rows

-- the flag that `get_flag` gives, by the rows of the matches
pub flag_found : (found : Found) (id : Text) (flag : Bool)
    → (one_text found id ≡ None → flag ≡ false) → (one_text found id ≡ Some (codes "true") → flag ≡ true) → (one_text found id ≡ Some (codes "false") → flag ≡ false)
    → IsFlagOf (one_of id (rows_of found)) flag
flag_found found id flag none set unset =
    let read = one_text-rows found id in
    record { none = λ is. none (read ∙ is); set = λ is. set (read ∙ is); unset = λ is. unset (read ∙ is) }

-- the number that `get_one` gives, by the rows of the matches
pub maybe_number_found : (bits : ℕ) (found : Found) (id : Text) (read : Option ℕ)
    → (one_text found id ≡ None → read ≡ None) → ((t : Text) → one_text found id ≡ Some t → ReadsOne (Gives bits) t read)
    → IsMaybeNumberOf bits (one_of id (rows_of found)) read
maybe_number_found bits found id read none value =
    subst (λ (t : Option Text). IsMaybeNumberOf bits t read) (one_text-rows found id)
    (maybe_number_of_argument ParseIntError (Gives bits) bits (one_text found id) read (λ t r g. g.0) none value)

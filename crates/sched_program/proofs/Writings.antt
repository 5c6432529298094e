-- Writings: texts that are written one behind the other.
use Rattle.std.proofs.Common.{◌≡◌, ◌∙◌, ℕ, ◌+◌, ◌<◌, List, [], ◌∷◌, ◌++◌, take, drop, length, get_or, Option, Bool, true, false, ap, sym, subst, arith, append_assoc, append-nil, take-append-drop}
use Rattle.std.specs.List.{flat_map}
use Rattle.std.specs.Io.KnownBytes.{Appends}
use Rattle.std.proofs.KnownBytes.{Appends-trans}
use Rattle.std.proofs.lemmas.List.{length-append, take-append-le, take_more}
use Rattle.std.proofs.lemmas.List.Concat.{flat_map-append}
use Rattle.byte_ends.specs.Ends.{AllGood, CountsTries, WritesText}
use Rattle.byte_ends.proofs.Tries.{good_then_bad, good_then_good}
use Rattle.sched_engine.proofs.Runs.{gave_front}
use Rattle.command_work.specs.RefusalTexts.{text_of}
use Rattle.command_work.specs.declared.refusal.Refusal.{Refusal}

-- a text, and then another or a front of it
pub wrote_behind : (whole : Bool) (a b c : Option (List ℕ)) (front rest : List ℕ) → Appends a b front → WritesText whole b c rest → WritesText whole a c (front ++ rest)
wrote_behind true a b c front rest wrote more = Appends-trans a b c front rest wrote more
wrote_behind false a b c front rest wrote more =
    (length front + more.0, omega (arith, more.1, length-append front rest), gave_front a b c front rest more.0 wrote more.2)

-- a front of a text is one of what begins with it
pub front_of_more : (a c : Option (List ℕ)) (text rest : List ℕ) → WritesText false a c text → WritesText false a c (text ++ rest)
front_of_more a c text rest wrote =
    (wrote.0, omega (arith, wrote.1, length-append text rest), subst (Appends a c) (sym (take-append-le wrote.0 text rest wrote.1)) wrote.2)

-- the tries of both
pub counts_behind : (whole : Bool) (f r f' r' f'' r'' : ℕ) → AllGood f r f' r' → CountsTries whole f' r' f'' r'' → CountsTries whole f r f'' r''
counts_behind true f r f' r' f'' r'' good more = good_then_good f r f' r' f'' r'' good more
counts_behind false f r f' r' f'' r'' good more = good_then_bad f r f' r' f'' r'' good more

-- the text of some lines, and of one more
pub lines_more : (lines : List Refusal) (i : ℕ) (d : Refusal) → i < length lines → flat_map text_of (take (i + 1) lines) ≡ flat_map text_of (take i lines) ++ text_of (get_or lines i d)
lines_more lines i d within =
    ap (flat_map text_of) (take_more lines i d within)
    ∙ (flat_map-append text_of (take i lines) (get_or lines i d ∷ [])
    ∙ ap (λ t. flat_map text_of (take i lines) ++ t) (append-nil (text_of (get_or lines i d))))

-- the text of all lines is that of the first, of one more, and of those behind it
pub lines_left : (lines : List Refusal) (i : ℕ) (d : Refusal) → i < length lines
    → flat_map text_of lines ≡ flat_map text_of (take i lines) ++ (text_of (get_or lines i d) ++ flat_map text_of (drop (i + 1) lines))
lines_left lines i d within =
    sym (ap (flat_map text_of) (take-append-drop (i + 1) lines))
    ∙ (flat_map-append text_of (take (i + 1) lines) (drop (i + 1) lines)
    ∙ (ap (λ t. t ++ flat_map text_of (drop (i + 1) lines)) (lines_more lines i d within)
    ∙ append_assoc (flat_map text_of (take i lines)) (text_of (get_or lines i d)) (flat_map text_of (drop (i + 1) lines))))

-- the same of a line that is known
pub line_more : (lines : List Refusal) (i : ℕ) (line : Refusal) → i < length lines → line ≡ get_or lines i line → flat_map text_of (take (i + 1) lines) ≡ flat_map text_of (take i lines) ++ text_of line
line_more lines i line within is = lines_more lines i line within ∙ ap (λ l. flat_map text_of (take i lines) ++ text_of l) (sym is)

pub line_left : (lines : List Refusal) (i : ℕ) (line : Refusal) → i < length lines → line ≡ get_or lines i line
    → flat_map text_of lines ≡ flat_map text_of (take i lines) ++ (text_of line ++ flat_map text_of (drop (i + 1) lines))
line_left lines i line within is =
    lines_left lines i line within ∙ ap (λ l. flat_map text_of (take i lines) ++ (text_of l ++ flat_map text_of (drop (i + 1) lines))) (sym is)

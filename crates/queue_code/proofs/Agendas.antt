-- An agenda stays ahead of the calls that are made.
use Rattle.std.proofs.Common.{◌≡◌, zero, suc, ℕ, ◌+◌, ◌-◌, ◌<◌, List, [], ◌∷◌, length, drop, Option, refl, sym, ap, ◌∙◌, arith}
use Rattle.std.specs.Prelude.{slice_get}
use Rattle.std.proofs.lemmas.List.{drop-drop}
use Rattle.queue_code.specs.declared.instr.Instr.{Instr}
use Rattle.queue_code.specs.declared.cursor.Cursor.{Cursor}
use Rattle.queue_code.specs.Calls.{Planned}
use Rattle.queue_code.specs.Codes.{calls_of}
use Rattle.queue_code.specs.Cursors.{IsCursorOf, calls_left}
use Rattle.queue_code.specs.own.Agendas.{made_of, IsAhead}

-- the first of what is left
first_left : (calls : List Planned) (n : ℕ) → slice_get (drop n calls) 0 ≡ slice_get calls n
first_left calls zero = refl
first_left [] (suc n) = refl
first_left (p ∷ calls) (suc n) = first_left calls n

-- what is fetched is the call after the next one, once that is made
pub next_ahead : (code : List Instr) (c d : Cursor) (next later : Option Planned) (left : ℕ) → IsAhead code c next left → made_of code left < length (calls_of code) →
    IsCursorOf code d → later ≡ slice_get (calls_left code c) 0 → calls_left code d ≡ drop 1 (calls_left code c) → IsAhead code d later (left - 1)
next_ahead code c d next later left ahead low cursor is rest =
    let within = ahead.within in
    let more : made_of code (left - 1) ≡ made_of code left + 1 = omega arith in
    record {
      cursor = cursor;
      within = omega arith;
      first = is ∙ (ap (λ (ps : List Planned). slice_get ps 0) ahead.behind ∙ (first_left (calls_of code) (made_of code left + 1) ∙ ap (slice_get (calls_of code)) (sym more)));
      behind = rest ∙ (ap (drop 1) ahead.behind ∙ (drop-drop 1 (made_of code left + 1) (calls_of code) ∙ ap (λ n. drop (n + 1) (calls_of code)) (sym more)));
    }

-- Given: lines that were given out through a page, one behind the other, and fronts of them.
use Rattle.std.proofs.Common.{◌≡◌, ℕ, ◌+◌, ◌≤◌, List, [], ◌∷◌, ◌++◌, take, length, Option, Bool, true, false, ap, ◌∙◌, sym, subst, append_assoc, append-nil, arith}
use Rattle.std.specs.Io.KnownBytes.{Appends}
use Rattle.std.specs.Prelude.{flat_map}
use Rattle.std.proofs.lemmas.List.{take-append-le, length-append}
use Rattle.byte_ends.specs.Ends.{WritesText}
use Rattle.sched_engine.specs.Pieces.{Gives, Output}
use Rattle.sched_engine.proofs.Runs.{gave, gave_front}
use Rattle.plan_list.specs.Lines.{submission_line}
use Rattle.plan_compile.specs.Submissions.{Submitted}
use Rattle.plan_list.specs.own.Pages.{MakesRoom}

-- no text, with these contents
abbrev pub bare : Option (List ℕ) → Output
bare contents = record { contents = contents; text = [] }

-- a page of text, with these contents
abbrev pub paged : Option (List ℕ) → List ℕ → Output
paged contents page = record { contents = contents; text = page }

-- a front of a page was written, which is a front of all lines
pub front_given : (a b c : Option (List ℕ)) (page so_far rest all : List ℕ) (n : ℕ) → Gives (bare a) (paged b page) so_far → all ≡ so_far ++ rest
    → n ≤ length page → Appends b c (take n page) → (k : ℕ) × (k ≤ length all) × Appends a c (take k all)
front_given a b c page so_far rest all n given is within appends =
    let whole : all ≡ given.0 ++ (page ++ rest) = is ∙ (ap (λ (l : List ℕ). l ++ rest) given.2 ∙ append_assoc given.0 page rest) in
    let front : Appends b c (take n (page ++ rest)) = subst (Appends b c) (sym (take-append-le n page rest within)) appends in (
      length given.0 + n,
      omega (arith, within, ap length whole, length-append given.0 (page ++ rest), length-append page rest),
      subst (λ (l : List ℕ). Appends a c (take (length given.0 + n) l)) (sym whole) (gave_front a b c given.0 (page ++ rest) n given.1 front),
    )

-- the page was written at the end, or a front of it
pub all_given : (result : Bool) (a b c : Option (List ℕ)) (page so_far all : List ℕ) → Gives (bare a) (paged b page) so_far → all ≡ so_far ++ []
    → WritesText result b c page → WritesText result a c all
all_given true a b c page so_far all given is wrote =
    subst (Appends a c) (sym (is ∙ (append-nil so_far ∙ given.2))) (gave a b c given.0 page given.1 wrote)
all_given false a b c page so_far all given is wrote = front_given a b c page so_far [] all wrote.0 given is wrote.1 wrote.2

-- room was made, and a line was put behind the page
pub line_given : (a b c : Option (List ℕ)) (page room so_far : List ℕ) (line new : List ℕ) → Gives (bare a) (paged b page) so_far → MakesRoom true b page c room
    → new ≡ room ++ line → Gives (bare a) (paged c new) (so_far ++ line)
line_given a b c page room so_far line new given made put = (
  given.0 ++ made.0,
  gave a b c given.0 made.0 given.1 made.1,
  ap (λ (l : List ℕ). l ++ line) (given.2 ∙ (ap (λ (l : List ℕ). given.0 ++ l) made.2 ∙ sym (append_assoc given.0 made.0 room)))
      ∙ (append_assoc (given.0 ++ made.0) room line ∙ ap (λ (l : List ℕ). (given.0 ++ made.0) ++ l) (sym put)),
)

-- the lines that are left without the first of them
pub lines_left : (all so_far : List ℕ) (first : Submitted) (rest left : List Submitted) → all ≡ so_far ++ flat_map submission_line left → left ≡ first ∷ rest
    → all ≡ (so_far ++ submission_line first) ++ flat_map submission_line rest
lines_left all so_far first rest left is cut =
    is ∙ (ap (λ (l : List Submitted). so_far ++ flat_map submission_line l) cut ∙ sym (append_assoc so_far (submission_line first) (flat_map submission_line rest)))

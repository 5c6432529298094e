-- Texts that begin with lines that go, and where they stop to.
use Rattle.std.proofs.Common.{◌≡◌, ◌≢◌, ℕ, ◌+◌, ◌<◌, ◌≤◌, ◌==◌, Bool, true, false, List, [], ◌∷◌, ◌++◌, length, refl, sym, ap, ◌∙◌, subst, arith, inl, inr, append_assoc, append-nil, length-append}
use Rattle.std.specs.Prelude.{codes, reverse}
use Rattle.std.specs.List.{AllByRecursion}
use Rattle.std.proofs.lemmas.Bool.{cases_lt, cases_eq, eqb-true, false≢true}
use Rattle.std.proofs.lemmas.Grind.{flat_map-append}
use Rattle.std.proofs.lemmas.List.Elements.{All-from_recursion, recursion_from_All}
use Rattle.queue_code.specs.Calls.{Planned}
use Rattle.executor_model.specs.declared.types.Line.{Line}
use Rattle.executor_model.specs.State.{State}
use Rattle.trace_text.specs.Spelling.{line_text, lines_text, FitsLine}
use Rattle.trace_text.specs.Reading.{LinesAreOne, LinesEndOnce}
use Rattle.trace_check.specs.Going.{Goes, AreWhole}
use Rattle.trace_check.specs.Findings.{BeginsWith, Conforms, Breaks}
use Rattle.trace_check.specs.own.Standing.{IsAt}
use Rattle.trace_check.proofs.Splits.{turned, fronts_go, goes_only_one_way}

-- ---- texts by recursion

-- the text of lines that stand the newest first
abbrev pub text_of : List Line → List ℕ
text_of [] = []
text_of (line ∷ before) = text_of before ++ line_text line

-- each line fits
abbrev pub AllFit : List Line → Type 0
AllFit lines = AllByRecursion FitsLine lines

-- it is that of the lines the oldest first
pub text_turned : (lines : List Line) → lines_text (reverse lines) ≡ text_of lines
text_turned [] = refl
text_turned (line ∷ before) =
    ap lines_text (turned line before) ∙ (flat_map-append line_text (reverse before) (line ∷ []) ∙ (λ i. text_turned before i ++ append-nil (line_text line) i))

-- a line has a byte at least
line_some : LinesEndOnce → (line : Line) → FitsLine line → 1 ≤ length (line_text line)
line_some ends line fit = let e = ends line fit in omega (arith, ap length e.2, length-append e.0 (codes "\n"))

-- ---- two readings of one text

-- what two readings of one text have in common: the shorter one is the front of the longer one
record Longer (ys xs : List Line) (x y : List ℕ) : Type 0 where
  pub more : List Line
  pub parts : ys ≡ more ++ xs
  pub rest : x ≡ text_of more ++ y

fit_front : (more xs : List Line) → AllFit (more ++ xs) → AllFit more
fit_front [] xs p = tt
fit_front (z ∷ more) xs p = (p.0, fit_front more xs p.1)

same_length : (xs ys : List Line) (x y : List ℕ) → LinesAreOne → AllFit xs → AllFit ys → length xs ≡ length ys → text_of xs ++ x ≡ text_of ys ++ y → (xs ≡ ys) × (x ≡ y)
same_length [] [] x y one p q l h = (refl, h)
same_length [] (k ∷ ys) x y one p q l h = absurd (omega (arith, l))
same_length (k ∷ xs) [] x y one p q l h = absurd (omega (arith, l))
same_length (k ∷ xs) (m ∷ ys) x y one p q l h =
    let turned : text_of xs ++ (line_text k ++ x) ≡ text_of ys ++ (line_text m ++ y) = sym (append_assoc (text_of xs) (line_text k) x) ∙ (h ∙ append_assoc (text_of ys) (line_text m) y) in
    let before = same_length xs ys (line_text k ++ x) (line_text m ++ y) one p.1 q.1 (omega (arith, l)) turned in
    let here = one k m x y p.0 q.0 before.1 in
    (λ i. here.0 i ∷ before.0 i, here.1)

longer : (xs ys : List Line) (x y : List ℕ) → LinesAreOne → AllFit xs → AllFit ys → length xs ≤ length ys → text_of xs ++ x ≡ text_of ys ++ y → Longer ys xs x y
longer xs [] x y one p q l h =
    let both = same_length xs [] x y one p q (omega (arith, l)) h in
    record { more = []; parts = sym both.0; rest = both.1 }
longer xs (m ∷ ys) x y one p q l h =
    elim (cases_eq (length xs) (length (m ∷ ys))) [
      | inl same ↦ let both = same_length xs (m ∷ ys) x y one p q same h in record { more = []; parts = sym both.0; rest = both.1 }
      | inr other ↦
          let before = longer xs ys x (line_text m ++ y) one p q.1 (omega (arith, l, other)) (h ∙ append_assoc (text_of ys) (line_text m) y) in
          record { more = m ∷ before.more; parts = ap (λ ls. m ∷ ls) before.parts; rest = before.rest ∙ sym (append_assoc (text_of before.more) (line_text m) y) }
    ]

-- the first line of those that go behind others
record Further (calls : List Planned) (workers : ℕ) (lines : List Line) (rest : List ℕ) : Type 0 where
  pub line : Line
  pub fit : FitsLine line
  pub goes : Goes calls workers (line ∷ lines)
  pub tail : List ℕ
  pub spelled : rest ≡ line_text line ++ tail

further : (calls : List Planned) (workers : ℕ) (z : Line) (more lines : List Line) (rest y : List ℕ) → AllFit (z ∷ more) → Goes calls workers ((z ∷ more) ++ lines) → rest ≡ text_of (z ∷ more) ++ y →
    Further calls workers lines rest
further calls workers z [] lines rest y p g h = record { line = z; fit = p.0; goes = g; tail = y; spelled = h }
further calls workers z (w ∷ more) lines rest y p g h =
    further calls workers w more lines rest (line_text z ++ y) p.1 (fronts_go calls workers ((w ∷ more) ++ lines) z g) (h ∙ append_assoc (text_of (w ∷ more)) (line_text z) y)

-- nothing goes on
abbrev pub GoesNoFurther : List Planned → ℕ → List Line → List ℕ → Type 0
GoesNoFurther calls workers lines rest = (line : Line) (tail : List ℕ) → FitsLine line → Goes calls workers (line ∷ lines) → rest ≢ line_text line ++ tail

-- a text begins with lines that go
begins_so : (calls : List Planned) (workers : ℕ) (text : List ℕ) (lines : List Line) (rest : List ℕ) (n : ℕ) → AllFit lines → text ≡ text_of lines ++ rest → Goes calls workers lines → length lines ≡ n →
    BeginsWith calls workers text n
begins_so calls workers text lines rest n p h g l =
    record { lines = lines; count = l; fit = All-from_recursion FitsLine lines p; rest = rest; spelled = h ∙ ap (λ t. t ++ rest) (sym (text_turned lines)); goes = g }

begins : (calls : List Planned) (workers : ℕ) (text : List ℕ) (lines : List Line) (rest : List ℕ) (m : ℕ) → AllFit lines → text ≡ text_of lines ++ rest → Goes calls workers lines → m ≤ length lines →
    BeginsWith calls workers text m
begins calls workers text [] rest m p h g l = begins_so calls workers text [] rest m p h g (omega (arith, l))
begins calls workers text (k ∷ lines) rest m p h g l =
    elim (cases_eq m (length (k ∷ lines))) [
      | inl same ↦ begins_so calls workers text (k ∷ lines) rest m p h g (sym same)
      | inr other ↦ begins calls workers text lines (line_text k ++ rest) m p.1 (h ∙ append_assoc (text_of lines) (line_text k) rest) (fronts_go calls workers lines k g) (omega (arith, l, other))
    ]

no_more : (more : List Line) (y : List ℕ) → LinesEndOnce → AllFit more → [] ≡ text_of more ++ y → more ≡ []
no_more [] y ends p h = refl
no_more (z ∷ more) y ends p h =
    absurd (omega (arith, line_some ends z p.0, ap length h, length-append (text_of more ++ line_text z) y, length-append (text_of more) (line_text z)))

-- where lines go and nothing goes on, and they are not the whole, the text breaks behind them
pub breaks : (calls : List Planned) (workers : ℕ) (text : List ℕ) (lines : List Line) (rest : List ℕ) (n : ℕ) → LinesAreOne → LinesEndOnce → AllFit lines → text ≡ text_of lines ++ rest →
    (g : Goes calls workers lines) → length lines ≡ n → GoesNoFurther calls workers lines rest → (rest ≡ [] → g.owed ≡ [] → ⊥) → Breaks calls workers text (n + 1)
breaks calls workers text lines rest n one ends fit spelled g count never unfinished = record { differs = differs; before = before; here = here }
  where
    stops : (other : List Line) (y : List ℕ) → AllFit other → Goes calls workers other → text ≡ text_of other ++ y → length lines < length other → ⊥
    stops other y p og h l =
        let long = longer lines other rest y one fit p (omega (arith, l)) (sym spelled ∙ h) in
        let pick : (more : List Line) → other ≡ more ++ lines → rest ≡ text_of more ++ y → ⊥ =
        elim [
          | [] ↦ λ parts r. absurd (omega (arith, l, ap length parts))
          | z ∷ more ↦ λ parts r.
              let f = further calls workers z more lines rest y (fit_front (z ∷ more) lines (subst AllFit parts p)) (subst (Goes calls workers) parts og) r in
              never f.line f.tail f.fit f.goes f.spelled
        ]
        in
        pick long.more long.parts long.rest

    differs : Conforms calls workers text → ⊥
    differs c =
        let c_fit : AllFit c.lines = recursion_from_All FitsLine c.lines c.fit in
        let h : text ≡ text_of c.lines ++ [] = c.spelled ∙ (text_turned c.lines ∙ sym (append-nil (text_of c.lines))) in
        elim (cases_lt (length lines) (length c.lines)) [
          | inl more ↦ stops c.lines [] c_fit c.whole.goes h more
          | inr less ↦
              let long = longer c.lines lines [] rest one c_fit fit less (sym h ∙ spelled) in
              let none = no_more long.more rest ends (fit_front long.more c.lines (subst AllFit long.parts fit)) long.rest in
              let same : lines ≡ c.lines = long.parts ∙ ap (λ ls. ls ++ c.lines) none in
              let left : [] ≡ rest = long.rest ∙ ap (λ ls. text_of ls ++ rest) none in
              unfinished (sym left) (whole_owed c.lines same c.whole)
        ]
      where
        whole_owed : (other : List Line) → lines ≡ other → AreWhole calls workers other → g.owed ≡ []
        whole_owed other same w =
            let there : AreWhole calls workers lines = subst (AreWhole calls workers) (sym same) w in
            (goes_only_one_way calls workers lines g there.goes).1 ∙ there.whole

    before : (m : ℕ) → m < n + 1 → BeginsWith calls workers text m
    before m l = begins calls workers text lines rest m fit spelled g (omega (arith, l, count))

    here : BeginsWith calls workers text (n + 1) → ⊥
    here b = stops b.lines b.rest (recursion_from_All FitsLine b.lines b.fit) b.goes (b.spelled ∙ ap (λ t. t ++ b.rest) (text_turned b.lines)) (omega (arith, b.count, count))

-- ---- the turns of a check

-- how far a check has come: the lines before the rest of the text go, and it stands after them
pub record HasCome (calls : List Planned) (workers : ℕ) (text rest : List ℕ) (n : ℕ) (state : State) (due : List Line) (flags : List Bool) : Type 0 where
  pub lines : List Line
  pub count : length lines ≡ n
  pub fit : AllFit lines
  pub spelled : text ≡ text_of lines ++ rest
  pub stands : IsAt calls workers state due flags lines

-- no line stands next
pub stops_unread : (calls : List Planned) (workers : ℕ) (text rest : List ℕ) (n : ℕ) (s : State) (due : List Line) (flags : List Bool) → LinesAreOne → LinesEndOnce →
    HasCome calls workers text rest n s due flags → 0 < length rest → ((line : Line) (tail : List ℕ) → FitsLine line → rest ≢ line_text line ++ tail) → Breaks calls workers text (n + 1)
stops_unread calls workers text rest n s due flags one ends come some never =
    breaks calls workers text come.lines rest n one ends come.fit come.spelled come.stands.goes come.count (λ line tail f g. never line tail f)
    (λ left owed. absurd (omega (arith, ap length left, some)))

-- the line that stands next is refused
pub stops_refused : (calls : List Planned) (workers : ℕ) (text rest : List ℕ) (n : ℕ) (s : State) (due : List Line) (flags : List Bool) (line : Line) (tail : List ℕ) → LinesAreOne → LinesEndOnce →
    HasCome calls workers text rest n s due flags → FitsLine line → rest ≡ line_text line ++ tail → ((lines : List Line) → IsAt calls workers s due flags lines → Goes calls workers (line ∷ lines) → ⊥) →
    Breaks calls workers text (n + 1)
stops_refused calls workers text rest n s due flags line tail one ends come fit here refused =
    breaks calls workers text come.lines rest n one ends come.fit come.spelled come.stands.goes come.count
    (λ z more f g is.
    let same = one z line more tail f fit (sym is ∙ here) in
    refused come.lines come.stands (subst (λ x. Goes calls workers (x ∷ come.lines)) same.0 g))
    (λ left owed. absurd (omega (arith, line_some ends line fit, ap length (sym left ∙ here), length-append (line_text line) tail)))

-- the text ends, and something is owed
pub stops_owing : (calls : List Planned) (workers : ℕ) (text rest : List ℕ) (n : ℕ) (s : State) (due : List Line) (flags : List Bool) → LinesAreOne → LinesEndOnce →
    HasCome calls workers text rest n s due flags → rest ≡ [] → (due ≡ [] → ⊥) → Breaks calls workers text (n + 1)
stops_owing calls workers text rest n s due flags one ends come none owes =
    breaks calls workers text come.lines rest n one ends come.fit come.spelled come.stands.goes come.count
    (λ z more f g is. omega (arith, line_some ends z f, ap length (sym none ∙ is), length-append (line_text z) more))
    (λ left owed. owes (sym come.stands.owed ∙ owed))

-- the text ends, and nothing is owed
pub ends_whole : (calls : List Planned) (workers : ℕ) (text rest : List ℕ) (n : ℕ) (s : State) (due : List Line) (flags : List Bool) →
    HasCome calls workers text rest n s due flags → rest ≡ [] → due ≡ [] → Conforms calls workers text
ends_whole calls workers text rest n s due flags come none paid = record {
  lines = come.lines;
  fit = All-from_recursion FitsLine come.lines come.fit;
  spelled = come.spelled ∙ (ap (λ r. text_of come.lines ++ r) none ∙ (append-nil (text_of come.lines) ∙ sym (text_turned come.lines)));
  whole = record { goes = come.stands.goes; whole = come.stands.owed ∙ paid };
}

-- the line that stands next is taken
pub comes_on : (calls : List Planned) (workers : ℕ) (text rest tail : List ℕ) (n : ℕ) (s t : State) (due left : List Line) (flags turned : List Bool) (line : Line) →
    HasCome calls workers text rest n s due flags → FitsLine line → rest ≡ line_text line ++ tail →
    ((lines : List Line) → IsAt calls workers s due flags lines → IsAt calls workers t left turned (line ∷ lines)) → HasCome calls workers text tail (n + 1) t left turned
comes_on calls workers text rest tail n s t due left flags turned line come fit here takes = record {
  lines = line ∷ come.lines;
  count = omega (arith, come.count);
  fit = (fit, come.fit);
  spelled = come.spelled ∙ (ap (λ r. text_of come.lines ++ r) here ∙ sym (append_assoc (text_of come.lines) (line_text line) tail));
  stands = takes come.lines come.stands;
}

-- a line and what follows it are longer than what follows
pub shorter : (line : Line) (rest tail : List ℕ) → LinesEndOnce → FitsLine line → rest ≡ line_text line ++ tail → length tail + 1 ≤ length rest
shorter line rest tail ends fit here = omega (arith, line_some ends line fit, ap length here, length-append (line_text line) tail)

-- a fact on calls and workers, said of equal ones
pub moved : (P : List Planned → ℕ → Type 0) (calls other : List Planned) (workers count : ℕ) → calls ≡ other → workers ≡ count → P calls workers → P other count
moved P calls other workers count e f p = subst (λ c. P c count) e (subst (P calls) f p)

-- ---- whether some of a text is left

-- some is
pub some_left : (rest : List ℕ) → (length rest == 0) ≡ false → 0 < length rest
some_left [] is = absurd (false≢true (sym is))
some_left (b ∷ rest) is = omega arith

-- none is
pub none_left : (rest : List ℕ) → (length rest == 0) ≡ true → rest ≡ []
none_left [] is = refl
none_left (b ∷ rest) is = absurd (omega (arith, eqb-true (length (b ∷ rest)) 0 is))

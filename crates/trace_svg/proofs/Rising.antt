-- Places rise along the bars of a lane, and along the marks of a row.
use Rattle.std.proofs.Common.{◌≡◌, ℕ, zero, suc, ◌<◌, ◌≤◌, ◌==◌, true, List, [], ◌∷◌, Some, length, get_or, refl, arith, sym, ◌∙◌}
use Rattle.std.specs.Prelude.{slice_get}
use Rattle.std.specs.List.{AllPairs}
use Rattle.std.proofs.lemmas.Bool.{eqb-true}
use Rattle.std.proofs.lemmas.List.Elements.{All-get_or, filter_passes}
use Rattle.std.proofs.lemmas.List.Kept.{AllPairs-filter}
use Rattle.queue_code.specs.Calls.{Planned}
use Rattle.executor_model.specs.declared.types.Line.{Line}
use Rattle.trace_svg.specs.declared.elements.words.Glyph.{Glyph}
use Rattle.trace_draw.specs.declared.bars.Bar.{Bar}
use Rattle.trace_draw.specs.declared.window.Window.{Window}
use Rattle.trace_draw.specs.Bars.{bars_of, shows_bar}
use Rattle.trace_draw.specs.Laws.{IsTraceOf}
use Rattle.trace_draw.specs.Marks.{is_mark, marks_of, shows_line}
use Rattle.trace_draw.specs.Pictures.{bars_within, marks_within}
use Rattle.trace_draw.proofs.Lanes.{bars_do_not_overlap, finishes_are_their_own, moments_do_not_fall}
use Rattle.trace_draw.proofs.WindowLaws.{places_rise}
use Rattle.trace_svg.specs.Places.{across, height_of}
use Rattle.trace_svg.specs.Piles.{bars_in}
use Rattle.trace_svg.specs.Stacks.{mark_height, marks_in}
use Rattle.trace_svg.proofs.Groups.{Rises, rises}

across_rises : (window : Window) (s t : ℕ) → s ≤ t → across window s ≤ across window t
across_rises window s t low = omega (arith, places_rise window 1060 s t low)

got : {X : Type 0} (xs : List X) (i : ℕ) (d : X) → i < length xs → slice_get xs i ≡ Some (get_or xs i d)
got [] i d low = absurd (omega arith)
got (x ∷ xs) zero d low = refl
got (x ∷ xs) (suc i) d low = got xs i d (omega arith)

-- ---- bars

-- of two bars of one worker the first starts no later
abbrev StartInTurn : Bar → Bar → Type 0
StartInTurn one other = one.worker ≡ other.worker → one.first ≤ other.first

bars_start_in_turn : (calls : List Planned) (workers : ℕ) (lines : List Line) → IsTraceOf calls workers lines → AllPairs StartInTurn (bars_of lines)
bars_start_in_turn calls workers lines trace = λ i j d less within same.
    let bars = bars_of lines in
    let one = got bars i d (omega arith) in
    let over = bars_do_not_overlap calls workers lines i j (get_or bars i d) (get_or bars j d) trace less one (got bars j d within) same in
    let own = finishes_are_their_own calls workers lines i (get_or bars i d) over.finish trace one over.has in
    omega (arith, over.over, own.later)

pub lefts_rise : (calls : List Planned) (workers : ℕ) (lines : List Line) (window : Window) (worker : ℕ) → IsTraceOf calls workers lines
    → Rises (λ bar. across window bar.first) 0 (bars_in worker (bars_within window lines))
lefts_rise calls workers lines window worker trace =
    let lane = bars_in worker (bars_within window lines) in
    let is_its = λ (bar : Bar). bar.worker == worker in
    let pairs : AllPairs StartInTurn lane =
    AllPairs-filter StartInTurn is_its (bars_within window lines) (AllPairs-filter StartInTurn (shows_bar window) (bars_of lines) (bars_start_in_turn calls workers lines trace)) in
    let its : (i : ℕ) (d : Bar) → i < length lane → (get_or lane i d).worker ≡ worker =
    λ i d low. eqb-true (get_or lane i d).worker worker (All-get_or (λ bar. is_its bar ≡ true) lane i d low (filter_passes is_its (bars_within window lines))) in
    rises (λ bar. across window bar.first) 0 lane (λ d some. omega arith)
    (λ i j d less within. across_rises window (get_or lane i d).first (get_or lane j d).first (pairs i j d less within (its i d (omega arith) ∙ sym (its j d within))))

-- ---- marks

-- of two lines the first is no later
abbrev SaidInTurn : Line → Line → Type 0
SaidInTurn one other = one.moment ≤ other.moment

lines_are_in_turn : (calls : List Planned) (workers : ℕ) (lines : List Line) → IsTraceOf calls workers lines → AllPairs SaidInTurn lines
lines_are_in_turn calls workers lines trace = λ i j d less within.
    moments_do_not_fall calls workers lines i j (get_or lines i d) (get_or lines j d) trace (omega arith) (got lines i d (omega arith)) (got lines j d within)

pub places_of_marks_rise : (calls : List Planned) (workers : ℕ) (lines : List Line) (window : Window) (row : Glyph) → IsTraceOf calls workers lines
    → Rises (λ line. across window line.moment) 0 (marks_in row (marks_within window lines))
places_of_marks_rise calls workers lines window row trace =
    let marks = marks_in row (marks_within window lines) in
    let pairs : AllPairs SaidInTurn marks =
    AllPairs-filter SaidInTurn (λ line. mark_height line == height_of row) (marks_within window lines)
    (AllPairs-filter SaidInTurn (shows_line window) (marks_of lines) (AllPairs-filter SaidInTurn (λ line. is_mark line.message) lines (lines_are_in_turn calls workers lines trace))) in
    rises (λ line. across window line.moment) 0 marks (λ d some. omega arith)
    (λ i j d less within. across_rises window (get_or marks i d).moment (get_or marks j d).moment (pairs i j d less within))

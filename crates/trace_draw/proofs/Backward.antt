-- The bars of lines that are read from the last one to the first.
use Rattle.std.proofs.Common.{◌≡◌, ℕ, ◌+◌, ◌-◌, ◌<◌, ◌≤◌, suc, Bool, true, false, cond, List, [], ◌∷◌, ◌++◌, Option, Some, None, length, get_or, drop, sym, ap, ap₂, ◌∙◌, subst, arith}
use Rattle.std.specs.Prelude.{reverse}
use Rattle.std.specs.List.{cons_option, filter}
use Rattle.std.proofs.Math.Seq.{drop-cons}
use Rattle.std.proofs.lemmas.List.{reverse-append}
use Rattle.executor_model.specs.declared.types.Line.{Line}
use Rattle.trace_draw.specs.declared.bars.Bar.{Bar}
use Rattle.trace_draw.specs.declared.bars.Finish.{Finish}
use Rattle.trace_draw.specs.declared.window.Window.{Window}
use Rattle.trace_draw.specs.Bars.{bars_of, bar_in, shows_bar}
use Rattle.trace_draw.specs.Pictures.{bars_within}
use Rattle.trace_draw.specs.own.Ends.{TellEnds}

-- the lines from an index on, with the one before it in front
front : (lines : List Line) (index : ℕ) (line : Line) → 0 < index → index ≤ length lines → line ≡ get_or lines (index - 1) line → drop (index - 1) lines ≡ line ∷ drop index lines
front lines index line some low before =
    let here : index - 1 < length lines = omega arith in
    let same : suc (index - 1) ≡ index = omega arith in
    drop-cons lines (index - 1) line here ∙ ap₂ (λ x k. x ∷ drop k lines) (sym before) same

-- a table that tells the finishes from there on
pub tells : (lines : List Line) (index : ℕ) (line : Line) (new : List (Option Finish)) → 0 < index → index ≤ length lines → line ≡ get_or lines (index - 1) line → TellEnds new (line ∷ drop index lines)
    → TellEnds new (drop (index - 1) lines)
tells lines index line new some low before here = subst (λ later. TellEnds new later) (sym (front lines index line some low before)) here

-- what the line before an index adds
added : (window : Window) (lines : List Line) (index : ℕ) (line : Line) (result : Option Bar) → 0 < index → index ≤ length lines → line ≡ get_or lines (index - 1) line
    → result ≡ bar_in line.moment line.message (drop index lines)
    → bars_within window (drop (index - 1) lines) ≡ filter (shows_bar window) (cons_option result (bars_of (drop index lines)))
added window lines index line result some low before is =
    ap (λ later. bars_within window later) (front lines index line some low before) ∙ ap (λ b. filter (shows_bar window) (cons_option b (bars_of (drop index lines)))) (sym is)

-- a bar that the window shows_bar
pub with_bar : (window : Window) (lines : List Line) (index : ℕ) (line : Line) (result : Option Bar) (bar : Bar) → 0 < index → index ≤ length lines → line ≡ get_or lines (index - 1) line
    → result ≡ bar_in line.moment line.message (drop index lines)
    → result ≡ Some bar → shows_bar window bar ≡ true → bars_within window (drop (index - 1) lines) ≡ bar ∷ bars_within window (drop index lines)
with_bar window lines index line result bar some low before is found met =
    added window lines index line result some low before is
    ∙ (ap (λ b. filter (shows_bar window) (cons_option b (bars_of (drop index lines)))) found
    ∙ ap (λ t. cond t (bar ∷ bars_within window (drop index lines)) (bars_within window (drop index lines))) met)

-- a bar that it does not meet
pub missed_bar : (window : Window) (lines : List Line) (index : ℕ) (line : Line) (result : Option Bar) (bar : Bar) → 0 < index → index ≤ length lines → line ≡ get_or lines (index - 1) line
    → result ≡ bar_in line.moment line.message (drop index lines)
    → result ≡ Some bar → shows_bar window bar ≡ false → bars_within window (drop (index - 1) lines) ≡ bars_within window (drop index lines)
missed_bar window lines index line result bar some low before is found missed =
    added window lines index line result some low before is
    ∙ (ap (λ b. filter (shows_bar window) (cons_option b (bars_of (drop index lines)))) found
    ∙ ap (λ t. cond t (bar ∷ bars_within window (drop index lines)) (bars_within window (drop index lines))) missed)

-- no bar
pub no_bar : (window : Window) (lines : List Line) (index : ℕ) (line : Line) (result : Option Bar) → 0 < index → index ≤ length lines → line ≡ get_or lines (index - 1) line
    → result ≡ bar_in line.moment line.message (drop index lines)
    → result ≡ None → bars_within window (drop (index - 1) lines) ≡ bars_within window (drop index lines)
no_bar window lines index line result some low before is none =
    added window lines index line result some low before is ∙ ap (λ b. filter (shows_bar window) (cons_option b (bars_of (drop index lines)))) none

-- the first of some bars stands last once they are turned
pub turned_bar : (bar : Bar) (bars : List Bar) → reverse (bar ∷ bars) ≡ reverse bars ++ bar ∷ []
turned_bar bar bars = reverse-append (bar ∷ []) bars

-- ---- there are no more bars than lines

few_met : (t : Bool) (bar : Bar) (bars : List Bar) → length (cond t (bar ∷ bars) bars) ≤ length bars + 1
few_met true bar bars = omega arith
few_met false bar bars = omega arith

few_more : (window : Window) (b : Option Bar) (bars : List Bar) → length (filter (shows_bar window) (cons_option b bars)) ≤ length (filter (shows_bar window) bars) + 1
few_more window None bars = omega arith
few_more window (Some bar) bars = few_met (shows_bar window bar) bar (filter (shows_bar window) bars)

pub few : (window : Window) (lines : List Line) → length (bars_within window lines) ≤ length lines
few window [] = omega arith
few window (line ∷ later) = omega (arith, few_more window (bar_in line.moment line.message later) (bars_of later), few window later)

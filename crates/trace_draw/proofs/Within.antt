-- The bars of lines that a window shows.
use Rattle.std.proofs.Common.{zero, suc, ◌≡◌, ℕ, Bool, true, false, cond, List, [], ◌∷◌, ◌++◌, Option, Some, None, refl, sym, ap, ◌∙◌}
use Rattle.std.specs.Prelude.{slice_get}
use Rattle.std.specs.List.{cons_option, filter}
use Rattle.std.proofs.lemmas.Option.{none-some, same_Some}
use Rattle.executor_model.specs.declared.types.Line.{Line}
use Rattle.trace_draw.specs.declared.bars.Bar.{Bar}
use Rattle.trace_draw.specs.Bars.{finish_of, bar_in, bars_of, shows_bar}
use Rattle.trace_draw.specs.Laws.{start_line, StartsHaveBars, BarsMeetTheWindow}
use Rattle.trace_draw.proofs.Lanes.{bars_start}

-- a bar stands somewhere among bars
abbrev StandsIn : List Bar → Bar → Type 0
StandsIn bars bar = (i : ℕ) × (slice_get bars i ≡ Some bar)

-- ---- the bar of a line that starts a run

stands_behind : (first : Option Bar) (bars : List Bar) (bar : Bar) → StandsIn bars bar → StandsIn (cons_option first bars) bar
stands_behind None bars bar stands = stands
stands_behind (Some first) bars bar stands = (suc stands.0, stands.1)

started_bar : (before later : List Line) (bar : Bar) → bar.finish ≡ finish_of bar.worker later → StandsIn (bars_of (before ++ start_line bar ∷ later)) bar
started_bar [] later bar finish = (0, λ i. Some (record bar { finish = sym finish i }))
started_bar (line ∷ before) later bar finish =
    let lines = before ++ start_line bar ∷ later in
    stands_behind (bar_in line.moment line.message lines) (bars_of lines) bar (started_bar before later bar finish)

-- ---- bars that pass a test

-- one that passes is kept
kept : (passes : Bar → Bool) (bars : List Bar) (i : ℕ) (bar : Bar) → slice_get bars i ≡ Some bar → passes bar ≡ true → StandsIn (filter passes bars) bar
kept passes [] i bar is pass = absurd (none-some bar is)
kept passes (first ∷ more) zero bar is pass = (0, ap (λ b. slice_get (cond b (first ∷ filter passes more) (filter passes more)) 0) (ap passes (same_Some first bar is) ∙ pass) ∙ is)
kept passes (first ∷ more) (suc i) bar is pass =
    let rest = kept passes more i bar is pass in
    let pick : (b : Bool) → StandsIn (cond b (first ∷ filter passes more) (filter passes more)) bar = elim [ true ↦ (suc rest.0, rest.1) | false ↦ rest ] in
    pick (passes first)

-- one that is kept passes, and stood among them
passed : (passes : Bar → Bool) (bars : List Bar) (i : ℕ) (bar : Bar) → slice_get (filter passes bars) i ≡ Some bar → (passes bar ≡ true) × StandsIn bars bar
passed passes [] i bar is = absurd (none-some bar is)
passed passes (first ∷ more) i bar is = pick (λ j at. passed passes more j bar at) (passes first) refl i is
  where
    pick : ((j : ℕ) → slice_get (filter passes more) j ≡ Some bar → (passes bar ≡ true) × StandsIn more bar) → (b : Bool) → passes first ≡ b → (j : ℕ) →
        slice_get (cond b (first ∷ filter passes more) (filter passes more)) j ≡ Some bar → (passes bar ≡ true) × StandsIn (first ∷ more) bar
    pick rest true pass zero at = (sym (ap passes (same_Some first bar at)) ∙ pass, (0, at))
    pick rest true pass (suc j) at = let behind = rest j at in (behind.0, (suc behind.1.0, behind.1.1))
    pick rest false pass j at = let behind = rest j at in (behind.0, (suc behind.1.0, behind.1.1))

-- ---- the laws

pub starts_have_bars : StartsHaveBars
starts_have_bars lines workers window bar start shown =
    let stands = started_bar start.before start.later bar start.finish in
    kept (shows_bar window) (bars_of lines) stands.0 bar (ap (λ ls. slice_get (bars_of ls) stands.0) start.parts ∙ stands.1) shown

pub bars_meet_the_window : BarsMeetTheWindow
bars_meet_the_window lines workers window i bar is =
    let found = passed (shows_bar window) (bars_of lines) i bar is in
    (bars_start lines found.1.0 bar found.1.1, found.0)

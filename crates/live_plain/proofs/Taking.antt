-- One line more: what a call's line means, what a script makes of it, and when each line is plain.
use Rattle.std.proofs.Common.{◌≡◌, ℕ, ◌+◌, ◌<◌, ◌≤◌, Bool, true, false, cond, List, [], ◌∷◌, ◌++◌, length, get_or, take, drop, refl, sym, ap, ◌∙◌, arith, subst}
use Rattle.std.specs.Prelude.{nat_lt, reverse}
use Rattle.std.proofs.lemmas.Bool.Decides.{nat_tests}
use Rattle.std.proofs.lemmas.List.{take_more, take-append-drop, reverse-append}
use Rattle.sched_time.specs.Times.{longest}
use Rattle.queue_code.specs.declared.call.CodeCall.{CodeCall}
use Rattle.queue_code.specs.Calls.{IsOrderlyCall, most_calls_of_code, task_count}
use Rattle.executor_model.specs.declared.types.Event.TheVariants as v
use Rattle.call_text.specs.declared.call.CallLine.{CallLine}
use Rattle.call_text.specs.declared.call.CallLine.TheVariants as call
use Rattle.call_text.specs.Spelling.{FitsCall}
use Rattle.live_engine.specs.declared.live_line.LiveLine.{LiveLine}
use Rattle.live_engine.specs.declared.live_line.LiveLine.TheVariants as l
use Rattle.call_journal.specs.MadeCalls.{code_of}
use Rattle.live_engine.specs.LiveLines.{LiveHistory, after_call, after_line, after_meant, live_history, meant_in, next_moment}
use Rattle.live_plain.specs.PlainLines.{ArePlain, IsPlain, IsPlainCall}
use Rattle.live_plain.specs.own.Scripts.{NamesGiven, ScriptView, Shows, ShowsAll, moment_in, with_call}
use Rattle.live_plain.proofs.Showing.{makes_shows}

-- ---- a call that fits

-- it is in order
orderly_code : (numbers : ℕ) (made : CallLine) → NamesGiven numbers made → FitsCall made → IsOrderlyCall numbers (code_of numbers made)
orderly_code numbers (call.Schedule delay) given fits = (refl, fits, tt)
orderly_code numbers call.Execute given fits = (refl, omega arith, tt)
orderly_code numbers (call.Rate first period) given fits = (refl, fits.0, fits.1.1)
orderly_code numbers (call.Fixed first delay) given fits = (refl, fits.0, fits.1.1)
orderly_code numbers (call.Cancel task) given fits = given
orderly_code numbers (call.Policy which value) given fits = tt
orderly_code numbers call.Shutdown given fits = tt
orderly_code numbers call.ShutdownNow given fits = tt
orderly_code numbers call.Ask given fits = tt

-- ---- what a call's line means

-- it is meant as it stands where it cancels none, or one whose number was given out
pub meant_call : (so_far : LiveHistory) (numbers : ℕ) (made : CallLine) → numbers ≡ task_count so_far.calls → NamesGiven numbers made → l.Call made ≡ meant_in so_far (l.Call made)
meant_call so_far numbers (call.Schedule delay) same given = refl
meant_call so_far numbers call.Execute same given = refl
meant_call so_far numbers (call.Rate first period) same given = refl
meant_call so_far numbers (call.Fixed first delay) same given = refl
meant_call so_far numbers (call.Policy which value) same given = refl
meant_call so_far numbers call.Shutdown same given = refl
meant_call so_far numbers call.ShutdownNow same given = refl
meant_call so_far numbers call.Ask same given = refl
meant_call so_far numbers (call.Cancel task) same given = by (nat_lt task (task_count so_far.calls)) refl
  where
    by : (b : Bool) → nat_lt task (task_count so_far.calls) ≡ b → l.Call (call.Cancel task) ≡ cond b (l.Call (call.Cancel task)) (l.Event (v.Cancel task))
    by true q = refl
    by false q = absurd (grind (arith, nat_tests, q, same, given))

-- and else as the event
pub meant_event : (so_far : LiveHistory) (numbers task : ℕ) (made : CallLine) → numbers ≡ task_count so_far.calls → numbers ≤ task → made ≡ call.Cancel task → l.Event (v.Cancel task) ≡ meant_in so_far (l.Call made)
meant_event so_far numbers task made same free is = by (nat_lt task (task_count so_far.calls)) refl ∙ ap (λ (made : CallLine). meant_in so_far (l.Call made)) (sym is)
  where
    by : (b : Bool) → nat_lt task (task_count so_far.calls) ≡ b → l.Event (v.Cancel task) ≡ cond b (l.Call (call.Cancel task)) (l.Event (v.Cancel task))
    by true q = absurd (grind (arith, nat_tests, q, same, free))
    by false q = refl

-- ---- a call's line

-- the moment of the call that comes next
moment_is : (workers : ℕ) (so_far : LiveHistory) (s : ScriptView) → Shows workers so_far s → moment_in s ≡ next_moment so_far
moment_is workers so_far s shows = grind (arith, shows.moment, shows.earliest)

-- what a script tests of it
pub record IsTested (s : ScriptView) (made : CallLine) : Type 0 where
  pub few : length s.calls < most_calls_of_code
  pub near : moment_in s ≤ longest
  pub fits : FitsCall made
  pub given : NamesGiven s.numbers made

-- is that it is plain
pub is_plain : (workers : ℕ) (so_far : LiveHistory) (s : ScriptView) (made : CallLine) → Shows workers so_far s → IsTested s made → IsPlainCall so_far made
is_plain workers so_far s made shows tested = record {
  fits = tested.fits;
  few = subst (λ calls. length calls < most_calls_of_code) shows.calls tested.few;
  near = subst (λ n. n ≤ longest) (moment_is workers so_far s shows) tested.near;
}

-- one call more
pub call_shows : (workers : ℕ) (so_far : LiveHistory) (s : ScriptView) (made : CallLine) (moment : ℕ) (code : CodeCall) → Shows workers so_far s → IsTested s made → moment ≡ moment_in s → code ≡ code_of s.numbers made →
    Shows workers (after_meant workers so_far (l.Call made)) (with_call s (moment, code))
call_shows workers so_far s made moment code shows tested at is =
    let plain = is_plain workers so_far s made shows tested in
    let when : moment ≡ next_moment so_far = at ∙ moment_is workers so_far s shows in
    let which : code ≡ code_of (task_count so_far.calls) made = is ∙ ap (λ n. code_of n made) shows.numbers in
    subst (λ p. Shows workers (after_call workers so_far p) (with_call s (moment, code))) (λ i. (when i, which i))
    (makes_shows workers so_far s (moment, code) shows at (subst (λ n. n ≤ longest) (sym when) plain.near) (subst (λ (x : CodeCall). IsOrderlyCall s.numbers x) (sym is) (orderly_code s.numbers made tested.given tested.fits)) plain.few)

-- ---- all lines

-- the lines before some plain ones are plain
front_plain : (workers : ℕ) (later before : List LiveLine) → ArePlain workers (later ++ before) → ArePlain workers before
front_plain workers [] before plain = plain
front_plain workers (line ∷ later) before plain = front_plain workers later before plain.0

-- one line more, the newest line first
turned : (lines : List LiveLine) (i : ℕ) (d : LiveLine) → i < length lines → reverse (take (i + 1) lines) ≡ get_or lines i d ∷ reverse (take i lines)
turned lines i d low = ap reverse (take_more lines i d low) ∙ reverse-append (take i lines) (get_or lines i d ∷ [])

-- some of the first of plain lines are plain
front_of_all : (workers : ℕ) (lines : List LiveLine) (i : ℕ) → ArePlain workers (reverse lines) → ArePlain workers (reverse (take i lines))
front_of_all workers lines i plain =
    let parts : reverse lines ≡ reverse (drop i lines) ++ reverse (take i lines) = ap reverse (sym (take-append-drop i lines)) ∙ reverse-append (take i lines) (drop i lines) in
    front_plain workers (reverse (drop i lines)) (reverse (take i lines)) (subst (ArePlain workers) parts plain)

-- each of them is plain after those before it
pub each_plain : (workers : ℕ) (lines : List LiveLine) (i : ℕ) (d : LiveLine) → i < length lines → ArePlain workers (reverse lines) →
    IsPlain (live_history workers (reverse (take i lines))) (meant_in (live_history workers (reverse (take i lines))) (get_or lines i d))
each_plain workers lines i d low plain = (subst (ArePlain workers) (turned lines i d low) (front_of_all workers lines (i + 1) plain)).1

-- one line more is shown
pub line_shown : (workers : ℕ) (lines : List LiveLine) (i : ℕ) (d : LiveLine) (new : ScriptView) → i < length lines → ArePlain workers (reverse (take i lines)) →
    IsPlain (live_history workers (reverse (take i lines))) (meant_in (live_history workers (reverse (take i lines))) (get_or lines i d)) →
    Shows workers (after_line workers (live_history workers (reverse (take i lines))) (get_or lines i d)) new → ShowsAll workers (reverse (take (i + 1) lines)) new
line_shown workers lines i d new low before plain shows = subst (λ ls. ShowsAll workers ls new) (sym (turned lines i d low)) ((before, plain), shows)

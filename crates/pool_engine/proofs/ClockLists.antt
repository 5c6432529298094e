-- ClockLists: the clocks of some moments, and of more behind them.
use Rattle.std.proofs.Common.{◌≡◌, ℕ, List, ◌++◌, map, reverse, ap, ◌∙◌, sym, subst}
use Rattle.std.proofs.lemmas.List.{map-append, reverse-append}
use Rattle.std.proofs.lemmas.List.Elements.{All-append}
use Rattle.executor_model.specs.declared.Event.{Event}
use Rattle.executor_model.specs.declared.Event.TheVariants as v
use Rattle.trace_text.specs.Spelling.{FitsEvent}
use Rattle.sched_engine.specs.Inputs.{AreEvents, input_of}
use Rattle.sched_engine.proofs.Inputs.{input_of-append}
use Rattle.pool_engine.specs.ClockLines.{clock_events}

-- the clocks of more moments stand in front, as the newest do
clock_events-append : (xs ys : List ℕ) → clock_events (xs ++ ys) ≡ clock_events ys ++ clock_events xs
clock_events-append xs ys =
    let shown : ℕ → Event = λ t. v.Clock t in
    ap reverse (map-append shown xs ys) ∙ reverse-append (map shown xs) (map shown ys)

-- their lines stand behind
pub lines_on : (before more : List ℕ) → input_of (clock_events (before ++ more)) ≡ input_of (clock_events before) ++ input_of (clock_events more)
lines_on before more = ap input_of (clock_events-append before more) ∙ input_of-append (clock_events more) (clock_events before)

-- each fits a line where those before and those behind do
pub fit_on : (before more : List ℕ) → AreEvents (clock_events before) → AreEvents (clock_events more) → AreEvents (clock_events (before ++ more))
fit_on before more p q = subst AreEvents (sym (clock_events-append before more)) (All-append FitsEvent (clock_events more) (clock_events before) q p)

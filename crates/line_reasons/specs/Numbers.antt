-- Words that would be numbers: why one is none. All of it is this project's rule.
use Rattle.std.specs.Prelude.{◌≡◌, ℕ, ◌+◌, ◌<◌, ◌≤◌, ◌⊎◌, List, [], ◌∷◌, ◌++◌, Contains, slice_index, codes}
use Rattle.std.specs.Fmt.{decimal}
use Rattle.std.specs.Int.{IsInRange}
use Rattle.std.specs.Str.Parse.{IsNumeral, digits_value}
use Rattle.sched_time.specs.declared.timing.Ending.TheVariants as ending
use Rattle.executor_model.specs.declared.Event.TheVariants as event
use Rattle.executor_model.specs.Counts.{IsWorkerCount}
use Rattle.trace_text.specs.Spelling.{FitsEvent, FitsEnding}
use Rattle.call_text.specs.declared.call.CallLine.TheVariants as call
use Rattle.call_text.specs.Spelling.{FitsCall}
use Rattle.line_reasons.specs.declared.call_form.CallNumber.{CallNumber}
use Rattle.line_reasons.specs.declared.call_form.CallNumber.TheVariants as in_call
use Rattle.line_reasons.specs.declared.form.EventNumber.{EventNumber}
use Rattle.line_reasons.specs.declared.form.EventNumber.TheVariants as number
use Rattle.line_reasons.specs.declared.number.NumberFault.{NumberFault}
use Rattle.line_reasons.specs.declared.number.NumberFault.TheVariants as fault

-- a number fits in its place in a call's line where the call fits
abbrev pub FitsInCall : CallNumber → ℕ → Type 0
FitsInCall in_call.Delay n = FitsCall (call.Schedule n)
FitsInCall in_call.RateFirst n = FitsCall (call.Rate n 1)
FitsInCall in_call.Period n = FitsCall (call.Rate 0 n)
FitsInCall in_call.FixedFirst n = FitsCall (call.Fixed n 1)
FitsInCall in_call.FixedDelay n = FitsCall (call.Fixed 0 n)
FitsInCall in_call.Task n = FitsCall (call.Cancel n)

-- the least one that does
abbrev pub least_in_call : CallNumber → ℕ
least_in_call in_call.Period = 1
least_in_call in_call.FixedDelay = 1
least_in_call _ = 0

-- a number fits in its place in a line where the event or the call fits
abbrev pub FitsNumber : EventNumber → ℕ → Type 0
FitsNumber number.Moment n = FitsEvent (event.Clock n)
FitsNumber number.Starter n = FitsEvent (event.Start n)
FitsNumber number.Finisher n = FitsEvent (event.Finish n (ending.Value 0))
FitsNumber number.Value n = FitsEnding (ending.Value n)
FitsNumber number.Code n = FitsEnding (ending.Fault n)
FitsNumber number.Task n = FitsEvent (event.Cancel n)
FitsNumber (number.Call place) n = FitsInCall place n

-- the least one that does
abbrev pub least_number : EventNumber → ℕ
least_number (number.Call place) = least_in_call place
least_number _ = 0

-- a number is of use in its place: a worker where it is one of as many as there may be, another where it fits
abbrev pub IsOfUse : EventNumber → ℕ → Type 0
IsOfUse number.Starter n = IsWorkerCount (n + 1)
IsOfUse number.Finisher n = IsWorkerCount (n + 1)
IsOfUse place n = FitsNumber place n

-- the decimal text of a number of at most `most`
abbrev pub IsNumber : ℕ → List ℕ → Type 0
IsNumber most word = (n : ℕ) × (n ≤ most) × (word ≡ decimal n)

-- this byte comes first, and a digit second: past the last byte stands 0, which is no digit
abbrev pub IsBeforeDigit : ℕ → List ℕ → Type 0
IsBeforeDigit byte word = (slice_index word 0 ≡ byte) × IsInRange 48 57 (slice_index word 1)

-- `+` or `-` before a digit
abbrev pub HasSign : List ℕ → Type 0
HasSign word = IsBeforeDigit 43 word ⊎ IsBeforeDigit 45 word

-- 0 before a digit
abbrev pub HasLeadingZero : List ℕ → Type 0
HasLeadingZero word = IsBeforeDigit 48 word

-- the units of time that stand behind numbers of a plan
abbrev pub units : List (List ℕ)
units = codes "ns" ∷ codes "us" ∷ codes "ms" ∷ codes "s" ∷ codes "min" ∷ codes "h" ∷ codes "d" ∷ []

-- digits, one or more, and a unit behind them
abbrev pub HasUnit : List ℕ → Type 0
HasUnit word = (digits unit : List ℕ) × IsNumeral 10 digits × Contains units unit × (word ≡ digits ++ unit)

-- why a word is no number of at most `most`. One of these is so of each word that is none
abbrev pub IsNumberFault : ℕ → List ℕ → NumberFault → Type 0
IsNumberFault most word fault.Sign = HasSign word
IsNumberFault most word fault.LeadingZero = HasLeadingZero word
IsNumberFault most word fault.Unit = HasUnit word × ¬ HasLeadingZero word
IsNumberFault most word fault.TooLarge = IsNumeral 10 word × (most < digits_value 10 word) × ¬ HasLeadingZero word
IsNumberFault most word fault.NoNumber = ¬ (HasSign word) × ¬ (HasLeadingZero word) × ¬ (HasUnit word) × ¬ (IsNumeral 10 word)

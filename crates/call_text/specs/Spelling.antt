-- Spelling: the text of calls on an executor that is live (this project's rule).
-- Numbers are decimals with no leading zero, one space stands between two words, each line ends with a newline (byte 10),
-- and a text is grouped to the right.
use Rattle.std.specs.Prelude.{◌≡◌, ◌≢◌, ℕ, ◌^◌, ◌<◌, ◌≤◌, Bool, List, ◌++◌, Option, Some, None, codes}
use Rattle.std.specs.Fmt.{decimal}
use Rattle.sched_time.specs.Policies.{policy_text, truth_text}
use Rattle.sched_time.specs.Times.{longest}
use Rattle.sched_time.specs.declared.policies.Which.{Which}
use Rattle.call_text.specs.declared.call.CallLine.{CallLine}
use Rattle.call_text.specs.declared.call.CallLine.TheVariants as call

-- a span to a first run, and a period or a delay, and the newline
abbrev pub spans_text : ℕ × ℕ → List ℕ
spans_text v = decimal v.0 ++ (codes " " ++ (decimal v.1 ++ codes "\n"))

-- a policy and what it is set to, and the newline
abbrev pub set_text : Which × Bool → List ℕ
set_text v = policy_text v.0 ++ (codes " " ++ (truth_text v.1 ++ codes "\n"))

-- a call's line, with its newline
abbrev pub call_line : CallLine → List ℕ
call_line (call.Schedule d) = codes "call schedule " ++ (decimal d ++ codes "\n")
call_line call.Execute = codes "call execute\n"
call_line (call.Rate f p) = codes "call rate " ++ spans_text (f, p)
call_line (call.Fixed f d) = codes "call fixed " ++ spans_text (f, d)
call_line (call.Cancel k) = codes "call cancel " ++ (decimal k ++ codes "\n")
call_line (call.Policy which value) = codes "call policy " ++ set_text (which, value)
call_line call.Shutdown = codes "call shutdown\n"
call_line call.ShutdownNow = codes "call shutdown_now\n"
call_line call.Ask = codes "call ask\n"

-- a span in nanoseconds, at most 2^62
abbrev pub FitsSpan : ℕ → Type 0
FitsSpan n = n ≤ longest

-- a period or a delay in nanoseconds, 1 to 2^62
abbrev pub FitsPeriod : ℕ → Type 0
FitsPeriod n = (0 < n) × (n ≤ longest)

-- a span to a first run, and a period or a delay
abbrev pub FitsSpans : ℕ × ℕ → Type 0
FitsSpans v = FitsSpan v.0 × FitsPeriod v.1

-- spans, periods and delays that fit, a task below 2^32
abbrev pub FitsCall : CallLine → Type 0
FitsCall (call.Schedule d) = FitsSpan d
FitsCall (call.Rate f p) = FitsSpans (f, p)
FitsCall (call.Fixed f d) = FitsSpans (f, d)
FitsCall (call.Cancel k) = k < 2 ^ 32
FitsCall _ = Unit {0}

-- what a line, with its newline, spells: `Some c`: this call, which fits; `None`: no call that fits
abbrev pub SpellsCall : List ℕ → Option CallLine → Type 0
SpellsCall line (Some c) = (line ≡ call_line c) × FitsCall c
SpellsCall line None = (c : CallLine) → FitsCall c → line ≢ call_line c

-- CallEnds: a call's line has one newline, at its end, and few bytes.
use Rattle.std.proofs.Common.{◌≡◌, ℕ, ◌+◌, ◌≤◌, true, false, Bool, List, ◌++◌, length, refl, arith, rules, codes, length-append}
use Rattle.std.specs.Fmt.{decimal}
use Rattle.std.proofs.lemmas.Fmt.{length-decimal-le}
use Rattle.sched_time.specs.declared.policies.Which.{Which}
use Rattle.sched_time.specs.declared.policies.Which.TheVariants as which
use Rattle.sched_time.specs.Policies.{policy_text, truth_text}
use Rattle.trace_text.specs.Spelling.{IsLine}
use Rattle.trace_text.proofs.Counts.{code_short}
use Rattle.trace_text.proofs.EventTexts.{IsEnded, ended_number, ended_behind, number_is_line}
use Rattle.call_text.specs.declared.call.CallLine.{CallLine}
use Rattle.call_text.specs.declared.call.CallLine.TheVariants.{Schedule, Execute, Rate, Fixed, Cancel, Policy, Shutdown, ShutdownNow, Ask}
use Rattle.call_text.specs.Spelling.{call_line, spans_text, set_text, FitsSpan, FitsSpans, FitsCall}
use Rattle.call_text.proofs.CallTexts.{span_small}

-- ---- the newline

space_line : IsLine (codes " ")
space_line = search rules

schedule_line : IsLine (codes "call schedule ")
schedule_line = search rules

execute_line : IsLine (codes "call execute")
execute_line = search rules

rate_line : IsLine (codes "call rate ")
rate_line = search rules

fixed_line : IsLine (codes "call fixed ")
fixed_line = search rules

cancel_line : IsLine (codes "call cancel ")
cancel_line = search rules

policy_line : IsLine (codes "call policy ")
policy_line = search rules

shutdown_line : IsLine (codes "call shutdown")
shutdown_line = search rules

now_line : IsLine (codes "call shutdown_now")
now_line = search rules

ask_line : IsLine (codes "call ask")
ask_line = search rules

which_line : (w : Which) → IsLine (policy_text w)
which_line which.Continue = search rules
which_line which.Execute = search rules
which_line which.Remove = search rules

truth_line : (b : Bool) → IsLine (truth_text b)
truth_line true = search rules
truth_line false = search rules

last_word : (word : List ℕ) → IsLine word → IsEnded (word ++ codes "\n")
last_word word plain = record { front = word; is = refl; plain = plain }

spans_ended : (a p : ℕ) → FitsSpans (a, p) → IsEnded (spans_text (a, p))
spans_ended a p h =
    ended_behind (decimal a) (codes " " ++ (decimal p ++ codes "\n")) (number_is_line a (span_small a h.0))
    (ended_behind (codes " ") (decimal p ++ codes "\n") space_line (ended_number p (span_small p h.1.1)))

set_ended : (w : Which) (b : Bool) → IsEnded (set_text (w, b))
set_ended w b =
    ended_behind (policy_text w) (codes " " ++ (truth_text b ++ codes "\n")) (which_line w)
    (ended_behind (codes " ") (truth_text b ++ codes "\n") space_line (last_word (truth_text b) (truth_line b)))

-- a call's line has one newline, at its end
pub call_ended : (c : CallLine) → FitsCall c → IsEnded (call_line c)
call_ended (Schedule d) h = ended_behind (codes "call schedule ") (decimal d ++ codes "\n") schedule_line (ended_number d (span_small d h))
call_ended Execute h = last_word (codes "call execute") execute_line
call_ended (Rate a p) h = ended_behind (codes "call rate ") (spans_text (a, p)) rate_line (spans_ended a p h)
call_ended (Fixed a d) h = ended_behind (codes "call fixed ") (spans_text (a, d)) fixed_line (spans_ended a d h)
call_ended (Cancel k) h = ended_behind (codes "call cancel ") (decimal k ++ codes "\n") cancel_line (ended_number k (omega (arith, h)))
call_ended (Policy w b) h = ended_behind (codes "call policy ") (set_text (w, b)) policy_line (set_ended w b)
call_ended Shutdown h = last_word (codes "call shutdown") shutdown_line
call_ended ShutdownNow h = last_word (codes "call shutdown_now") now_line
call_ended Ask h = last_word (codes "call ask") ask_line

-- ---- how many bytes

-- a span has at most 19 digits
span_short : (n : ℕ) → FitsSpan n → length (decimal n) ≤ 19
span_short n h = length-decimal-le 19 n (omega arith) (omega (arith, h)) (omega (arith, h))

numbered : (n : ℕ) → length (decimal n ++ codes "\n") ≡ length (decimal n) + 1
numbered n = length-append (decimal n) (codes "\n")

spans_short : (a p : ℕ) → FitsSpans (a, p) → length (spans_text (a, p)) ≤ 40
spans_short a p h =
    omega (arith, length-append (decimal a) (codes " " ++ (decimal p ++ codes "\n")), length-append (codes " ") (decimal p ++ codes "\n"), numbered p, span_short a h.0, span_short p h.1.1)

set_short : (w : Which) (b : Bool) → length (set_text (w, b)) ≤ 15
set_short which.Continue true = omega arith
set_short which.Continue false = omega arith
set_short which.Execute true = omega arith
set_short which.Execute false = omega arith
set_short which.Remove true = omega arith
set_short which.Remove false = omega arith

-- the line of a call has at most 51 bytes
pub call_short : (c : CallLine) → FitsCall c → length (call_line c) ≤ 51
call_short (Schedule d) h = omega (arith, length-append (codes "call schedule ") (decimal d ++ codes "\n"), numbered d, span_short d h)
call_short Execute h = omega arith
call_short (Rate a p) h = omega (arith, length-append (codes "call rate ") (spans_text (a, p)), spans_short a p h)
call_short (Fixed a d) h = omega (arith, length-append (codes "call fixed ") (spans_text (a, d)), spans_short a d h)
call_short (Cancel k) h = omega (arith, length-append (codes "call cancel ") (decimal k ++ codes "\n"), numbered k, code_short k h)
call_short (Policy w b) h = omega (arith, length-append (codes "call policy ") (set_text (w, b)), set_short w b)
call_short Shutdown h = omega arith
call_short ShutdownNow h = omega arith
call_short Ask h = omega arith

-- Spelling: the text of events and of the lines of a trace (this project's rule).
-- Numbers are decimals with no leading zero, one space stands between two words, each line ends with a newline (byte 10),
-- and a text is grouped to the right.
use Rattle.std.specs.Prelude.{◌≡◌, ◌≢◌, ℕ, ◌^◌, ◌<◌, Bool, true, false, List, ◌++◌, All, Option, Some, None, codes, flat_map}
use Rattle.std.specs.Fmt.{decimal}
use Rattle.sched_time.specs.Policies.{policy_text, truth_text}
use Rattle.sched_time.specs.declared.timing.Ending.{Ending}
use Rattle.sched_time.specs.declared.timing.Ending.TheVariants as ending
use Rattle.executor_model.specs.declared.Event.{Event}
use Rattle.executor_model.specs.declared.Event.TheVariants as event
use Rattle.executor_model.specs.declared.Kind.{Kind}
use Rattle.executor_model.specs.declared.Kind.TheVariants as kind
use Rattle.executor_model.specs.declared.Refusal.{Refusal}
use Rattle.executor_model.specs.declared.Refusal.TheVariants as refusal
use Rattle.executor_model.specs.declared.EventError.{EventError}
use Rattle.executor_model.specs.declared.EventError.TheVariants as error
use Rattle.executor_model.specs.declared.CancelEffect.{CancelEffect}
use Rattle.executor_model.specs.declared.CancelEffect.TheVariants as effect
use Rattle.executor_model.specs.declared.Outcome.{Outcome}
use Rattle.executor_model.specs.declared.Outcome.TheVariants as outcome
use Rattle.executor_model.specs.declared.Answer.{Answer}
use Rattle.executor_model.specs.declared.Answer.TheVariants as answer
use Rattle.executor_model.specs.declared.Message.{Message}
use Rattle.executor_model.specs.declared.Message.TheVariants as message
use Rattle.executor_model.specs.declared.Line.{Line}

-- no newline stands among some bytes
abbrev pub IsLine : List ℕ → Type 0
IsLine line = All (λ b. b ≢ 10) line

-- how a run ended, and the newline: ` ok V` with a value, ` fail C` with a code
abbrev pub ending_line : Ending → List ℕ
ending_line (ending.Value v) = codes " ok " ++ (decimal v ++ codes "\n")
ending_line (ending.Fault c) = codes " fail " ++ (decimal c ++ codes "\n")

-- an event's line, with its newline
abbrev pub event_line : Event → List ℕ
event_line (event.Clock t) = codes "clock " ++ (decimal t ++ codes "\n")
event_line (event.Start w) = codes "start " ++ (decimal w ++ codes "\n")
event_line (event.Finish w e) = codes "finish " ++ (decimal w ++ ending_line e)
event_line (event.Cancel k) = codes "cancel " ++ (decimal k ++ codes "\n")

-- a value below 2^64, a code below 2^32
abbrev pub FitsEnding : Ending → Type 0
FitsEnding (ending.Value v) = v < 2 ^ 64
FitsEnding (ending.Fault c) = c < 2 ^ 32

-- a moment below 2^64, a worker below 256, a task below 2^32
abbrev pub FitsEvent : Event → Type 0
FitsEvent (event.Clock t) = t < 2 ^ 64
FitsEvent (event.Start w) = w < 2 ^ 8
FitsEvent (event.Finish w e) = (w < 2 ^ 8) × FitsEnding e
FitsEvent (event.Cancel k) = k < 2 ^ 32

-- the word of a kind of task
abbrev pub kind_text : Kind → List ℕ
kind_text kind.Schedule = codes "schedule"
kind_text kind.Rate = codes "rate"
kind_text kind.Fixed = codes "fixed"

-- why a task was refused, in a word
abbrev pub refusal_text : Refusal → List ℕ
refusal_text refusal.Illegal = codes "illegal"
refusal_text refusal.Rejected = codes "rejected"

-- why an event had no effect, in words
abbrev pub error_text : EventError → List ℕ
error_text error.Backward = codes "backward"
error_text error.TooFar = codes "too far"
error_text error.NoWorker = codes "no worker"
error_text error.Busy = codes "busy"
error_text error.NotRunning = codes "not running"
error_text error.NoTask = codes "no task"

-- what a cancel did, in a word: `yes`, it cancelled the task; `no`, the task was over or cancelled before; `none`, no
-- such task was accepted by then
abbrev pub effect_text : CancelEffect → List ℕ
effect_text effect.Yes = codes "yes"
effect_text effect.No = codes "no"
effect_text effect.Absent = codes "none"

-- a task and what a cancel did to it, and the newline
abbrev pub cancel_text : ℕ × CancelEffect → List ℕ
cancel_text v = decimal v.0 ++ (codes " " ++ (effect_text v.1 ++ codes "\n"))

-- whether something is so, in a word
abbrev pub whether_text : Bool → List ℕ
whether_text true = codes "yes"
whether_text false = codes "no"

-- what a finished run led to, and the newline
abbrev pub outcome_text : Outcome → List ℕ
outcome_text (outcome.Done v) = codes " done " ++ (decimal v ++ codes "\n")
outcome_text (outcome.Failed c) = codes " failed " ++ (decimal c ++ codes "\n")
outcome_text (outcome.Again d) = codes " again due " ++ (decimal d ++ codes "\n")
outcome_text outcome.Dropped = codes " dropped\n"
outcome_text outcome.Ended = codes " ended\n"

-- an answer behind its moment, and the newline
abbrev pub answer_text : Answer → List ℕ
answer_text (answer.Submit k kind d) = codes " submit " ++ (decimal k ++ (codes " " ++ (kind_text kind ++ (codes " due " ++ (decimal d ++ codes "\n")))))
answer_text (answer.Refuse k reason) = codes " refuse " ++ (decimal k ++ (codes " " ++ (refusal_text reason ++ codes "\n")))
answer_text (answer.Cancel k e) = codes " cancel " ++ cancel_text (k, e)
answer_text (answer.Outside k e) = codes " outside " ++ cancel_text (k, e)
answer_text answer.Purge = codes " purge\n"
answer_text (answer.Policy which value) = codes " policy " ++ (policy_text which ++ (codes " " ++ (truth_text value ++ codes "\n")))
answer_text answer.Shutdown = codes " shutdown\n"
answer_text answer.ShutdownAgain = codes " shutdown again\n"
answer_text answer.ShutdownNow = codes " shutdown now\n"
answer_text (answer.Ask q r shut over) =
    codes " ask queue " ++ (decimal q ++ (codes " running " ++ (decimal r ++ (codes " shutdown " ++ (whether_text shut ++ (codes " terminated " ++ (whether_text over ++ codes "\n")))))))
answer_text answer.Clock = codes " clock\n"
answer_text (answer.Start w k n d) = codes " start " ++ (decimal w ++ (codes " task " ++ (decimal k ++ (codes " run " ++ (decimal n ++ (codes " due " ++ (decimal d ++ codes "\n")))))))
answer_text (answer.Idle w) = codes " start " ++ (decimal w ++ codes " idle\n")
answer_text (answer.Finish w k n o) = codes " finish " ++ (decimal w ++ (codes " task " ++ (decimal k ++ (codes " run " ++ (decimal n ++ outcome_text o)))))
answer_text (answer.Error e) = codes " error " ++ (error_text e ++ codes "\n")

-- what a line says behind its moment, and the newline: an answer, or that a task ends
abbrev pub message_text : Message → List ℕ
message_text (message.Answer given) = answer_text given
message_text (message.End k) = codes " end " ++ (decimal k ++ codes "\n")

-- a line of the trace, with its newline: the moment, and what is said
abbrev pub line_text : Line → List ℕ
line_text line = decimal line.moment ++ message_text line.message

-- the text of lines, one after another
abbrev pub lines_text : List Line → List ℕ
lines_text lines = flat_map line_text lines

-- what a line, with its newline, spells: `Some e`: this event, which fits; `None`: no event that fits
abbrev pub Spells : List ℕ → Option Event → Type 0
Spells line (Some e) = (line ≡ event_line e) × FitsEvent e
Spells line None = (e : Event) → FitsEvent e → line ≢ event_line e

-- a value and a due moment below 2^64, a code below 2^32
abbrev pub FitsOutcome : Outcome → Type 0
FitsOutcome (outcome.Done v) = v < 2 ^ 64
FitsOutcome (outcome.Failed c) = c < 2 ^ 32
FitsOutcome (outcome.Again d) = d < 2 ^ 64
FitsOutcome outcome.Dropped = Unit {0}
FitsOutcome outcome.Ended = Unit {0}

-- a due moment and the number of a run below 2^64, a task and a number of tasks below 2^32, a worker below 256
abbrev pub FitsAnswer : Answer → Type 0
FitsAnswer (answer.Submit k kind d) = (k < 2 ^ 32) × (d < 2 ^ 64)
FitsAnswer (answer.Refuse k reason) = k < 2 ^ 32
FitsAnswer (answer.Cancel k e) = k < 2 ^ 32
FitsAnswer (answer.Outside k e) = k < 2 ^ 32
FitsAnswer (answer.Ask q r shut over) = (q < 2 ^ 32) × (r < 2 ^ 32)
FitsAnswer (answer.Start w k n d) = (w < 2 ^ 8) × (k < 2 ^ 32) × (n < 2 ^ 64) × (d < 2 ^ 64)
FitsAnswer (answer.Idle w) = w < 2 ^ 8
FitsAnswer (answer.Finish w k n o) = (w < 2 ^ 8) × (k < 2 ^ 32) × (n < 2 ^ 64) × FitsOutcome o
FitsAnswer _ = Unit {0}

-- an answer that fits, or a task below 2^32
abbrev pub FitsMessage : Message → Type 0
FitsMessage (message.Answer given) = FitsAnswer given
FitsMessage (message.End k) = k < 2 ^ 32

-- a moment below 2^64, and what is said fits
abbrev pub FitsLine : Line → Type 0
FitsLine line = (line.moment < 2 ^ 64) × FitsMessage line.message

-- what some bytes, with their newline, spell: `Some line`: this line, which fits; `None`: no line that fits
abbrev pub SpellsLine : List ℕ → Option Line → Type 0
SpellsLine bytes (Some line) = (bytes ≡ line_text line) × FitsLine line
SpellsLine bytes None = (line : Line) → FitsLine line → bytes ≢ line_text line

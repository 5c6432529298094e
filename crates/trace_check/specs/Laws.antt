-- What holds of the lines that go, and of what is found of a text. Lines and histories stand the newest first.
-- All of it is this project's rule.
use Rattle.std.specs.Prelude.{◌≡◌, ℕ, ◌^◌, ◌≤◌, ◌↔◌, List, ◌∷◌, All, length, reverse}
use Rattle.queue_code.specs.Calls.{Planned, IsPlanned}
use Rattle.executor_model.specs.declared.types.Happening.{Happening}
use Rattle.executor_model.specs.declared.types.Happening.TheVariants as h
use Rattle.executor_model.specs.declared.types.Line.{Line}
use Rattle.executor_model.specs.Counts.{IsWorkerCount}
use Rattle.executor_model.specs.Histories.{HistoryEntry, happenings, IsHistoryOf}
use Rattle.executor_model.specs.Flows.{lines_of}
use Rattle.trace_text.specs.Spelling.{FitsEnding, FitsLine, lines_text}
use Rattle.trace_check.specs.declared.finding.Finding.{Finding}
use Rattle.trace_check.specs.Going.{Goes, AreWhole, StandsNext}
use Rattle.trace_check.specs.Findings.{Conforms, Breaks, Finds}

-- after lines that go, exactly the lines that stand next may follow
abbrev pub GoesLineByLine : Type 0
GoesLineByLine = (calls : List Planned) (workers : ℕ) (lines : List Line) (line : Line) (goes : Goes calls workers lines)
    → Goes calls workers (line ∷ lines) ↔ StandsNext calls workers lines goes.past goes.owed line

-- lines go in one way at most
abbrev pub GoesOnlyOneWay : Type 0
GoesOnlyOneWay = (calls : List Planned) (workers : ℕ) (lines : List Line) (one other : Goes calls workers lines)
    → (one.past ≡ other.past) × (one.owed ≡ other.owed)

-- where lines go, those before the last one go
abbrev pub FrontsGo : Type 0
FrontsGo = (calls : List Planned) (workers : ℕ) (lines : List Line) (line : Line) → Goes calls workers (line ∷ lines) → Goes calls workers lines

-- the lines of each history go, and are whole
abbrev pub TracesGo : Type 0
TracesGo = (calls : List Planned) (workers : ℕ) (past : List HistoryEntry) → IsPlanned calls → IsWorkerCount workers → IsHistoryOf calls workers past
    → AreWhole calls workers (reverse (lines_of calls past))

-- a text is that of a history, whose lines can be spelled
pub record IsTraceText (calls : List Planned) (workers : ℕ) (text : List ℕ) : Type 0 where
  pub past : List HistoryEntry
  pub means : IsHistoryOf calls workers past
  pub fit : All FitsLine (lines_of calls past)
  pub spelled : text ≡ lines_text (lines_of calls past)

-- a text conforms exactly where it is that of a history
abbrev pub TracesConform : Type 0
TracesConform = (calls : List Planned) (workers : ℕ) (text : List ℕ) → IsPlanned calls → IsWorkerCount workers
    → Conforms calls workers text ↔ IsTraceText calls workers text

-- what a happening hands in fits: the value, or the code, with which a run ended is one of its type. A moment, a worker or a
-- task may be any number: no line shows one that is out of range
abbrev pub FitsHappening : Happening → Type 0
FitsHappening (h.Finish worker ending) = FitsEnding ending
FitsHappening _ = Unit {0}

-- each line of a history fits, where its happenings fit and are no more than 2^64: the number of a run is below theirs, and
-- where a period is 0 there is no other bound on it
abbrev pub HistoriesFit : Type 0
HistoriesFit = (calls : List Planned) (workers : ℕ) (past : List HistoryEntry) → IsPlanned calls → IsWorkerCount workers → IsHistoryOf calls workers past
    → All FitsHappening (happenings past) → length past ≤ 2 ^ 64 → All FitsLine (lines_of calls past)

-- the text of such a history conforms, also where a cancel from outside or a purge stands between two calls that one
-- clock reaches
abbrev pub HistoriesConform : Type 0
HistoriesConform = (calls : List Planned) (workers : ℕ) (past : List HistoryEntry) → IsPlanned calls → IsWorkerCount workers → IsHistoryOf calls workers past
    → All FitsHappening (happenings past) → length past ≤ 2 ^ 64 → Conforms calls workers (lines_text (lines_of calls past))

-- of a text one thing is found at most
abbrev pub FindingsAreOne : Type 0
FindingsAreOne = (calls : List Planned) (workers : ℕ) (text : List ℕ) (one other : Finding) → Finds calls workers text one → Finds calls workers text other → one ≡ other

-- a text that breaks does not conform
abbrev pub BreaksOrConforms : Type 0
BreaksOrConforms = (calls : List Planned) (workers : ℕ) (text : List ℕ) (n : ℕ) → Breaks calls workers text n → Conforms calls workers text → ⊥

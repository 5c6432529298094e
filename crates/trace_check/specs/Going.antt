-- Which lines go: those that can stand at the front of a trace.
-- Lines and histories stand the newest first. All of it is this project's rule.
use Rattle.std.specs.Prelude.{◌≡◌, ℕ, List, [], ◌∷◌, ◌++◌, reverse, Some}
use Rattle.executor_model.specs.declared.types.Happening.{Happening}
use Rattle.executor_model.specs.declared.types.Answer.{Answer}
use Rattle.executor_model.specs.declared.types.Line.{Line}
use Rattle.executor_model.specs.declared.types.Message.{Message}
use Rattle.executor_model.specs.declared.types.Message.TheVariants as m
use Rattle.queue_code.specs.Calls.{Planned}
use Rattle.executor_model.specs.Histories.{HistoryEntry, happenings, now_of, answer, IsHistoryOf, MayCome}
use Rattle.executor_model.specs.Flows.{lines_of}
use Rattle.trace_check.specs.Representatives.{AreRepresentatives, representative_of}

-- the lines go: their representatives have a history, and they are a front of its lines
pub record Goes (calls : List Planned) (workers : ℕ) (lines : List Line) : Type 0 where
  pub past : List HistoryEntry
  pub means : IsHistoryOf calls workers past
  pub representative : AreRepresentatives workers lines (happenings past)
  -- what is still to come of the last answer
  pub owed : List Line
  pub front : lines_of calls past ≡ reverse lines ++ owed

-- the lines go, and are whole
pub record AreWhole (calls : List Planned) (workers : ℕ) (lines : List Line) : Type 0 where
  pub goes : Goes calls workers lines
  pub whole : goes.owed ≡ []

-- ---- line by line

-- an answer that stands next: a representative gets it, which may come
pub record IsNextAnswer (calls : List Planned) (workers : ℕ) (lines : List Line) (past : List HistoryEntry) (moment : ℕ) (said : Answer) : Type 0 where
  pub happening : Happening
  pub representative : representative_of workers lines moment said ≡ Some happening
  pub comes : MayCome calls (happenings past) happening
  pub now : moment ≡ now_of calls (happening ∷ happenings past)
  pub answered : said ≡ (answer calls workers past happening).answer

-- what stands next where nothing is owed: an answer, and no end of a task
abbrev pub IsNextMessage : List Planned → ℕ → List Line → List HistoryEntry → ℕ → Message → Type 0
IsNextMessage calls workers lines past moment (m.Answer said) = IsNextAnswer calls workers lines past moment said
IsNextMessage calls workers lines past moment (m.End task) = ⊥

-- a line that stands next: the one that is owed, and where none is, one that a representative gets
abbrev pub StandsNext : List Planned → ℕ → List Line → List HistoryEntry → List Line → Line → Type 0
StandsNext calls workers lines past (due ∷ owed) line = line ≡ due
StandsNext calls workers lines past [] line = IsNextMessage calls workers lines past line.moment line.message

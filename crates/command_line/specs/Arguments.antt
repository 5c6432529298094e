-- Arguments: what a command line asks for.
-- All of it is this project's rule, in the words that clap has for what a command line holds.
use Rattle.std.specs.Prelude.{◌≡◌, ◌≢◌, ℕ, ◌^◌, ◌<◌, Bool, true, false, List, [], Option, Some, None, option_map, unwrap_or, codes}
use Rattle.std.specs.Str.Parse.{IsNumeral, digits_value, without_leading_plus}
use Rattle.clap.specs.Words.{Row, Text, first_of, one_of, subcommand_of}
use Rattle.trace_svg.specs.declared.view.View.{View}
use Rattle.command_line.specs.Commands.{sched_app}
use Rattle.command_line.specs.declared.arguments.RunArguments.{RunArguments}
use Rattle.command_line.specs.declared.arguments.PlanArguments.{PlanArguments}
use Rattle.command_line.specs.declared.arguments.CheckArguments.{CheckArguments}
use Rattle.command_line.specs.declared.arguments.DrawArguments.{DrawArguments}
use Rattle.command_line.specs.declared.arguments.LiveArguments.{LiveArguments}
use Rattle.command_line.specs.declared.arguments.LintArguments.{LintArguments}
use Rattle.command_line.specs.declared.arguments.Asked.{Asked}
use Rattle.command_line.specs.declared.arguments.Asked.TheVariants.{Pool, Lint, Alone}
use Rattle.command_line.specs.declared.arguments.AskedAlone.{AskedAlone}
use Rattle.command_line.specs.declared.arguments.AskedAlone.TheVariants.{Run, Code, Tasks, Check, Migrate, Draw, Live}

-- a text writes, in decimal digits, a number that fits `bits` bits
abbrev pub WritesNumber : ℕ → Text → Type 0
WritesNumber bits text = IsNumeral 10 (without_leading_plus text) × (digits_value 10 (without_leading_plus text) < 2 ^ bits)

-- the number that the text of an argument writes; 0 where it has none, or none that fits `bits` bits
abbrev pub IsNumberOf : ℕ → Option Text → ℕ → Type 0
IsNumberOf bits None n = n ≡ 0
IsNumberOf bits (Some text) n =
    (WritesNumber bits text → n ≡ digits_value 10 (without_leading_plus text)) × (¬ (WritesNumber bits text) → n ≡ 0)

-- the number that the text of an argument writes; none where it has none, or none that fits `bits` bits
abbrev pub IsMaybeNumberOf : ℕ → Option Text → Option ℕ → Type 0
IsMaybeNumberOf bits None n = n ≡ None
IsMaybeNumberOf bits (Some text) n =
    (WritesNumber bits text → n ≡ Some (digits_value 10 (without_leading_plus text))) × (¬ (WritesNumber bits text) → n ≡ None)

-- the flag is set where the text says so, and not set where it says so or there is none
pub record IsFlagOf (text : Option Text) (flag : Bool) : Type 0 where
  pub none : text ≡ None → flag ≡ false
  pub set : text ≡ Some (codes "true") → flag ≡ true
  pub unset : text ≡ Some (codes "false") → flag ≡ false

-- the name and the two numbers are the values of the arguments of `run` or `pool`
pub record AsksForRun (rows : List Row) (asked : RunArguments) : Type 0 where
  pub plan : asked.path.now ≡ unwrap_or (first_of (codes "plan") rows) []
  pub workers : IsNumberOf 8 (one_of (codes "workers") rows) asked.workers
  pub limit : IsNumberOf 32 (one_of (codes "limit") rows) asked.limit

-- the name is the value of the argument of `code`, `tasks` or `migrate`
abbrev pub AsksForPlan : List Row → PlanArguments → Type 0
AsksForPlan rows asked = asked.path.now ≡ unwrap_or (first_of (codes "plan") rows) []

-- the two names and the number are the values of the arguments of `check`, or of `draw`
pub record AsksForCheck (rows : List Row) (asked : CheckArguments) : Type 0 where
  pub plan : asked.path.now ≡ unwrap_or (first_of (codes "plan") rows) []
  pub trace : asked.trace.now ≡ unwrap_or (first_of (codes "trace") rows) []
  pub workers : IsNumberOf 8 (one_of (codes "workers") rows) asked.workers

-- the three numbers are the values of `draw`'s options
pub record AsksForView (rows : List Row) (view : View) : Type 0 where
  pub from : IsMaybeNumberOf 64 (one_of (codes "from") rows) view.from
  pub to : IsMaybeNumberOf 64 (one_of (codes "to") rows) view.to
  pub marks : IsNumberOf 64 (one_of (codes "marks") rows) view.marks

-- the names and the numbers are the values of `draw`'s arguments
pub record AsksForDraw (rows : List Row) (asked : DrawArguments) : Type 0 where
  pub check : AsksForCheck rows asked.check
  pub view : AsksForView rows asked.view

-- the number and the name, where there is one, are the values of `live`'s arguments
pub record AsksForLive (rows : List Row) (asked : LiveArguments) : Type 0 where
  pub workers : IsNumberOf 8 (one_of (codes "workers") rows) asked.workers
  pub plan : option_map (λ name. name.now) asked.plan ≡ first_of (codes "plan") rows

-- the names, the number and the flag, where there are such, are the values of `lint`'s arguments
pub record AsksForLint (rows : List Row) (asked : LintArguments) : Type 0 where
  pub plan : option_map (λ name. name.now) asked.path ≡ first_of (codes "plan") rows
  pub events : option_map (λ name. name.now) asked.events ≡ first_of (codes "events") rows
  pub trace : option_map (λ name. name.now) asked.trace ≡ first_of (codes "trace") rows
  pub workers : IsMaybeNumberOf 8 (one_of (codes "workers") rows) asked.workers
  pub calls : option_map (λ name. name.now) asked.calls ≡ first_of (codes "calls") rows
  pub strict : IsFlagOf (one_of (codes "strict") rows) asked.strict

-- what is asked of one thread, by the command that is named, with what a command line holds for its arguments: a listing by `code`,
-- the tasks by `tasks`, a check by `check`, a migration by `migrate`, a picture by `draw`, a live run by `live`, and a run of a plan by
-- any other one but `pool` and `lint`, which is `run`
abbrev pub AsksAlone : Option (Text × List Row) → AskedAlone → Type 0
AsksAlone named (Code c) = (rows : List Row) × (named ≡ Some (codes "code", rows)) × AsksForPlan rows c
AsksAlone named (Tasks t) = (rows : List Row) × (named ≡ Some (codes "tasks", rows)) × AsksForPlan rows t
AsksAlone named (Check c) = (rows : List Row) × (named ≡ Some (codes "check", rows)) × AsksForCheck rows c
AsksAlone named (Migrate m) = (rows : List Row) × (named ≡ Some (codes "migrate", rows)) × AsksForPlan rows m
AsksAlone named (Draw d) = (rows : List Row) × (named ≡ Some (codes "draw", rows)) × AsksForDraw rows d
AsksAlone named (Live l) = (rows : List Row) × (named ≡ Some (codes "live", rows)) × AsksForLive rows l
AsksAlone named (Run r) = (name : Text) × (rows : List Row) × (named ≡ Some (name, rows)) × (name ≢ codes "code") × (name ≢ codes "tasks") × (name ≢ codes "check") × (name ≢ codes "pool") × (name ≢ codes "migrate") × (name ≢ codes "draw") × (name ≢ codes "live") × (name ≢ codes "lint") × AsksForRun rows r

-- what is asked for, by the command that is named: a run by a pool by `pool`, why something is refused by `lint`, and of one thread
-- what it is asked
abbrev pub AsksIn : Option (Text × List Row) → Asked → Type 0
AsksIn named (Pool p) = (rows : List Row) × (named ≡ Some (codes "pool", rows)) × AsksForRun rows p
AsksIn named (Lint l) = (rows : List Row) × (named ≡ Some (codes "lint", rows)) × AsksForLint rows l
AsksIn named (Alone asked) = AsksAlone named asked

-- what the arguments of a command line ask for
abbrev pub Asks : List Text → Asked → Type 0
Asks arguments asked = AsksIn (subcommand_of sched_app arguments) asked

-- The walk over a tree that finds its plan: what is read at the keys of its tables. Each definition has a value at every table, and so
-- a default at some that are refused: no such default is seen where a plan is written, for the reason that stands at each.
-- All of it is this project's rule.
use Rattle.std.specs.Prelude.{ℕ, ℤ, pos, negsuc, ◌==◌, if◌then◌else◌, Bool, true, false, List, [], ◌∷◌, ◌++◌, Option, Some, None, option_and_then, unwrap_or, codes, int_lt}
use Rattle.toml.specs.Data.{Data, table, Items, no_items, item, Members, no_members, get_member, as_integer, as_bool, as_str, as_array}
use Rattle.sched_time.specs.Times.{span_of, period_of, delay_units}
use Rattle.sched_time.specs.declared.policies.Which.{Which}
use Rattle.sched_time.specs.declared.policies.Which.TheVariants.{Continue}
use Rattle.sched_time.specs.declared.unit.Unit.{Unit as TimeUnit}
use Rattle.sched_time.specs.declared.unit.Unit.TheVariants.{Ns}
use Rattle.plan_read.specs.declared.plans.Call.{Call}
use Rattle.plan_read.specs.declared.plans.Header.{Header}
use Rattle.plan_read.specs.declared.plans.Op.{Op}
use Rattle.plan_read.specs.declared.plans.Op.TheVariants as ops
use Rattle.plan_read.specs.declared.plans.Target.{Target}
use Rattle.plan_read.specs.declared.sites.Site.{Site}
use Rattle.plan_read.specs.declared.verbs.Verb.{Verb}
use Rattle.plan_read.specs.declared.units.Units.{Units}
use Rattle.plan_read.specs.declared.verbs.Verb.TheVariants as verbs
use Rattle.plan_read.specs.declared.versions.Version.{Version}
use Rattle.plan_read.specs.declared.versions.Version.TheVariants.{One, Two}
use Rattle.plan_read.specs.Keys.{unit_key, verb_of_word, unit_of_word, which_of_word}
use Rattle.plan_read.specs.Plans.{BlockTree, PlanTree, submissions_before, find}

-- ---- at one key

-- the integer at a key, if there is one
abbrev pub given_integer : List ℕ → Members → Option ℤ
given_integer key ms = option_and_then as_integer (get_member key ms)

-- the text at a key, if there is one
abbrev pub given_text : List ℕ → Members → Option (List ℕ)
given_text key ms = option_and_then as_str (get_member key ms)

-- the truth value at a key, if there is one
abbrev pub given_truth : List ℕ → Members → Option Bool
given_truth key ms = option_and_then as_bool (get_member key ms)

-- the integer at a key, and a default where there is none: seen where a plan is written at keys alone that may be left out, since the
-- others are there (`Missing`) and no value is of another type (`WrongType`)
abbrev pub integer_or : ℤ → List ℕ → Members → ℤ
integer_or z key ms = unwrap_or (given_integer key ms) z

-- the text at a key, and a default where there is none: seen where a plan is written at keys alone that may be left out, since the
-- others are there (`Missing`) and no value is of another type (`WrongType`)
abbrev pub text_or : List ℕ → List ℕ → Members → List ℕ
text_or text key ms = unwrap_or (given_text key ms) text

-- the truth value at a key, and false where there is none: never seen where a plan is written, since a `policy` has its `value`
-- (`Missing`), and that is a truth value (`WrongType`)
abbrev pub truth_at : List ℕ → Members → Bool
truth_at key ms = unwrap_or (given_truth key ms) false

-- the members of a table, and none of anything else: never seen where a plan is written, since each item of `block` and of `call` is
-- a table (`WrongType`)
abbrev pub members_in : Data → Members
members_in (table ms) = ms
members_in d = no_members

-- the tables among some items
abbrev pub tables_in : Items → List Members
tables_in no_items = []
tables_in (item d ds) = members_in d ∷ tables_in ds

-- the tables of the array at a key, none where there is no array: where a plan is written the key is left out then, since what stands
-- at it is an array of tables (`WrongType`)
abbrev pub tables_at : List ℕ → Members → List Members
tables_at key ms = tables_in (unwrap_or (option_and_then as_array (get_member key ms)) no_items)

-- the integer at a key is below 0
abbrev pub is_negative : List ℕ → Members → Bool
is_negative key ms = int_lt (integer_or (pos 0) key ms) (pos 0)

-- the nanoseconds at a key, in a unit. A negative number counts as 0: that of an `at` or an `every` is never seen where a plan is
-- written, since none of them is negative (`Negative`)
abbrev pub span_at : TimeUnit → List ℕ → Members → ℕ
span_at unit key ms = span_of (integer_or (pos 0) key ms) unit

-- the nanoseconds of the period, or the fixed delay, at a key, and none where it is zero or negative. Where a plan is written the key
-- is there (`Missing`)
abbrev pub period_at : TimeUnit → List ℕ → Members → Option ℕ
period_at unit key ms = period_of (integer_or (pos 0) key ms) unit

-- ---- units

-- the unit at a key, and `Ns` at a text that is none: never seen where a plan is written, since the text is a unit (`BadUnit`)
abbrev pub unit_or : Version → List ℕ → Members → TimeUnit
unit_or version key ms = unwrap_or (unit_of_word version (text_or (codes "ns") key ms)) Ns

-- the unit of the time at a key, in a block of this unit
abbrev pub unit_for : Version → TimeUnit → List ℕ → Members → TimeUnit
unit_for One block key ms = block
unit_for Two block key ms = unit_or Two (unit_key key) ms

-- one unit for all times
abbrev pub same_units : TimeUnit → Units
same_units unit = record { at = unit; every = unit; delay = unit; first = unit; period = unit }

-- the units that stand beside the times of a table
abbrev pub units_beside : Members → Units
units_beside ms = record {
  at = unit_or Two (unit_key (codes "at")) ms;
  every = unit_or Two (unit_key (codes "every")) ms;
  delay = unit_or Two (unit_key (codes "delay")) ms;
  first = unit_or Two (unit_key (codes "first")) ms;
  period = unit_or Two (unit_key (codes "period")) ms;
}

-- the units of a table's times: for version 1 the same ones, and for version 2 those beside them
abbrev pub units_in : Version → TimeUnit → Members → Units
units_in version block ms = record {
  at = unit_for version block (codes "at") ms;
  every = unit_for version block (codes "every") ms;
  delay = unit_for version block (codes "delay") ms;
  first = unit_for version block (codes "first") ms;
  period = unit_for version block (codes "period") ms;
}

-- ---- of a header

-- the unit of a block
abbrev pub unit_at : Version → Members → TimeUnit
unit_at One ms = unit_or One (codes "unit") ms
unit_at Two ms = Ns

-- the units of a header's times
abbrev pub header_units : Version → Members → Units
header_units version ms = units_in version (unit_at version ms) ms

-- how often its calls are made
abbrev pub times_at : Members → ℤ
times_at ms = integer_or (pos 1) (codes "times") ms

-- the header that a table writes: its unit, how often its calls are made, and its moment and its `every`, in nanoseconds of their units.
-- From `BadTimes` on the tests of a header are made on this record. What it has for a unit that is none and for a number below 0 is
-- never seen where a plan is written, since `BadUnit`, `BadTimes` and `Negative` refuse such a table
unfoldable pub header_of : Version → Members → Header
header_of version ms = record {
  at = span_at (header_units version ms).at (codes "at") ms;
  unit = unit_at version ms;
  times = delay_units (times_at ms);
  every = span_at (header_units version ms).every (codes "every") ms;
}

-- ---- of a call

-- its operation, and `Ask` at a word that is none: never seen where a plan is written, since the first two checks of a call refuse
-- such a table (`Missing`, `WrongType`)
unfoldable pub verb_at : Members → Verb
verb_at ms = unwrap_or (verb_of_word (text_or [] (codes "op") ms)) verbs.Ask

-- its name, and an empty one where there is none: never seen where a plan is written, since an operation that has a name gives it
-- (`Missing`, `WrongType`), and the others use nothing that is found by one
abbrev pub name_at : Members → List ℕ
name_at ms = text_or [] (codes "name") ms

-- its policy, and `Continue` at a word that is none: never seen where a plan is written, since a `policy` has the word of one
-- (`Missing`, `WrongType`)
abbrev pub which_at : Members → Which
which_at ms = unwrap_or (which_of_word (text_or [] (codes "which") ms)) Continue

-- what a cancel of the submission `found` means, and the first of all where none is found: never seen where a plan is written, since
-- a cancel finds one (`UnknownName`)
abbrev pub target_of : Option Site → Target
target_of None = record { block = 0; sub = 0 }
target_of (Some s) = s.target

-- the operation, where `found` is the submission of its name that stands before it
unfoldable pub op_of : Verb → Option Site → Units → Members → Op
op_of verbs.Schedule found units ms = ops.Schedule (name_at ms) (span_at units.delay (codes "delay") ms)
op_of verbs.Execute found units ms = ops.Execute (name_at ms)
op_of verbs.Rate found units ms = ops.Rate (name_at ms) (span_at units.first (codes "first") ms) (period_at units.period (codes "period") ms)
op_of verbs.Fixed found units ms = ops.Fixed (name_at ms) (span_at units.first (codes "first") ms) (period_at units.delay (codes "delay") ms)
op_of verbs.Cancel found units ms = ops.Cancel (target_of found)
op_of verbs.Policy found units ms = ops.Policy (which_at ms) (truth_at (codes "value") ms)
op_of verbs.Shutdown found units ms = ops.Shutdown
op_of verbs.ShutdownNow found units ms = ops.ShutdownNow
op_of verbs.Ask found units ms = ops.Ask

-- the call of an operation, with its times in these units
abbrev pub timed_call : Verb → Option Site → Units → Members → Call
timed_call verb found units ms = record { at = span_at units.at (codes "at") ms; op = op_of verb found units ms }

-- the call
abbrev pub written_call : Version → Option Site → Header → Members → Call
written_call version found h ms = timed_call (verb_at ms) found (units_in version h.unit ms) ms

-- ---- of the whole tree

-- the submission of a table's name that stands before its call, if there is one
abbrev pub found_at : PlanTree → Header → List Call → Members → Option Site
found_at earlier h before ms = find (name_at ms) (submissions_before earlier h before)

-- the call that a table writes after the calls `before`
abbrev pub next_call : Version → PlanTree → Header → List Call → Members → Call
next_call version earlier h before ms = written_call version (found_at earlier h before ms) h ms

-- the calls before some tables, and theirs
abbrev pub calls_through : Version → PlanTree → Header → List Call → List Members → List Call
calls_through version earlier h before [] = before
calls_through version earlier h before (ms ∷ tables) = calls_through version earlier h (before ++ next_call version earlier h before ms ∷ []) tables

-- the block that a table writes after the blocks `earlier`
abbrev pub block_of : Version → PlanTree → Members → BlockTree
block_of version earlier ms = record {
  header = header_of version ms;
  calls = calls_through version earlier (header_of version ms) [] (tables_at (codes "call") ms);
}

-- the blocks before some tables, and theirs
abbrev pub blocks_through : Version → PlanTree → List Members → PlanTree
blocks_through version earlier [] = earlier
blocks_through version earlier (ms ∷ tables) = blocks_through version (earlier ++ block_of version earlier ms ∷ []) tables

-- the version that an integer is the number of
abbrev pub version_of : ℤ → Option Version
version_of (pos n) = if n == 1 then Some One else if n == 2 then Some Two else None
version_of (negsuc n) = None

-- the version of a tree, and version 1 where it has none: never seen where a plan is written, since the tree has one (`Version`)
abbrev pub version_at : Members → Version
version_at ms = unwrap_or (option_and_then version_of (given_integer (codes "version") ms)) One

-- the plan that a tree writes where it has no fault
abbrev pub plan_of : Members → PlanTree
plan_of ms = blocks_through (version_at ms) [] (tables_at (codes "block") ms)

-- an operation submits a task, also an illegal one
abbrev pub submits : Verb → Bool
submits verbs.Schedule = true
submits verbs.Execute = true
submits verbs.Rate = true
submits verbs.Fixed = true
submits _ = false

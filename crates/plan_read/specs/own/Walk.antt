-- The walk over a tree that finds its fault: for each place tests on what the walk has read there, in the order of the checks, and the
-- first that fails. What it reads has a value at every table; none is seen behind a test that fails.
-- All of it is this project's rule.
use Rattle.std.specs.Prelude.{ℕ, ◌+◌, ◌*◌, Bool, true, false, not, ◌&&◌, ◌||◌, nat_le, ◌==◌, if◌then◌else◌, List, [], ◌∷◌, ◌++◌, length, Option, Some, None, is_some, is_none, option_and_then, codes}
use Rattle.toml.specs.Data.{Members, get_member}
use Rattle.sched_time.specs.Times.{longest, delay_units}
use Rattle.std.specs.List.{list_all}
use Rattle.plan_read.specs.declared.faults.Place.{Place}
use Rattle.plan_read.specs.declared.faults.PlanFault.{PlanFault}
use Rattle.plan_read.specs.declared.faults.PlanFaultKind.{PlanFaultKind}
use Rattle.plan_read.specs.declared.faults.PlanFaultKind.TheVariants.{Version, UnknownKey, Missing, WrongType, BadUnit, BadTimes, Negative, BadName, DuplicateName, UnknownName, Ambiguous, OutOfOrder, TooLarge, TooMany}
use Rattle.plan_read.specs.declared.plans.Call.{Call}
use Rattle.plan_read.specs.declared.plans.Header.{Header}
use Rattle.plan_read.specs.declared.sites.Site.{Site}
use Rattle.plan_read.specs.declared.verbs.Verb.{Verb}
use Rattle.plan_read.specs.declared.verbs.Verb.TheVariants as verbs
use Rattle.plan_read.specs.declared.units.Units.{Units}
use Rattle.plan_read.specs.declared.versions.Version.{Version as PlanVersion}
use Rattle.plan_read.specs.declared.versions.Version.TheVariants.{One, Two}
use Rattle.plan_read.specs.Keys.{Key, time_keys, unit_key, top_keys, header_keys, call_keys, verb_of_word, unit_of_word, has_only, has_required, are_typed}
use Rattle.plan_read.specs.task_names.Names.{is_name}
use Rattle.plan_read.specs.Plans.{PlanTree, most_blocks, most_block_calls, most_calls, moment_in_last, last_offset, end_of, made_by}
use Rattle.plan_read.specs.own.Values.{given_integer, text_or, tables_at, is_negative, span_at, units_in, header_units, times_at, header_of, verb_at, name_at, found_at, next_call, block_of, version_of, version_at}

-- ---- lists of tests

-- a test: what is wrong where it fails
pub record Test : Type 0 where
  pub kind : PlanFaultKind
  pub passes : Bool

infixr 8 ◌barring◌
-- this is wrong unless a test holds
abbrev pub ◌barring◌ : PlanFaultKind → Bool → Test
kind barring passes = record { kind = kind; passes = passes }

-- the first of a place's tests that fails
abbrev pub place_fault : Place → List Test → Option PlanFault
place_fault place [] = None
place_fault place (c ∷ cs) = if c.passes then place_fault place cs else Some (record { kind = c.kind; block = place.block; call = place.call })

infixr 7 ◌or_else◌
-- the fault of one place, and where it has none, that of those after it
abbrev pub ◌or_else◌ : Option PlanFault → Option PlanFault → Option PlanFault
None or_else next = next
(Some fault) or_else next = Some fault

-- on the keys of a table
abbrev pub table_tests : List Key → Members → List Test
table_tests keys ms =
    (UnknownKey barring has_only keys ms)
    ∷ (Missing barring has_required keys ms)
    ∷ (WrongType barring are_typed keys ms)
    ∷ []

-- ---- the top

-- the text as a whole and its top are in no block and no call
abbrev pub top : Place
top = record { block = 0; call = 0 }

-- the checks on the top
unfoldable pub top_tests : Members → List Test
top_tests ms =
    (Version barring is_some (option_and_then version_of (given_integer (codes "version") ms)))
    ∷ (UnknownKey barring has_only top_keys ms)
    ∷ (WrongType barring are_typed top_keys ms)
    ∷ (TooMany barring nat_le (length (tables_at (codes "block") ms)) most_blocks)
    ∷ []

-- ---- the header of a block

-- blocks and calls are numbered from 1, so `block` others stand before this block
abbrev pub header_place : ℕ → Place
header_place block = record { block = block + 1; call = 0 }

-- what stands at a key is a unit
abbrev pub is_unit : PlanVersion → List ℕ → Members → Bool
is_unit version key ms = is_some (unit_of_word version (text_or (codes "ns") key ms))

-- what stands beside the times of a table is units, in version 2
abbrev pub are_units : PlanVersion → Members → Bool
are_units One ms = true
are_units Two ms = list_all (λ key. is_unit Two (unit_key key) ms) time_keys

-- the units of a header are units
abbrev pub are_header_units : PlanVersion → Members → Bool
are_header_units One ms = is_unit One (codes "unit") ms
are_header_units Two ms = are_units Two ms

-- on the keys of a header, and on the units among them
unfoldable pub header_key_tests : PlanVersion → Members → List Test
header_key_tests version ms =
    (UnknownKey barring has_only (header_keys version) ms)
    ∷ (WrongType barring are_typed (header_keys version) ms)
    ∷ (BadUnit barring are_header_units version ms)
    ∷ []

-- on the number of iterations
unfoldable pub times_tests : Members → List Test
times_tests ms =
    let times = delay_units (times_at ms) in
    (BadTimes barring nat_le 1 times && nat_le times most_calls)
    ∷ (Missing barring nat_le times 1 || is_some (get_member (codes "every") ms))
    ∷ []

-- on its moments, in these units
abbrev pub moment_tests : ℕ → Units → Members → List Test
moment_tests end units ms =
    (Negative barring not (is_negative (codes "at") ms) && not (is_negative (codes "every") ms))
    ∷ (TooLarge barring nat_le (span_at units.at (codes "at") ms) longest && nat_le (span_at units.every (codes "every") ms) longest)
    ∷ (OutOfOrder barring nat_le end (span_at units.at (codes "at") ms))
    ∷ []

-- on the number of calls, where each is made so often
abbrev pub count_tests : ℕ → ℕ → ℕ → List Test
count_tests made times calls = (TooMany barring nat_le calls most_block_calls && nat_le (made + times * calls) most_calls) ∷ []

-- the checks on a header, where the last call before it is at the moment `end`, and `made` calls are made before it: on its keys, on the
-- number of iterations, on its moments, and on the number of its calls
unfoldable pub header_tests : PlanVersion → ℕ → ℕ → Members → List Test
header_tests version end made ms =
    header_key_tests version ms ++ times_tests ms ++ moment_tests end (header_units version ms) ms
    ++ count_tests made (delay_units (times_at ms)) (length (tables_at (codes "call") ms))

-- ---- a call

-- `call` others stand before this call in its block
abbrev pub call_place : ℕ → ℕ → Place
call_place block call = record { block = block + 1; call = call + 1 }

-- the word of the operation is one
abbrev pub is_verb : Members → Bool
is_verb ms = is_some (verb_of_word (text_or [] (codes "op") ms))

-- a cancel means a submission of its own block, or one of a block with one iteration
abbrev pub is_clear : ℕ → Option Site → Bool
is_clear block None = false
is_clear block (Some s) = (s.target.block == block) || not s.repeated

-- the spans of an operation are within the limit
abbrev pub are_spans_short : Verb → Units → Members → Bool
are_spans_short verbs.Schedule units ms = nat_le (span_at units.delay (codes "delay") ms) longest
are_spans_short verbs.Rate units ms = nat_le (span_at units.first (codes "first") ms) longest && nat_le (span_at units.period (codes "period") ms) longest
are_spans_short verbs.Fixed units ms = nat_le (span_at units.first (codes "first") ms) longest && nat_le (span_at units.delay (codes "delay") ms) longest
are_spans_short _ units ms = true

-- on the operation
unfoldable pub verb_tests : Members → List Test
verb_tests ms =
    (Missing barring is_some (get_member (codes "op") ms))
    ∷ (WrongType barring is_verb ms)
    ∷ []

-- on the other keys, and on the units among them
unfoldable pub key_tests : PlanVersion → Verb → Members → List Test
key_tests version verb ms =
    (UnknownKey barring has_only (call_keys version verb) ms)
    ∷ (Missing barring has_required (call_keys version verb) ms)
    ∷ (WrongType barring are_typed (call_keys version verb) ms)
    ∷ (BadUnit barring are_units version ms)
    ∷ []

-- on the name of a submission
abbrev pub new_name_tests : Option Site → Members → List Test
new_name_tests found ms =
    (BadName barring is_name (name_at ms))
    ∷ (DuplicateName barring is_none found)
    ∷ []

-- on the name of a cancel
abbrev pub known_name_tests : Option Site → ℕ → Members → List Test
known_name_tests found block ms =
    (BadName barring is_name (name_at ms))
    ∷ (UnknownName barring is_some found)
    ∷ (Ambiguous barring is_clear block found)
    ∷ []

-- on the name
unfoldable pub name_tests : Verb → Option Site → ℕ → Members → List Test
name_tests verbs.Schedule found block ms = new_name_tests found ms
name_tests verbs.Execute found block ms = new_name_tests found ms
name_tests verbs.Rate found block ms = new_name_tests found ms
name_tests verbs.Fixed found block ms = new_name_tests found ms
name_tests verbs.Cancel found block ms = known_name_tests found block ms
name_tests _ found block ms = []

-- on the times, in these units
unfoldable pub time_tests : Verb → Units → Header → ℕ → Members → List Test
time_tests verb units h last ms =
    (Negative barring not (is_negative (codes "at") ms))
    ∷ (TooLarge barring nat_le (span_at units.at (codes "at") ms) longest && are_spans_short verb units ms && nat_le (moment_in_last h (span_at units.at (codes "at") ms)) longest)
    ∷ (OutOfOrder barring nat_le last (span_at units.at (codes "at") ms) && (nat_le h.times 1 || nat_le (span_at units.at (codes "at") ms) h.every))
    ∷ []

-- the checks on a call of the block `block`, where `found` is the submission of its name that stands before it, and `last` the offset
-- of the call before it: on its operation, on its other keys, on its name, and on its times
abbrev pub call_tests : PlanVersion → Option Site → ℕ → Header → ℕ → Members → List Test
call_tests version found block h last ms =
    verb_tests ms ++ key_tests version (verb_at ms) ms ++ name_tests (verb_at ms) found block ms ++ time_tests (verb_at ms) (units_in version h.unit ms) h last ms

-- ---- the whole tree, block by block, and in each block its header and then its calls

-- the fault of a call's table that stands behind the calls `before`, in the block behind the blocks `earlier`
abbrev pub call_fault : PlanVersion → PlanTree → Header → List Call → Members → Option PlanFault
call_fault version earlier h before ms =
    place_fault (call_place (length earlier) (length before)) (call_tests version (found_at earlier h before ms) (length earlier) h (last_offset before) ms)

-- the first fault of some calls' tables, in the order of the text: the first table is checked as the call behind `before`; where it
-- passes it writes a call, and the tables behind it are checked with that call among those before them
abbrev pub calls_fault : PlanVersion → PlanTree → Header → List Call → List Members → Option PlanFault
calls_fault version earlier h before [] = None
calls_fault version earlier h before (ms ∷ tables) = call_fault version earlier h before ms or_else calls_fault version earlier h (before ++ next_call version earlier h before ms ∷ []) tables

-- the first fault of a block's table: that of its header, and where that has none, the first of its calls
abbrev pub block_fault : PlanVersion → PlanTree → Members → Option PlanFault
block_fault version earlier ms =
    place_fault (header_place (length earlier)) (header_tests version (end_of earlier) (made_by earlier) ms)
    or_else calls_fault version earlier (header_of version ms) [] (tables_at (codes "call") ms)

-- the first fault of some blocks' tables, in the order of the text: the first is checked as the block behind `earlier`; where it
-- passes it writes a block, and those behind it are checked with that block among those before them
abbrev pub blocks_fault : PlanVersion → PlanTree → List Members → Option PlanFault
blocks_fault version earlier [] = None
blocks_fault version earlier (ms ∷ tables) = block_fault version earlier ms or_else blocks_fault version (earlier ++ block_of version earlier ms ∷ []) tables

-- the fault of a tree: that of its top, and where that has none, the first of its blocks
abbrev pub tree_fault : Members → Option PlanFault
tree_fault ms = place_fault top (top_tests ms) or_else blocks_fault (version_at ms) [] (tables_at (codes "block") ms)

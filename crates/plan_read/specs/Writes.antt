-- Which plan a tree writes, and which fault it has where it writes none: for each place the checks on what stands at the keys of its
-- table and on what stands before it, in order. The lists are the rows of the table of checks on the first page of this crate. None
-- speaks of a default that a check refuses.
-- All of it is this project's rule.
use Rattle.std.specs.Prelude.{◌≡◌, ◌⊎◌, ◌≤◌, ℕ, ℤ, pos, ◌+◌, ◌*◌, true, false, List, [], ◌∷◌, ◌++◌, length, Option, None, Some, IsSome, codes}
use Rattle.std.specs.List.{AllByRecursion}
use Rattle.toml.specs.Data.{Data, string, integer, boolean, array, table, Items, no_items, item, Members, get_member}
use Rattle.sched_time.specs.Times.{longest, nanos_of, span_of, period_of}
use Rattle.sched_time.specs.declared.unit.Unit.{Unit as TimeUnit}
use Rattle.sched_time.specs.declared.unit.Unit.TheVariants.{Ns}
use Rattle.plan_read.specs.declared.faults.PlanFault.{PlanFault}
use Rattle.plan_read.specs.declared.faults.PlanFaultKind.TheVariants.{Version, UnknownKey, Missing, WrongType, BadUnit, BadTimes, Negative, BadName, DuplicateName, UnknownName, Ambiguous, OutOfOrder, TooLarge, TooMany}
use Rattle.plan_read.specs.declared.plans.Call.{Call}
use Rattle.plan_read.specs.declared.plans.Header.{Header}
use Rattle.plan_read.specs.declared.plans.Op.{Op}
use Rattle.plan_read.specs.declared.plans.Op.TheVariants as ops
use Rattle.plan_read.specs.declared.sites.Site.{Site}
use Rattle.plan_read.specs.declared.verbs.Verb.{Verb}
use Rattle.plan_read.specs.declared.verbs.Verb.TheVariants as verbs
use Rattle.plan_read.specs.declared.versions.Version.{Version as PlanVersion}
use Rattle.plan_read.specs.declared.versions.Version.TheVariants.{One, Two}
use Rattle.plan_read.specs.Checks.{Check, ◌unless◌, Passes, IsFaultOf}
use Rattle.plan_read.specs.Keys.{Key, number_of, time_keys, unit_key, top_keys, header_keys, call_keys, verb_of_word, unit_of_word, which_of_word, has_only, has_required, are_typed}
use Rattle.plan_read.specs.task_names.Names.{is_name}
use Rattle.plan_read.specs.Plans.{BlockTree, PlanTree, most_blocks, most_block_calls, most_calls, name_of, submissions_before, find, moment_in_last, last_offset, end_of, made_by}

-- ---- what stands at a key

-- a table has a value at a key
abbrev pub Has : Members → List ℕ → Data → Type 0
Has ms key d = get_member key ms ≡ Some d

-- each key of the table is one of these
abbrev pub HasOnly : List Key → Members → Type 0
HasOnly keys ms = has_only keys ms ≡ true

-- each of these keys that has to be there is there
abbrev pub HasRequired : List Key → Members → Type 0
HasRequired keys ms = has_required keys ms ≡ true

-- the value at each of these keys is of its shape
abbrev pub AreTyped : List Key → Members → Type 0
AreTyped keys ms = are_typed keys ms ≡ true

-- an integer, and the default where the key is left out
abbrev pub IntegerAt : ℤ → List ℕ → Members → ℤ → Type 0
IntegerAt default key ms z = Has ms key (integer z) ⊎ ((get_member key ms ≡ None) × (z ≡ default))

-- a text, and the default where the key is left out
abbrev pub TextAt : List ℕ → List ℕ → Members → List ℕ → Type 0
TextAt default key ms text = Has ms key (string text) ⊎ ((get_member key ms ≡ None) × (text ≡ default))

-- the items are tables with these members
abbrev pub HoldTables : Items → List Members → Type 0
HoldTables no_items [] = Unit {0}
HoldTables (item (table ms) ds) (t ∷ ts) = (ms ≡ t) × HoldTables ds ts
HoldTables _ _ = ⊥

-- an array of tables, none where the key is left out
abbrev pub TablesAt : List ℕ → Members → List Members → Type 0
TablesAt key ms tables = ((items : Items) × Has ms key (array items) × HoldTables items tables) ⊎ ((get_member key ms ≡ None) × (tables ≡ []))

-- an integer that is not negative, 0 where the key is left out
abbrev pub WholeAt : List ℕ → Members → ℕ → Type 0
WholeAt key ms n = IntegerAt (pos 0) key ms (pos n)

-- a unit, nanoseconds where the key is left out
abbrev pub UnitAt : PlanVersion → List ℕ → Members → TimeUnit → Type 0
UnitAt version key ms unit = (word : List ℕ) × TextAt (codes "ns") key ms word × (unit_of_word version word ≡ Some unit)

-- ---- times. In version 1 a block has one unit for all its times, in version 2 each time has its own

-- the unit of the time at a key, in a block of this unit: in version 2 what stands at the key of its unit
abbrev pub UnitOf : PlanVersion → TimeUnit → List ℕ → Members → TimeUnit → Type 0
UnitOf One block key ms unit = unit ≡ block
UnitOf Two block key ms unit = UnitAt Two (unit_key key) ms unit

-- in version 2 each time has a unit, also one that is left out
abbrev pub HaveUnits : PlanVersion → Members → Type 0
HaveUnits One ms = Unit {0}
HaveUnits Two ms = AllByRecursion (λ key. (unit : TimeUnit) × UnitAt Two (unit_key key) ms unit) time_keys

-- a moment, an offset or a distance: not negative, at most 2^62 nanoseconds, 0 where the key is left out
abbrev pub SpanAt : PlanVersion → TimeUnit → List ℕ → Members → ℕ → Type 0
SpanAt version block key ms n =
    (unit : TimeUnit) × UnitOf version block key ms unit × (units : ℕ) × WholeAt key ms units × (n ≡ units * nanos_of unit) × (n ≤ longest)

-- a delay, at most 2^62 nanoseconds: a negative one counts as 0
abbrev pub DelayAt : PlanVersion → TimeUnit → List ℕ → Members → ℕ → Type 0
DelayAt version block key ms n =
    (unit : TimeUnit) × UnitOf version block key ms unit × (z : ℤ) × Has ms key (integer z) × (n ≡ span_of z unit) × (n ≤ longest)

-- a period or a fixed delay, at most 2^62 nanoseconds: one that is zero or negative is none
abbrev pub PeriodAt : PlanVersion → TimeUnit → List ℕ → Members → Option ℕ → Type 0
PeriodAt version block key ms period =
    (unit : TimeUnit) × UnitOf version block key ms unit × (z : ℤ) × Has ms key (integer z) × (period ≡ period_of z unit) × (span_of z unit ≤ longest)

-- ---- the top

-- what the top of a plan writes: its version, and the tables of its blocks
pub record Top : Type 0 where
  pub version : PlanVersion
  pub tables : List Members

-- the version of a plan, by its number
abbrev pub VersionAt : Members → PlanVersion → Type 0
VersionAt ms version = Has ms (codes "version") (integer (pos (number_of version)))

-- what is checked at the top
unfoldable pub top_checks : Members → List (Check Top)
top_checks ms =
    (Version unless λ t. VersionAt ms t.version)
    ∷ (UnknownKey unless λ t. HasOnly top_keys ms)
    ∷ (WrongType unless λ t. AreTyped top_keys ms × TablesAt (codes "block") ms t.tables)
    ∷ (TooMany unless λ t. length t.tables ≤ most_blocks)
    ∷ []

-- ---- the header of a block

-- what the table of a block writes: its header, and the tables of its calls
pub record Head : Type 0 where
  pub header : Header
  pub tables : List Members

-- a number of iterations, 1 where the key is left out
abbrev pub TimesAt : Members → ℕ → Type 0
TimesAt ms n = IntegerAt (pos 1) (codes "times") ms (pos n) × (1 ≤ n) × (n ≤ most_calls)

-- the unit of a block: in version 1 that of all its times, and in version 2 nanoseconds, where each time of the header has its own
abbrev pub BlockUnitAt : PlanVersion → Members → TimeUnit → Type 0
BlockUnitAt One ms unit = UnitAt One (codes "unit") ms unit
BlockUnitAt Two ms unit = (unit ≡ Ns) × HaveUnits Two ms

-- what is checked at a header, where the last call before the block is at the moment `end` and `made` calls are made before it
unfoldable pub header_checks : PlanVersion → ℕ → ℕ → Members → List (Check Head)
header_checks version end made ms =
    (UnknownKey unless λ b. HasOnly (header_keys version) ms)
    ∷ (WrongType unless λ b. AreTyped (header_keys version) ms × TablesAt (codes "call") ms b.tables)
    ∷ (BadUnit unless λ b. BlockUnitAt version ms b.header.unit)
    ∷ (BadTimes unless λ b. TimesAt ms b.header.times)
    ∷ (Missing unless λ b. (b.header.times ≤ 1) ⊎ IsSome (get_member (codes "every") ms))
    ∷ (Negative unless λ b. ((n : ℕ) × WholeAt (codes "at") ms n) × ((n : ℕ) × WholeAt (codes "every") ms n))
    ∷ (TooLarge unless λ b. SpanAt version b.header.unit (codes "at") ms b.header.at × SpanAt version b.header.unit (codes "every") ms b.header.every)
    ∷ (OutOfOrder unless λ b. end ≤ b.header.at)
    ∷ (TooMany unless λ b. (length b.tables ≤ most_block_calls) × (made + b.header.times * length b.tables ≤ most_calls))
    ∷ []

-- ---- a call

-- the word of an operation
abbrev pub verb_of : Op → Verb
verb_of (ops.Schedule name delay) = verbs.Schedule
verb_of (ops.Execute name) = verbs.Execute
verb_of (ops.Rate name first period) = verbs.Rate
verb_of (ops.Fixed name first delay) = verbs.Fixed
verb_of (ops.Cancel target) = verbs.Cancel
verb_of (ops.Policy which value) = verbs.Policy
verb_of ops.Shutdown = verbs.Shutdown
verb_of ops.ShutdownNow = verbs.ShutdownNow
verb_of ops.Ask = verbs.Ask

-- the table names the operation
abbrev pub NamesVerb : Members → Verb → Type 0
NamesVerb ms verb = (word : List ℕ) × Has ms (codes "op") (string word) × (verb_of_word word ≡ Some verb)

-- the policy that is set, and its value
abbrev pub HasPolicy : Members → Op → Type 0
HasPolicy ms (ops.Policy which value) =
    ((word : List ℕ) × Has ms (codes "which") (string word) × (which_of_word word ≡ Some which)) × Has ms (codes "value") (boolean value)
HasPolicy ms op = Unit {0}

-- a name
abbrev pub NameAt : Members → List ℕ → Type 0
NameAt ms name = Has ms (codes "name") (string name) × (is_name name ≡ true)

-- that of the submission, or that of the submission which a cancel means
abbrev pub HasName : Members → Op → Type 0
HasName ms (ops.Schedule name delay) = NameAt ms name
HasName ms (ops.Execute name) = NameAt ms name
HasName ms (ops.Rate name first period) = NameAt ms name
HasName ms (ops.Fixed name first delay) = NameAt ms name
HasName ms (ops.Cancel target) = (name : List ℕ) × NameAt ms name
HasName ms op = Unit {0}

-- no submission among those before has the name of this one
abbrev pub IsNew : List (List ℕ × Site) → Op → Type 0
IsNew subs op = (name : List ℕ) → name_of op ≡ Some name → find name subs ≡ None

-- the submission of the name that stands before
abbrev pub Finds : List (List ℕ × Site) → Members → Site → Type 0
Finds subs ms s = (name : List ℕ) × NameAt ms name × (find name subs ≡ Some s)

-- a cancel means the submission of its name
abbrev pub HasTarget : List (List ℕ × Site) → Members → Op → Type 0
HasTarget subs ms (ops.Cancel target) = (s : Site) × Finds subs ms s × (target ≡ s.target)
HasTarget subs ms op = Unit {0}

-- that submission is of the same block, or of one that is not repeated
abbrev pub IsClear : ℕ → List (List ℕ × Site) → Members → Op → Type 0
IsClear block subs ms (ops.Cancel target) = (s : Site) × Finds subs ms s × ((s.target.block ≡ block) ⊎ (s.repeated ≡ false))
IsClear block subs ms op = Unit {0}

-- the spans of an operation, in a block of this unit
abbrev pub HasSpans : PlanVersion → TimeUnit → Members → Op → Type 0
HasSpans version block ms (ops.Schedule name delay) = DelayAt version block (codes "delay") ms delay
HasSpans version block ms (ops.Rate name first period) = DelayAt version block (codes "first") ms first × PeriodAt version block (codes "period") ms period
HasSpans version block ms (ops.Fixed name first delay) = DelayAt version block (codes "first") ms first × PeriodAt version block (codes "delay") ms delay
HasSpans version block ms op = Unit {0}

-- what is checked at a call of a block with this header, behind the blocks `earlier` and the calls `before` of its block
unfoldable pub call_checks : PlanVersion → PlanTree → Header → List Call → Members → List (Check Call)
call_checks version earlier h before ms =
    let subs = submissions_before earlier h before in
    (Missing unless λ c. IsSome (get_member (codes "op") ms))
    ∷ (WrongType unless λ c. NamesVerb ms (verb_of c.op))
    ∷ (UnknownKey unless λ c. HasOnly (call_keys version (verb_of c.op)) ms)
    ∷ (Missing unless λ c. HasRequired (call_keys version (verb_of c.op)) ms)
    ∷ (WrongType unless λ c. AreTyped (call_keys version (verb_of c.op)) ms × HasPolicy ms c.op)
    ∷ (BadUnit unless λ c. HaveUnits version ms)
    ∷ (BadName unless λ c. HasName ms c.op)
    ∷ (DuplicateName unless λ c. IsNew subs c.op)
    ∷ (UnknownName unless λ c. HasTarget subs ms c.op)
    ∷ (Ambiguous unless λ c. IsClear (length earlier) subs ms c.op)
    ∷ (Negative unless λ c. (n : ℕ) × WholeAt (codes "at") ms n)
    ∷ (TooLarge unless λ c. SpanAt version h.unit (codes "at") ms c.at × HasSpans version h.unit ms c.op × (moment_in_last h c.at ≤ longest))
    ∷ (OutOfOrder unless λ c. (last_offset before ≤ c.at) × ((h.times ≤ 1) ⊎ (c.at ≤ h.every)))
    ∷ []

-- ---- what a tree writes

-- a call, behind those before it
abbrev pub WritesCall : PlanVersion → PlanTree → Header → List Call → Members → Call → Type 0
WritesCall version earlier h before ms c = Passes (call_checks version earlier h before ms) c

-- the calls of a block behind those before them, a table each
abbrev pub WritesCalls : PlanVersion → PlanTree → Header → List Call → List Members → List Call → Type 0
WritesCalls version earlier h before [] [] = Unit {0}
WritesCalls version earlier h before (ms ∷ tables) (c ∷ cs) = WritesCall version earlier h before ms c × WritesCalls version earlier h (before ++ c ∷ []) tables cs
WritesCalls version earlier h before _ _ = ⊥

-- the header of a block and the tables of its calls, behind the blocks before it
abbrev pub WritesHead : PlanVersion → PlanTree → Members → Head → Type 0
WritesHead version earlier ms head = Passes (header_checks version (end_of earlier) (made_by earlier) ms) head

-- a block: its header, and its calls
pub record WritesBlock (version : PlanVersion) (earlier : PlanTree) (ms : Members) (b : BlockTree) : Type 0 where
  pub tables : List Members
  pub head : WritesHead version earlier ms (record { header = b.header; tables = tables })
  pub calls : WritesCalls version earlier b.header [] tables b.calls

-- the blocks behind those before them, a table each
abbrev pub WritesBlocks : PlanVersion → PlanTree → List Members → PlanTree → Type 0
WritesBlocks version earlier [] [] = Unit {0}
WritesBlocks version earlier (ms ∷ tables) (b ∷ bs) = WritesBlock version earlier ms b × WritesBlocks version (earlier ++ b ∷ []) tables bs
WritesBlocks version earlier _ _ = ⊥

-- a plan, in a version
pub record TreeWritesIn (version : PlanVersion) (ms : Members) (plan : PlanTree) : Type 0 where
  pub tables : List Members
  pub top : Passes (top_checks ms) (record { version = version; tables = tables })
  pub blocks : WritesBlocks version [] tables plan

-- a plan
abbrev pub TreeWrites : Members → PlanTree → Type 0
TreeWrites ms plan = (version : PlanVersion) × TreeWritesIn version ms plan

-- some tree writes the plan
abbrev pub IsPlan : PlanTree → Type 0
IsPlan plan = (ms : Members) × TreeWrites ms plan

-- ---- the fault of a tree: that of the first place that writes nothing. What stands before it writes a part of a plan

-- the fault of the calls of a block, behind those before them
abbrev pub CallsFail : PlanVersion → PlanTree → Header → List Call → List Members → PlanFault → Type 0
CallsFail version earlier h before [] fault = ⊥
CallsFail version earlier h before (ms ∷ tables) fault =
    IsFaultOf (call_checks version earlier h before ms) (length earlier + 1) (length before + 1) fault
    ⊎ ((c : Call) × WritesCall version earlier h before ms c × CallsFail version earlier h (before ++ c ∷ []) tables fault)

-- the fault of a block: that of its header, or that of its calls
abbrev pub BlockFails : PlanVersion → PlanTree → Members → PlanFault → Type 0
BlockFails version earlier ms fault =
    IsFaultOf (header_checks version (end_of earlier) (made_by earlier) ms) (length earlier + 1) 0 fault
    ⊎ ((head : Head) × WritesHead version earlier ms head × CallsFail version earlier head.header [] head.tables fault)

-- the fault of the blocks behind those before them
abbrev pub BlocksFail : PlanVersion → PlanTree → List Members → PlanFault → Type 0
BlocksFail version earlier [] fault = ⊥
BlocksFail version earlier (ms ∷ tables) fault =
    BlockFails version earlier ms fault
    ⊎ ((b : BlockTree) × WritesBlock version earlier ms b × BlocksFail version (earlier ++ b ∷ []) tables fault)

-- the fault of a tree: that of its top, or that of its blocks
abbrev pub TreeFails : Members → PlanFault → Type 0
TreeFails ms fault =
    IsFaultOf (top_checks ms) 0 0 fault
    ⊎ ((t : Top) × Passes (top_checks ms) t × BlocksFail t.version [] t.tables fault)

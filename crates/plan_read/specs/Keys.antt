-- The versions of a plan, its words, the keys of its tables with what the value of each has to be, and tests of a table against them.
-- All of it is this project's rule.
use Rattle.std.specs.Prelude.{ℕ, if◌then◌else◌, Bool, true, false, ◌&&◌, ◌||◌, not, List, [], ◌∷◌, ◌++◌, Option, Some, None, is_some, option_and_then, codes, bytes_eq}
use Rattle.std.specs.List.{list_any, list_all}
use Rattle.toml.specs.Data.{Data, array, Items, no_items, item, Members, no_members, member, get_member, as_integer, as_bool, as_str, as_table}
use Rattle.sched_time.specs.declared.policies.Which.{Which}
use Rattle.sched_time.specs.declared.policies.Which.TheVariants.{Continue, Execute, Remove}
use Rattle.sched_time.specs.declared.unit.Unit.{Unit as TimeUnit}
use Rattle.sched_time.specs.declared.unit.Unit.TheVariants.{Ns, Us, Ms, S, Min, Hour, Day}
use Rattle.plan_read.specs.declared.keys.Shape.{Shape}
use Rattle.plan_read.specs.declared.keys.Shape.TheVariants.{Text, Integer, Truth, Policy, Tables}
use Rattle.plan_read.specs.declared.verbs.Verb.{Verb}
use Rattle.plan_read.specs.declared.verbs.Verb.TheVariants as verbs
use Rattle.plan_read.specs.declared.versions.Version.{Version}
use Rattle.plan_read.specs.declared.versions.Version.TheVariants.{One, Two}

-- ---- versions and words

-- the number of a version
abbrev pub number_of : Version → ℕ
number_of One = 1
number_of Two = 2

-- the operation that a word names
abbrev pub verb_of_word : List ℕ → Option Verb
verb_of_word word =
    if bytes_eq word (codes "schedule") then Some verbs.Schedule else
    (if bytes_eq word (codes "execute") then Some verbs.Execute else
    (if bytes_eq word (codes "rate") then Some verbs.Rate else
    (if bytes_eq word (codes "fixed") then Some verbs.Fixed else
    (if bytes_eq word (codes "cancel") then Some verbs.Cancel else
    (if bytes_eq word (codes "policy") then Some verbs.Policy else
    (if bytes_eq word (codes "shutdown") then Some verbs.Shutdown else
    (if bytes_eq word (codes "shutdown_now") then Some verbs.ShutdownNow else
    (if bytes_eq word (codes "ask") then Some verbs.Ask else None))))))))

-- the unit that a word names in version 2 alone
abbrev pub longer_unit_of_word : Version → List ℕ → Option TimeUnit
longer_unit_of_word One word = None
longer_unit_of_word Two word =
    if bytes_eq word (codes "min") then Some Min else
    (if bytes_eq word (codes "h") then Some Hour else
    (if bytes_eq word (codes "d") then Some Day else None))

-- the unit that a word names
abbrev pub unit_of_word : Version → List ℕ → Option TimeUnit
unit_of_word version word =
    if bytes_eq word (codes "ns") then Some Ns else
    (if bytes_eq word (codes "us") then Some Us else
    (if bytes_eq word (codes "ms") then Some Ms else
    (if bytes_eq word (codes "s") then Some S else longer_unit_of_word version word)))

-- the policy that a word names
abbrev pub which_of_word : List ℕ → Option Which
which_of_word word =
    if bytes_eq word (codes "continue") then Some Continue else
    (if bytes_eq word (codes "execute") then Some Execute else
    (if bytes_eq word (codes "remove") then Some Remove else None))

-- ---- keys

-- a key of a table: its name, what its value is, and whether it has to be there
pub record Key : Type 0 where
  pub name : List ℕ
  pub shape : Shape
  pub required : Bool

-- a key that may be left out
abbrev pub optional : List ℕ → Shape → Key
optional name shape = record { name = name; shape = shape; required = false }

-- a key that has to be there
abbrev pub required : List ℕ → Shape → Key
required name shape = record { name = name; shape = shape; required = true }

-- ---- times and their units

-- the keys of times
abbrev pub time_keys : List (List ℕ)
time_keys = codes "at" ∷ codes "every" ∷ codes "delay" ∷ codes "first" ∷ codes "period" ∷ []

-- a key is that of a time
abbrev pub is_time_key : List ℕ → Bool
is_time_key key = list_any (λ time. bytes_eq key time) time_keys

-- the key of a time's unit: that of the time with `_unit` behind it
abbrev pub unit_key : List ℕ → List ℕ
unit_key key = key ++ codes "_unit"

-- some keys, with that of its unit behind each one of a time
abbrev pub with_unit_keys : List Key → List Key
with_unit_keys [] = []
with_unit_keys (k ∷ keys) = if is_time_key k.name then k ∷ optional (unit_key k.name) Text ∷ with_unit_keys keys else k ∷ with_unit_keys keys

-- ---- the keys of each table

-- those of the top
abbrev pub top_keys : List Key
top_keys = required (codes "version") Integer ∷ optional (codes "block") Tables ∷ []

-- those of a block: in version 1 one of them is the unit of all its times, and in version 2 each time has its own
abbrev pub header_keys : Version → List Key
header_keys One =
    optional (codes "at") Integer ∷ optional (codes "unit") Text ∷ optional (codes "times") Integer
    ∷ optional (codes "every") Integer ∷ optional (codes "call") Tables ∷ []
header_keys Two =
    with_unit_keys (
    optional (codes "at") Integer ∷ optional (codes "times") Integer
    ∷ optional (codes "every") Integer ∷ optional (codes "call") Tables ∷ [])

-- those that an operation adds to a call's
abbrev pub own_keys : Verb → List Key
own_keys verbs.Schedule = required (codes "name") Text ∷ required (codes "delay") Integer ∷ []
own_keys verbs.Execute = required (codes "name") Text ∷ []
own_keys verbs.Rate = required (codes "name") Text ∷ required (codes "first") Integer ∷ required (codes "period") Integer ∷ []
own_keys verbs.Fixed = required (codes "name") Text ∷ required (codes "first") Integer ∷ required (codes "delay") Integer ∷ []
own_keys verbs.Cancel = required (codes "name") Text ∷ []
own_keys verbs.Policy = required (codes "which") Policy ∷ required (codes "value") Truth ∷ []
own_keys _ = []

-- those of a call, by its operation: in version 2 each time has its own unit
abbrev pub call_keys : Version → Verb → List Key
call_keys One verb = required (codes "op") Text ∷ optional (codes "at") Integer ∷ own_keys verb
call_keys Two verb = with_unit_keys (required (codes "op") Text ∷ optional (codes "at") Integer ∷ own_keys verb)

-- ---- tests of a table against its keys

-- each item is a table
abbrev pub are_tables : Items → Bool
are_tables no_items = true
are_tables (item d ds) = is_some (as_table d) && are_tables ds

-- a value is of a shape
abbrev pub has_shape : Shape → Data → Bool
has_shape Text d = is_some (as_str d)
has_shape Integer d = is_some (as_integer d)
has_shape Truth d = is_some (as_bool d)
has_shape Policy d = is_some (option_and_then which_of_word (as_str d))
has_shape Tables (array items) = are_tables items
has_shape Tables d = false

-- there is no value, or one of this shape
abbrev pub fits : Shape → Option Data → Bool
fits shape None = true
fits shape (Some d) = has_shape shape d

-- one of these keys has the name
abbrev pub is_key : List Key → List ℕ → Bool
is_key keys name = list_any (λ k. bytes_eq name k.name) keys

-- each key of the table is one of these
abbrev pub has_only : List Key → Members → Bool
has_only keys no_members = true
has_only keys (member name d ms) = is_key keys name && has_only keys ms

-- each of these keys that has to be there is there
abbrev pub has_required : List Key → Members → Bool
has_required keys ms = list_all (λ k. not k.required || is_some (get_member k.name ms)) keys

-- the value at each of these keys is of its shape
abbrev pub are_typed : List Key → Members → Bool
are_typed keys ms = list_all (λ k. fits k.shape (get_member k.name ms)) keys

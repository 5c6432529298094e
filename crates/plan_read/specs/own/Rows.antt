-- How a table of a plan is gone over once: the words of its keys, and the slots of what stands at them.
-- No promise to a caller names these; they say what the functions of `key_names`, `rows` and `keys` answer.
-- All of it is this project's rule.
use Rattle.std.specs.Prelude.{◌≡◌, ℕ, Bool, true, false, not, ◌&&◌, List, [], ◌∷◌, map, get_or, if◌then◌else◌, Option, Some, None, option_map, String, codes, bytes_eq}
use Rattle.std.specs.List.{list_any}
use Rattle.std.specs.Borrow.{Bor}
use Rattle.std.specs.BTreeMap.{BTreeMap, get_by_text}
use Rattle.std.specs.declared.alloc.Global.{Global}
use Rattle.toml.specs.declared.value.Value.{Value}
use Rattle.plan_read.specs.declared.key_names.KeyName.{KeyName}
use Rattle.plan_read.specs.declared.key_names.KeyName.TheVariants as names
use Rattle.plan_read.specs.declared.keys.Home.{Home}
use Rattle.plan_read.specs.declared.keys.Home.TheVariants as homes
use Rattle.plan_read.specs.declared.keys.Key.{Key as CodeKey}
use Rattle.plan_read.specs.declared.keys.Role.{Role}
use Rattle.plan_read.specs.declared.keys.Role.TheVariants as roles
use Rattle.plan_read.specs.declared.keys.Versions.{Versions}
use Rattle.plan_read.specs.declared.keys.Versions.TheVariants as versions
use Rattle.plan_read.specs.declared.verbs.Verb.{Verb}
use Rattle.plan_read.specs.declared.verbs.Verb.TheVariants as verbs
use Rattle.plan_read.specs.declared.versions.Version.{Version}
use Rattle.plan_read.specs.declared.versions.Version.TheVariants.{One, Two}
use Rattle.plan_read.specs.Keys.{Key, is_key, top_keys, header_keys, call_keys}

-- the word of a name
abbrev pub word_of : KeyName → List ℕ
word_of names.Op = codes "op"
word_of names.At = codes "at"
word_of names.Name = codes "name"
word_of names.Delay = codes "delay"
word_of names.First = codes "first"
word_of names.Period = codes "period"
word_of names.Which = codes "which"
word_of names.Value = codes "value"
word_of names.Version = codes "version"
word_of names.Block = codes "block"
word_of names.Unit = codes "unit"
word_of names.Times = codes "times"
word_of names.Every = codes "every"
word_of names.Call = codes "call"
word_of names.AtUnit = codes "at_unit"
word_of names.EveryUnit = codes "every_unit"
word_of names.DelayUnit = codes "delay_unit"
word_of names.FirstUnit = codes "first_unit"
word_of names.PeriodUnit = codes "period_unit"

-- the name that a word is
abbrev pub key_of_word : List ℕ → Option KeyName
key_of_word word =
    if bytes_eq word (codes "op") then Some names.Op else
    (if bytes_eq word (codes "at") then Some names.At else
    (if bytes_eq word (codes "name") then Some names.Name else
    (if bytes_eq word (codes "delay") then Some names.Delay else
    (if bytes_eq word (codes "first") then Some names.First else
    (if bytes_eq word (codes "period") then Some names.Period else
    (if bytes_eq word (codes "which") then Some names.Which else
    (if bytes_eq word (codes "value") then Some names.Value else
    (if bytes_eq word (codes "version") then Some names.Version else
    (if bytes_eq word (codes "block") then Some names.Block else
    (if bytes_eq word (codes "unit") then Some names.Unit else
    (if bytes_eq word (codes "times") then Some names.Times else
    (if bytes_eq word (codes "every") then Some names.Every else
    (if bytes_eq word (codes "call") then Some names.Call else
    (if bytes_eq word (codes "at_unit") then Some names.AtUnit else
    (if bytes_eq word (codes "every_unit") then Some names.EveryUnit else
    (if bytes_eq word (codes "delay_unit") then Some names.DelayUnit else
    (if bytes_eq word (codes "first_unit") then Some names.FirstUnit else
    (if bytes_eq word (codes "period_unit") then Some names.PeriodUnit else None))))))))))))))))))

-- the place of a name among the slots
abbrev pub place : KeyName → ℕ
place names.Version = 0
place names.Block = 1
place names.Op = 2
place names.At = 3
place names.AtUnit = 4
place names.Unit = 5
place names.Times = 6
place names.Every = 7
place names.EveryUnit = 8
place names.Call = 9
place names.Name = 10
place names.First = 11
place names.FirstUnit = 12
place names.Delay = 13
place names.DelayUnit = 14
place names.Period = 15
place names.PeriodUnit = 16
place names.Which = 17
place names.Value = 18

-- what stands at a name
abbrev pub slot : KeyName → List (Option (Bor Value)) → Option (Bor Value)
slot name slots = get_or slots (place name) None

-- slots have what stands at the keys of a table
abbrev pub Holds : List (Option (Bor Value)) → BTreeMap (String Global) Value → Type 0
Holds slots table = (name : KeyName) → option_map (λ v. v.now) (slot name slots) ≡ get_by_text table (word_of name)

-- ---- the table of keys

-- two operations are one
abbrev pub is_verb : Verb → Verb → Bool
is_verb verbs.Schedule verbs.Schedule = true
is_verb verbs.Execute verbs.Execute = true
is_verb verbs.Rate verbs.Rate = true
is_verb verbs.Fixed verbs.Fixed = true
is_verb verbs.Cancel verbs.Cancel = true
is_verb verbs.Policy verbs.Policy = true
is_verb verbs.Shutdown verbs.Shutdown = true
is_verb verbs.ShutdownNow verbs.ShutdownNow = true
is_verb verbs.Ask verbs.Ask = true
is_verb v w = false

-- a table of this role is among these
abbrev pub is_home : Home → Role → Bool
is_home homes.Top roles.Top = true
is_home homes.Header roles.Header = true
is_home homes.HeaderAndCalls roles.Header = true
is_home homes.HeaderAndCalls (roles.Call verb) = true
is_home homes.Calls (roles.Call verb) = true
is_home (homes.CallsOf those) (roles.Call verb) = list_any (λ v. is_verb v verb) those.now
is_home home role = false

-- a version is one of these
abbrev pub is_version : Versions → Version → Bool
is_version versions.Each version = true
is_version versions.OneAlone One = true
is_version versions.TwoAlone Two = true
is_version versions version = false

-- a key stands in a table of this role
abbrev pub stands_in : Version → Role → CodeKey → Bool
stands_in version role k = is_version k.versions version && is_home k.home role

-- those of some keys that stand in a table of this role
abbrev pub standing : Version → Role → List CodeKey → List CodeKey
standing version role [] = []
standing version role (k ∷ keys) = if stands_in version role k then k ∷ standing version role keys else standing version role keys

-- the keys of a table of this role, as the definitions have them
abbrev pub keys_in : Version → Role → List Key
keys_in version roles.Top = top_keys
keys_in version roles.Header = header_keys version
keys_in version (roles.Call verb) = call_keys version verb

-- a key as the definitions have it, with a word in place of a name
abbrev pub key_as_defined : CodeKey → Key
key_as_defined k = record { name = word_of k.name; shape = k.shape; required = k.required }

-- a list of keys as the definitions have it
abbrev pub as_defined : List CodeKey → List Key
as_defined keys = map key_as_defined keys

-- of these keys those that stand in a table are its keys, for each version and role
unfoldable pub AreAllKeys : List CodeKey → Type 0
AreAllKeys keys = (version : Version) (role : Role) → as_defined (standing version role keys) ≡ keys_in version role

-- no two of these keys have one name
abbrev pub are_apart : List Key → Bool
are_apart [] = true
are_apart (k ∷ keys) = not (is_key keys k.name) && are_apart keys

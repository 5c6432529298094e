-- Which key is told of a fault of each kind: whether it belongs in the table of the fault's place, and whether it stands there.
use Rattle.std.specs.Prelude.{◌≡◌, ℕ, if◌then◌else◌, Bool, true, false, ◌&&◌, ◌||◌, not, List, nat_eq, Some, is_some, option_and_then, unwrap_or, IfSome, codes, string_bytes}
use Rattle.toml.specs.Data.{Members, get_member, as_str}
use Rattle.plan_read.specs.declared.faults.PlanFaultKind.{PlanFaultKind}
use Rattle.plan_read.specs.declared.faults.PlanFaultKind.TheVariants.{Version, UnknownKey, Missing, WrongType, BadUnit, BadTimes, Negative, BadName, DuplicateName, UnknownName, Ambiguous, OutOfOrder, TooLarge, TooMany}
use Rattle.plan_read.specs.declared.verbs.Verb.{Verb}
use Rattle.plan_read.specs.declared.verbs.Verb.TheVariants.{Ask}
use Rattle.plan_read.specs.declared.versions.Version.{Version as PlanVersion}
use Rattle.plan_read.specs.declared.versions.Version.TheVariants.{One, Two}
use Rattle.plan_read.specs.Keys.{Key, call_keys, header_keys, is_key, top_keys, verb_of_word}
use Rattle.plan_read.specs.Writes.{VersionAt}
use Rattle.plan_reasons.specs.declared.reason.Reason.{Reason}
use Rattle.plan_reasons.specs.Standing.{place_table}

-- a fault of this kind may be at a key, by whether that belongs in the table and whether it stands there
abbrev pub may_be_at : PlanFaultKind → Bool → Bool → Bool
may_be_at Version belongs stands = belongs
may_be_at UnknownKey belongs stands = not belongs && stands
may_be_at Missing belongs stands = belongs && not stands
may_be_at WrongType belongs stands = belongs && stands
may_be_at BadTimes belongs stands = belongs && stands
may_be_at BadUnit belongs stands = stands
may_be_at Negative belongs stands = stands
may_be_at BadName belongs stands = stands
may_be_at DuplicateName belongs stands = stands
may_be_at UnknownName belongs stands = stands
may_be_at Ambiguous belongs stands = stands
may_be_at OutOfOrder belongs stands = belongs
may_be_at TooMany belongs stands = belongs
may_be_at TooLarge belongs stands = belongs || stands
may_be_at _ belongs stands = false

-- a fault of this kind may be at a key of a table in which these keys belong
abbrev pub FitsKey : PlanFaultKind → List Key → Members → List ℕ → Type 0
FitsKey kind keys ms key = may_be_at kind (is_key keys key) (is_some (get_member key ms)) ≡ true

-- the operation of a call, and that of `ask` where it has none
abbrev pub operation_of : Members → Verb
operation_of call = unwrap_or (option_and_then verb_of_word (option_and_then as_str (get_member (codes "op") call))) Ask

-- the keys that belong in the table of a place, in a plan of this version
abbrev pub place_keys : PlanVersion → Members → ℕ → ℕ → List Key
place_keys version ms block call =
    if nat_eq block 0 then top_keys else
    (if nat_eq call 0 then header_keys version else call_keys version (operation_of ms))

-- the keys of a tree are those of this version: of version 1 where that is its own, and else of version 2
abbrev pub HasKeysOf : PlanVersion → Members → Type 0
HasKeysOf One tree = VersionAt tree One
HasKeysOf Two tree = VersionAt tree One → ⊥

-- a key that is told is one at which a fault of this kind may be
abbrev pub IsAtKeyOfKind : Members → Reason → Type 0
IsAtKeyOfKind tree reason =
    IfSome reason.key (λ key.
    (ms : Members) × (version : PlanVersion) × (place_table tree reason.fault.block reason.fault.call ≡ Some ms) × HasKeysOf version tree
    × FitsKey reason.fault.kind (place_keys version ms reason.fault.block reason.fault.call) ms (string_bytes key))

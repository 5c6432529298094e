-- The top of a plan, the table of a block and that of a call are plain where they pass the tests of their keys, and what stands in
-- their arrays is plain.
use Rattle.std.proofs.Common.{◌≡◌, ℕ, true, List, refl}
use Rattle.std.specs.Prelude.{codes, option_and_then, unwrap_or}
use Rattle.std.specs.List.Sorted.{IsStrictlySortedBy}
use Rattle.std.specs.Map.{keys_of}
use Rattle.std.specs.String.{string_cmp}
use Rattle.toml.specs.Data.{Members, no_items, get_member, as_array}
use Rattle.toml.specs.View.{members_view}
use Rattle.plan_read.specs.declared.verbs.Verb.{Verb}
use Rattle.plan_read.specs.declared.verbs.Verb.TheVariants as verbs
use Rattle.plan_read.specs.declared.versions.Version.{Version}
use Rattle.plan_read.specs.declared.versions.Version.TheVariants.{One, Two}
use Rattle.plan_read.specs.Keys.{has_only, are_typed, top_keys, header_keys, call_keys}
use Rattle.plan_read.specs.own.Plain.{items_are_plain, members_are_plain, has_no_tables, items_at, have_plain_items}
use Rattle.plan_read.proofs.PlainTables.{Entry, plain_ends, plain_with_items}

-- no key of a call has an array of tables
pub call_has_no_tables : (version : Version) (verb : Verb) → has_no_tables (call_keys version verb) ≡ true
call_has_no_tables One verbs.Schedule = refl
call_has_no_tables One verbs.Execute = refl
call_has_no_tables One verbs.Rate = refl
call_has_no_tables One verbs.Fixed = refl
call_has_no_tables One verbs.Cancel = refl
call_has_no_tables One verbs.Policy = refl
call_has_no_tables One verbs.Shutdown = refl
call_has_no_tables One verbs.ShutdownNow = refl
call_has_no_tables One verbs.Ask = refl
call_has_no_tables Two verbs.Schedule = refl
call_has_no_tables Two verbs.Execute = refl
call_has_no_tables Two verbs.Rate = refl
call_has_no_tables Two verbs.Fixed = refl
call_has_no_tables Two verbs.Cancel = refl
call_has_no_tables Two verbs.Policy = refl
call_has_no_tables Two verbs.Shutdown = refl
call_has_no_tables Two verbs.ShutdownNow = refl
call_has_no_tables Two verbs.Ask = refl

-- the one key of a block that has an array of tables is `call`
header_items : (version : Version) (n : ℕ) (ms : Members) → items_are_plain n (items_at (codes "call") ms) ≡ true → have_plain_items n (header_keys version) ms ≡ true
header_items One n ms h = rw h
header_items Two n ms h = rw h

-- the one key of the top that has an array of tables is `block`
top_items : (n : ℕ) (ms : Members) → items_are_plain n (items_at (codes "block") ms) ≡ true → have_plain_items n top_keys ms ≡ true
top_items n ms h = rw h

-- the table of a call is plain
pub call_plain : (version : Version) (verb : Verb) (es : List Entry) → IsStrictlySortedBy string_cmp (keys_of es)
    → has_only (call_keys version verb) (members_view es) ≡ true → are_typed (call_keys version verb) (members_view es) ≡ true
    → members_are_plain 0 (members_view es) ≡ true
call_plain version verb es sorted only typed = plain_ends 0 (call_keys version verb) es (call_has_no_tables version verb) sorted only typed

-- the table of a block is plain where its calls are
pub header_plain : (version : Version) (es : List Entry) → IsStrictlySortedBy string_cmp (keys_of es)
    → has_only (header_keys version) (members_view es) ≡ true → are_typed (header_keys version) (members_view es) ≡ true
    → items_are_plain 1 (unwrap_or (option_and_then as_array (get_member (codes "call") (members_view es))) no_items) ≡ true
    → members_are_plain 2 (members_view es) ≡ true
header_plain version es sorted only typed items = plain_with_items 1 (header_keys version) es sorted only typed (header_items version 1 (members_view es) items)

-- the top of a plan is plain where its blocks are
pub top_plain : (es : List Entry) → IsStrictlySortedBy string_cmp (keys_of es)
    → has_only top_keys (members_view es) ≡ true → are_typed top_keys (members_view es) ≡ true
    → items_are_plain 3 (unwrap_or (option_and_then as_array (get_member (codes "block") (members_view es))) no_items) ≡ true
    → members_are_plain 4 (members_view es) ≡ true
top_plain es sorted only typed items = plain_with_items 3 top_keys es sorted only typed (top_items 3 (members_view es) items)

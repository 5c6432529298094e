-- What is read is plain.
use Rattle.std.proofs.Common.{◌≡◌, ℕ, ◌+◌, ◌<◌, true, List, length, get_or, take, suc, None, Some, codes}
use Rattle.std.specs.List.Sorted.{IsStrictlySortedBy}
use Rattle.std.specs.Map.{keys_of}
use Rattle.std.specs.Prelude.{Result, Ok, Err, IfOk}
use Rattle.std.specs.String.{string_cmp}
use Rattle.std.proofs.lemmas.List.{take_more}
use Rattle.toml.specs.Data.{Data, string, integer, float, boolean, datetime, array, table, Members, as_table}
use Rattle.toml.specs.View.{view, items_view, members_view}
use Rattle.toml.specs.declared.value.Value.{Value}
use Rattle.plan_read.specs.declared.faults.Place.{Place}
use Rattle.plan_read.specs.declared.versions.Version.{Version}
use Rattle.plan_read.specs.own.Plain.{is_plain, items_are_plain, members_are_plain, items_at}
use Rattle.plan_read.specs.own.Walk.{place_fault, header_key_tests}
use Rattle.plan_read.proofs.Failing.{all_pass}
use Rattle.plan_read.proofs.PlainData.{plain_items_more, plain_table}
use Rattle.plan_read.proofs.PlainKeys.{header_plain}
use Rattle.plan_read.proofs.PlainTables.{Entry}

-- what holds whatever was read holds where it was
pub if_ok : {A E : Type 0} {P : Type 0} (r : Result A E) → P → IfOk r (λ _. P)
if_ok (Ok x) p = p
if_ok (Err e) p = tt

-- ---- one table more

is_plain_table : (n : ℕ) (d : Data) (ms : Members) → as_table d ≡ Some ms → members_are_plain n ms ≡ true → is_plain (suc n) d ≡ true
is_plain_table n (table m) ms is plain = let e : m ≡ ms = cc in rw e (plain_table n ms plain)
is_plain_table n (string s) ms is plain = absurd (cc)
is_plain_table n (integer z) ms is plain = absurd (cc)
is_plain_table n (float x) ms is plain = absurd (cc)
is_plain_table n (boolean b) ms is plain = absurd (cc)
is_plain_table n (datetime t) ms is plain = absurd (cc)
is_plain_table n (array ds) ms is plain = absurd (cc)

-- the tables up to an index, and the one at it
pub plain_turn : (n : ℕ) (vs : List Value) (i : ℕ) (v : Value) (ms : Members) → i < length vs → v ≡ get_or vs i v → as_table (view v) ≡ Some ms → members_are_plain n ms ≡ true
    → items_are_plain (suc n) (items_view (take i vs)) ≡ true → items_are_plain (suc n) (items_view (take (i + 1) vs)) ≡ true
plain_turn n vs i v ms h is holds plain before =
    rw (take_more vs i v h, ← is) (plain_items_more (suc n) (take i vs) v before (is_plain_table n (view v) ms holds plain))

-- ---- a whole table

-- the table of a block whose calls are plain
pub head_plain : (p : Place) (version : Version) (es : List Entry) → IsStrictlySortedBy string_cmp (keys_of es) → place_fault p (header_key_tests version (members_view es)) ≡ None
    → items_are_plain 1 (items_at (codes "call") (members_view es)) ≡ true → members_are_plain 2 (members_view es) ≡ true
unfolding header_key_tests
head_plain p version es sorted none items =
    let a = all_pass p (header_key_tests version (members_view es)) none in
    header_plain version es sorted a.0 a.1.0 items

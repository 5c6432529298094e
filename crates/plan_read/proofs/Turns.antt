-- One turn of a reading over an array of tables.
use Rattle.std.proofs.Common.{◌≡◌, ℕ, zero, suc, ◌+◌, ◌<◌, true, List, [], ◌∷◌, ◌++◌, length, get_or, drop, Some, None, is_some, refl, sym, arith}
use Rattle.std.proofs.lemmas.Bool.{and_parts}
use Rattle.toml.proofs.Views.{items_view-drop}
use Rattle.toml.specs.Data.{Data, string, integer, float, boolean, datetime, array, table, Members, as_table}
use Rattle.toml.specs.View.{view, items_view}
use Rattle.toml.specs.declared.value.Value.{Value}
use Rattle.plan_read.specs.declared.faults.ReadError.{ReadError}
use Rattle.plan_read.specs.declared.plans.Call.{Call}
use Rattle.plan_read.specs.declared.plans.Header.{Header}
use Rattle.plan_read.specs.declared.versions.Version.{Version}
use Rattle.plan_read.specs.own.Walk.{calls_fault, call_fault, blocks_fault, block_fault}
use Rattle.plan_read.specs.Keys.{are_tables}
use Rattle.plan_read.specs.Plans.{BlockTree, PlanTree}
use Rattle.plan_read.specs.own.Reads.{FailsWith}
use Rattle.plan_read.specs.own.Values.{tables_in, members_in, calls_through, next_call, blocks_through, block_of}
use Rattle.plan_read.proofs.Failing.{next_decides, first_decides}

members_in-table : (d : Data) (ms : Members) → as_table d ≡ Some ms → members_in d ≡ ms
members_in-table (table m) ms h = cc
members_in-table (string s) ms h = absurd (cc)
members_in-table (integer z) ms h = absurd (cc)
members_in-table (float x) ms h = absurd (cc)
members_in-table (boolean b) ms h = absurd (cc)
members_in-table (datetime t) ms h = absurd (cc)
members_in-table (array ds) ms h = absurd (cc)

-- the table at an index is read next
pub turn : (vs : List Value) (i : ℕ) (v : Value) (ms : Members) → i < length vs → v ≡ get_or vs i v → as_table (view v) ≡ Some ms
    → tables_in (items_view (drop i vs)) ≡ ms ∷ tables_in (items_view (drop (i + 1) vs))
turn vs i v ms h is e = rw (items_view-drop vs i v h, ← is, members_in-table (view v) ms e) refl

-- each item of an array of tables is a table
pub is_table : (vs : List Value) (i : ℕ) (d : Value) → i < length vs → are_tables (items_view vs) ≡ true → is_some (as_table (view (get_or vs i d))) ≡ true
is_table [] i d h all = absurd (omega arith)
is_table (v ∷ vs) zero d h all = (and_parts (is_some (as_table (view v))) (are_tables (items_view vs)) all).0
is_table (v ∷ vs) (suc i) d h all = is_table vs i d (omega arith) (and_parts (is_some (as_table (view v))) (are_tables (items_view vs)) all).1

-- ---- the calls of a block

-- a call without a fault is added, and the fault and the calls of the whole block are those from the next table on
pub call_turn : (version : Version) (earlier : PlanTree) (h : Header) (before : List Call) (tables rest : List Members) (ms : Members) (c : Call) → tables ≡ ms ∷ rest
    → call_fault version earlier h before ms ≡ None → c ≡ next_call version earlier h before ms
    → (calls_fault version earlier h (before ++ c ∷ []) rest ≡ calls_fault version earlier h before tables) × (calls_through version earlier h (before ++ c ∷ []) rest ≡ calls_through version earlier h before tables)
call_turn version earlier h before tables rest ms c e none is = rw (e, is) (sym (next_decides (call_fault version earlier h before ms) _ none), refl)

-- the fault of a call is that of the calls from it on
pub call_halts : (e : ReadError) (version : Version) (earlier : PlanTree) (h : Header) (before : List Call) (tables rest : List Members) (ms : Members) → tables ≡ ms ∷ rest
    → FailsWith e (call_fault version earlier h before ms) → FailsWith e (calls_fault version earlier h before tables)
call_halts e version earlier h before tables rest ms is s = rw is (first_decides e (call_fault version earlier h before ms) _ s)

-- ---- the blocks of a plan

-- a block without a fault is added, and the fault and the blocks of the whole plan are those from the next table on
pub block_turn : (version : Version) (earlier : PlanTree) (tables rest : List Members) (ms : Members) (b : BlockTree) → tables ≡ ms ∷ rest
    → block_fault version earlier ms ≡ None → b ≡ block_of version earlier ms
    → (blocks_fault version (earlier ++ b ∷ []) rest ≡ blocks_fault version earlier tables) × (blocks_through version (earlier ++ b ∷ []) rest ≡ blocks_through version earlier tables)
block_turn version earlier tables rest ms b e none is = rw (e, is) (sym (next_decides (block_fault version earlier ms) _ none), refl)

-- the fault of a block is that of the blocks from it on
pub block_halts : (e : ReadError) (version : Version) (earlier : PlanTree) (tables rest : List Members) (ms : Members) → tables ≡ ms ∷ rest
    → FailsWith e (block_fault version earlier ms) → FailsWith e (blocks_fault version earlier tables)
block_halts e version earlier tables rest ms is s = rw is (first_decides e (block_fault version earlier ms) _ s)

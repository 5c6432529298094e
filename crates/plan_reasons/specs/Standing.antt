-- What stands at a key of a table of a plan, and what is told of it.
use Rattle.std.specs.Prelude.{◌≡◌, ℕ, zero, suc, if◌then◌else◌, List, length, take, nat_eq, Option, None, Some, option_and_then, unwrap_or, IfSome, codes, string_bytes}
use Rattle.toml.specs.Data.{Data, string, integer, float, boolean, datetime, array, table, Items, no_items, Members, get_item, get_member, as_array, as_table}
use Rattle.toml.specs.View.{items_of}
use Rattle.plan_lines.specs.Lines.{line_after, column_after}
use Rattle.plan_read.specs.declared.faults.PlanFaultKind.TheVariants.{Toml}
use Rattle.plan_reasons.specs.declared.found.Found.{Found}
use Rattle.plan_reasons.specs.declared.found.Found.TheVariants as found
use Rattle.plan_reasons.specs.declared.reason.Reason.{Reason}

-- the items of the array at a key, none where there is no array
abbrev pub items_at_key : List ℕ → Members → Items
items_at_key key ms = unwrap_or (option_and_then as_array (get_member key ms)) no_items

-- the table of this number among some items, counted from 1
abbrev pub numbered_table : ℕ → Items → Option Members
numbered_table zero items = None
numbered_table (suc n) items = option_and_then as_table (get_item n items)

-- the table of a block, numbered from 1
abbrev pub block_table : Members → ℕ → Option Members
block_table tree block = numbered_table block (items_at_key (codes "block") tree)

-- the table of a call of a block with this header, and the header itself for 0
abbrev pub call_table : ℕ → Members → Option Members
call_table call header = if nat_eq call 0 then Some header else numbered_table call (items_at_key (codes "call") header)

-- the table of a place: 0 stands for no block, which is the top, and for no call, which is the header
abbrev pub place_table : Members → ℕ → ℕ → Option Members
place_table tree block call = if nat_eq block 0 then Some tree else option_and_then (call_table call) (block_table tree block)

-- this is what stands where a value is, or nothing is
abbrev pub IsFound : Found → Option Data → Type 0
IsFound found.Nothing value = value ≡ None
IsFound (found.Text text) value = value ≡ Some (string (string_bytes text))
IsFound (found.Integer number) value = value ≡ Some (integer number)
IsFound (found.Float number) value = value ≡ Some (float number)
IsFound (found.Truth truth) value = value ≡ Some (boolean truth)
IsFound (found.Datetime date) value = value ≡ Some (datetime date)
IsFound (found.Array count) value = (items : List Data) × (length items ≡ count) × (value ≡ Some (array (items_of items)))
IsFound found.Table value = (ms : Members) × (value ≡ Some (table ms))

-- a line and a column are those of what stands behind a front of the text
abbrev pub IsBehind : List ℕ → Option ℕ → ℕ → Type 0
IsBehind text line column = (n : ℕ) × (line ≡ Some (line_after (take n text))) × (column ≡ column_after (take n text))

-- a column is told of a text that is no document alone, and with its line: both are those of one place of the text
abbrev pub IsPlacedIn : List ℕ → Reason → Type 0
IsPlacedIn text reason = IfSome reason.column (λ column. (reason.fault.kind ≡ Toml) × IsBehind text reason.line column)

-- what is told of a key is what stands there in the table of the fault's place
abbrev pub IsAtKey : Members → Reason → Type 0
IsAtKey tree reason = IfSome reason.key (λ key. (ms : Members) × (place_table tree reason.fault.block reason.fault.call ≡ Some ms) × IsFound reason.found (get_member (string_bytes key) ms))

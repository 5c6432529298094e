-- Where the unit of a period, or of a fixed delay, stands in the tree of a plan text.
-- All of it is this project's rule.
use Rattle.std.specs.Prelude.{◌≡◌, ℕ, zero, suc, ◌&&◌, ◌||◌, not, Bool, true, false, List, filter, Option, None, Some, is_some, option_and_then, unwrap_or, IfSome, codes, map}
use Rattle.std.specs.Option.{option_map_or}
use Rattle.toml.specs.Data.{Items, no_items, Members, get_item, get_member, as_array, as_table}
use Rattle.plan_read.specs.Plans.{PlanTree}
use Rattle.plan_lines.specs.Lines.{IsLineOf}
use Rattle.plan_warnings.specs.declared.kinds.OddCall.{OddCall}
use Rattle.plan_warnings.specs.declared.kinds.WarningKind.{WarningKind}
use Rattle.plan_warnings.specs.declared.kinds.WarningKind.TheVariants as kinds
use Rattle.plan_warnings.specs.Warnings.{odd_calls}

-- the items of the array at a key, none where there is no array
abbrev pub items_at : List ℕ → Members → Items
items_at key ms = unwrap_or (option_and_then as_array (get_member key ms)) no_items

-- the table of this number among some items, counted from 1
abbrev pub table_of : ℕ → Items → Option Members
table_of zero items = None
table_of (suc n) items = option_and_then as_table (get_item n items)

-- the table of a block, numbered from 1
abbrev pub block_at : Members → ℕ → Option Members
block_at tree block = table_of block (items_at (codes "block") tree)

-- the table of a call of the block that this is
abbrev pub call_in : Members → ℕ → Option Members
call_in header call = table_of call (items_at (codes "call") header)

-- a key stands in a table
abbrev pub has : List ℕ → Members → Bool
has key ms = is_some (get_member key ms)

-- the unit of a period, or of a fixed delay, stands beside it, as version 2 has it
abbrev pub has_own_unit : Members → Bool
has_own_unit call = has (codes "period_unit") call || has (codes "delay_unit") call

-- it stands there, or, as version 1 has it, in the header of the block
abbrev pub has_unit_in : ℕ → Members → Bool
has_unit_in call header = has (codes "unit") header || option_map_or has_own_unit (call_in header call) false

-- the unit of the period, or of the fixed delay, of a call stands in the tree
abbrev pub has_unit : Members → ℕ → ℕ → Bool
has_unit tree block call = option_map_or (has_unit_in call) (block_at tree block) false

-- a kind is that of a short period
abbrev pub is_of_short : WarningKind → Bool
is_of_short kinds.ShortPeriod = true
is_of_short _ = false

-- what is odd of a plan stays so with the tree of its text: a short period is told only where its unit does not stand there
abbrev pub stays : Members → OddCall → Bool
stays tree odd = not (is_of_short odd.kind && has_unit tree odd.block odd.call)

-- the warnings of a plan whose text has this tree
abbrev pub warnings_told : PlanTree → Members → List OddCall
warnings_told plan tree = filter (stays tree) (odd_calls plan)

-- Beside `specs/Keys` and `specs/Migrating`: data that has only texts, whole numbers and truth values at its ends, nested up to a bound.
-- What a plan's tree holds is such data, and each of these has one printed text.
-- All of it is this project's rule.
use Rattle.std.specs.Prelude.{ℕ, zero, suc, Bool, true, false, not, ◌&&◌, ◌||◌, List, option_and_then, unwrap_or}
use Rattle.std.specs.List.{list_all}
use Rattle.toml.specs.Data.{Data, string, integer, float, boolean, datetime, array, table, Items, no_items, item, Members, no_members, member, get_member, as_array}
use Rattle.plan_read.specs.declared.keys.Shape.{Shape}
use Rattle.plan_read.specs.declared.keys.Shape.TheVariants.{Text, Integer, Truth, Policy, Tables}
use Rattle.plan_read.specs.Keys.{Key}

-- a text, a whole number or a truth value, or an array or a table of what is plain for the bound less one: no float and no date
abbrev mutual
  pub is_plain : ℕ → Data → Bool
  is_plain n (string s) = true
  is_plain n (integer z) = true
  is_plain n (float x) = false
  is_plain n (boolean b) = true
  is_plain n (datetime dt) = false
  is_plain zero (array ds) = false
  is_plain (suc n) (array ds) = items_are_plain n ds
  is_plain zero (table ms) = false
  is_plain (suc n) (table ms) = members_are_plain n ms

  -- each item is plain
  pub items_are_plain : ℕ → Items → Bool
  items_are_plain n no_items = true
  items_are_plain n (item d ds) = is_plain n d && items_are_plain n ds

  -- each value is plain
  pub members_are_plain : ℕ → Members → Bool
  members_are_plain n no_members = true
  members_are_plain n (member k d ms) = is_plain n d && members_are_plain n ms

-- the value of a key is an array of tables
abbrev pub is_tables : Shape → Bool
is_tables Text = false
is_tables Integer = false
is_tables Truth = false
is_tables Policy = false
is_tables Tables = true

-- no key has an array of tables
abbrev pub has_no_tables : List Key → Bool
has_no_tables keys = list_all (λ k. not (is_tables k.shape)) keys

-- the items of the array at a key, none where there is no array
abbrev pub items_at : List ℕ → Members → Items
items_at key ms = unwrap_or (option_and_then as_array (get_member key ms)) no_items

-- at each key of an array of tables the items are plain
abbrev pub have_plain_items : ℕ → List Key → Members → Bool
have_plain_items n keys ms = list_all (λ k. not (is_tables k.shape) || items_are_plain n (items_at k.name ms)) keys

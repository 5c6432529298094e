-- The migration of a plan's text to version 2: the tree that is written, and the text that is printed for it.
-- All of it is this project's rule.
use Rattle.std.specs.Prelude.{◌≡◌, ◌⊎◌, ◌≤◌, ◌<◌, ℕ, pos, false, if◌then◌else◌, List, [], ◌∷◌, map, length, Option, Some, is_some, codes}
use Rattle.std.specs.Cmp.Lexicographic.{slice_cmp}
use Rattle.std.specs.Ordering.{nat_cmp, match_ordering}
use Rattle.toml.specs.Data.{Data, string, integer, array, table, Items, no_items, item, Members, no_members, member, same_key, get_member}
use Rattle.toml.specs.Text.{IsDocumentText}
use Rattle.sched_time.specs.declared.unit.Unit.TheVariants.{Ns}
use Rattle.plan_read.specs.declared.faults.PlanFault.{PlanFault}
use Rattle.plan_read.specs.declared.faults.PlanFaultKind.TheVariants.{Version, TooLong}
use Rattle.plan_read.specs.declared.versions.Version.TheVariants.{One, Two}
use Rattle.plan_read.specs.Checks.{Passes}
use Rattle.plan_read.specs.Keys.{time_keys, unit_key, number_of}
use Rattle.plan_read.specs.Plans.{BlockTree, PlanTree}
use Rattle.plan_read.specs.Texts.{longest_text, tree_of, text_checks, TextFails}
use Rattle.plan_read.specs.Writes.{TreeWritesIn}

-- ---- changes of a table

-- a table with a value at a key, in the order of the keys
abbrev pub with_member : List ℕ → Data → Members → Members
with_member key d no_members = member key d no_members
with_member key d (member k e ms) = match_ordering (slice_cmp nat_cmp key k) (member key d (member k e ms)) (member k d ms) (member k e (with_member key d ms))

-- a table without a key
abbrev pub without : List ℕ → Members → Members
without key no_members = no_members
without key (member k e ms) = if same_key key k then without key ms else member k e (without key ms)

-- a table with another value at a key, where it has one
abbrev pub changed_at : List ℕ → (Data → Data) → Members → Members
changed_at key f no_members = no_members
changed_at key f (member k e ms) = member k (if same_key key k then f e else e) (changed_at key f ms)

-- items with each table among them changed
abbrev pub each_item : (Members → Members) → Items → Items
each_item f no_items = no_items
each_item f (item (table ms) ds) = item (table (f ms)) (each_item f ds)
each_item f (item d ds) = item d (each_item f ds)

-- an array with each table in it changed
abbrev pub each_table : (Members → Members) → Data → Data
each_table f (array ds) = array (each_item f ds)
each_table f d = d

-- ---- the tree

-- a table with a unit beside the time at a key, where it has that time
abbrev pub beside : List ℕ → List ℕ → Members → Members
beside word time ms = if is_some (get_member time ms) then with_member (unit_key time) (string word) ms else ms

-- a table with a unit beside each of these times that it has
abbrev pub beside_each : List ℕ → List (List ℕ) → Members → Members
beside_each word [] ms = ms
beside_each word (time ∷ times) ms = beside_each word times (beside word time ms)

-- a table with a unit beside each of its times
abbrev pub beside_times : List ℕ → Members → Members
beside_times word ms = beside_each word time_keys ms

-- a block of a unit: without it, and with it beside each time of the header and of the calls
abbrev pub block_with_units : List ℕ → Members → Members
block_with_units word ms = beside_times word (changed_at (codes "call") (each_table (beside_times word)) (without (codes "unit") ms))

-- a block by what stands at its `unit`: as it is where that is no text
abbrev pub migrated_by : Option Data → Members → Members
migrated_by (Some (string word)) ms = block_with_units word ms
migrated_by _ ms = ms

-- a block: where it has a unit, that stands beside each time
abbrev pub migrated_block : Members → Members
migrated_block ms = migrated_by (get_member (codes "unit") ms) ms

-- a tree, with version 2 and each block migrated
abbrev pub migrated : Members → Members
migrated ms = changed_at (codes "block") (each_table migrated_block) (with_member (codes "version") (integer (pos (number_of Two))) ms)

-- ---- the plan

-- a block whose times are in nanoseconds, as those of version 2 are
abbrev pub block_in_nanoseconds : BlockTree → BlockTree
block_in_nanoseconds b = record { header = record b.header { unit = Ns }; calls = b.calls }

-- the plan that the migrated tree writes: the same, but for what its blocks keep of units
abbrev pub in_nanoseconds : PlanTree → PlanTree
in_nanoseconds plan = map block_in_nanoseconds plan

-- ---- the text

-- a text of version 1 is migrated to this text: the tree of the one is the migrated tree of the other, as `toml` prints it
pub record Migrates (text printed : List ℕ) : Type 0 where
  pub tree : Members
  pub parsed : Passes (text_checks text) tree
  pub plan : PlanTree
  pub writes : TreeWritesIn One tree plan
  pub prints : IsDocumentText false (migrated tree) printed
  pub reads : tree_of printed ≡ Some (migrated tree)
  pub short : length printed ≤ longest_text

-- a text is of version 2 already
pub record IsMigrated (text : List ℕ) : Type 0 where
  pub tree : Members
  pub parsed : Passes (text_checks text) tree
  pub plan : PlanTree
  pub writes : TreeWritesIn Two tree plan

-- the text that is printed for the migrated tree is longer than a plan's may be
pub record PrintsTooLong (text : List ℕ) : Type 0 where
  pub tree : Members
  pub parsed : Passes (text_checks text) tree
  pub plan : PlanTree
  pub writes : TreeWritesIn One tree plan
  pub printed : List ℕ
  pub prints : IsDocumentText false (migrated tree) printed
  pub long : longest_text < length printed

-- the fault of a text that is not migrated: its own, or `Version` or `TooLong` at the text as a whole
abbrev pub MigrationFails : List ℕ → PlanFault → Type 0
MigrationFails text fault =
    TextFails text fault
    ⊎ (IsMigrated text × (fault ≡ record { kind = Version; block = 0; call = 0 }))
    ⊎ (PrintsTooLong text × (fault ≡ record { kind = TooLong; block = 0; call = 0 }))

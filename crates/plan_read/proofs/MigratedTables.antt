-- Tables in an array, each of them changed.
use Rattle.std.proofs.Common.{◌≡◌, ℕ, List, [], ◌∷◌, map, Option, None, Some, refl, ap, ◌∙◌, inl, inr}
use Rattle.std.specs.Prelude.{option_map}
use Rattle.toml.specs.Data.{Data, string, integer, float, boolean, datetime, array, table, Items, no_items, item, Members, get_member}
use Rattle.plan_read.specs.declared.keys.Shape.TheVariants.{Tables}
use Rattle.plan_read.specs.Keys.{fits, are_tables}
use Rattle.plan_read.specs.Writes.{HoldTables, TablesAt}
use Rattle.plan_read.specs.Migrating.{each_item, each_table}

are_tables_each : (f : Members → Members) (ds : Items) → are_tables (each_item f ds) ≡ are_tables ds
are_tables_each f no_items = refl
are_tables_each f (item (table ms) ds) = are_tables_each f ds
are_tables_each f (item (integer n) ds) = refl
are_tables_each f (item (string s) ds) = refl
are_tables_each f (item (float x) ds) = refl
are_tables_each f (item (boolean b) ds) = refl
are_tables_each f (item (datetime t) ds) = refl
are_tables_each f (item (array es) ds) = refl

-- changed tables are tables
pub tables_fit_each : (f : Members → Members) (o : Option Data) → fits Tables (option_map (each_table f) o) ≡ fits Tables o
tables_fit_each f None = refl
tables_fit_each f (Some (array ds)) = are_tables_each f ds
tables_fit_each f (Some (integer n)) = refl
tables_fit_each f (Some (string s)) = refl
tables_fit_each f (Some (float x)) = refl
tables_fit_each f (Some (boolean b)) = refl
tables_fit_each f (Some (datetime t)) = refl
tables_fit_each f (Some (table ms)) = refl

hold_each : (f : Members → Members) (ds : Items) (ts : List Members) → HoldTables ds ts → HoldTables (each_item f ds) (map f ts)
hold_each f no_items [] h = tt
hold_each f no_items (t ∷ ts) h = absurd h
hold_each f (item (table ms) ds) (t ∷ ts) h = (ap f h.0, hold_each f ds ts h.1)
hold_each f (item (table ms) ds) [] h = absurd h
hold_each f (item (integer n) ds) ts h = absurd h
hold_each f (item (string s) ds) ts h = absurd h
hold_each f (item (float x) ds) ts h = absurd h
hold_each f (item (boolean b) ds) ts h = absurd h
hold_each f (item (datetime t) ds) ts h = absurd h
hold_each f (item (array es) ds) ts h = absurd h

-- the tables at a key, each of them changed
pub tables_each : (f : Members → Members) (key : List ℕ) (ms ns : Members) (ts : List Members) → get_member key ns ≡ option_map (each_table f) (get_member key ms) → TablesAt key ms ts → TablesAt key ns (map f ts)
tables_each f key ms ns ts e (inl h) = inl (each_item f h.0, e ∙ ap (λ (o : Option Data). option_map (each_table f) o) h.1, hold_each f h.0 ts h.2)
tables_each f key ms ns ts e (inr h) = inr (e ∙ ap (λ (o : Option Data). option_map (each_table f) o) h.0, ap (λ (l : List Members). map f l) h.1)

each_item_same : (ds : Items) → each_item (λ ms. ms) ds ≡ ds
each_item_same no_items = refl
each_item_same (item (table ms) ds) = ap (λ (r : Items). item (table ms) r) (each_item_same ds)
each_item_same (item (integer n) ds) = ap (λ (r : Items). item (integer n) r) (each_item_same ds)
each_item_same (item (string s) ds) = ap (λ (r : Items). item (string s) r) (each_item_same ds)
each_item_same (item (float x) ds) = ap (λ (r : Items). item (float x) r) (each_item_same ds)
each_item_same (item (boolean b) ds) = ap (λ (r : Items). item (boolean b) r) (each_item_same ds)
each_item_same (item (datetime t) ds) = ap (λ (r : Items). item (datetime t) r) (each_item_same ds)
each_item_same (item (array es) ds) = ap (λ (r : Items). item (array es) r) (each_item_same ds)

-- where no table changes, nothing does
pub none_changed : (o : Option Data) → option_map (each_table (λ ms. ms)) o ≡ o
none_changed None = refl
none_changed (Some (array ds)) = ap (λ (r : Items). Some (array r)) (each_item_same ds)
none_changed (Some (integer n)) = refl
none_changed (Some (string s)) = refl
none_changed (Some (float x)) = refl
none_changed (Some (boolean b)) = refl
none_changed (Some (datetime t)) = refl
none_changed (Some (table ms)) = refl

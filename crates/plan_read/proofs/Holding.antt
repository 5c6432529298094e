-- What stands at a key, by the tests and by the facts.
use Rattle.std.proofs.Common.{◌≡◌, ◌⊎◌, ◌≤◌, ℕ, ℤ, pos, negsuc, true, not, List, [], ◌∷◌, Option, None, Some, refl, sym, inl, inr, arith}
use Rattle.std.proofs.lemmas.Bool.Decides.{nat_tests}
use Rattle.std.specs.Prelude.{unwrap_or, option_and_then, int_lt}
use Rattle.toml.specs.Data.{Data, string, integer, float, boolean, datetime, array, table, Items, no_items, item, Members, get_member, as_integer, as_str, as_array}
use Rattle.sched_time.specs.Times.{longest, delay_units}
use Rattle.sched_time.specs.declared.unit.Unit.{Unit as TimeUnit}
use Rattle.plan_read.specs.declared.keys.Shape.TheVariants.{Text, Integer, Tables}
use Rattle.plan_read.specs.Keys.{fits, are_tables}
use Rattle.plan_read.specs.own.Values.{integer_or, text_or, tables_in, tables_at, span_at, is_negative}
use Rattle.plan_read.specs.declared.versions.Version.{Version}
use Rattle.plan_read.specs.Writes.{IntegerAt, TextAt, HoldTables, TablesAt, WholeAt, UnitOf, SpanAt}

-- ---- integers and texts

-- a value of the type integer, or none, is an integer or the default
pub integer_fits : (o : Option Data) (z : ℤ) → fits Integer o ≡ true → (o ≡ Some (integer (unwrap_or (option_and_then as_integer o) z))) ⊎ ((o ≡ None) × (unwrap_or (option_and_then as_integer o) z ≡ z))
integer_fits None z h = inr (refl, refl)
integer_fits (Some (integer n)) z h = inl refl
integer_fits (Some (string s)) z h = absurd (cc)
integer_fits (Some (float x)) z h = absurd (cc)
integer_fits (Some (boolean b)) z h = absurd (cc)
integer_fits (Some (datetime t)) z h = absurd (cc)
integer_fits (Some (array ds)) z h = absurd (cc)
integer_fits (Some (table ms)) z h = absurd (cc)

-- a value of the type text, or none, is a text or the default
pub text_fits : (o : Option Data) (t : List ℕ) → fits Text o ≡ true → (o ≡ Some (string (unwrap_or (option_and_then as_str o) t))) ⊎ ((o ≡ None) × (unwrap_or (option_and_then as_str o) t ≡ t))
text_fits None z h = inr (refl, refl)
text_fits (Some (string n)) z h = inl refl
text_fits (Some (integer s)) z h = absurd (cc)
text_fits (Some (float x)) z h = absurd (cc)
text_fits (Some (boolean b)) z h = absurd (cc)
text_fits (Some (datetime t)) z h = absurd (cc)
text_fits (Some (array ds)) z h = absurd (cc)
text_fits (Some (table ms)) z h = absurd (cc)

-- an integer that stands at a key has the type, and is what is read there
pub integer_is : (d : ℤ) (key : List ℕ) (ms : Members) (z : ℤ) → IntegerAt d key ms z → (fits Integer (get_member key ms) ≡ true) × (integer_or d key ms ≡ z)
integer_is d key ms z (inl h) = (rw h refl, rw h refl)
integer_is d key ms z (inr h) = (rw h.0 refl, rw h.0 (sym h.1))

-- a text that stands at a key has the type, and is what is read there
pub text_is : (d : List ℕ) (key : List ℕ) (ms : Members) (t : List ℕ) → TextAt d key ms t → (fits Text (get_member key ms) ≡ true) × (text_or d key ms ≡ t)
text_is d key ms t (inl h) = (rw h refl, rw h refl)
text_is d key ms t (inr h) = (rw h.0 refl, rw h.0 (sym h.1))

-- ---- spans

units_of : (z : ℤ) → not (int_lt z (pos 0)) ≡ true → z ≡ pos (delay_units z)
units_of (pos n) h = refl
units_of (negsuc n) h = absurd (cc)

-- an integer that is not negative is a whole number
pub whole_fits : (key : List ℕ) (ms : Members) → fits Integer (get_member key ms) ≡ true → not (is_negative key ms) ≡ true → WholeAt key ms (delay_units (integer_or (pos 0) key ms))
whole_fits key ms typed forward =
    let e : integer_or (pos 0) key ms ≡ pos (delay_units (integer_or (pos 0) key ms)) = units_of (integer_or (pos 0) key ms) forward in
    rw (← e) (integer_fits (get_member key ms) (pos 0) typed)

not_negative : (n : ℕ) → not (int_lt (pos n) (pos 0)) ≡ true
not_negative n = grind (arith, nat_tests)

-- a whole number that stands at a key is not negative, and is what is read there
pub whole_is : (key : List ℕ) (ms : Members) (n : ℕ) → WholeAt key ms n → (not (is_negative key ms) ≡ true) × (integer_or (pos 0) key ms ≡ pos n)
whole_is key ms n w = let i = integer_is (pos 0) key ms (pos n) w in (rw i.1 (not_negative n), i.1)

-- a whole number within the limit is a span
pub span_fits : (version : Version) (block unit : TimeUnit) (key : List ℕ) (ms : Members) (n : ℕ) → UnitOf version block key ms unit → WholeAt key ms n → span_at unit key ms ≤ longest
    → SpanAt version block key ms (span_at unit key ms)
span_fits version block unit key ms n u w short = (unit, u, n, w, rw (whole_is key ms n w).1 refl, short)

-- a span that stands at a key is within the limit, and is what is read there in its unit
pub span_is : (version : Version) (block : TimeUnit) (key : List ℕ) (ms : Members) (n : ℕ) (s : SpanAt version block key ms n) → (n ≤ longest) × (span_at s.0 key ms ≡ n)
span_is version block key ms n s = (s.5, rw (whole_is key ms s.2 s.3).1 (sym s.4))

-- ---- tables

items_fit : (ds : Items) → are_tables ds ≡ true → HoldTables ds (tables_in ds)
items_fit no_items h = tt
items_fit (item (table ms) ds) h = (refl, items_fit ds h)
items_fit (item (integer n) ds) h = absurd (cc)
items_fit (item (string s) ds) h = absurd (cc)
items_fit (item (float x) ds) h = absurd (cc)
items_fit (item (boolean b) ds) h = absurd (cc)
items_fit (item (datetime t) ds) h = absurd (cc)
items_fit (item (array es) ds) h = absurd (cc)

items_are : (ds : Items) (ts : List Members) → HoldTables ds ts → (are_tables ds ≡ true) × (tables_in ds ≡ ts)
items_are no_items [] h = (refl, refl)
items_are no_items (t ∷ ts) h = absurd h
items_are (item (table ms) ds) (t ∷ ts) h = let r = items_are ds ts h.1 in (r.0, rw (h.0, r.1) refl)
items_are (item (table ms) ds) [] h = absurd h
items_are (item (integer n) ds) ts h = absurd h
items_are (item (string s) ds) ts h = absurd h
items_are (item (float x) ds) ts h = absurd h
items_are (item (boolean b) ds) ts h = absurd h
items_are (item (datetime t) ds) ts h = absurd h
items_are (item (array es) ds) ts h = absurd h

data_fits : (o : Option Data) → fits Tables o ≡ true
    → ((items : Items) × (o ≡ Some (array items)) × HoldTables items (tables_in (unwrap_or (option_and_then as_array o) no_items))) ⊎ ((o ≡ None) × (tables_in (unwrap_or (option_and_then as_array o) no_items) ≡ []))
data_fits None h = inr (refl, refl)
data_fits (Some (array ds)) h = inl (ds, refl, items_fit ds h)
data_fits (Some (integer n)) h = absurd (cc)
data_fits (Some (string s)) h = absurd (cc)
data_fits (Some (float x)) h = absurd (cc)
data_fits (Some (boolean b)) h = absurd (cc)
data_fits (Some (datetime t)) h = absurd (cc)
data_fits (Some (table ms)) h = absurd (cc)

-- where an array of tables stands at a key, or nothing, what is read there stands there
pub tables_fit : (key : List ℕ) (ms : Members) → fits Tables (get_member key ms) ≡ true → TablesAt key ms (tables_at key ms)
tables_fit key ms h = data_fits (get_member key ms) h

-- the tables that stand at a key have the type, and are what is read there
pub tables_are : (key : List ℕ) (ms : Members) (ts : List Members) → TablesAt key ms ts → (fits Tables (get_member key ms) ≡ true) × (tables_at key ms ≡ ts)
tables_are key ms ts (inl h) = let r = items_are h.0 ts h.2 in (rw h.1 r.0, rw h.1 r.1)
tables_are key ms ts (inr h) = (rw h.0 refl, rw h.0 (sym h.1))

-- A table in which each key is one of some keys, and has a value of that key's shape, is plain where the items of its arrays are.
use Rattle.std.proofs.Common.{◌≡◌, ℕ, suc, true, not, ◌||◌, List, [], ◌∷◌, String, Global, Option, Some, Ordering, Less, Greater, nat_cmp, string_bytes, bytes_eq, refl, ap, ◌∙◌, inl, inr}
use Rattle.std.proofs.lemmas.Bool.{cases_Bool, and_parts, false≢true}
use Rattle.std.proofs.lemmas.Cmp.{nat_list_cmp_total}
use Rattle.std.proofs.lemmas.Slice.Eq.{bytes_eq-Decides}
use Rattle.std.specs.Cmp.{tied_itself}
use Rattle.std.specs.Cmp.Lexicographic.{slice_cmp}
use Rattle.std.specs.List.{AllByRecursion}
use Rattle.std.specs.List.Sorted.{IsStrictlySortedBy}
use Rattle.std.specs.Map.{keys_of}
use Rattle.std.specs.Ordering.{match_ordering, ordering_reverse}
use Rattle.std.specs.String.{string_cmp}
use Rattle.toml.specs.Data.{Data, string, integer, float, boolean, datetime, array, table, Members, member, get_member}
use Rattle.toml.specs.View.{view, members_view}
use Rattle.toml.specs.declared.value.Value.{Value}
use Rattle.plan_read.specs.declared.keys.Shape.{Shape}
use Rattle.plan_read.specs.declared.keys.Shape.TheVariants.{Text, Integer, Truth, Policy, Tables}
use Rattle.plan_read.specs.Keys.{Key, has_shape, fits, is_key, has_only, are_typed}
use Rattle.plan_read.specs.own.Plain.{is_plain, items_are_plain, members_are_plain, is_tables, has_no_tables, items_at, have_plain_items}

-- an entry of a table
abbrev pub Entry : Type 0
Entry = String Global × Value

-- ---- each key finds its own value

-- a table has these entries' values at their keys
abbrev pub Holds : Members → List Entry → Type 0
Holds ms es = AllByRecursion (λ e. get_member (string_bytes e.0) ms ≡ Some (view e.1)) es

-- what is looked for behind a member with a smaller key
above_first : (o : Ordering) (d : Data) (rest : Option Data) → o ≡ Greater → match_ordering o rest (Some d) rest ≡ rest
above_first o d rest e = rw e refl

-- a member with a smaller key before them hides none of them
still_holds : (k : String Global) (d : Data) (ms : Members) (es : List Entry) → AllByRecursion (λ y. string_cmp k y ≡ Less) (keys_of es) → Holds ms es → Holds (member (string_bytes k) d ms) es
still_holds k d ms [] below h = tt
still_holds k d ms (e ∷ es) below h =
    let above : slice_cmp nat_cmp (string_bytes e.0) (string_bytes k) ≡ Greater =
    nat_list_cmp_total.antisymm (string_bytes e.0) (string_bytes k) ∙ ap ordering_reverse below.0 in
    (above_first (slice_cmp nat_cmp (string_bytes e.0) (string_bytes k)) d (get_member (string_bytes e.0) ms) above ∙ h.0, still_holds k d ms es below.1 h.1)

-- where keys ascend, each finds its own value
pub holds_own : (es : List Entry) → IsStrictlySortedBy string_cmp (keys_of es) → Holds (members_view es) es
unfolding IsStrictlySortedBy
holds_own [] sorted = tt
holds_own (e ∷ es) sorted = (rw (tied_itself nat_list_cmp_total (string_bytes e.0)) refl, still_holds e.0 (view e.1) (members_view es) es sorted.0 (holds_own es sorted.1))

-- ---- from tests of a table to its values

-- at a key, what is of its shape is plain for a bound
abbrev pub GivesPlain : ℕ → Members → Key → Type 0
GivesPlain n ms k = (d : Data) → get_member k.name ms ≡ Some d → has_shape k.shape d ≡ true → is_plain n d ≡ true

-- a value at one of these keys is plain
plain_value : (n : ℕ) (keys : List Key) (ms : Members) (name : List ℕ) (d : Data) → is_key keys name ≡ true → are_typed keys ms ≡ true → get_member name ms ≡ Some d
    → AllByRecursion (GivesPlain n ms) keys → is_plain n d ≡ true
plain_value n [] ms name d found typed there plain = absurd (false≢true found)
plain_value n (k ∷ keys) ms name d found typed there plain =
    let (here, more) = and_parts (fits k.shape (get_member k.name ms)) (are_typed keys ms) typed in
    elim (cases_Bool (bytes_eq name k.name)) [
      | inl t ↦ (
          let at_key : get_member k.name ms ≡ Some d = rw (← ((bytes_eq-Decides name k.name).0 t)) there in
          plain.0 d at_key (rw at_key at here))
      | inr f ↦ plain_value n keys ms name d (rw f at found) more there plain.1
    ]

-- so are the values of entries that a table holds
plain_values : (n : ℕ) (keys : List Key) (ms : Members) (es : List Entry) → Holds ms es → has_only keys (members_view es) ≡ true → are_typed keys ms ≡ true
    → AllByRecursion (GivesPlain n ms) keys → members_are_plain n (members_view es) ≡ true
plain_values n keys ms [] holds only typed plain = refl
plain_values n keys ms (e ∷ es) holds only typed plain =
    let (here, more) = and_parts (is_key keys (string_bytes e.0)) (has_only keys (members_view es)) only in
    rw (plain_value n keys ms (string_bytes e.0) (view e.1) here typed holds.0 plain, plain_values n keys ms es holds.1 more typed plain)

-- a table that passes the tests of some keys, each of which gives plain values, is plain
pub plain_by_keys : (n : ℕ) (keys : List Key) (es : List Entry) → IsStrictlySortedBy string_cmp (keys_of es) → has_only keys (members_view es) ≡ true
    → are_typed keys (members_view es) ≡ true → AllByRecursion (GivesPlain n (members_view es)) keys → members_are_plain n (members_view es) ≡ true
plain_by_keys n keys es sorted only typed plain = plain_values n keys (members_view es) es (holds_own es sorted) only typed plain

-- ---- values of a shape

-- a value of each shape but an array of tables has nothing inside
plain_text : (d : Data) (n : ℕ) → has_shape Text d ≡ true → is_plain n d ≡ true
plain_text (string s) n h = refl
plain_text (integer z) n h = refl
plain_text (float x) n h = absurd (false≢true h)
plain_text (boolean b) n h = refl
plain_text (datetime dt) n h = absurd (false≢true h)
plain_text (array ds) n h = absurd (false≢true h)
plain_text (table ms) n h = absurd (false≢true h)

plain_integer : (d : Data) (n : ℕ) → has_shape Integer d ≡ true → is_plain n d ≡ true
plain_integer (string s) n h = refl
plain_integer (integer z) n h = refl
plain_integer (float x) n h = absurd (false≢true h)
plain_integer (boolean b) n h = refl
plain_integer (datetime dt) n h = absurd (false≢true h)
plain_integer (array ds) n h = absurd (false≢true h)
plain_integer (table ms) n h = absurd (false≢true h)

plain_truth : (d : Data) (n : ℕ) → has_shape Truth d ≡ true → is_plain n d ≡ true
plain_truth (string s) n h = refl
plain_truth (integer z) n h = refl
plain_truth (float x) n h = absurd (false≢true h)
plain_truth (boolean b) n h = refl
plain_truth (datetime dt) n h = absurd (false≢true h)
plain_truth (array ds) n h = absurd (false≢true h)
plain_truth (table ms) n h = absurd (false≢true h)

plain_policy : (d : Data) (n : ℕ) → has_shape Policy d ≡ true → is_plain n d ≡ true
plain_policy (string s) n h = refl
plain_policy (integer z) n h = refl
plain_policy (float x) n h = absurd (false≢true h)
plain_policy (boolean b) n h = refl
plain_policy (datetime dt) n h = absurd (false≢true h)
plain_policy (array ds) n h = absurd (false≢true h)
plain_policy (table ms) n h = absurd (false≢true h)

-- a value of any shape but an array of tables
plain_end : (shape : Shape) (d : Data) (n : ℕ) → not (is_tables shape) ≡ true → has_shape shape d ≡ true → is_plain n d ≡ true
plain_end Text d n other h = plain_text d n h
plain_end Integer d n other h = plain_integer d n h
plain_end Truth d n other h = plain_truth d n h
plain_end Policy d n other h = plain_policy d n h
plain_end Tables d n other h = absurd (false≢true other)

-- an array of tables of which it is known that its items are plain
plain_tables : (d : Data) (n : ℕ) (key : List ℕ) (ms : Members) → get_member key ms ≡ Some d → has_shape Tables d ≡ true → items_are_plain n (items_at key ms) ≡ true → is_plain (suc n) d ≡ true
plain_tables (string s) n key ms there h items = absurd (false≢true h)
plain_tables (integer z) n key ms there h items = absurd (false≢true h)
plain_tables (float x) n key ms there h items = absurd (false≢true h)
plain_tables (boolean b) n key ms there h items = absurd (false≢true h)
plain_tables (datetime dt) n key ms there h items = absurd (false≢true h)
plain_tables (array ds) n key ms there h items = rw there at items
plain_tables (table ms) n key whole there h items = absurd (false≢true h)

-- a value of any shape, where it is known of an array of tables that its items are plain
plain_any : (shape : Shape) (d : Data) (n : ℕ) (key : List ℕ) (ms : Members) → (not (is_tables shape) || items_are_plain n (items_at key ms)) ≡ true
    → get_member key ms ≡ Some d → has_shape shape d ≡ true → is_plain (suc n) d ≡ true
plain_any Text d n key ms plain there h = plain_text d (suc n) h
plain_any Integer d n key ms plain there h = plain_integer d (suc n) h
plain_any Truth d n key ms plain there h = plain_truth d (suc n) h
plain_any Policy d n key ms plain there h = plain_policy d (suc n) h
plain_any Tables d n key ms plain there h = plain_tables d n key ms there h plain

-- keys without arrays of tables give plain values
gives_ends : (n : ℕ) (keys : List Key) (ms : Members) → has_no_tables keys ≡ true → AllByRecursion (GivesPlain n ms) keys
gives_ends n [] ms none = tt
gives_ends n (k ∷ keys) ms none =
    let (here, more) = and_parts (not (is_tables k.shape)) (has_no_tables keys) none in
    (λ d there h. plain_end k.shape d n here h, gives_ends n keys ms more)

-- and any keys do, where the items of the arrays are plain
gives_items : (n : ℕ) (keys : List Key) (ms : Members) → have_plain_items n keys ms ≡ true → AllByRecursion (GivesPlain (suc n) ms) keys
gives_items n [] ms plain = tt
gives_items n (k ∷ keys) ms plain =
    let (here, more) = and_parts (not (is_tables k.shape) || items_are_plain n (items_at k.name ms)) (have_plain_items n keys ms) plain in
    (λ d there h. plain_any k.shape d n k.name ms here there h, gives_items n keys ms more)

-- ---- the tests

-- a table of keys none of which has an array of tables is plain for each bound
pub plain_ends : (n : ℕ) (keys : List Key) (es : List Entry) → has_no_tables keys ≡ true → IsStrictlySortedBy string_cmp (keys_of es)
    → has_only keys (members_view es) ≡ true → are_typed keys (members_view es) ≡ true → members_are_plain n (members_view es) ≡ true
plain_ends n keys es none sorted only typed = plain_by_keys n keys es sorted only typed (gives_ends n keys (members_view es) none)

-- a table of any keys is plain for the bound and one where the items of its arrays are plain
pub plain_with_items : (n : ℕ) (keys : List Key) (es : List Entry) → IsStrictlySortedBy string_cmp (keys_of es)
    → has_only keys (members_view es) ≡ true → are_typed keys (members_view es) ≡ true → have_plain_items n keys (members_view es) ≡ true
    → members_are_plain (suc n) (members_view es) ≡ true
plain_with_items n keys es sorted only typed items = plain_by_keys (suc n) keys es sorted only typed (gives_items n keys (members_view es) items)

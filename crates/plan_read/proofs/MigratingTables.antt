-- Changes of a table's map beside those of the members that it stands for.
use Rattle.std.proofs.Common.{◌≡◌, ℕ, Bool, true, List, [], ◌∷◌, ◌++◌, length, rules, arith, String, Global, Vec, BTreeMap, Option, Some, None, is_some, option_map, option_and_then, codes, Ordering, Less, Equal, Greater, nat_cmp, string_bytes, refl, sym, ap, ◌∙◌, inl, inr}
use Rattle.std.proofs.lemmas.Bool.{cases_Bool}
use Rattle.std.proofs.lemmas.Map.Text.{is_eq-slice_cmp}
use Rattle.std.proofs.lemmas.Slice.Eq.{bytes_eq-Decides}
use Rattle.std.specs.BTreeMap.{insert_entry, is_at}
use Rattle.std.specs.Cmp.Lexicographic.{slice_cmp}
use Rattle.std.specs.List.{AllByRecursion}
use Rattle.std.specs.List.Sorted.{IsStrictlySortedBy}
use Rattle.std.specs.Map.{keys_of, lookup, remove_entry, set_value}
use Rattle.std.specs.Ordering.{match_ordering}
use Rattle.std.specs.String.{string_cmp}
use Rattle.toml.proofs.Views.{Entry, view-lookup, items_view-push, view-Table, view-Array}
use Rattle.toml.specs.Data.{Data, string, integer, float, boolean, datetime, array, table, Items, no_items, item, push_item, Members, member, get_member, as_table, as_str}
use Rattle.toml.specs.View.{view, items_view, members_view, table_view}
use Rattle.toml.specs.declared.value.Value.{Value, Array as ArrayCase, Table as TableCase, the_lemmas}
use Rattle.plan_read.specs.Migrating.{with_member, without, changed_at, each_item, each_table, beside_times, block_with_units, migrated_by, migrated_block}
use Rattle.plan_read.specs.own.Values.{given_text}

-- ---- a value put at a key

match_members : (o : Ordering) (a b c : List Entry) → members_view (match_ordering o a b c) ≡ match_ordering o (members_view a) (members_view b) (members_view c)
match_members Less a b c = refl
match_members Equal a b c = refl
match_members Greater a b c = refl

-- what an insert into the map does to the members
members_view-insert_entry : (es : List Entry) (k : String Global) (v : Value) → members_view (insert_entry string_cmp es k v) ≡ with_member (string_bytes k) (view v) (members_view es)
members_view-insert_entry [] k v = refl
members_view-insert_entry (e ∷ es) k v = match_members (string_cmp k e.0) _ _ _ ∙ rw (members_view-insert_entry es k v)

-- the same of the map after it, by the bytes of the key
pub inserted_at_key : (es fs : List Entry) (k : String Global) (key : List ℕ) (v : Value) → fs ≡ insert_entry string_cmp es k v → string_bytes k ≡ key → members_view fs ≡ with_member key (view v) (members_view es)
inserted_at_key es fs k key v after same = ap members_view after ∙ members_view-insert_entry es k v ∙ ap (λ (w : List ℕ). with_member w (view v) (members_view es)) same

-- ---- whether a key is there

-- the map looks for this key
abbrev pub at_key : List ℕ → String Global → Bool
at_key key = is_at (λ k. slice_cmp nat_cmp key (string_bytes k))

is_some-option_map : {A B : Type 0} (f : A → B) (o : Option A) → is_some (option_map f o) ≡ is_some o
is_some-option_map f None = refl
is_some-option_map f (Some x) = refl

-- the members have a key where the map has it
pub has_member : (key : List ℕ) (es : List Entry) → is_some (get_member key (members_view es)) ≡ is_some (lookup (at_key key) es)
has_member key es = ap is_some (sym (view-lookup key es)) ∙ is_some-option_map view (lookup (at_key key) es)

-- ---- the value at a key, changed or taken away

at_own : (key : List ℕ) (k : String Global) → at_key key k ≡ true → key ≡ string_bytes k
at_own key k h = (bytes_eq-Decides key (string_bytes k)).0 (sym (is_eq-slice_cmp key (string_bytes k)) ∙ h)

none_below : (key : List ℕ) (es : List Entry) → AllByRecursion (λ y. slice_cmp nat_cmp key (string_bytes y) ≡ Less) (keys_of es) → lookup (at_key key) es ≡ None
none_below key [] h = refl
none_below key (e ∷ es) h = rw h.0 (none_below key es h.1)

-- no later entry has the key of the first
none_later : (key : List ℕ) (e : Entry) (es : List Entry) → IsStrictlySortedBy string_cmp (keys_of (e ∷ es)) → at_key key e.0 ≡ true → lookup (at_key key) es ≡ None
unfolding IsStrictlySortedBy
none_later key e es sorted here = rw (at_own key e.0 here) (none_below (string_bytes e.0) es sorted.0)

-- nothing is changed where the key is not there
pub changed_absent : (key : List ℕ) (f : Data → Data) (es : List Entry) → lookup (at_key key) es ≡ None → changed_at key f (members_view es) ≡ members_view es
changed_absent key f [] h = refl
changed_absent key f (e ∷ es) h =
    elim (cases_Bool (at_key key e.0)) [
      | inl t ↦ absurd (let g = rw t at h in cc)
      | inr u ↦ rw u (ap (member (string_bytes e.0) (view e.1)) (changed_absent key f es (rw u at h)))
    ]

-- what writing through the map does to the members
pub changed_written : (key : List ℕ) (f : Data → Data) (es : List Entry) (v w : Value) → IsStrictlySortedBy string_cmp (keys_of es) → lookup (at_key key) es ≡ Some v → view w ≡ f (view v)
    → members_view (set_value (at_key key) es w) ≡ changed_at key f (members_view es)
unfolding IsStrictlySortedBy
changed_written key f [] v w sorted found is = refl
changed_written key f (e ∷ es) v w sorted found is =
    elim (cases_Bool (at_key key e.0)) [
      | inl t ↦ (
          let same : e.1 ≡ v = (let g = rw t at found in cc) in
          rw (t, is, same, changed_absent key f es (none_later key e es sorted t)) refl)
      | inr u ↦ rw u (ap (member (string_bytes e.0) (view e.1)) (changed_written key f es v w sorted.1 (rw u at found) is))
    ]

without_absent : (key : List ℕ) (es : List Entry) → lookup (at_key key) es ≡ None → without key (members_view es) ≡ members_view es
without_absent key [] h = refl
without_absent key (e ∷ es) h =
    elim (cases_Bool (at_key key e.0)) [
      | inl t ↦ absurd (let g = rw t at h in cc)
      | inr u ↦ rw u (ap (member (string_bytes e.0) (view e.1)) (without_absent key es (rw u at h)))
    ]

-- what a removal from the map does to the members, where no other entry has the key
pub removed : (key : List ℕ) (es : List Entry) → lookup (at_key key) (remove_entry (at_key key) es) ≡ None → members_view (remove_entry (at_key key) es) ≡ without key (members_view es)
removed key [] h = refl
removed key (e ∷ es) h =
    elim (cases_Bool (at_key key e.0)) [
      | inl t ↦ rw t (let g = rw t at h in sym (without_absent key es g))
      | inr u ↦ rw u (let g = rw (u, u) at h in ap (member (string_bytes e.0) (view e.1)) (removed key es g))
    ]

-- ---- a value, changed where it is a table

-- a value, changed where it is a table
abbrev pub one_changed : (Members → Members) → Data → Data
one_changed f (table ms) = table (f ms)
one_changed f d = d

no_table : (x : Value) → ((m : BTreeMap (String Global) Value) → x ≡ TableCase m → ⊥) → as_table (view x) ≡ None
no_table x h = search (rules, the_lemmas)

no_table_changed : (f : Members → Members) (d : Data) → as_table d ≡ None → one_changed f d ≡ d
no_table_changed f (string s) h = refl
no_table_changed f (integer z) h = refl
no_table_changed f (float x) h = refl
no_table_changed f (boolean b) h = refl
no_table_changed f (datetime dt) h = refl
no_table_changed f (array es) h = refl
no_table_changed f (table ms) h = absurd (cc)

-- a value that is no table is not changed
pub other_kept : (f : Members → Members) (x : Value) → ((m : BTreeMap (String Global) Value) → x ≡ TableCase m → ⊥) → view x ≡ one_changed f (view x)
other_kept f x h = sym (no_table_changed f (view x) (no_table x h))

-- a table is changed
pub table_changed : (f : Members → Members) (x : Value) (t u : BTreeMap (String Global) Value) → x ≡ TableCase t → table_view u ≡ f (table_view t) → view (TableCase u) ≡ one_changed f (view x)
table_changed f x t u is changed = view-Table u ∙ ap table changed ∙ sym (ap (λ (v : Value). one_changed f (view v)) is ∙ ap (one_changed f) (view-Table t))

-- ---- items, one after another

-- items, and others behind them
abbrev pub joined : Items → Items → Items
joined no_items rest = rest
joined (item d ds) rest = item d (joined ds rest)

joined_none : (ds : Items) → joined ds no_items ≡ ds
joined_none no_items = refl
joined_none (item d ds) = ap (item d) (joined_none ds)

joined_push : (ds : Items) (d : Data) (rest : Items) → joined (push_item ds d) rest ≡ joined ds (item d rest)
joined_push no_items d rest = refl
joined_push (item e ds) d rest = ap (item e) (joined_push ds d rest)

each_item-first : (f : Members → Members) (d : Data) (ds : Items) → each_item f (item d ds) ≡ item (one_changed f d) (each_item f ds)
each_item-first f (string s) ds = refl
each_item-first f (integer z) ds = refl
each_item-first f (float x) ds = refl
each_item-first f (boolean b) ds = refl
each_item-first f (datetime dt) ds = refl
each_item-first f (array es) ds = refl
each_item-first f (table ms) ds = refl

-- items so far and the changed ones of those to come, after one item more
pub one_more : (f : Members → Members) (all : Items) (done rest left : List Value) (x y : Value) → joined (items_view done) (each_item f (items_view rest)) ≡ all → rest ≡ x ∷ left → view y ≡ one_changed f (view x)
    → joined (items_view (done ++ y ∷ [])) (each_item f (items_view left)) ≡ all
one_more f all done rest left x y so_far here changed =
    ap (λ (ds : Items). joined ds (each_item f (items_view left))) (items_view-push done y)
    ∙ joined_push (items_view done) (view y) (each_item f (items_view left))
    ∙ ap (λ (d : Data). joined (items_view done) (item d (each_item f (items_view left)))) changed
    ∙ ap (joined (items_view done)) (sym (each_item-first f (view x) (items_view left)))
    ∙ ap (λ (vs : List Value). joined (items_view done) (each_item f (items_view vs))) (sym here)
    ∙ so_far

-- an array whose items were all passed has each table changed
pub all_changed : (f : Members → Members) (x : Value) (v out : Vec Value Global) (all rest : List Value) → x ≡ ArrayCase v → all ≡ v.items → rest ≡ []
    → joined (items_view out.items) (each_item f (items_view rest)) ≡ each_item f (items_view all) → view (ArrayCase out) ≡ each_table f (view x)
all_changed f x v out all rest is whole empty passed =
    let last : joined (items_view out.items) no_items ≡ each_item f (items_view v.items) =
    ap (λ (vs : List Value). joined (items_view out.items) (each_item f (items_view vs))) (sym empty) ∙ passed ∙ ap (λ (vs : List Value). each_item f (items_view vs)) whole in
    view-Array out ∙ ap array (sym (joined_none (items_view out.items)) ∙ last) ∙ sym (ap (λ (y : Value). each_table f (view y)) is ∙ ap (each_table f) (view-Array v))

-- nothing is left where the length is 0
pub nothing_left : {X : Type 0} (xs : List X) → length xs ≡ 0 → xs ≡ []
nothing_left [] h = refl
nothing_left (x ∷ xs) h = absurd (omega arith)

-- ---- a block by its unit

by_text : (o : Option Data) (word : List ℕ) (ms : Members) → option_and_then as_str o ≡ Some word → migrated_by o ms ≡ block_with_units word ms
by_text None word ms h = absurd (cc)
by_text (Some (string s)) word ms h = (let same : s ≡ word = cc in ap (λ (w : List ℕ). block_with_units w ms) same)
by_text (Some (integer z)) word ms h = absurd (cc)
by_text (Some (float x)) word ms h = absurd (cc)
by_text (Some (boolean b)) word ms h = absurd (cc)
by_text (Some (datetime dt)) word ms h = absurd (cc)
by_text (Some (array ds)) word ms h = absurd (cc)
by_text (Some (table ns)) word ms h = absurd (cc)

-- a block with a text at its unit, after its unit is taken away and its calls are changed
pub block_of_unit : (ms bare called : Members) (word : List ℕ) → given_text (codes "unit") ms ≡ Some word → bare ≡ without (codes "unit") ms → called ≡ changed_at (codes "call") (each_table (beside_times word)) bare
    → beside_times word called ≡ migrated_block ms
block_of_unit ms bare called word given taken changed =
    ap (beside_times word) (changed ∙ ap (changed_at (codes "call") (each_table (beside_times word))) taken) ∙ sym (by_text (get_member (codes "unit") ms) word ms given)

-- the text at a key, by what the map finds there
pub text_found : (key : List ℕ) (es : List Entry) (v : Value) (text : Option (List ℕ)) → Some v ≡ lookup (at_key key) es → text ≡ as_str (view v) → text ≡ given_text key (members_view es)
text_found key es v text found is = is ∙ ap (λ (o : Option Value). option_and_then as_str (option_map view o)) found ∙ ap (option_and_then as_str) (view-lookup key es)

pub text_missing : (key : List ℕ) (es : List Entry) → None ≡ lookup (at_key key) es → None ≡ given_text key (members_view es)
text_missing key es none = ap (λ (o : Option Value). option_and_then as_str (option_map view o)) none ∙ ap (option_and_then as_str) (view-lookup key es)

-- The migrated tree of a plain tree is plain.
use Rattle.std.proofs.Common.{◌≡◌, ℕ, suc, true, List, [], ◌∷◌, Option, None, Some, is_some, Ordering, Less, Equal, Greater, nat_cmp, refl, inl, inr}
use Rattle.std.specs.Prelude.{codes, pos}
use Rattle.std.proofs.lemmas.Bool.{cases_Bool, and_parts, false≢true}
use Rattle.std.specs.Cmp.Lexicographic.{slice_cmp}
use Rattle.std.specs.Ordering.{match_ordering}
use Rattle.toml.specs.Data.{Data, string, integer, float, boolean, datetime, array, table, Items, no_items, item, Members, no_members, member, same_key, get_member}
use Rattle.plan_read.specs.declared.versions.Version.TheVariants.{Two}
use Rattle.plan_read.specs.Keys.{number_of, time_keys, unit_key}
use Rattle.plan_read.specs.Migrating.{with_member, without, changed_at, each_item, each_table, beside, beside_each, beside_times, block_with_units, migrated_by, migrated_block, migrated}
use Rattle.plan_read.specs.own.Plain.{is_plain, items_are_plain, members_are_plain}

-- ---- changes of a table

-- a change of tables keeps them plain for a bound
abbrev pub KeepsPlain : ℕ → (Members → Members) → Type 0
KeepsPlain n f = (ms : Members) → members_are_plain n ms ≡ true → members_are_plain n (f ms) ≡ true

-- whichever an order picks
one_of_three : (n : ℕ) (o : Ordering) (less equal greater : Members) → members_are_plain n less ≡ true → members_are_plain n equal ≡ true → members_are_plain n greater ≡ true
    → members_are_plain n (match_ordering o less equal greater) ≡ true
one_of_three n Less less equal greater a b c = a
one_of_three n Equal less equal greater a b c = b
one_of_three n Greater less equal greater a b c = c

-- a plain value at a key keeps a table plain
pub plain_with_member : (n : ℕ) (k : List ℕ) (d : Data) (ms : Members) → is_plain n d ≡ true → members_are_plain n ms ≡ true → members_are_plain n (with_member k d ms) ≡ true
plain_with_member n k d no_members new h = rw new
plain_with_member n k d (member l e ms) new h =
    let (here, more) = and_parts (is_plain n e) (members_are_plain n ms) h in
    one_of_three n (slice_cmp nat_cmp k l) (member k d (member l e ms)) (member l d ms) (member l e (with_member k d ms))
    (rw new h) (rw new more) (rw here (plain_with_member n k d ms new more))

-- so does leaving a key out
pub plain_without : (n : ℕ) (k : List ℕ) (ms : Members) → members_are_plain n ms ≡ true → members_are_plain n (without k ms) ≡ true
plain_without n k no_members h = refl
plain_without n k (member l e ms) h =
    let (here, more) = and_parts (is_plain n e) (members_are_plain n ms) h in
    elim (cases_Bool (same_key k l)) [
      | inl t ↦ rw t (plain_without n k ms more)
      | inr f ↦ rw (f, here) (plain_without n k ms more)
    ]

-- and another value at a key, where the change of values keeps them plain
pub plain_changed_at : (n : ℕ) (k : List ℕ) (f : Data → Data) (ms : Members) → ((d : Data) → is_plain n d ≡ true → is_plain n (f d) ≡ true)
    → members_are_plain n ms ≡ true → members_are_plain n (changed_at k f ms) ≡ true
plain_changed_at n k f no_members keeps h = refl
plain_changed_at n k f (member l e ms) keeps h =
    let (here, more) = and_parts (is_plain n e) (members_are_plain n ms) h in
    elim (cases_Bool (same_key k l)) [
      | inl t ↦ rw (t, keeps e here) (plain_changed_at n k f ms keeps more)
      | inr other ↦ rw (other, here) (plain_changed_at n k f ms keeps more)
    ]

-- items stay plain where each table among them does
pub plain_each_item : (n : ℕ) (f : Members → Members) (ds : Items) → KeepsPlain n f → items_are_plain (suc n) ds ≡ true → items_are_plain (suc n) (each_item f ds) ≡ true
plain_each_item n f no_items keeps h = refl
plain_each_item n f (item (string s) ds) keeps h = plain_each_item n f ds keeps h
plain_each_item n f (item (integer z) ds) keeps h = plain_each_item n f ds keeps h
plain_each_item n f (item (float x) ds) keeps h = absurd (false≢true h)
plain_each_item n f (item (boolean b) ds) keeps h = plain_each_item n f ds keeps h
plain_each_item n f (item (datetime dt) ds) keeps h = absurd (false≢true h)
plain_each_item n f (item (array es) ds) keeps h =
    let (here, more) = and_parts (items_are_plain n es) (items_are_plain (suc n) ds) h in
    rw here (plain_each_item n f ds keeps more)
plain_each_item n f (item (table ms) ds) keeps h =
    let (here, more) = and_parts (members_are_plain n ms) (items_are_plain (suc n) ds) h in
    rw (keeps ms here) (plain_each_item n f ds keeps more)

-- so does an array
pub plain_each_table : (n : ℕ) (f : Members → Members) (d : Data) → KeepsPlain n f → is_plain (suc (suc n)) d ≡ true → is_plain (suc (suc n)) (each_table f d) ≡ true
plain_each_table n f (string s) keeps h = refl
plain_each_table n f (integer z) keeps h = refl
plain_each_table n f (float x) keeps h = absurd (false≢true h)
plain_each_table n f (boolean b) keeps h = refl
plain_each_table n f (datetime dt) keeps h = absurd (false≢true h)
plain_each_table n f (array ds) keeps h = plain_each_item n f ds keeps h
plain_each_table n f (table ms) keeps h = h

-- ---- the tree

-- a unit beside a time is a text
pub plain_beside : (n : ℕ) (word time : List ℕ) (ms : Members) → members_are_plain n ms ≡ true → members_are_plain n (beside word time ms) ≡ true
plain_beside n word time ms h =
    elim (cases_Bool (is_some (get_member time ms))) [
      | inl t ↦ rw t (plain_with_member n (unit_key time) (string word) ms refl h)
      | inr f ↦ rw f h
    ]

-- so are the units beside some times
pub plain_beside_each : (n : ℕ) (word : List ℕ) (times : List (List ℕ)) (ms : Members) → members_are_plain n ms ≡ true → members_are_plain n (beside_each word times ms) ≡ true
plain_beside_each n word [] ms h = h
plain_beside_each n word (time ∷ times) ms h = plain_beside_each n word times (beside word time ms) (plain_beside n word time ms h)

-- units beside the times keep a table plain
pub plain_beside_times : (n : ℕ) (word : List ℕ) (ms : Members) → members_are_plain n ms ≡ true → members_are_plain n (beside_times word ms) ≡ true
plain_beside_times n word ms h = plain_beside_each n word time_keys ms h

-- a block of a unit stays plain
pub plain_block_with_units : (n : ℕ) (word : List ℕ) (ms : Members) → members_are_plain (suc (suc n)) ms ≡ true → members_are_plain (suc (suc n)) (block_with_units word ms) ≡ true
plain_block_with_units n word ms h =
    let bare : members_are_plain (suc (suc n)) (without (codes "unit") ms) ≡ true = plain_without (suc (suc n)) (codes "unit") ms h in
    plain_beside_times (suc (suc n)) word (changed_at (codes "call") (each_table (beside_times word)) (without (codes "unit") ms))
    (plain_changed_at (suc (suc n)) (codes "call") (each_table (beside_times word)) (without (codes "unit") ms)
    (λ d. plain_each_table n (beside_times word) d (plain_beside_times n word)) bare)

-- a block stays plain, whatever stands at its `unit`
pub plain_migrated_by : (n : ℕ) (o : Option Data) (ms : Members) → members_are_plain (suc (suc n)) ms ≡ true → members_are_plain (suc (suc n)) (migrated_by o ms) ≡ true
plain_migrated_by n None ms h = h
plain_migrated_by n (Some (string word)) ms h = plain_block_with_units n word ms h
plain_migrated_by n (Some (integer z)) ms h = h
plain_migrated_by n (Some (float x)) ms h = h
plain_migrated_by n (Some (boolean b)) ms h = h
plain_migrated_by n (Some (datetime dt)) ms h = h
plain_migrated_by n (Some (array ds)) ms h = h
plain_migrated_by n (Some (table es)) ms h = h

-- a migrated block is plain where the block is
pub plain_migrated_block : (n : ℕ) (ms : Members) → members_are_plain (suc (suc n)) ms ≡ true → members_are_plain (suc (suc n)) (migrated_block ms) ≡ true
plain_migrated_block n ms h = plain_migrated_by n (get_member (codes "unit") ms) ms h

-- a migrated tree is plain where the tree is
pub plain_migrated : (ms : Members) → members_are_plain 4 ms ≡ true → members_are_plain 4 (migrated ms) ≡ true
plain_migrated ms h =
    let versioned = with_member (codes "version") (integer (pos (number_of Two))) ms in
    plain_changed_at 4 (codes "block") (each_table migrated_block) versioned
    (λ d. plain_each_table 2 migrated_block d (plain_migrated_block 0))
    (plain_with_member 4 (codes "version") (integer (pos (number_of Two))) ms refl h)

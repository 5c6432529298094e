-- What is plain nests no deeper than its bound, has no date that a text cannot write, and stays plain with one item more.
use Rattle.std.proofs.Common.{◌≡◌, ℕ, zero, suc, ◌≤◌, true, List, [], ◌∷◌, ◌++◌, refl, arith}
use Rattle.std.proofs.lemmas.Bool.{and_parts, false≢true}
use Rattle.toml.specs.Data.{Data, string, integer, float, boolean, datetime, array, table, Items, no_items, item, Members, no_members, member, depth, items_depth, members_depth, has_valid_dates, items_have_valid_dates, members_have_valid_dates}
use Rattle.toml.specs.View.{view, items_view}
use Rattle.toml.specs.declared.value.Value.{Value}
use Rattle.plan_read.specs.own.Plain.{is_plain, items_are_plain, members_are_plain}

-- ---- depth

mutual
  -- what is plain is no deeper than its bound
  pub plain_depth : (n : ℕ) (d : Data) → is_plain n d ≡ true → depth d ≤ n
  plain_depth n (string s) h = omega arith
  plain_depth n (integer z) h = omega arith
  plain_depth n (float x) h = omega arith
  plain_depth n (boolean b) h = omega arith
  plain_depth n (datetime dt) h = omega arith
  plain_depth zero (array ds) h = absurd (false≢true h)
  plain_depth (suc n) (array ds) h = let below = plain_items_depth n ds h in omega arith
  plain_depth zero (table ms) h = absurd (false≢true h)
  plain_depth (suc n) (table ms) h = let below = plain_members_depth n ms h in omega arith

  -- so are plain items
  pub plain_items_depth : (n : ℕ) (ds : Items) → items_are_plain n ds ≡ true → items_depth ds ≤ n
  plain_items_depth n no_items h = omega arith
  plain_items_depth n (item d ds) h =
      let (here, more) = and_parts (is_plain n d) (items_are_plain n ds) h in
      let front : depth d ≤ n = plain_depth n d here in
      let rest : items_depth ds ≤ n = plain_items_depth n ds more in
      omega arith

  -- and plain members
  pub plain_members_depth : (n : ℕ) (ms : Members) → members_are_plain n ms ≡ true → members_depth ms ≤ n
  plain_members_depth n no_members h = omega arith
  plain_members_depth n (member k d ms) h =
      let (here, more) = and_parts (is_plain n d) (members_are_plain n ms) h in
      let front : depth d ≤ n = plain_depth n d here in
      let rest : members_depth ms ≤ n = plain_members_depth n ms more in
      omega arith

-- ---- dates

mutual
  -- what is plain has no date
  pub plain_dates : (n : ℕ) (d : Data) → is_plain n d ≡ true → has_valid_dates d ≡ true
  plain_dates n (string s) h = refl
  plain_dates n (integer z) h = refl
  plain_dates n (float x) h = refl
  plain_dates n (boolean b) h = refl
  plain_dates n (datetime dt) h = absurd (false≢true h)
  plain_dates zero (array ds) h = absurd (false≢true h)
  plain_dates (suc n) (array ds) h = plain_items_dates n ds h
  plain_dates zero (table ms) h = absurd (false≢true h)
  plain_dates (suc n) (table ms) h = plain_members_dates n ms h

  -- nor have plain items
  pub plain_items_dates : (n : ℕ) (ds : Items) → items_are_plain n ds ≡ true → items_have_valid_dates ds ≡ true
  plain_items_dates n no_items h = refl
  plain_items_dates n (item d ds) h =
      let (here, more) = and_parts (is_plain n d) (items_are_plain n ds) h in
      rw (plain_dates n d here, plain_items_dates n ds more)

  -- and plain members
  pub plain_members_dates : (n : ℕ) (ms : Members) → members_are_plain n ms ≡ true → members_have_valid_dates ms ≡ true
  plain_members_dates n no_members h = refl
  plain_members_dates n (member k d ms) h =
      let (here, more) = and_parts (is_plain n d) (members_are_plain n ms) h in
      rw (plain_dates n d here, plain_members_dates n ms more)

-- ---- one more

-- plain items with a plain one behind them are plain
pub plain_items_more : (n : ℕ) (vs : List Value) (v : Value) → items_are_plain n (items_view vs) ≡ true → is_plain n (view v) ≡ true
    → items_are_plain n (items_view (vs ++ v ∷ [])) ≡ true
plain_items_more n [] v front last = rw last
plain_items_more n (x ∷ vs) v front last =
    let (here, more) = and_parts (is_plain n (view x)) (items_are_plain n (items_view vs)) front in
    rw (here, plain_items_more n vs v more last)

-- a table of plain values is plain for the bound and one
pub plain_table : (n : ℕ) (ms : Members) → members_are_plain n ms ≡ true → is_plain (suc n) (table ms) ≡ true
plain_table n ms h = h

-- an array of plain items is plain for the bound and one
pub plain_array : (n : ℕ) (ds : Items) → items_are_plain n ds ≡ true → is_plain (suc n) (array ds) ≡ true
plain_array n ds h = h

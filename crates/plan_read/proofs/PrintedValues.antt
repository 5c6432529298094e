-- A plain value has one printed text.
use Rattle.std.proofs.Common.{◌≡◌, ℕ, zero, suc, Bool, true, false, List, ◌++◌, sym, ap, ◌∙◌}
use Rattle.std.specs.Prelude.{codes}
use Rattle.std.proofs.lemmas.Bool.{and_parts, false≢true}
use Rattle.toml.specs.Data.{Data, string, integer, float, boolean, datetime, array, table, Items, no_items, item, Members, no_members, member}
use Rattle.toml.specs.Text.{IsValueText, IsItemsText, IsMembersText, breaks_lines}
use Rattle.plan_read.specs.own.Plain.{is_plain, items_are_plain, members_are_plain}

mutual
  -- a plain value has one text
  pub one_value : (pretty : Bool) (n : ℕ) (d : Data) (a b : List ℕ) → is_plain n d ≡ true → IsValueText pretty d a → IsValueText pretty d b → a ≡ b
  one_value pretty n (string s) a b h x y = x ∙ sym y
  one_value pretty n (integer z) a b h x y = x.0 ∙ sym y.0
  one_value pretty n (float f) a b h x y = absurd (false≢true h)
  one_value pretty n (boolean t) a b h x y = x ∙ sym y
  one_value pretty n (datetime dt) a b h x y = absurd (false≢true h)
  one_value pretty zero (array ds) a b h x y = absurd (false≢true h)
  one_value pretty (suc n) (array ds) a b h x y =
      let (r, whole, its) = x in
      let (s, all, theirs) = y in
      whole ∙ ap (λ (t : List ℕ). codes "[" ++ t) (one_items pretty (breaks_lines pretty ds) true n ds r s h its theirs) ∙ sym all
  one_value pretty zero (table ms) a b h x y = absurd (false≢true h)
  one_value pretty (suc n) (table ms) a b h x y =
      let (r, whole, its) = x in
      let (s, all, theirs) = y in
      whole ∙ ap (λ (t : List ℕ). codes "{" ++ t) (one_members pretty true n ms r s h its theirs) ∙ sym all

  -- plain items have one text
  pub one_items : (pretty lines is_first : Bool) (n : ℕ) (ds : Items) (a b : List ℕ) → items_are_plain n ds ≡ true
      → IsItemsText pretty lines is_first ds a → IsItemsText pretty lines is_first ds b → a ≡ b
  one_items pretty lines is_first n no_items a b h x y = x ∙ sym y
  one_items pretty lines is_first n (item d ds) a b h x y =
      let (here, behind) = and_parts (is_plain n d) (items_are_plain n ds) h in
      let (this, rest, whole, v, vs) = x in
      let (that, more, all, w, ws) = y in
      let same : this ≡ that = one_value pretty n d this that here v w in
      let after : rest ≡ more = one_items pretty lines false n ds rest more behind vs ws in
      cc

  -- plain members have one text
  pub one_members : (pretty is_first : Bool) (n : ℕ) (ms : Members) (a b : List ℕ) → members_are_plain n ms ≡ true
      → IsMembersText pretty is_first ms a → IsMembersText pretty is_first ms b → a ≡ b
  one_members pretty is_first n no_members a b h x y = x ∙ sym y
  one_members pretty is_first n (member k d ms) a b h x y =
      let (here, behind) = and_parts (is_plain n d) (members_are_plain n ms) h in
      let (this, rest, whole, v, vs, before) = x in
      let (that, more, all, w, ws, above) = y in
      let same : this ≡ that = one_value pretty n d this that here v w in
      let after : rest ≡ more = one_members pretty false n ms rest more behind vs ws in
      cc

-- A table of plain values has one printed text as a document.
use Rattle.std.proofs.Common.{◌≡◌, ℕ, zero, suc, Bool, true, false, List, [], ◌∷◌, ◌++◌, sym, ◌∙◌, inl, inr}
use Rattle.std.proofs.lemmas.Bool.{cases_Bool, and_parts, false≢true}
use Rattle.toml.specs.Data.{Data, string, integer, float, boolean, datetime, array, table, Items, no_items, item, Members, no_members, member}
use Rattle.toml.specs.Tables.{Definition, key_value, std_table, array_table, Expression}
use Rattle.toml.specs.Text.{IsLineText, IsLinesText, IsDocumentText, is_section, are_tables, needs_header, header_of, pairs, sections, section, elements, expressions}
use Rattle.plan_read.specs.own.Plain.{is_plain, items_are_plain, members_are_plain}
use Rattle.plan_read.proofs.PrintedValues.{one_value}

-- a key: the words before its last dot, and the word behind it
abbrev Path : Type 0
Path = List (List ℕ) × List ℕ

-- ---- lines whose values are plain

-- the value of a line is plain for some bound; a header has none
abbrev IsPlainLine : Definition → Type 0
IsPlainLine (key_value d) = (n : ℕ) × (is_plain n d ≡ true)
IsPlainLine std_table = Unit {0}
IsPlainLine array_table = Unit {0}

-- so is that of each line
abbrev ArePlainLines : List Expression → Type 0
ArePlainLines [] = Unit {0}
ArePlainLines (e ∷ es) = IsPlainLine e.1 × ArePlainLines es

-- lines behind lines
joined : (es fs : List Expression) → ArePlainLines es → ArePlainLines fs → ArePlainLines (es ++ fs)
joined [] fs a b = b
joined (e ∷ es) fs a b = (a.0, joined es fs a.1 b)

-- a header has no value
plain_header : (key : Path) (ms : Members) → ArePlainLines (header_of key ms)
plain_header key ms = elim (cases_Bool (needs_header ms)) [ inl t ↦ rw t (tt, tt) | inr f ↦ rw f tt ]

-- the pairs of a plain table
plain_pairs : (n : ℕ) (ms : Members) → members_are_plain n ms ≡ true → ArePlainLines (pairs ms)
plain_pairs n no_members h = tt
plain_pairs n (member k d ms) h =
    let (here, more) = and_parts (is_plain n d) (members_are_plain n ms) h in
    elim (cases_Bool (is_section d)) [
      | inl t ↦ rw t (plain_pairs n ms more)
      | inr f ↦ rw f ((n, here), plain_pairs n ms more)
    ]

-- the lines below it
mutual
  plain_sections : (n : ℕ) (path : List (List ℕ)) (ms : Members) → members_are_plain n ms ≡ true → ArePlainLines (sections path ms)
  plain_sections n path no_members h = tt
  plain_sections n path (member k d ms) h =
      let (here, more) = and_parts (is_plain n d) (members_are_plain n ms) h in
      joined (section (path, k) d) (sections path ms) (plain_section n path k d here) (plain_sections n path ms more)

  plain_section : (n : ℕ) (path : List (List ℕ)) (k : List ℕ) (d : Data) → is_plain n d ≡ true → ArePlainLines (section (path, k) d)
  plain_section n path k (string s) h = tt
  plain_section n path k (integer z) h = tt
  plain_section n path k (float x) h = tt
  plain_section n path k (boolean b) h = tt
  plain_section n path k (datetime dt) h = tt
  plain_section zero path k (array ds) h = absurd (false≢true h)
  plain_section (suc n) path k (array ds) h =
      elim (cases_Bool (are_tables ds)) [
        | inl t ↦ rw t (plain_elements n path k ds h)
        | inr f ↦ rw f tt
      ]
  plain_section zero path k (table ms) h = absurd (false≢true h)
  plain_section (suc n) path k (table ms) h =
      joined (header_of (path, k) ms) (pairs ms ++ sections (path ++ k ∷ []) ms) (plain_header (path, k) ms)
      (joined (pairs ms) (sections (path ++ k ∷ []) ms) (plain_pairs n ms h) (plain_sections n (path ++ k ∷ []) ms h))

  plain_elements : (n : ℕ) (path : List (List ℕ)) (k : List ℕ) (ds : Items) → items_are_plain n ds ≡ true → ArePlainLines (elements (path, k) ds)
  plain_elements n path k no_items h = tt
  plain_elements n path k (item (string s) ds) h = plain_elements n path k ds h
  plain_elements n path k (item (integer z) ds) h = plain_elements n path k ds h
  plain_elements n path k (item (float x) ds) h = absurd (false≢true h)
  plain_elements n path k (item (boolean b) ds) h = plain_elements n path k ds h
  plain_elements n path k (item (datetime dt) ds) h = absurd (false≢true h)
  plain_elements n path k (item (array es) ds) h = let (here, more) = and_parts (is_plain n (array es)) (items_are_plain n ds) h in plain_elements n path k ds more
  plain_elements zero path k (item (table ms) ds) h = absurd (false≢true h)
  plain_elements (suc n) path k (item (table ms) ds) h =
      let (here, more) = and_parts (members_are_plain n ms) (items_are_plain (suc n) ds) h in (
        tt,
        joined (pairs ms ++ sections (path ++ k ∷ []) ms) (elements (path, k) ds)
            (joined (pairs ms) (sections (path ++ k ∷ []) ms) (plain_pairs n ms here) (plain_sections n (path ++ k ∷ []) ms here))
            (plain_elements (suc n) path k ds more),
      )

-- ---- their text

-- a plain line has one text
one_line : (pretty started : Bool) (key : Path) (what : Definition) (a b : List ℕ) → IsPlainLine what → IsLineText pretty started key what a → IsLineText pretty started key what b → a ≡ b
one_line pretty started key (key_value d) a b h x y =
    let (this, whole, v) = x in
    let (that, all, w) = y in
    let same : this ≡ that = one_value pretty h.0 d this that h.1 v w in
    cc
one_line pretty started key std_table a b h x y = x ∙ sym y
one_line pretty started key array_table a b h x y = x ∙ sym y

-- plain lines have one text
one_text : (pretty started : Bool) (es : List Expression) (a b : List ℕ) → ArePlainLines es → IsLinesText pretty started es a → IsLinesText pretty started es b → a ≡ b
one_text pretty started [] a b h x y = x ∙ sym y
one_text pretty started (e ∷ es) a b h x y =
    let (this, rest, whole, v, vs) = x in
    let (that, more, all, w, ws) = y in
    let same : this ≡ that = one_line pretty started e.0 e.1 this that h.0 v w in
    let after : rest ≡ more = one_text pretty true es rest more h.1 vs ws in
    cc

-- a table of plain values is printed as one text
pub one_document : (pretty : Bool) (n : ℕ) (ms : Members) (a b : List ℕ) → members_are_plain n ms ≡ true → IsDocumentText pretty ms a → IsDocumentText pretty ms b → a ≡ b
one_document pretty n ms a b h x y =
    one_text pretty false (expressions ms) a b (joined (pairs ms) (sections [] ms) (plain_pairs n ms h) (plain_sections n [] ms h)) x y

-- Text between tags and between quotes (Extensible Markup Language 1.0, "Character Data and Markup": `&`, `<` and `>` as `&amp;`,
-- `&lt;` and `&gt;`, and the two quotes by references too).
use Rattle.std.specs.Prelude.{ℕ, ◌==◌, if◌then◌else◌, List, [], ◌∷◌, Option, Some, None, unwrap_or, codes, flat_map}

-- the reference to a character that may be markup
abbrev pub reference_of : ℕ → Option (List ℕ)
reference_of c =
    if c == 38 then Some (codes "&amp;") else (if c == 60 then Some (codes "&lt;") else (if c == 62 then Some (codes "&gt;") else (if c == 34 then Some (codes "&quot;") else (if c == 39 then Some (codes "&#39;") else None))))

-- a byte of a text: a reference where it may be markup, and itself else
abbrev pub escaped_byte : ℕ → List ℕ
escaped_byte b = unwrap_or (reference_of b) (b ∷ [])

-- a text
abbrev pub escaped : List ℕ → List ℕ
escaped text = flat_map escaped_byte text

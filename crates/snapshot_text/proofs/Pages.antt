-- Pages: what is put into a page, and what is given out of it.
use Rattle.std.proofs.Common.{◌≡◌, ℕ, ◌+◌, ◌<◌, ◌≤◌, Bool, true, false, List, [], ◌∷◌, ◌++◌, Option, length, take, drop, ap, sym, subst, ◌∙◌, arith, append_assoc, append-nil, length-append}
use Rattle.std.specs.Prelude.{Some, None, flat_map, slice_index_or}
use Rattle.std.specs.Io.KnownBytes.{Appends}
use Rattle.std.proofs.KnownBytes.{Appends-trans}
use Rattle.std.proofs.Math.Seq.{take-append-add}
use Rattle.std.proofs.lemmas.Grind.{flat_map-append}
use Rattle.std.proofs.lemmas.List.{take-append-drop, take-append-le, take_more}
use Rattle.byte_ends.specs.Ends.{WritesText}
use Rattle.snapshot_text.specs.Sums.{sum_from, sum_of}
use Rattle.snapshot_text.specs.own.Pages.{IsGiven, PageView}
use Rattle.snapshot_text.proofs.Summing.{sum_behind}

-- ---- what is put

-- a page with a text behind its own
abbrev pub behind : PageView → List ℕ → PageView
behind p text = record { text = p.text ++ text; sum = p.sum }

-- two texts, one behind the other
pub joined : (p a b : PageView) (x y : List ℕ) → a ≡ behind p x → b ≡ behind a y → b ≡ behind p (x ++ y)
joined p a b x y first second =
    second ∙ ((λ i. behind (first i) y) ∙ ap (λ (l : List ℕ). record { text = l; sum = p.sum }) (append_assoc p.text x y))

-- ---- what is given out

-- a text was written behind another
gave : (a b c : Option (List ℕ)) (text more : List ℕ) → Appends a b text → Appends b c more → Appends a c (text ++ more)
gave a b c text more p q = Appends-trans a b c text more p q

-- a front of a text was written behind another
gave_front : (a b c : Option (List ℕ)) (text more : List ℕ) (n : ℕ) → Appends a b text → Appends b c (take n more) → Appends a c (take (length text + n) (text ++ more))
gave_front a b c text more n p q = subst (Appends a c) (sym (take-append-add text more n)) (Appends-trans a b c text (take n more) p q)

-- a front of a page was written
pub front_given : (before b c : Option (List ℕ)) (page : PageView) (text : List ℕ) (n : ℕ) → IsGiven before b page text → n ≤ length page.text → Appends b c (take n page.text)
    → (k : ℕ) × (k ≤ length text) × Appends before c (take k text)
front_given before b c page text n given within appends = (
  length given.written + n,
  omega (arith, within, ap length given.is, length-append given.written page.text),
  subst (λ (l : List ℕ). Appends before c (take (length given.written + n) l)) (sym given.is) (gave_front before b c given.written page.text n given.appends appends),
)

-- the whole page was written, and let go of
pub page_given : (before b c : Option (List ℕ)) (page new : PageView) (text : List ℕ) → IsGiven before b page text → Appends b c page.text
    → new ≡ record { text = []; sum = sum_from page.sum page.text } → IsGiven before c new text
page_given before b c page new text given appends is = record {
  written = given.written ++ page.text;
  appends = gave before b c given.written page.text given.appends appends;
  is = given.is ∙ (sym (append-nil (given.written ++ page.text)) ∙ ap (λ (p : PageView). (given.written ++ page.text) ++ p.text) (sym is));
  sum = ap (λ (p : PageView). p.sum) is ∙ (ap (λ n. sum_from n page.text) given.sum ∙ sym (sum_behind 1 given.written page.text));
}

-- a text was put into it
pub put_given : (before b : Option (List ℕ)) (page new : PageView) (text more : List ℕ) → IsGiven before b page text → new ≡ behind page more → IsGiven before b new (text ++ more)
put_given before b page new text more given is = record {
  written = given.written;
  appends = given.appends;
  is = ap (λ (l : List ℕ). l ++ more) given.is ∙ (append_assoc given.written page.text more ∙ ap (λ (p : PageView). given.written ++ p.text) (sym is));
  sum = ap (λ (p : PageView). p.sum) is ∙ given.sum;
}

-- a front of a text is a front of a longer one
pub front_of_more : (before c : Option (List ℕ)) (text more whole : List ℕ) (n : ℕ) → whole ≡ text ++ more → n ≤ length text → Appends before c (take n text)
    → (k : ℕ) × (k ≤ length whole) × Appends before c (take k whole)
front_of_more before c text more whole n is within appends = (
  n,
  omega (arith, within, ap length is, length-append text more),
  subst (Appends before c) (sym (ap (take n) is ∙ take-append-le n text more within)) appends,
)

-- the lines of some values are those of the first and those of the rest
pub lines_cut : {V : Type 0} (spell : V → List ℕ) (values : List V) (i : ℕ) (text : List ℕ)
    → text ++ flat_map spell values ≡ (text ++ flat_map spell (take i values)) ++ flat_map spell (drop i values)
lines_cut spell values i text =
    ap (λ l. text ++ flat_map spell l) (sym (take-append-drop i values))
    ∙ (ap (λ l. text ++ l) (flat_map-append spell (take i values) (drop i values)) ∙ sym (append_assoc text (flat_map spell (take i values)) (flat_map spell (drop i values))))

-- a text that was given out through a page is written with the page
pub all_given : (result : Bool) (before b c : Option (List ℕ)) (page : PageView) (text : List ℕ) → IsGiven before b page text → WritesText result b c page.text → WritesText result before c text
all_given true before b c page text given wrote = subst (Appends before c) (sym given.is) (gave before b c given.written page.text given.appends wrote)
all_given false before b c page text given wrote = front_given before b c page text wrote.0 given wrote.1 wrote.2

-- the lines of the values so far, and the next one
pub line_more : {V : Type 0} (spell : V → List ℕ) (values : List V) (i : ℕ) (d value : V) (text : List ℕ) → i < length values → value ≡ slice_index_or values i d
    → (text ++ flat_map spell (take i values)) ++ spell value ≡ text ++ flat_map spell (take (i + 1) values)
line_more spell values i d value text l is =
    append_assoc text (flat_map spell (take i values)) (spell value)
    ∙ ap (λ (m : List ℕ). text ++ m)
    (ap (λ m. flat_map spell (take i values) ++ m) (sym (append-nil (spell value)))
    ∙ (sym (flat_map-append spell (take i values) (value ∷ []))
    ∙ ap (flat_map spell) (ap (λ v. take i values ++ v ∷ []) is ∙ sym (take_more values i d l))))

-- nothing was written yet
appends_none : (a : Option (List ℕ)) → Appends a a []
appends_none None = tt
appends_none (Some xs) = sym (append-nil xs)

-- a text stands in a page that was empty
pub first_given : (a : Option (List ℕ)) (page : PageView) (text : List ℕ) → page ≡ record { text = text; sum = 1 } → IsGiven a a page text
first_given a page text is = record {
  written = [];
  appends = appends_none a;
  is = ap (λ (p : PageView). p.text) (sym is);
  sum = ap (λ (p : PageView). p.sum) is;
}

-- the sum of a page is that of the text that was given out
pub given_sum : (before b : Option (List ℕ)) (page : PageView) (text : List ℕ) → IsGiven before b page text → sum_from page.sum page.text ≡ sum_of text
given_sum before b page text given = ap (λ n. sum_from n page.text) given.sum ∙ (sym (sum_behind 1 given.written page.text) ∙ ap sum_of (sym given.is))

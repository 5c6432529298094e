-- Keeping: a file keeps its part where its end is repaired, and has one group more where that is put.
use Rattle.std.proofs.Common.{◌≡◌, ℕ, ◌+◌, ◌<◌, ◌≤◌, List, [], ◌∷◌, ◌++◌, length, ◌∙◌, subst, arith}
use Rattle.std.specs.Prelude.{slice_index}
use Rattle.sqlite_disk.specs.Disk.{Cut}
use Rattle.line_journal.specs.Groups.{frames, IsGroup, Keeps, HasZeros}
use Rattle.line_journal.specs.Parts.{Part, Has, with_group}
use Rattle.line_journal.specs.Resting.{KeepsBelow, SameBelow, Blanks, IsBlank}
use Rattle.line_journal.proofs.Tearing.{ends_at_zero, ends_blanks, ends_same}
use Rattle.line_journal.proofs.Reading.{all_last}
use Rattle.line_journal.proofs.Rests.{same_of_below}
use Rattle.line_journal.proofs.Unique.{holds_same, has_same}

-- zeros are written behind the groups, and torn
pub has_blank : (old c : List ℕ) (part : Part) (end : ℕ) → Has old part → end ≡ 64 + part.head.text + length (frames part.groups) → Blanks end old c → Has c part
has_blank old c part end has ends blanks =
    let low : 64 + part.head.text ≤ end = omega (arith, ends) in
    let same = same_of_below end old c blanks.kept in
    let at_end : Blanks (64 + part.head.text + length (frames part.groups)) old c = subst (λ (e : ℕ). Blanks e old c) ends blanks in
    has_same old c part end part.groups has low same has.all (record {
      front = holds_same old c (64 + part.head.text) end (frames part.groups) has.keeps.front (omega (arith, ends)) same;
      last = ends_blanks old c (64 + part.head.text + length (frames part.groups)) has.keeps.last at_end;
    })

-- what is far behind is cut
pub has_cut : (old c : List ℕ) (part : Part) (end : ℕ) → Has old part → end ≡ 64 + part.head.text + length (frames part.groups) → Cut (end + 131072) old c → Has c part
has_cut old c part end has ends cut =
    let same : SameBelow (end + 131072) old c = λ i there low. (omega (arith, there, low, cut.no_shorter), cut.below i there low) in
    has_same old c part (end + 131072) part.groups has (omega (arith, ends)) same has.all (record {
      front = holds_same old c (64 + part.head.text) (end + 131072) (frames part.groups) has.keeps.front (omega (arith, ends)) same;
      last = ends_same old c (64 + part.head.text + length (frames part.groups)) (end + 131072) has.keeps.last (omega (arith, ends)) same;
    })

-- the end is repaired
pub has_cleared : (old mid new : List ℕ) (part : Part) (end : ℕ) → Has old part → end ≡ 64 + part.head.text + length (frames part.groups) → KeepsBelow end old mid
    → IsBlank mid end (end + 131072) → Cut (end + 131072) mid new → length new ≡ end + 131072 → Has new part × HasZeros new end (end + 131072)
has_cleared old mid new part end has ends below blank cut long =
    let same : SameBelow end old new = λ i there low. (omega (arith, low, long), cut.below i (omega (arith, there, below.long)) (omega (arith, low)) ∙ below.below i there low) in
    let zeros : (i : ℕ) → end ≤ i → i < end + 131072 → slice_index new i ≡ 0 = λ i from less. cut.below i (blank i from less).0 less ∙ (blank i from less).1 in
    let last : slice_index new (64 + part.head.text + length (frames part.groups)) ≡ 0 = subst (λ (e : ℕ). slice_index new e ≡ 0) ends (zeros end (omega arith) (omega arith)) in (
      has_same old new part end part.groups has (omega (arith, ends)) same has.all (record {
        front = holds_same old new (64 + part.head.text) end (frames part.groups) has.keeps.front (omega (arith, ends)) same;
        last = ends_at_zero new (64 + part.head.text + length (frames part.groups)) (omega (arith, ends, long)) last;
      }),
      (omega (arith, long), zeros),
    )

-- a group is put
pub has_more : (old c : List ℕ) (part : Part) (end : ℕ) (g : List ℕ) → Has old part → end ≡ 64 + part.head.text + length (frames part.groups) → KeepsBelow end old c → IsGroup g
    → Keeps c (64 + part.head.text) (part.groups ++ g ∷ []) → Has c (with_group part g)
has_more old c part end g has ends below is keeps = has_same old c part end (part.groups ++ g ∷ []) has (omega (arith, ends)) (same_of_below end old c below) (all_last part.groups g has.all is) keeps

pub has_still : (old c : List ℕ) (part : Part) (end : ℕ) → Has old part → end ≡ 64 + part.head.text + length (frames part.groups) → KeepsBelow end old c
    → Keeps c (64 + part.head.text) part.groups → Has c part
has_still old c part end has ends below keeps = has_same old c part end part.groups has (omega (arith, ends)) (same_of_below end old c below) has.all keeps

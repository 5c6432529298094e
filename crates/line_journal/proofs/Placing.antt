-- Placing: where the groups of a part stand, and what is read there.
use Rattle.std.proofs.Common.{◌≡◌, ℕ, zero, suc, ◌+◌, ◌<◌, ◌≤◌, List, [], ◌∷◌, ◌++◌, length, take, drop, refl, ap, sym, ◌∙◌, subst, inl, inr, arith, get_or, add-one, length-append}
use Rattle.std.specs.Prelude.{slice_index}
use Rattle.std.specs.List.{AllByRecursion}
use Rattle.std.proofs.lemmas.List.{length-take-le, length-drop, get_or-take, get_or-drop}
use Rattle.std.proofs.lemmas.Bool.{cases_lt}
use Rattle.sqlite_disk.specs.Disk.{Holds}
use Rattle.line_journal.specs.Groups.{frame, frames, IsGroup, Keeps, HasZeros}
use Rattle.line_journal.specs.Finding.{IsFoundIn, HasAll}
use Rattle.line_journal.specs.Fronts.{front_bytes, FitsFront}
use Rattle.line_journal.specs.Halves.{IsHalfOf}
use Rattle.line_journal.specs.declared.head.Head.{Head}
use Rattle.line_journal.specs.declared.zone.Groups.{Groups}
use Rattle.line_journal.specs.Parts.{Part, Has, place_of}
use Rattle.line_journal.specs.Openings.{StandsOn}
use Rattle.line_journal.specs.declared.half.Half.{Half}
use Rattle.line_journal.specs.declared.zone.Found.TheVariants.{Group}
use Rattle.line_journal.proofs.Frames.{length-frame}
use Rattle.line_journal.proofs.One.{holds_front, holds_behind, same_group}
use Rattle.line_journal.proofs.Choosing.{only_read}

size_below : (groups : List (List ℕ)) (k : ℕ) → k < length groups → length (frames (take k groups)) < length (frames groups)
size_below [] k low = absurd (omega (arith, low))
size_below (g ∷ groups) zero low = omega (arith, length-append (frame g) (frames groups), length-frame g)
size_below (g ∷ groups) (suc k) low = omega (arith, size_below groups k (omega (arith, low)), length-append (frame g) (frames groups), length-append (frame g) (frames (take k groups)))

size_more : (groups : List (List ℕ)) (k : ℕ) → k < length groups → length (frames (take (suc k) groups)) ≡ length (frames (take k groups)) + (13 + length (get_or groups k []))
size_more [] k low = absurd (omega (arith, low))
size_more (g ∷ groups) zero low = omega (arith, length-append (frame g) (frames []), length-frame g)
size_more (g ∷ groups) (suc k) low = omega (arith, size_more groups k (omega (arith, low)), length-append (frame g) (frames (take (suc k) groups)), length-append (frame g) (frames (take k groups)))

group_at : (groups : List (List ℕ)) (k : ℕ) → AllByRecursion IsGroup groups → k < length groups → IsGroup (get_or groups k [])
group_at [] k all low = absurd (omega (arith, low))
group_at (g ∷ groups) zero all low = all.0
group_at (g ∷ groups) (suc k) all low = group_at groups k all.1 (omega (arith, low))

held_at : (file : List ℕ) (start : ℕ) (groups : List (List ℕ)) (k : ℕ) → k < length groups → Holds file start (frames groups) → Holds file (start + length (frames (take k groups))) (frame (get_or groups k []))
held_at file start [] k low held = absurd (omega (arith, low))
held_at file start (g ∷ groups) zero low held =
    let here : start ≡ start + 0 = omega arith in
    subst (λ (p : ℕ). Holds file p (frame g)) here (holds_front file start (frame g) (frames groups) held)
held_at file start (g ∷ groups) (suc k) low held =
    let place : start + length (frame g) + length (frames (take k groups)) ≡ start + length (frame g ++ frames (take k groups)) = omega (arith, length-append (frame g) (frames (take k groups))) in
    subst (λ (p : ℕ). Holds file p (frame (get_or groups k []))) place (held_at file (start + length (frame g)) groups k (omega (arith, low)) (holds_behind file start (frame g) (frames groups) held))

-- behind the last group there is none
pub end_place : (part : Part) (k at end : ℕ) → end ≡ 64 + part.head.text + length (frames part.groups) → at ≡ end → k ≤ length part.groups → at ≡ place_of part k → k ≡ length part.groups
end_place part k at end ends is few place = elim (cases_lt k (length part.groups)) [
  | inl less ↦ absurd (omega (arith, ends, is, place, size_below part.groups k less))
  | inr past ↦ omega (arith, past, few)
]

all_taken : (groups : List (List ℕ)) (k : ℕ) → k ≡ length groups → length (frames (take k groups)) ≡ length (frames groups)
all_taken [] zero is = refl
all_taken [] (suc k) is = absurd (omega (arith, is))
all_taken (g ∷ groups) zero is = absurd (omega (arith, is))
all_taken (g ∷ groups) (suc k) is = omega (arith, all_taken groups k (omega (arith, is)), length-append (frame g) (frames groups), length-append (frame g) (frames (take k groups)))

-- before it there is the next one
pub next_found : (file : List ℕ) (part : Part) (k at n end : ℕ) (buffer : List ℕ) → Has file part → end ≡ 64 + part.head.text + length (frames part.groups) → (at ≡ end → ⊥) → n ≤ length buffer → IsFoundIn file at buffer (Group n)
    → k ≤ length part.groups → at ≡ place_of part k → (k < length part.groups) × (take n buffer ≡ get_or part.groups k []) × (at + (13 + n) ≡ place_of part (k + 1))
next_found file part k at n end buffer has ends not low found few place =
    let less : k < length part.groups = elim (cases_lt k (length part.groups)) [
      | inl less ↦ less
      | inr past ↦ absurd (not (omega (arith, place, ends, all_taken part.groups k (omega (arith, past, few)))))
    ] in
    let held : Holds file at (frame (get_or part.groups k [])) = subst (λ (p : ℕ). Holds file p (frame (get_or part.groups k []))) (sym place) (held_at file (64 + part.head.text) part.groups k less has.keeps.front) in
    let same : take n buffer ≡ get_or part.groups k [] = same_group file at (take n buffer) (get_or part.groups k []) found.0 (group_at part.groups k has.all less) found.1 held in
    let long : n ≡ length (get_or part.groups k []) = sym (length-take-le n buffer low) ∙ ap length same in
    let next : length (frames (take (k + 1) part.groups)) ≡ length (frames (take k part.groups)) + (13 + length (get_or part.groups k [])) = rw add-one (size_more part.groups k less) in
    (less, same, omega (arith, place, long, next))

-- a file that is read from end to end
pub part_read : (file : List ℕ) (head : Head) (groups : Groups) → 64 + head.text ≤ length file → Holds file 0 (front_bytes head) → FitsFront head → HasAll file (64 + head.text) groups.end groups.lines
    → (part : Part) × Has file part × IsHalfOf (record { head = head; groups = groups }) part
part_read file head groups room front fits all =
    let text : List ℕ = take head.text (drop 64 file) in
    let long : length text ≡ head.text = length-take-le head.text (drop 64 file) (omega (arith, length-drop 64 file, room)) in (
      record { head = head; text = text; groups = all.0 },
      record {
        front = front;
        fits = fits;
        text = record {
          within = omega (arith, long, room);
          each = λ i low. sym (get_or-take head.text (drop 64 file) i 0 (omega (arith, low, long)) ∙ get_or-drop 64 file i 0);
        };
        long = long;
        all = all.1;
        keeps = all.2;
      },
      record { head = refl; ends = all.3; lines = all.4 },
    )

-- what is read of a text
pub text_read : (file : List ℕ) (part : Part) (from : ℕ) (out : List ℕ) → Has file part → from + length out ≤ part.head.text → (0 < length out → Holds file (64 + from) out) → (i : ℕ) → i < length out → slice_index out i ≡ slice_index part.text (from + i)
text_read file part from out has fits held i low =
    let put = held (omega (arith, low)) in
    let place : 64 + from + i ≡ 64 + (from + i) = omega arith in
    sym (put.each i low) ∙ (ap (λ (j : ℕ). slice_index file j) place ∙ has.text.each (from + i) (omega (arith, low, fits, has.long)))

module _ {D : Type 0} (seen : D → List ℕ) (may_leave : D → List ℕ → Type 0) where
  -- who only reads leaves it as it stands
  pub stands_read : (old new other : D) (last : Half) (limit : ℕ) (part : Part) → seen new ≡ seen old → ((c : List ℕ) → may_leave new c → may_leave old c)
      → StandsOn seen may_leave old other last limit part → StandsOn seen may_leave new other last limit part
  stands_read old new other last limit part same leaves stands = record {
    has = subst (λ (f : List ℕ). Has f part) (sym same) stands.has;
    half = stands.half;
    rest = record {
      durable = only_read seen may_leave old new same leaves stands.rest.durable;
      keeps = subst (λ (f : List ℕ). Keeps f (64 + part.head.text) part.groups) (sym same) stands.rest.keeps;
      ends = stands.rest.ends;
      zeros = subst (λ (f : List ℕ). HasZeros f last.groups.end limit) (sym same) stands.rest.zeros;
    };
    older = stands.older;
  }

  pub stands_read_other : (current old new : D) (last : Half) (limit : ℕ) (part : Part) → ((c : List ℕ) → may_leave new c → may_leave old c)
      → StandsOn seen may_leave current old last limit part → StandsOn seen may_leave current new last limit part
  stands_read_other current old new last limit part leaves stands = record { has = stands.has; half = stands.half; rest = stands.rest; older = λ e left. stands.older e (leaves e left) }

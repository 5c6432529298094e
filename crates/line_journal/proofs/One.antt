-- One: what a file has from a place on is one list of groups.
use Rattle.std.proofs.Common.{◌≡◌, ℕ, suc, ◌+◌, ◌<◌, List, [], ◌∷◌, ◌++◌, length, refl, ap, sym, ◌∙◌, subst, arith, length-append}
use Rattle.std.specs.Prelude.{slice_index}
use Rattle.std.specs.List.{AllByRecursion}
use Rattle.std.proofs.lemmas.List.{get_or_append_left, get_or-append-add}
use Rattle.sqlite_disk.specs.Disk.{Holds}
use Rattle.sqlite_disk.specs.Digest.{digest}
use Rattle.line_journal.specs.Groups.{sevens, frame, frames, IsGroup, Ends, Keeps}
use Rattle.line_journal.proofs.Frames.{length-sevens, length-frame, same_length}
use Rattle.line_journal.proofs.Tearing.{ends_none}

-- the front of a text that stands somewhere, and what is behind it
pub holds_front : (file : List ℕ) (at : ℕ) (xs ys : List ℕ) → Holds file at (xs ++ ys) → Holds file at xs
holds_front file at xs ys held = record {
  within = omega (arith, held.within, length-append xs ys);
  each = λ i low. held.each i (omega (arith, low, length-append xs ys)) ∙ get_or_append_left xs ys 0 i low;
}

pub holds_behind : (file : List ℕ) (at : ℕ) (xs ys : List ℕ) → Holds file at (xs ++ ys) → Holds file (at + length xs) ys
holds_behind file at xs ys held = record {
  within = omega (arith, held.within, length-append xs ys);
  each = λ i low.
      let place : at + length xs + i ≡ at + (length xs + i) = omega arith in
      ap (λ (j : ℕ). slice_index file j) place ∙ (held.each (length xs + i) (omega (arith, low, length-append xs ys)) ∙ get_or-append-add xs ys i 0);
}

-- lists of one length with the same at each place are one
pub same_list : (xs ys : List ℕ) → length xs ≡ length ys → ((i : ℕ) → i < length xs → slice_index xs i ≡ slice_index ys i) → xs ≡ ys
same_list [] [] long each = refl
same_list [] (y ∷ ys) long each = absurd (omega (arith, long))
same_list (x ∷ xs) [] long each = absurd (omega (arith, long))
same_list (x ∷ xs) (y ∷ ys) long each =
    let first : x ≡ y = each 0 (omega arith) in
    let rest : xs ≡ ys = same_list xs ys (omega (arith, long)) (λ i low. each (suc i) (omega (arith, low))) in
    ap (λ (z : ℕ). z ∷ xs) first ∙ ap (λ (zs : List ℕ). y ∷ zs) rest

-- a group's bytes stand 13 behind its frame's place
body_of : (file : List ℕ) (at : ℕ) (g : List ℕ) → Holds file at (frame g) → Holds file (at + 13) g
body_of file at g held =
    let first : Holds file (at + length (sevens 3 (length g))) (sevens 10 (digest 0 g) ++ g) = holds_behind file at (sevens 3 (length g)) (sevens 10 (digest 0 g) ++ g) held in
    let second = holds_behind file (at + length (sevens 3 (length g))) (sevens 10 (digest 0 g)) g first in
    let place : at + length (sevens 3 (length g)) + length (sevens 10 (digest 0 g)) ≡ at + 13 = omega (arith, length-sevens 3 (length g), length-sevens 10 (digest 0 g)) in
    subst (λ (p : ℕ). Holds file p g) place second

-- two groups that stand at one place are one
pub same_group : (file : List ℕ) (at : ℕ) (g h : List ℕ) → IsGroup g → IsGroup h → Holds file at (frame g) → Holds file at (frame h) → g ≡ h
same_group file at g h is_g is_h held_g held_h =
    let long = same_length g h is_g is_h (λ i low. sym (held_g.each i (omega (arith, low, length-frame g))) ∙ held_h.each i (omega (arith, low, length-frame h))) in
    let body_g = body_of file at g held_g in
    let body_h = body_of file at h held_h in
    same_list g h long (λ i low. sym (body_g.each i low) ∙ body_h.each i (omega (arith, low, long)))

-- all that stands behind the first group
tail_of : (file : List ℕ) (start : ℕ) (g : List ℕ) (groups : List (List ℕ)) → Keeps file start (g ∷ groups) → Keeps file (start + length (frame g)) groups
tail_of file start g groups keeps =
    let end : start + length (frame g ++ frames groups) ≡ start + length (frame g) + length (frames groups) = omega (arith, length-append (frame g) (frames groups)) in
    record {
      front = holds_behind file start (frame g) (frames groups) keeps.front;
      last = subst (λ (e : ℕ). Ends file e) end keeps.last;
    }

pub same_groups : (file : List ℕ) (start : ℕ) (gs hs : List (List ℕ)) → AllByRecursion IsGroup gs → AllByRecursion IsGroup hs → Keeps file start gs → Keeps file start hs → gs ≡ hs
same_groups file start [] [] all_g all_h keeps_g keeps_h = refl
same_groups file start [] (h ∷ hs) all_g all_h keeps_g keeps_h =
    let here : start + 0 ≡ start = omega arith in
    absurd (ends_none file (start + 0) keeps_g.last h all_h.0 (subst (λ (p : ℕ). Holds file p (frame h)) (sym here) (holds_front file start (frame h) (frames hs) keeps_h.front)))
same_groups file start (g ∷ gs) [] all_g all_h keeps_g keeps_h =
    let here : start + 0 ≡ start = omega arith in
    absurd (ends_none file (start + 0) keeps_h.last g all_g.0 (subst (λ (p : ℕ). Holds file p (frame g)) (sym here) (holds_front file start (frame g) (frames gs) keeps_g.front)))
same_groups file start (g ∷ gs) (h ∷ hs) all_g all_h keeps_g keeps_h =
    let first : g ≡ h = same_group file start g h all_g.0 all_h.0 (holds_front file start (frame g) (frames gs) keeps_g.front) (holds_front file start (frame h) (frames hs) keeps_h.front) in
    let next : Keeps file (start + length (frame g)) hs = subst (λ (x : List ℕ). Keeps file (start + length (frame x)) hs) (sym first) (tail_of file start h hs keeps_h) in
    ap (λ (x : List ℕ). x ∷ gs) first ∙ ap (λ (xs : List (List ℕ)). h ∷ xs) (same_groups file (start + length (frame g)) gs hs all_g.1 all_h.1 (tail_of file start g gs keeps_g) next)

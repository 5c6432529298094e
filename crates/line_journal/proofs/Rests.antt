-- Rests: a file at rest stays at rest with one more group, and what a crash leaves on the way has the groups with it or without.
use Rattle.std.proofs.Common.{◌≡◌, ◌⊎◌, ℕ, ◌+◌, ◌-◌, ◌<◌, ◌≤◌, List, [], ◌∷◌, ◌++◌, length, refl, ap, sym, ◌∙◌, subst, inl, inr, arith}
use Rattle.std.specs.Prelude.{slice_index}
use Rattle.std.proofs.lemmas.Bool.{cases_lt}
use Rattle.sqlite_disk.specs.Disk.{Holds, Torn, Mixed, Only, Follows}
use Rattle.line_journal.specs.Groups.{frame, frames, IsGroup, Keeps, HasZeros}
use Rattle.line_journal.specs.Resting.{IsAtRest, KeepsBelow, SameBelow, Blanks, IsBlank}
use Rattle.line_journal.proofs.Frames.{length-frame}
use Rattle.line_journal.proofs.Tearing.{length-frames_last, whole, all_or_nothing, kept_below, mixed_of_put}

pub below_self : (place : ℕ) (file : List ℕ) → KeepsBelow place file file
below_self place file = record { long = omega arith; below = λ i there low. refl }

pub below_torn : (at n : ℕ) (old new : List ℕ) → Torn at n old new → KeepsBelow at old new
below_torn at n old new torn = record { long = torn.no_shorter; below = torn.below }

pub below_on : (place at : ℕ) (old mid new : List ℕ) → place ≤ at → KeepsBelow place old mid → KeepsBelow at mid new → KeepsBelow place old new
below_on place at old mid new low first second = record {
  long = omega (arith, first.long, second.long);
  below = λ i there less. second.below i (omega (arith, there, first.long)) (omega (arith, less, low)) ∙ first.below i there less;
}

pub below_less : (place at : ℕ) (old new : List ℕ) → place ≤ at → KeepsBelow at old new → KeepsBelow place old new
below_less place at old new low kept = record { long = kept.long; below = λ i there less. kept.below i there (omega (arith, less, low)) }

-- nothing is blank behind the end
pub blank_none : (file : List ℕ) (place : ℕ) → IsBlank file place place
blank_none file place i from low = absurd (omega (arith, from, low))

-- the zeros of a file whose new group is there
zeros_on : (mid new : List ℕ) (end limit to n : ℕ) → HasZeros mid end limit → IsBlank mid limit to → limit ≤ to → end + n < limit → Torn end n mid new
    → HasZeros new (end + n) to
zeros_on mid new end limit to n zeros blank reach room torn =
    let each : (i : ℕ) → end + n ≤ i → i < to → (i < length mid) × (slice_index mid i ≡ 0) = λ i from low. elim (cases_lt i limit) [
      | inl less ↦ (omega (arith, less, zeros.0), zeros.1 i (omega (arith, from)) less)
      | inr past ↦ blank i past low
    ] in
    let long : to ≤ length mid = elim (cases_lt limit to) [
      | inl less ↦
          let last : to - 1 < to = omega (arith, less) in
          omega (arith, (blank (to - 1) (omega (arith, less)) last).0, less)
      | inr past ↦ omega (arith, past, reach, zeros.0)
    ] in
    (omega (arith, long, torn.no_shorter), λ i from low. torn.above i (each i from low).0 from ∙ (each i from low).1)

module _ {D : Type 0} (seen : D → List ℕ) (may_leave : D → List ℕ → Type 0) where
  pub rest_after : (old mid new : D) (start : ℕ) (groups : List (List ℕ)) (end limit to : ℕ) (g : List ℕ)
      → IsAtRest seen may_leave old start groups end limit → end + (13 + length g) < limit → limit ≤ to
      → KeepsBelow limit (seen old) (seen mid) → IsBlank (seen mid) limit to
      → Torn end (length (frame g)) (seen mid) (seen new) → Holds (seen new) end (frame g) → Only (seen new) (may_leave new)
      → IsAtRest seen may_leave new start (groups ++ g ∷ []) (end + (13 + length g)) to
  rest_after old mid new start groups end limit to g rest room reach below blank torn held durable =
      let long = length-frame g in
      let there : start + length (frames groups) < limit = omega (arith, rest.ends, room) in
      let more : start + length (frames groups) + length (frame g) < limit = omega (arith, rest.ends, room, long) in
      let zeros : HasZeros (seen old) (start + length (frames groups)) limit = subst (λ (e : ℕ). HasZeros (seen old) e limit) rest.ends rest.zeros in
      let kept = kept_below (seen old) (seen mid) start limit groups rest.keeps zeros there below in
      let mixed : Mixed (start + length (frames groups)) (frame g) (seen mid) (seen new) = subst (λ (e : ℕ). Mixed e (frame g) (seen mid) (seen new)) rest.ends (mixed_of_put end (frame g) (seen mid) (seen new) torn held) in
      let front : Holds (seen new) start (frames groups) = record {
        within = omega (arith, kept.0.front.within, torn.no_shorter);
        each = λ i low. torn.below (start + i) (omega (arith, kept.0.front.within, low)) (omega (arith, rest.ends, low)) ∙ kept.0.front.each i low;
      } in
      let all : (i : ℕ) → i < length (frame g) → slice_index (seen new) (start + length (frames groups) + i) ≡ slice_index (frame g) i = λ i low. ap (λ (e : ℕ). slice_index (seen new) (e + i)) (sym rest.ends) ∙ held.each i low in
      let behind : HasZeros (seen mid) end limit = subst (λ (e : ℕ). HasZeros (seen mid) e limit) (sym rest.ends) kept.1 in
      let reaches : end + length (frame g) < limit = omega (arith, room, long) in
      record {
        durable = durable;
        keeps = whole (seen mid) (seen new) start limit groups g kept.1 more mixed front all;
        ends = omega (arith, rest.ends, length-frames_last groups g);
        zeros = subst (λ (n : ℕ). HasZeros (seen new) (end + n) to) long (zeros_on (seen mid) (seen new) end limit to (length (frame g)) behind blank reach reaches torn);
      }

  -- zeros are written behind those that are there
  pub crash_ahead : (old : D) (start : ℕ) (groups : List (List ℕ)) (end limit : ℕ) (ahead : List ℕ → Type 0)
      → IsAtRest seen may_leave old start groups end limit → end < limit → Follows (KeepsBelow limit) (may_leave old) ahead
      → (d : List ℕ) → ahead d → Keeps d start groups × HasZeros d (start + length (frames groups)) limit
  crash_ahead old start groups end limit ahead rest room first d left =
      let was = first d left in
      let below : KeepsBelow limit (seen old) d = subst (λ (f : List ℕ). KeepsBelow limit f d) (rest.durable was.0 was.1) was.2 in
      let zeros : HasZeros (seen old) (start + length (frames groups)) limit = subst (λ (e : ℕ). HasZeros (seen old) e limit) rest.ends rest.zeros in
      kept_below (seen old) d start limit groups rest.keeps zeros (omega (arith, rest.ends, room)) below

  -- and then the group
  pub crash_after : (old : D) (start : ℕ) (groups : List (List ℕ)) (end limit : ℕ) (g : List ℕ) (ahead after : List ℕ → Type 0)
      → IsAtRest seen may_leave old start groups end limit → IsGroup g → end + (13 + length g) < limit
      → Follows (KeepsBelow limit) (may_leave old) ahead → Follows (Mixed end (frame g)) ahead after
      → (c : List ℕ) → after c → Keeps c start groups ⊎ Keeps c start (groups ++ g ∷ [])
  crash_after old start groups end limit g ahead after rest is room first second c left =
      let was = second c left in
      let kept = crash_ahead old start groups end limit ahead rest (omega (arith, room)) first was.0 was.1 in
      let mixed : Mixed (start + length (frames groups)) (frame g) was.0 c = subst (λ (e : ℕ). Mixed e (frame g) was.0 c) rest.ends was.2 in
      all_or_nothing was.0 c start limit groups g is kept.0 kept.1 (omega (arith, rest.ends, room, length-frame g)) mixed

  pub follows_self : (old : D) (limit : ℕ) → Follows (KeepsBelow limit) (may_leave old) (may_leave old)
  follows_self old limit c left = (c, left, below_self limit c)

-- zeros are written piece by piece
pub piece_below : (from at n : ℕ) (old mid new : List ℕ) → from ≤ at → KeepsBelow from old mid → Torn at n mid new → KeepsBelow from old new
piece_below from at n old mid new low below torn = below_on from at old mid new low below (below_torn at n mid new torn)

pub piece_crash : (from at n : ℕ) (first before after : List ℕ → Type 0) → from ≤ at → Follows (KeepsBelow from) first before → Follows (Torn at n) before after → Follows (KeepsBelow from) first after
piece_crash from at n first before after low one two c left =
    let was = two c left in
    let first_one = one was.0 was.1 in
    (first_one.0, first_one.1, piece_below from at n first_one.0 was.0 c low first_one.2 was.2)

pub piece_blank : (from at : ℕ) (bytes mid new : List ℕ) → IsBlank mid from at → Torn at (length bytes) mid new → Holds new at bytes → ((i : ℕ) → i < length bytes → slice_index bytes i ≡ 0) → IsBlank new from (at + length bytes)
piece_blank from at bytes mid new blank torn held zeros i low less = elim (cases_lt i at) [
  | inl before ↦
      let was = blank i low before in
      (omega (arith, was.0, torn.no_shorter), torn.below i was.0 before ∙ was.1)
  | inr past ↦
      let there : i - at < length bytes = omega (arith, past, less) in
      let place : at + (i - at) ≡ i = omega (arith, past) in
      (omega (arith, less, held.within), ap (λ (j : ℕ). slice_index new j) (sym place) ∙ (held.each (i - at) there ∙ zeros (i - at) there))
]

pub blanks_self : (place : ℕ) (file : List ℕ) → Blanks place file file
blanks_self place file = record { kept = below_self place file; each = λ i there past. inl refl }

-- zeros that are torn
blanks_on : (from at : ℕ) (bytes old mid new : List ℕ) → from ≤ at → ((i : ℕ) → i < length bytes → slice_index bytes i ≡ 0) → Blanks from old mid → Mixed at bytes mid new → Blanks from old new
blanks_on from at bytes old mid new low zeros first mixed = record {
  kept = piece_below from at (length bytes) old mid new low first.kept mixed.torn;
  each = λ i there past.
      let in_mid : i < length mid = omega (arith, there, first.kept.long) in
      let step : (slice_index new i ≡ slice_index mid i) ⊎ (slice_index new i ≡ 0) = elim (cases_lt i at) [
        | inl less ↦ inl (mixed.torn.below i in_mid less)
        | inr behind ↦ elim (cases_lt i (at + length bytes)) [
          | inr far ↦ inl (mixed.torn.above i in_mid far)
          | inl near ↦
              let within : i - at < length bytes = omega (arith, behind, near) in
              let place : at + (i - at) ≡ i = omega (arith, behind) in
              elim (mixed.each (i - at) within (omega (arith, place, in_mid))) [
                | inl same ↦ inl (subst (λ (j : ℕ). slice_index new j ≡ slice_index mid j) place same)
                | inr put ↦ inr (subst (λ (j : ℕ). slice_index new j ≡ 0) place (put ∙ zeros (i - at) within))
              ]
        ]
      ] in
      elim step [
        | inr put ↦ inr put
        | inl same ↦ elim (first.each i there past) [
          | inl was ↦ inl (same ∙ was)
          | inr put ↦ inr (same ∙ put)
        ]
      ];
}

pub piece_blanks : (from at : ℕ) (bytes : List ℕ) (first before after : List ℕ → Type 0) → from ≤ at → ((i : ℕ) → i < length bytes → slice_index bytes i ≡ 0)
    → Follows (Blanks from) first before → Follows (Mixed at bytes) before after → Follows (Blanks from) first after
piece_blanks from at bytes first before after low zeros one two c left =
    let was = two c left in
    let first_one = one was.0 was.1 in
    (first_one.0, first_one.1, blanks_on from at bytes first_one.0 was.0 c low zeros first_one.2 was.2)

-- the front of a file stays where a group is put behind more zeros
pub both_below : (end limit n : ℕ) (old mid new : List ℕ) → end ≤ limit → KeepsBelow limit old mid → Torn end n mid new → KeepsBelow end old new
both_below end limit n old mid new low below torn = record {
  long = omega (arith, below.long, torn.no_shorter);
  below = λ i there less. torn.below i (omega (arith, there, below.long)) less ∙ below.below i there (omega (arith, less, low));
}

pub same_of_below : (place : ℕ) (old new : List ℕ) → KeepsBelow place old new → SameBelow place old new
same_of_below place old new kept i there low = (omega (arith, there, kept.long), kept.below i there low)

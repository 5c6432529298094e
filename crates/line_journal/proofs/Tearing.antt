-- Tearing: a group that is written into zeros is there or not, whatever a crash leaves of it.
use Rattle.std.proofs.Common.{◌≡◌, ◌⊎◌, ℕ, zero, suc, ◌+◌, ◌-◌, ◌<◌, ◌≤◌, List, [], ◌∷◌, ◌++◌, length, refl, ap, sym, ◌∙◌, subst, inl, inr, arith, length-append, append-nil}
use Rattle.std.specs.Prelude.{slice_index}
use Rattle.std.proofs.lemmas.Bool.{cases_lt}
use Rattle.std.proofs.lemmas.List.{get_or_append_left, get_or-append_right}
use Rattle.std.proofs.lemmas.Grind.{flat_map-append}
use Rattle.sqlite_disk.specs.Disk.{Holds, Torn, Mixed}
use Rattle.line_journal.specs.Groups.{frame, frames, length_told, IsGroup, NoGroup, Ends, Keeps, HasZeros}
use Rattle.line_journal.specs.Resting.{KeepsBelow, SameBelow, Blanks}
use Rattle.line_journal.proofs.Frames.{length-frame, frame_some, told_of, more_than}

-- where the old bytes are zeros, all of the new ones are there, or some byte is a zero
all_or_zero : (at : ℕ) (bytes old new : List ℕ) → Mixed at bytes old new → (k : ℕ) → k ≤ length bytes → at + length bytes ≤ length old
    → ((i : ℕ) → i < length bytes → slice_index old (at + i) ≡ 0)
    → ((i : ℕ) → i < k → slice_index new (at + i) ≡ slice_index bytes i) ⊎ ((i : ℕ) × (i < length bytes) × (slice_index new (at + i) ≡ 0))
all_or_zero at bytes old new is zero few within zeros = inl (λ i low. absurd (omega arith))
all_or_zero at bytes old new is (suc k) few within zeros =
    elim (all_or_zero at bytes old new is k (omega arith) within zeros) [
      | inr found ↦ inr found
      | inl all ↦
          elim (is.each k (omega arith) (omega arith)) [
            | inl same ↦ inr (k, omega arith, same ∙ zeros k (omega arith))
            | inr put ↦ inl (λ i low. elim (cases_lt i k) [
              | inl less ↦ all i less
              | inr past ↦ let here : k ≡ i = omega arith in subst (λ (j : ℕ). slice_index new (at + j) ≡ slice_index bytes j) here put
            ])
          ]
    ]

-- a zero in what would be a group's head
pub ends_in_head : (file : List ℕ) (at i : ℕ) → i < 13 → at + i < length file → slice_index file (at + i) ≡ 0 → Ends file at
ends_in_head file at i low there lost = record { place = i; near = omega (arith, low); covered = more_than i _ low; within = there; lost = lost }

-- or in its first byte
pub ends_at_zero : (file : List ℕ) (at : ℕ) → at < length file → slice_index file at ≡ 0 → Ends file at
ends_at_zero file at there lost =
    let here : at ≡ at + 0 = omega arith in
    ends_in_head file at 0 (omega arith) (omega (arith, there)) (ap (λ (i : ℕ). slice_index file i) (sym here) ∙ lost)

-- no group stands where a byte of it would be a zero
pub ends_none : (file : List ℕ) (at : ℕ) → Ends file at → NoGroup file at
ends_none file at ends g is held =
    let in_frame : (j : ℕ) → j < 3 → j < length (frame g) = λ j few. omega (arith, few, length-frame g) in
    let here : at ≡ at + 0 = omega arith in
    let first : slice_index file at ≡ slice_index (frame g) 0 = ap (λ (i : ℕ). slice_index file i) here ∙ held.each 0 (in_frame 0 (omega arith)) in
    let long = told_of g (slice_index file at) (slice_index file (at + 1)) (slice_index file (at + 2)) is first (held.each 1 (in_frame 1 (omega arith))) (held.each 2 (in_frame 2 (omega arith))) in
    let covered : ends.place < 13 + length g = subst (λ (n : ℕ). ends.place < 13 + n) long ends.covered in
    let low : ends.place < length (frame g) = omega (arith, covered, length-frame g) in
    frame_some g is ends.place low (sym (held.each ends.place low) ∙ ends.lost)

-- of a group's frame a byte is lost, so that none stands there
ends_where_torn : (at : ℕ) (g old new : List ℕ) → IsGroup g → Mixed at (frame g) old new → at + length (frame g) ≤ length old
    → ((i : ℕ) → i < length (frame g) → slice_index old (at + i) ≡ 0) → (i : ℕ) → i < length (frame g) → slice_index new (at + i) ≡ 0 → Ends new at
ends_where_torn at g old new is mixed within zeros i low lost =
    let in_frame : (j : ℕ) → j < 3 → j < length (frame g) = λ j few. omega (arith, few, length-frame g) in
    let there : (j : ℕ) → j < length (frame g) → at + j < length old = λ j less. omega (arith, less, within) in
    let in_new : (j : ℕ) → j < length (frame g) → at + j < length new = λ j less. omega (arith, there j less, mixed.torn.no_shorter) in
    let gone : (j : ℕ) → j < 3 → slice_index new (at + j) ≡ slice_index old (at + j) → Ends new at = λ j few same. ends_in_head new at j (omega (arith, few)) (in_new j (in_frame j few)) (same ∙ zeros j (in_frame j few)) in
    let here : at ≡ at + 0 = omega arith in
    elim (mixed.each 0 (in_frame 0 (omega arith)) (there 0 (in_frame 0 (omega arith)))) [
      | inl same ↦ gone 0 (omega arith) same
      | inr first ↦ elim (mixed.each 1 (in_frame 1 (omega arith)) (there 1 (in_frame 1 (omega arith)))) [
        | inl same ↦ gone 1 (omega arith) same
        | inr second ↦ elim (mixed.each 2 (in_frame 2 (omega arith)) (there 2 (in_frame 2 (omega arith)))) [
          | inl same ↦ gone 2 (omega arith) same
          | inr third ↦
              let long = told_of g (slice_index new at) (slice_index new (at + 1)) (slice_index new (at + 2)) is (ap (λ (k : ℕ). slice_index new k) here ∙ first) second third in
              let few : i < 13 + length g = omega (arith, low, length-frame g) in
              record { place = i; near = omega (arith, few, is.few); covered = subst (λ (n : ℕ). i < 13 + n) (sym long) few; within = in_new i low; lost = lost }
        ]
      ]
    ]

-- what tells the length is as it was
told_same : (file c : List ℕ) (at i : ℕ) → slice_index c at ≡ slice_index file at → slice_index c (at + 1) ≡ slice_index file (at + 1) → slice_index c (at + 2) ≡ slice_index file (at + 2)
    → i < 13 + length_told (slice_index file at) (slice_index file (at + 1)) (slice_index file (at + 2)) → i < 13 + length_told (slice_index c at) (slice_index c (at + 1)) (slice_index c (at + 2))
told_same file c at i first second third covered =
    let one : i < 13 + length_told (slice_index c at) (slice_index file (at + 1)) (slice_index file (at + 2)) = subst (λ (n : ℕ). i < 13 + length_told n (slice_index file (at + 1)) (slice_index file (at + 2))) (sym first) covered in
    let two : i < 13 + length_told (slice_index c at) (slice_index c (at + 1)) (slice_index file (at + 2)) = subst (λ (n : ℕ). i < 13 + length_told (slice_index c at) n (slice_index file (at + 2))) (sym second) one in
    subst (λ (n : ℕ). i < 13 + length_told (slice_index c at) (slice_index c (at + 1)) n) (sym third) two

-- zeros that are written over what is no group make none
pub ends_blanks : (file c : List ℕ) (at : ℕ) → Ends file at → Blanks at file c → Ends c at
ends_blanks file c at ends blanks =
    let there : at + ends.place < length c = omega (arith, ends.within, blanks.kept.long) in
    let lost : slice_index c (at + ends.place) ≡ 0 = elim (blanks.each (at + ends.place) ends.within (omega arith)) [
      | inl same ↦ same ∙ ends.lost
      | inr put ↦ put
    ] in
    elim (cases_lt ends.place 13) [
      | inl low ↦ ends_in_head c at ends.place low there lost
      | inr past ↦
          let in_file : (j : ℕ) → j < 3 → at + j < length file = λ j few. omega (arith, few, past, ends.within) in
          let gone : (j : ℕ) → j < 3 → slice_index c (at + j) ≡ 0 → Ends c at = λ j few put. ends_in_head c at j (omega (arith, few)) (omega (arith, in_file j few, blanks.kept.long)) put in
          let here : at + 0 ≡ at = omega arith in
          elim (blanks.each (at + 0) (in_file 0 (omega arith)) (omega arith)) [
            | inr put ↦ gone 0 (omega arith) put
            | inl first ↦ elim (blanks.each (at + 1) (in_file 1 (omega arith)) (omega arith)) [
              | inr put ↦ gone 1 (omega arith) put
              | inl second ↦ elim (blanks.each (at + 2) (in_file 2 (omega arith)) (omega arith)) [
                | inr put ↦ gone 2 (omega arith) put
                | inl third ↦
                    let one : slice_index c at ≡ slice_index file at = subst (λ (k : ℕ). slice_index c k ≡ slice_index file k) here first in
                    record { place = ends.place; near = ends.near; covered = told_same file c at ends.place one second third ends.covered; within = there; lost = lost }
              ]
            ]
          ]
    ]

-- nor does a cut far behind
pub ends_same : (file c : List ℕ) (at to : ℕ) → Ends file at → at + 65549 ≤ to → SameBelow to file c → Ends c at
ends_same file c at to ends far same =
    let low : at + ends.place < to = omega (arith, ends.near, far) in
    let kept = same (at + ends.place) ends.within low in
    elim (cases_lt ends.place 13) [
      | inl less ↦ ends_in_head c at ends.place less kept.0 (kept.1 ∙ ends.lost)
      | inr past ↦
          let each : (j : ℕ) → j < 3 → slice_index c (at + j) ≡ slice_index file (at + j) = λ j few. (same (at + j) (omega (arith, few, past, ends.within)) (omega (arith, few, far))).1 in
          let here : at + 0 ≡ at = omega arith in
          let one : slice_index c at ≡ slice_index file at = subst (λ (k : ℕ). slice_index c k ≡ slice_index file k) here (each 0 (omega arith)) in
          record { place = ends.place; near = ends.near; covered = told_same file c at ends.place one (each 1 (omega arith)) (each 2 (omega arith)) ends.covered; within = kept.0; lost = kept.1 ∙ ends.lost }
    ]

-- the front of a file is kept where nothing is written
front_kept : (start : ℕ) (text bytes old new : List ℕ) → Holds old start text → Mixed (start + length text) bytes old new → Holds new start text
front_kept start text bytes old new held mixed = record {
  within = omega (arith, held.within, mixed.torn.no_shorter);
  each = λ i low. mixed.torn.below (start + i) (omega (arith, held.within, low)) (omega (arith, low)) ∙ held.each i low;
}

-- two texts, one behind the other
pub holds_both : (file : List ℕ) (start : ℕ) (xs ys : List ℕ) → Holds file start xs → Holds file (start + length xs) ys → Holds file start (xs ++ ys)
holds_both file start xs ys left right = record {
  within = omega (arith, right.within, length-append xs ys);
  each = λ i low. elim (cases_lt i (length xs)) [
    | inl less ↦ left.each i less ∙ sym (get_or_append_left xs ys 0 i less)
    | inr past ↦
        let there : i - length xs < length ys = omega (arith, low, past, length-append xs ys) in
        let place : start + i ≡ start + length xs + (i - length xs) = omega (arith, past) in
        ap (λ (j : ℕ). slice_index file j) place ∙ (right.each (i - length xs) there ∙ sym (get_or-append_right xs ys (length xs) i 0 refl past))
  ];
}

pub frames_last : (groups : List (List ℕ)) (g : List ℕ) → frames (groups ++ g ∷ []) ≡ frames groups ++ frame g
frames_last groups g = flat_map-append frame groups (g ∷ []) ∙ ap (λ (t : List ℕ). frames groups ++ t) (append-nil (frame g))

pub length-frames_last : (groups : List (List ℕ)) (g : List ℕ) → length (frames (groups ++ g ∷ [])) ≡ length (frames groups) + (13 + length g)
length-frames_last groups g = ap length (frames_last groups g) ∙ (length-append (frames groups) (frame g) ∙ ap (λ (n : ℕ). length (frames groups) + n) (length-frame g))

-- all of the new group is there, and a zero behind it
pub whole : (file c : List ℕ) (start limit : ℕ) (groups : List (List ℕ)) (g : List ℕ)
    → HasZeros file (start + length (frames groups)) limit → start + length (frames groups) + length (frame g) < limit
    → Mixed (start + length (frames groups)) (frame g) file c → Holds c start (frames groups)
    → ((i : ℕ) → i < length (frame g) → slice_index c (start + length (frames groups) + i) ≡ slice_index (frame g) i) → Keeps c start (groups ++ g ∷ [])
whole file c start limit groups g zeros room mixed front all =
    let at = start + length (frames groups) in
    let held : Holds c at (frame g) = record { within = omega (arith, zeros.0, room, mixed.torn.no_shorter); each = all } in
    let end : start + length (frames (groups ++ g ∷ [])) ≡ at + length (frame g) = omega (arith, length-frames_last groups g, length-frame g) in
    let there : at + length (frame g) < length file = omega (arith, zeros.0, room) in
    let from : at + length (frame g) ≤ at + length (frame g) = omega arith in
    let low : at ≤ at + length (frame g) = omega arith in
    let behind : slice_index c (at + length (frame g)) ≡ 0 = mixed.torn.above (at + length (frame g)) there from ∙ zeros.1 (at + length (frame g)) low room in
    record {
      front = subst (λ (t : List ℕ). Holds c start t) (sym (frames_last groups g)) (holds_both c start (frames groups) (frame g) front held);
      last = ends_at_zero c (start + length (frames (groups ++ g ∷ []))) (omega (arith, end, there, mixed.torn.no_shorter)) (ap (λ (i : ℕ). slice_index c i) end ∙ behind);
    }

-- what a crash leaves has the groups as they were, or with the new one
pub all_or_nothing : (file c : List ℕ) (start limit : ℕ) (groups : List (List ℕ)) (g : List ℕ) → IsGroup g → Keeps file start groups
    → HasZeros file (start + length (frames groups)) limit → start + length (frames groups) + length (frame g) < limit
    → Mixed (start + length (frames groups)) (frame g) file c → Keeps c start groups ⊎ Keeps c start (groups ++ g ∷ [])
all_or_nothing file c start limit groups g is keeps zeros room mixed =
    let at = start + length (frames groups) in
    let blank : (i : ℕ) → i < length (frame g) → slice_index file (at + i) ≡ 0 = λ i low. zeros.1 (at + i) (omega arith) (omega (arith, low, room)) in
    let within : at + length (frame g) ≤ length file = omega (arith, zeros.0, room) in
    let most : length (frame g) ≤ length (frame g) = omega arith in
    let front = front_kept start (frames groups) (frame g) file c keeps.front mixed in
    elim (all_or_zero at (frame g) file c mixed (length (frame g)) most within blank) [
      | inr torn ↦ inl (record { front = front; last = ends_where_torn at g file c is mixed within blank torn.0 torn.1 torn.2 })
      | inl all ↦ inr (whole file c start limit groups g zeros room mixed front all)
    ]

-- what is behind the zeros does not count
pub kept_below : (file d : List ℕ) (start limit : ℕ) (groups : List (List ℕ)) → Keeps file start groups → HasZeros file (start + length (frames groups)) limit
    → start + length (frames groups) < limit → KeepsBelow limit file d → Keeps d start groups × HasZeros d (start + length (frames groups)) limit
kept_below file d start limit groups keeps zeros room below =
    let at = start + length (frames groups) in
    let blank : (i : ℕ) → at ≤ i → i < limit → slice_index d i ≡ 0 = λ i from low. below.below i (omega (arith, zeros.0, low)) low ∙ zeros.1 i from low in
    let here : at ≤ at = omega arith in (
      record {
        front = record {
          within = omega (arith, keeps.front.within, below.long);
          each = λ i low. below.below (start + i) (omega (arith, keeps.front.within, low)) (omega (arith, low, room)) ∙ keeps.front.each i low;
        };
        last = ends_at_zero d at (omega (arith, zeros.0, room, below.long)) (blank at here room);
      },
      (omega (arith, zeros.0, below.long), blank),
    )

-- bytes that a write left where they were to be
pub mixed_of_put : (at : ℕ) (bytes old new : List ℕ) → Torn at (length bytes) old new → Holds new at bytes → Mixed at bytes old new
mixed_of_put at bytes old new torn held = record { torn = torn; each = λ i low there. inr (held.each i low) }

-- Gates: a file that is shut stays shut, or is opened with all that it has.
use Rattle.std.proofs.Common.{◌≡◌, ◌⊎◌, ℕ, suc, ◌+◌, ◌-◌, ◌<◌, ◌≤◌, List, [], ◌∷◌, ◌++◌, length, refl, ap, sym, ◌∙◌, subst, inl, inr, arith, length-append}
use Rattle.std.specs.Prelude.{slice_index, Result, Ok, Err, OnOk}
use Rattle.std.proofs.lemmas.Bool.{cases_lt}
use Rattle.std.proofs.lemmas.List.{get_or_append_left, get_or-append_right}
use Rattle.sqlite_disk.specs.Disk.{Holds, Torn, Mixed, Cut}
use Rattle.line_journal.specs.Groups.{HasZeros}
use Rattle.line_journal.specs.Fronts.{told_whole, front_bytes, FitsFront, IsShut}
use Rattle.line_journal.specs.Parts.{Has, IsOlder, snapshot_of}
use Rattle.line_journal.specs.Gates.{IsClosed, IsReady}
use Rattle.line_journal.specs.Resting.{KeepsBelow, IsBlank, IsThere}
use Rattle.line_journal.specs.declared.head.Head.{Head}
use Rattle.line_journal.proofs.Tearing.{ends_at_zero}
use Rattle.line_journal.proofs.One.{same_list}
use Rattle.line_journal.proofs.Unique.{length-told_whole, has_length}

pub on_ok : {T E : Type 0} (r : Result T E) (P : Type 0) → P → OnOk r P
on_ok (Ok x) P p = p
on_ok (Err e) P p = tt

pub on_ok_map : {T E : Type 0} (r : Result T E) (P Q : Type 0) → OnOk r P → (P → Q) → OnOk r Q
on_ok_map (Ok x) P Q p f = f p
on_ok_map (Err e) P Q p f = tt

pub closed_below : (place : ℕ) (old new : List ℕ) → 0 < place → KeepsBelow place old new → IsClosed old → IsClosed new
closed_below place old new some below closed = (omega (arith, closed.0, below.long), below.below 0 closed.0 some ∙ closed.1)

pub closed_torn : (at n : ℕ) (old new : List ℕ) → 0 < at → Torn at n old new → IsClosed old → IsClosed new
closed_torn at n old new some torn closed = (omega (arith, closed.0, torn.no_shorter), torn.below 0 closed.0 some ∙ closed.1)

pub closed_cut : (n : ℕ) (old new : List ℕ) → 0 < n → Cut n old new → IsClosed old → IsClosed new
closed_cut n old new some cut closed = (omega (arith, closed.0, cut.no_shorter, some), cut.below 0 closed.0 some ∙ closed.1)

pub closed_older : (file : List ℕ) (turn : ℕ) → IsClosed file → IsOlder file turn
closed_older file turn closed = inl (inr closed.1)

pub closed_put : (file : List ℕ) → Holds file 0 (0 ∷ []) → IsClosed file
closed_put file held = (omega (arith, held.within), held.each 0 (omega arith))

-- of a gate that is shut a crash leaves the file as it was, or shut
pub older_shut : (turn : ℕ) (old c : List ℕ) → Mixed 0 (0 ∷ []) old c → IsOlder old turn → IsOlder c turn
older_shut turn old c mixed (inl (inl short)) = inl (inl (omega (arith, short, mixed.torn.no_longer)))
older_shut turn old c mixed (inl (inr nil)) = elim (cases_lt 0 (length old)) [
  | inl some ↦ elim (mixed.each 0 (omega arith) some) [
    | inl same ↦ inl (inr (same ∙ nil))
    | inr put ↦ inl (inr put)
  ]
  | inr none ↦ inl (inl (omega (arith, none, mixed.torn.no_longer)))
]
older_shut turn old c mixed (inr found) =
    let some : 64 ≤ length old = has_length old found.0 found.1 in
    elim (mixed.each 0 (omega arith) (omega (arith, some))) [
      | inr put ↦ inl (inr put)
      | inl same ↦
          let long : length old ≡ length c = omega (arith, some, mixed.torn.no_shorter, mixed.torn.no_longer) in
          let each : (i : ℕ) → i < length old → slice_index old i ≡ slice_index c i = λ i low. elim (cases_lt i 1) [
            | inl first ↦ let here : 0 ≡ i = omega (arith, first) in subst (λ (j : ℕ). slice_index old j ≡ slice_index c j) here (sym same)
            | inr past ↦ sym (mixed.torn.above i low past)
          ] in
          let one : old ≡ c = same_list old c long each in
          inr (found.0, subst (λ (f : List ℕ). Has f found.0) one found.1, found.2)
    ]

-- all but the gate is there
pub ready : (head : Head) (text old mid new : List ℕ) → length text ≡ head.text → IsClosed old → IsThere old 64 text
    → KeepsBelow (64 + head.text) old mid → IsBlank mid (64 + head.text) (64 + head.text + 131072) → Torn 1 (length (told_whole head)) mid new → Holds new 1 (told_whole head)
    → IsReady new head text
ready head text old mid new long closed there below blank torn held =
    let size : length (told_whole head) ≡ 63 = length-told_whole head in
    let last = blank (64 + head.text + 131071) (omega arith) (omega arith) in
    let far : 64 + head.text + 131072 ≤ length mid = omega (arith, last.0) in
    record {
      closed = closed_torn 1 (length (told_whole head)) mid new (omega arith) torn (closed_below (64 + head.text) old mid (omega arith) below closed);
      front = held;
      written = record {
        within = omega (arith, long, far, torn.no_shorter);
        each = λ i low.
            let was = there i low in
            torn.above (64 + i) (omega (arith, low, long, far)) (omega (arith, size)) ∙ (below.below (64 + i) was.0 (omega (arith, low, long)) ∙ was.1);
      };
      zeros = (omega (arith, long, far, torn.no_shorter), λ i from less. torn.above i (omega (arith, less, long, far)) (omega (arith, from, size)) ∙ (blank i (omega (arith, from, long)) (omega (arith, less, long))).1);
    }

-- what is behind the gate stays
pub opened : (file c : List ℕ) (head : Head) (text : List ℕ) → IsReady file head text → length text ≡ head.text → FitsFront head → Mixed 0 (1 ∷ []) file c → slice_index c 0 ≡ 1
    → Has c (snapshot_of head text) × HasZeros c (64 + head.text) (64 + head.text + 131072)
opened file c head text is long fits mixed gate =
    let size : length (told_whole head) ≡ 63 = length-told_whole head in
    let above : (i : ℕ) → 0 < i → i < length file → slice_index c i ≡ slice_index file i = λ i some low. mixed.torn.above i low (omega (arith, some)) in
    let far : 64 + head.text + 131072 ≤ length c = omega (arith, is.zeros.0, long, mixed.torn.no_shorter) in
    let zeros : (i : ℕ) → 64 + head.text ≤ i → i < 64 + head.text + 131072 → slice_index c i ≡ 0 = λ i from less. above i (omega (arith, from)) (omega (arith, less, is.zeros.0, long)) ∙ is.zeros.1 i (omega (arith, from, long)) (omega (arith, less, long)) in
    let here : 64 + head.text + 0 ≡ 64 + head.text = omega arith in (
      record {
        front = record {
          within = omega (arith, size, far);
          each = λ i low.
              let there : 0 + i ≡ i = omega arith in
              let one : slice_index c i ≡ slice_index (front_bytes head) i = elim (cases_lt i 1) [
                | inl first ↦ let place : 0 ≡ i = omega (arith, first) in subst (λ (j : ℕ). slice_index c j ≡ slice_index (front_bytes head) j) place gate
                | inr past ↦
                    let place : suc (i - 1) ≡ i = omega (arith, past) in
                    let up : suc (i - 1) ≡ 1 + (i - 1) = omega arith in
                    let one : slice_index c (suc (i - 1)) ≡ slice_index (told_whole head) (i - 1) =
                    above (suc (i - 1)) (omega arith) (omega (arith, low, size, is.zeros.0)) ∙ (ap (λ (j : ℕ). slice_index file j) up ∙ is.front.each (i - 1) (omega (arith, low, past))) in
                    subst (λ (j : ℕ). slice_index c j ≡ slice_index (front_bytes head) j) place one
              ] in
              ap (λ (j : ℕ). slice_index c j) there ∙ one;
        };
        fits = fits;
        text = record {
          within = omega (arith, long, far);
          each = λ i low. above (64 + i) (omega arith) (omega (arith, low, is.written.within)) ∙ is.written.each i low;
        };
        long = long;
        all = tt;
        keeps = record {
          front = record { within = omega (arith, far); each = λ i low. absurd (omega (arith, low)) };
          last = ends_at_zero c (64 + head.text + 0) (omega (arith, far)) (ap (λ (i : ℕ). slice_index c i) here ∙ zeros (64 + head.text) (omega arith) (omega arith));
        };
      },
      (far, zeros),
    )

pub gate : (file c : List ℕ) (head : Head) (text : List ℕ) → IsReady file head text → length text ≡ head.text → FitsFront head → Mixed 0 (1 ∷ []) file c
    → IsShut c ⊎ Has c (snapshot_of head text)
gate file c head text is long fits mixed = elim (mixed.each 0 (omega arith) is.closed.0) [
  | inl same ↦ inl (inr (same ∙ is.closed.1))
  | inr put ↦ inr (opened file c head text is long fits mixed put).0
]

-- a piece more of a text
pub there_more : (old new text piece : List ℕ) (draft : ℕ) → draft ≡ length text → IsThere old 64 text → Torn (64 + draft) (length piece) old new → (0 < length piece → Holds new (64 + draft) piece)
    → IsThere new 64 (text ++ piece)
there_more old new text piece draft long there torn held i low = elim (cases_lt i (length text)) [
  | inl less ↦
      let was = there i less in
      (omega (arith, was.0, torn.no_shorter), torn.below (64 + i) was.0 (omega (arith, less, long)) ∙ (was.1 ∙ sym (get_or_append_left text piece 0 i less)))
  | inr past ↦
      let in_piece : i - length text < length piece = omega (arith, low, past, length-append text piece) in
      let put = held (omega (arith, in_piece)) in
      let place : 64 + draft + (i - length text) ≡ 64 + i = omega (arith, past, long) in
      (omega (arith, put.within, in_piece, long, past), ap (λ (j : ℕ). slice_index new j) (sym place) ∙ (put.each (i - length text) in_piece ∙ sym (get_or-append_right text piece (length text) i 0 refl past)))
]

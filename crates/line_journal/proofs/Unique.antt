-- Parts: a file has one part, and keeps it where nothing of it changes.
use Rattle.std.proofs.Common.{◌≡◌, ℕ, zero, suc, ◌+◌, ◌-◌, ◌/◌, ◌%◌, ◌^◌, ◌<◌, ◌≤◌, List, [], ◌∷◌, ◌++◌, length, refl, ap, sym, ◌∙◌, subst, inl, inr, arith, length-append}
use Rattle.std.specs.Prelude.{slice_index}
use Rattle.std.specs.List.{AllByRecursion}
use Rattle.std.proofs.lemmas.Bool.{cases_lt}
use Rattle.sqlite_disk.specs.Disk.{Holds}
use Rattle.sqlite_disk.specs.Digest.{digest}
use Rattle.line_journal.specs.Groups.{sevens, IsGroup, Keeps}
use Rattle.line_journal.specs.Fronts.{name, told, told_whole, front_bytes, FitsFront, IsShut}
use Rattle.line_journal.specs.Parts.{Part, Has, IsOlder, StandFor}
use Rattle.line_journal.specs.Resting.{SameBelow}
use Rattle.line_journal.specs.declared.head.Head.{Head}
use Rattle.line_journal.proofs.One.{same_list, same_groups}

pub length-told : (head : Head) → length (told head) ≡ 56
unfolding told
length-told head = refl

pub length-told_whole : (head : Head) → length (told_whole head) ≡ 63
unfolding told_whole
length-told_whole head = length-append (told head) (sevens 7 (digest 0 (told head))) ∙ ap (λ (k : ℕ). k + 7) (length-told head)

-- lists whose fronts have one length are one in parts
same_front : (ps qs xs ys : List ℕ) → length ps ≡ length qs → ps ++ xs ≡ qs ++ ys → ps ≡ qs
same_front [] [] xs ys long same = refl
same_front [] (b ∷ qs) xs ys long same = absurd (omega (arith, long))
same_front (a ∷ ps) [] xs ys long same = absurd (omega (arith, long))
same_front (a ∷ ps) (b ∷ qs) xs ys long same =
    let first : a ≡ b = cc in
    let rest : ps ++ xs ≡ qs ++ ys = cc in
    let more : ps ≡ qs = same_front ps qs xs ys (omega (arith, long)) rest in
    cc

same_rest : (ps qs xs ys : List ℕ) → length ps ≡ length qs → ps ++ xs ≡ qs ++ ys → xs ≡ ys
same_rest [] [] xs ys long same = same
same_rest [] (b ∷ qs) xs ys long same = absurd (omega (arith, long))
same_rest (a ∷ ps) [] xs ys long same = absurd (omega (arith, long))
same_rest (a ∷ ps) (b ∷ qs) xs ys long same =
    let rest : ps ++ xs ≡ qs ++ ys = cc in
    same_rest ps qs xs ys (omega (arith, long)) rest

-- what is left of a number behind so many bytes
abbrev left_of : ℕ → ℕ → ℕ
left_of zero n = n
left_of (suc k) n = left_of k (n / 128)

same_number : (k m n : ℕ) → left_of k m ≡ 0 → left_of k n ≡ 0 → sevens k m ≡ sevens k n → m ≡ n
same_number zero m n none_m none_n same = none_m ∙ sym none_n
same_number (suc k) m n none_m none_n same =
    let first : 128 + m % 128 ≡ 128 + n % 128 = cc in
    let rest : sevens k (m / 128) ≡ sevens k (n / 128) = cc in
    let more : m / 128 ≡ n / 128 = same_number k (m / 128) (n / 128) none_m none_n rest in
    omega (arith, first, more)

same_five : (m n : ℕ) → m < 2 ^ 32 → n < 2 ^ 32 → sevens 5 m ≡ sevens 5 n → m ≡ n
same_five m n few_m few_n same = same_number 5 m n (omega (arith, few_m)) (omega (arith, few_n)) same

same_six : (m n : ℕ) → m < 2 ^ 42 → n < 2 ^ 42 → sevens 6 m ≡ sevens 6 n → m ≡ n
same_six m n few_m few_n same = same_number 6 m n (omega (arith, few_m)) (omega (arith, few_n)) same

same_ten : (m n : ℕ) → m < 2 ^ 64 → n < 2 ^ 64 → sevens 10 m ≡ sevens 10 n → m ≡ n
same_ten m n few_m few_n same = same_number 10 m n (omega (arith, few_m)) (omega (arith, few_n)) same

head_from : ℕ → ℕ → ℕ → ℕ → ℕ → Head
head_from w t c x s = record { workers = w; turn = t; covers = c; text = x; sum = s }

head_is : (h : Head) → head_from h.workers h.turn h.covers h.text h.sum ≡ h
unfolding head_from
head_is h = refl

same_fields : (a b : Head) → a.workers ≡ b.workers → a.turn ≡ b.turn → a.covers ≡ b.covers → a.text ≡ b.text → a.sum ≡ b.sum → a ≡ b
same_fields a b w t c x s =
    let mid : head_from a.workers a.turn a.covers a.text a.sum ≡ head_from b.workers b.turn b.covers b.text b.sum = cc in
    sym (head_is a) ∙ (mid ∙ head_is b)

same_told : (a b : Head) → FitsFront a → FitsFront b → told a ≡ told b → a ≡ b
unfolding told
same_told a b fits_a fits_b same =
    let counts_a = sevens 5 a.workers ++ (sevens 10 a.turn ++ sevens 10 a.covers) in
    let counts_b = sevens 5 b.workers ++ (sevens 10 b.turn ++ sevens 10 b.covers) in
    let text_a = sevens 6 a.text ++ sevens 10 a.sum in
    let text_b = sevens 6 b.text ++ sevens 10 b.sum in
    let named : counts_a ++ text_a ≡ counts_b ++ text_b = same_rest name name (counts_a ++ text_a) (counts_b ++ text_b) refl same in
    let counts : counts_a ≡ counts_b = same_front counts_a counts_b text_a text_b refl named in
    let texts : text_a ≡ text_b = same_rest counts_a counts_b text_a text_b refl named in
    let workers : sevens 5 a.workers ≡ sevens 5 b.workers = same_front (sevens 5 a.workers) (sevens 5 b.workers) (sevens 10 a.turn ++ sevens 10 a.covers) (sevens 10 b.turn ++ sevens 10 b.covers) refl counts in
    let rest : sevens 10 a.turn ++ sevens 10 a.covers ≡ sevens 10 b.turn ++ sevens 10 b.covers = same_rest (sevens 5 a.workers) (sevens 5 b.workers) (sevens 10 a.turn ++ sevens 10 a.covers) (sevens 10 b.turn ++ sevens 10 b.covers) refl counts in
    let turn : sevens 10 a.turn ≡ sevens 10 b.turn = same_front (sevens 10 a.turn) (sevens 10 b.turn) (sevens 10 a.covers) (sevens 10 b.covers) refl rest in
    let covers : sevens 10 a.covers ≡ sevens 10 b.covers = same_rest (sevens 10 a.turn) (sevens 10 b.turn) (sevens 10 a.covers) (sevens 10 b.covers) refl rest in
    let text : sevens 6 a.text ≡ sevens 6 b.text = same_front (sevens 6 a.text) (sevens 6 b.text) (sevens 10 a.sum) (sevens 10 b.sum) refl texts in
    let sum : sevens 10 a.sum ≡ sevens 10 b.sum = same_rest (sevens 6 a.text) (sevens 6 b.text) (sevens 10 a.sum) (sevens 10 b.sum) refl texts in
    same_fields a b (same_five a.workers b.workers fits_a.workers fits_b.workers workers) (same_ten a.turn b.turn fits_a.turn fits_b.turn turn) (same_ten a.covers b.covers fits_a.covers fits_b.covers covers)
    (same_six a.text b.text fits_a.text fits_b.text text) (same_ten a.sum b.sum fits_a.sum fits_b.sum sum)

same_whole : (a b : Head) → FitsFront a → FitsFront b → told_whole a ≡ told_whole b → a ≡ b
unfolding told_whole
same_whole a b fits_a fits_b same =
    same_told a b fits_a fits_b (same_front (told a) (told b) (sevens 7 (digest 0 (told a))) (sevens 7 (digest 0 (told b))) (length-told a ∙ sym (length-told b)) same)

-- two lists of one length that stand at one place are one
same_there : (file : List ℕ) (at : ℕ) (xs ys : List ℕ) → length xs ≡ length ys → Holds file at xs → Holds file at ys → xs ≡ ys
same_there file at xs ys long held_x held_y = same_list xs ys long (λ i low. sym (held_x.each i low) ∙ held_y.each i (omega (arith, low, long)))

same_heads : (file : List ℕ) (a b : Head) → FitsFront a → FitsFront b → Holds file 0 (front_bytes a) → Holds file 0 (front_bytes b) → a ≡ b
same_heads file a b fits_a fits_b held_a held_b =
    let long : length (front_bytes a) ≡ length (front_bytes b) = ap suc (length-told_whole a ∙ sym (length-told_whole b)) in
    let whole : front_bytes a ≡ front_bytes b = same_there file 0 (front_bytes a) (front_bytes b) long held_a held_b in
    let rest : told_whole a ≡ told_whole b = cc in
    same_whole a b fits_a fits_b rest

part_from : Head → List ℕ → List (List ℕ) → Part
part_from head text groups = record { head = head; text = text; groups = groups }

part_is : (p : Part) → part_from p.head p.text p.groups ≡ p
unfolding part_from
part_is p = refl

part_of : (p q : Part) → p.head ≡ q.head → p.text ≡ q.text → p.groups ≡ q.groups → p ≡ q
part_of p q head text groups =
    let mid : part_from p.head p.text p.groups ≡ part_from q.head q.text q.groups = cc in
    sym (part_is p) ∙ (mid ∙ part_is q)

-- a file has one part
pub same_part : (file : List ℕ) (p q : Part) → Has file p → Has file q → p ≡ q
same_part file p q has_p has_q =
    let head : p.head ≡ q.head = same_heads file p.head q.head has_p.fits has_q.fits has_p.front has_q.front in
    let size : p.head.text ≡ q.head.text = ap (λ (h : Head). h.text) head in
    let text : p.text ≡ q.text = same_there file 64 p.text q.text (has_p.long ∙ (size ∙ sym has_q.long)) has_p.text has_q.text in
    let keeps : Keeps file (64 + p.head.text) q.groups = subst (λ (n : ℕ). Keeps file (64 + n) q.groups) (sym size) has_q.keeps in
    part_of p q head text (same_groups file (64 + p.head.text) p.groups q.groups has_p.all has_q.all has_p.keeps keeps)

-- and counts
pub has_length : (file : List ℕ) (part : Part) → Has file part → 64 ≤ length file
has_length file part has = omega (arith, has.front.within, length-told_whole part.head)

pub has_gate : (file : List ℕ) (part : Part) → Has file part → slice_index file 0 ≡ 1
has_gate file part has = has.front.each 0 (omega arith)

pub has_not_shut : (file : List ℕ) (part : Part) → Has file part → IsShut file → ⊥
has_not_shut file part has shut = elim shut [
  | inl short ↦ omega (arith, short, has_length file part has)
  | inr nil ↦ omega (arith, nil, has_gate file part has)
]

pub older_not : (file : List ℕ) (part : Part) (turn : ℕ) → Has file part → IsOlder file turn → part.head.turn < turn
older_not file part turn has older = elim older [
  | inl shut ↦ absurd (has_not_shut file part has shut)
  | inr found ↦
      let same : found.0 ≡ part = same_part file found.0 part found.1 has in
      subst (λ (p : Part). p.head.turn < turn) same found.2
]

-- two files stand for one part
pub same_standing : (workers : ℕ) (one two : List ℕ) (p q : Part) → StandFor workers one two p → StandFor workers one two q → p ≡ q
same_standing workers one two p q (inl a) (inl b) = same_part one p q a.0 b.0
same_standing workers one two p q (inl a) (inr (inl b)) = absurd (omega (arith, older_not one p q.head.turn a.0 b.1, older_not two q p.head.turn b.0 a.1))
same_standing workers one two p q (inl a) (inr (inr b)) = absurd (has_not_shut one p a.0 b.0)
same_standing workers one two p q (inr (inl a)) (inl b) = absurd (omega (arith, older_not two p q.head.turn a.0 b.1, older_not one q p.head.turn b.0 a.1))
same_standing workers one two p q (inr (inl a)) (inr (inl b)) = same_part two p q a.0 b.0
same_standing workers one two p q (inr (inl a)) (inr (inr b)) = absurd (has_not_shut two p a.0 b.1)
same_standing workers one two p q (inr (inr a)) (inl b) = absurd (has_not_shut one q b.0 a.0)
same_standing workers one two p q (inr (inr a)) (inr (inl b)) = absurd (has_not_shut two q b.0 a.1)
same_standing workers one two p q (inr (inr a)) (inr (inr b)) = a.2 ∙ sym b.2

pub stand_turned : (workers : ℕ) (one two : List ℕ) (part : Part) → StandFor workers one two part → StandFor workers two one part
stand_turned workers one two part (inl a) = inr (inl a)
stand_turned workers one two part (inr (inl a)) = inl a
stand_turned workers one two part (inr (inr a)) = inr (inr (a.1, a.0, a.2))

-- bytes below a place stay where nothing below it changes
pub holds_same : (file c : List ℕ) (at place : ℕ) (bytes : List ℕ) → Holds file at bytes → at + length bytes ≤ place → SameBelow place file c → Holds c at bytes
holds_same file c at place bytes held low same =
    let within : at + length bytes ≤ length c = elim (cases_lt 0 (at + length bytes)) [
      | inl some ↦
          let last = same (at + length bytes - 1) (omega (arith, held.within, some)) (omega (arith, low, some)) in
          omega (arith, last.0, some)
      | inr none ↦ omega (arith, none)
    ] in
    record {
      within = within;
      each = λ i less. (same (at + i) (omega (arith, less, held.within)) (omega (arith, less, low))).1 ∙ held.each i less;
    }

-- a file keeps its snapshot where nothing changes but behind it
pub has_same : (file c : List ℕ) (part : Part) (place : ℕ) (groups : List (List ℕ)) → Has file part → 64 + part.head.text ≤ place → SameBelow place file c
    → AllByRecursion IsGroup groups → Keeps c (64 + part.head.text) groups → Has c (record { head = part.head; text = part.text; groups = groups })
has_same file c part place groups has low same all keeps = record {
  front = holds_same file c 0 place (front_bytes part.head) has.front (omega (arith, low, length-told_whole part.head)) same;
  fits = has.fits;
  text = holds_same file c 64 place part.text has.text (omega (arith, low, has.long)) same;
  long = has.long;
  all = all;
  keeps = keeps;
}

-- Staying: what a journal stands for, call by call.
use Rattle.std.proofs.Common.{◌≡◌, ◌⊎◌, ℕ, ◌+◌, ◌≤◌, Bool, true, false, MatchBool, List, [], ◌∷◌, ◌++◌, length, min, refl, ap, sym, ◌∙◌, subst, inl, inr, arith, ◌==◌}
use Rattle.std.specs.Prelude.{Result, Ok, Err, IfOk, OnOk}
use Rattle.std.specs.List.{count_by}
use Rattle.sqlite_disk.specs.Disk.{Only}
use Rattle.line_journal.specs.Groups.{frames, IsGroup, Keeps}
use Rattle.line_journal.specs.Fronts.{IsShut}
use Rattle.line_journal.specs.Halves.{IsHalfOf}
use Rattle.line_journal.specs.Parts.{Part, Has, IsOlder, StandFor, with_group, snapshot_of, next_head, empty_part}
use Rattle.line_journal.specs.Openings.{StandsOn}
use Rattle.line_journal.specs.Resting.{IsAtRest, KeepsBelow}
use Rattle.line_journal.specs.declared.half.Half.{Half}
use Rattle.line_journal.specs.declared.head.Head.{Head}
use Rattle.std.specs.Hash.DefaultHasher as sip
use Rattle.line_journal.proofs.Tearing.{length-frames_last}
use Rattle.line_journal.proofs.Reading.{lines_more}
use Rattle.line_journal.proofs.Keeping.{has_more, has_still}
use Rattle.line_journal.proofs.Unique.{stand_turned}

-- a group is put, or torn
pub append_left : (workers : ℕ) (file e h : List ℕ) (part : Part) (end : ℕ) (g : List ℕ) → Has file part → end ≡ 64 + part.head.text + length (frames part.groups) → KeepsBelow end file e → IsGroup g
    → IsOlder h part.head.turn → Keeps e (64 + part.head.text) part.groups ⊎ Keeps e (64 + part.head.text) (part.groups ++ g ∷ []) → StandFor workers e h part ⊎ StandFor workers e h (with_group part g)
append_left workers file e h part end g has ends below is older (inl keeps) = inl (inl (has_still file e part end has ends below keeps, older))
append_left workers file e h part end g has ends below is older (inr keeps) = inr (inl (has_more file e part end g has ends below is keeps, older))

pub half_more : (last next : Half) (part : Part) (g : List ℕ) (most : ℕ) → IsHalfOf last part → next.head ≡ last.head → next.groups.end ≡ last.groups.end + (13 + length g)
    → next.groups.lines ≡ min (last.groups.lines + count_by (λ byte. byte == 10) g) most → next.groups.end ≤ most → IsHalfOf next (with_group part g)
half_more last next part g most is head end lines fits = record {
  head = head ∙ is.head;
  ends = omega (arith, end, is.ends, length-frames_last part.groups g);
  lines = lines ∙ (ap (λ (n : ℕ). min (n + count_by (λ byte. byte == 10) g) most) is.lines ∙ lines_more part.groups g next.groups.end most (omega (arith, end, is.ends)) fits);
}

module _ {D : Type 0} (seen : D → List ℕ) (may_leave : D → List ℕ → Type 0) where
  -- a crash between two calls
  pub stands_left : (workers : ℕ) (current other : D) (last : Half) (limit : ℕ) (part : Part) → StandsOn seen may_leave current other last limit part
      → (e h : List ℕ) → may_leave current e → may_leave other h → StandFor workers e h part
  stands_left workers current other last limit part stands e h left right = inl (subst (λ (f : List ℕ). Has f part) (sym (stands.rest.durable e left)) stands.has, stands.older h right)

  pub stands_older : (workers : ℕ) (current other : D) (last : Half) (limit : ℕ) (part : Part) → StandsOn seen may_leave current other last limit part
      → (e h : List ℕ) → may_leave current e → IsOlder h part.head.turn → StandFor workers e h part
  stands_older workers current other last limit part stands e h left older = inl (subst (λ (f : List ℕ). Has f part) (sym (stands.rest.durable e left)) stands.has, older)

  -- the last file is repaired
  pub repaired : (current other : D) (last : Half) (part : Part) → Has (seen current) part × IsAtRest seen may_leave current (64 + part.head.text) part.groups last.groups.end (last.groups.end + 131072) → IsHalfOf last part
      → IsOlder (seen other) part.head.turn → Only (seen other) (may_leave other) → StandsOn seen may_leave current other last (last.groups.end + 131072) part
  repaired current other last part is tells older only = record {
    has = is.0;
    half = tells;
    rest = is.1;
    older = λ e left. subst (λ (f : List ℕ). IsOlder f part.head.turn) (sym (only e left)) older;
  }

  -- the first file is a new one
  pub new_stands : (current second : D) (half : Half) (head : Head) (workers : ℕ) → head ≡ (empty_part workers).head → (half.head ≡ head) × (half.groups.end ≡ 64 + head.text) × (half.groups.lines ≡ 0)
      → Has (seen current) (snapshot_of head []) × IsAtRest seen may_leave current (64 + head.text) [] (64 + head.text) (64 + head.text + 131072) → IsShut (seen second) → Only (seen second) (may_leave second)
      → StandsOn seen may_leave current second half (half.groups.end + 131072) (empty_part workers)
  new_stands current second half head workers is tells rests shut only =
      let made : StandsOn seen may_leave current second half (half.groups.end + 131072) (snapshot_of head []) = record {
        has = rests.0;
        half = record { head = tells.0; ends = omega (arith, tells.1); lines = tells.2 };
        rest = subst (λ (e : ℕ). IsAtRest seen may_leave current (64 + head.text) [] e (e + 131072)) (sym tells.1) rests.1;
        older = λ e left. inl (subst IsShut (sym (only e left)) shut);
      } in
      subst (λ (h : Head). StandsOn seen may_leave current second half (half.groups.end + 131072) (snapshot_of h [])) is made

  pub of_stands : (x y a b : D) (l m : Half) (j k : ℕ) (part : Part) → a ≡ x → b ≡ y → m ≡ l → k ≡ j → StandsOn seen may_leave x y l j part → StandsOn seen may_leave a b m k part
  of_stands x y a b l m j k part same_x same_y same_l same_j stands =
      subst (λ (z : D). StandsOn seen may_leave z b m k part) (sym same_x)
      (subst (λ (z : D). StandsOn seen may_leave x z m k part) (sym same_y)
      (subst (λ (z : Half). StandsOn seen may_leave x y z k part) (sym same_l)
      (subst (λ (z : ℕ). StandsOn seen may_leave x y l z part) (sym same_j) stands)))

  -- a snapshot is ended
  pub ended_stands : (current other new : D) (last half : Half) (limit : ℕ) (head : Head) (part : Part) (text : List ℕ) → StandsOn seen may_leave current other last limit part → head ≡ next_head part text
      → (half.head ≡ head) × (half.groups.end ≡ 64 + head.text) × (half.groups.lines ≡ 0)
      → Has (seen new) (snapshot_of head text) × IsAtRest seen may_leave new (64 + head.text) [] (64 + head.text) (64 + head.text + 131072)
      → StandsOn seen may_leave new current half (half.groups.end + 131072) (snapshot_of (next_head part text) text)
  ended_stands current other new last half limit head part text stands is tells rests =
      let turn : head.turn ≡ part.head.turn + 1 = ap (λ (h : Head). h.turn) is in
      let made : StandsOn seen may_leave new current half (half.groups.end + 131072) (snapshot_of head text) = record {
        has = rests.0;
        half = record { head = tells.0; ends = omega (arith, tells.1); lines = tells.2 };
        rest = subst (λ (e : ℕ). IsAtRest seen may_leave new (64 + head.text) [] e (e + 131072)) (sym tells.1) rests.1;
        older = λ e left. inr (part, subst (λ (f : List ℕ). Has f part) (sym (stands.rest.durable e left)) stands.has, omega (arith, turn));
      } in
      subst (λ (h : Head). StandsOn seen may_leave new current half (half.groups.end + 131072) (snapshot_of h text)) is made

  pub ended_left : (workers : ℕ) (current other : D) (last : Half) (limit : ℕ) (head : Head) (part : Part) (text : List ℕ) → StandsOn seen may_leave current other last limit part → head ≡ next_head part text
      → (e h : List ℕ) → may_leave current e → IsShut h ⊎ Has h (snapshot_of head text) → StandFor workers e h part ⊎ StandFor workers e h (snapshot_of (next_head part text) text)
  ended_left workers current other last limit head part text stands is e h left (inl shut) = inl (stands_older workers current other last limit part stands e h left (inl shut))
  ended_left workers current other last limit head part text stands is e h left (inr has) =
      let turn : head.turn ≡ part.head.turn + 1 = ap (λ (h : Head). h.turn) is in
      let made : StandFor workers e h (snapshot_of head text) = inr (inl (has, inr (part, subst (λ (f : List ℕ). Has f part) (sym (stands.rest.durable e left)) stands.has, omega (arith, turn)))) in
      inr (subst (λ (k : Head). StandFor workers e h (snapshot_of k text)) is made)

-- the head of a journal with no line
abbrev pub snapshot_head : ℕ → ℕ → Head
snapshot_head workers sum = record { workers = workers; turn = 1; covers = 0; text = 0; sum = sum }

pub new_left : (workers : ℕ) (head : Head) (e d : List ℕ) → head ≡ (empty_part workers).head → IsShut d → IsShut e ⊎ Has e (snapshot_of head []) → StandFor workers e d (empty_part workers)
new_left workers head e d is shut (inl gone) = inr (inr (gone, shut, refl))
new_left workers head e d is shut (inr has) = inl (subst (λ (h : Head). Has e (snapshot_of h [])) is has, inl shut)

pub none_left : (workers : ℕ) (e d : List ℕ) → IsOlder e 0 → IsShut d → StandFor workers e d (empty_part workers)
none_left workers e d (inl gone) shut = inr (inr (gone, shut, refl))
none_left workers e d (inr found) shut = absurd (omega (arith, found.2))

pub new_head : (workers sum : ℕ) → sum ≡ sip.finish sip.initial → snapshot_head workers sum ≡ (empty_part workers).head
new_head workers sum is = ap (λ (n : ℕ). snapshot_head workers n) is

pub at_true : (s : Bool) (A B : Type 0) → s ≡ true → MatchBool s A B → A
at_true s A B is x = subst (λ (b : Bool). MatchBool b A B) is x

pub at_false : (s : Bool) (A B : Type 0) → s ≡ false → MatchBool s A B → B
at_false s A B is x = subst (λ (b : Bool). MatchBool b A B) is x

pub to_true : (s : Bool) (A B : Type 0) → s ≡ true → A → MatchBool s A B
to_true s A B is x = subst (λ (b : Bool). MatchBool b A B) (sym is) x

pub to_false : (s : Bool) (A B : Type 0) → s ≡ false → B → MatchBool s A B
to_false s A B is x = subst (λ (b : Bool). MatchBool b A B) (sym is) x

pub if_ok_all : {T E : Type 0} (r : Result T E) (P R : T → Type 0) → IfOk r P → ((x : T) → P x → R x) → IfOk r R
if_ok_all (Ok x) P R p f = f x p
if_ok_all (Err e) P R p f = tt

pub if_ok_map : {T E : Type 0} (r : Result T E) (P : T → Type 0) (Q : Type 0) (R : T → Type 0) → IfOk r P → OnOk r Q → ((x : T) → P x → Q → R x) → IfOk r R
if_ok_map (Ok x) P Q R p q f = f x p q
if_ok_map (Err e) P Q R p q f = tt

pub either_turned : (workers : ℕ) (one two : List ℕ) (p q : Part) → StandFor workers one two p ⊎ StandFor workers one two q → StandFor workers two one p ⊎ StandFor workers two one q
either_turned workers one two p q (inl a) = inl (stand_turned workers one two p a)
either_turned workers one two p q (inr a) = inr (stand_turned workers one two q a)

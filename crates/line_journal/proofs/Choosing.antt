-- Choosing: which of two files is the last one.
use Rattle.std.proofs.Common.{◌≡◌, ℕ, ◌<◌, Bool, true, false, MatchBool, Option, None, Some, List, ap, sym, ◌∙◌, subst, inl, inr}
use Rattle.sqlite_disk.specs.Disk.{Only}
use Rattle.line_journal.specs.Fronts.{IsShut}
use Rattle.line_journal.specs.Halves.{IsHalfOf, IsReadAs}
use Rattle.line_journal.specs.Openings.{IsChosen, IsLastIn, IsLastOf}
use Rattle.line_journal.specs.Parts.{Part, Has, IsOlder, StandFor, empty_part}
use Rattle.line_journal.specs.declared.half.Half.{Half}
use Rattle.line_journal.specs.declared.parts.Parts.{Parts}
use Rattle.line_journal.proofs.Unique.{same_standing, stand_turned, has_not_shut}

last_is : (workers : ℕ) (file other : List ℕ) (half last : Half) (part q : Part) → last ≡ half → Has file q → IsHalfOf half q → IsOlder other q.head.turn → StandFor workers file other part → IsLastIn file other last part
last_is workers file other half last part q is has half_of older stand =
    let same : q ≡ part = same_standing workers file other q part (inl (has, older)) stand in
    subst (λ (p : Part). IsLastIn file other last p) same (record { has = has; tells = subst (λ (h : Half). IsHalfOf h q) (sym is) half_of; older = older })

both_read : (workers : ℕ) (a b : List ℕ) (x y last : Half) (part : Part) (s : Bool) → IsReadAs a (Some x) → IsReadAs b (Some y)
    → MatchBool s ((last ≡ y) × (x.head.turn < y.head.turn)) ((last ≡ x) × (y.head.turn < x.head.turn)) → StandFor workers a b part
    → MatchBool s (IsLastIn b a last part) (IsLastIn a b last part)
both_read workers a b x y last part true read_a read_b chosen stand =
    last_is workers b a y last part read_b.0 chosen.0 read_b.1 read_b.2
    (inr (read_a.0, read_a.1, subst (λ (n : ℕ). n < read_b.0.head.turn) (ap (λ h. h.turn) read_a.2.head) (subst (λ (n : ℕ). x.head.turn < n) (ap (λ h. h.turn) read_b.2.head) chosen.1))) (stand_turned workers a b part stand)
both_read workers a b x y last part false read_a read_b chosen stand =
    last_is workers a b x last part read_a.0 chosen.0 read_a.1 read_a.2
    (inr (read_b.0, read_b.1, subst (λ (n : ℕ). n < read_a.0.head.turn) (ap (λ h. h.turn) read_b.2.head) (subst (λ (n : ℕ). y.head.turn < n) (ap (λ h. h.turn) read_a.2.head) chosen.1))) stand

-- what is chosen is what the files stand for
pub chosen_last : (workers : ℕ) (a b : List ℕ) (one two : Option Half) (parts : Parts) (part : Part) → IsReadAs a one → IsReadAs b two → IsChosen one two (Some parts) → StandFor workers a b part → IsLastOf a b parts part
chosen_last workers a b None None parts part read_a read_b chosen stand = absurd chosen
chosen_last workers a b (Some x) None parts part read_a read_b chosen stand =
    subst (λ (s : Bool). MatchBool s (IsLastIn b a parts.last part) (IsLastIn a b parts.last part)) (sym chosen.1) (last_is workers a b x parts.last part read_a.0 chosen.0 read_a.1 read_a.2 (inl read_b) stand)
chosen_last workers a b None (Some y) parts part read_a read_b chosen stand =
    subst (λ (s : Bool). MatchBool s (IsLastIn b a parts.last part) (IsLastIn a b parts.last part)) (sym chosen.1) (last_is workers b a y parts.last part read_b.0 chosen.0 read_b.1 read_b.2 (inl read_a) (stand_turned workers a b part stand))
chosen_last workers a b (Some x) (Some y) parts part read_a read_b chosen stand = both_read workers a b x y parts.last part parts.is_second read_a read_b chosen stand

-- where nothing is, both are shut
pub none_chosen : (a b : List ℕ) (one two : Option Half) → IsReadAs a one → IsReadAs b two → IsChosen one two None → IsShut a × IsShut b
none_chosen a b None None read_a read_b chosen = (read_a, read_b)
none_chosen a b (Some x) None read_a read_b chosen = absurd chosen
none_chosen a b None (Some y) read_a read_b chosen = absurd chosen
none_chosen a b (Some x) (Some y) read_a read_b chosen = absurd chosen

pub none_stand : (workers : ℕ) (a b : List ℕ) (part : Part) → IsShut a × IsShut b → StandFor workers a b part → part ≡ empty_part workers
none_stand workers a b part shut (inl has) = absurd (has_not_shut a part has.0 shut.0)
none_stand workers a b part shut (inr (inl has)) = absurd (has_not_shut b part has.0 shut.1)
none_stand workers a b part shut (inr (inr new)) = new.2

-- who only reads changes nothing
pub stand_left : (workers : ℕ) (one two c d : List ℕ) (part : Part) → c ≡ one → d ≡ two → StandFor workers one two part → StandFor workers c d part
stand_left workers one two c d part same_c same_d stand = subst (λ (f : List ℕ). StandFor workers f d part) (sym same_c) (subst (λ (f : List ℕ). StandFor workers one f part) (sym same_d) stand)

module _ {D : Type 0} (seen : D → List ℕ) (may_leave : D → List ℕ → Type 0) where
  pub only_read : (old new : D) → seen new ≡ seen old → ((c : List ℕ) → may_leave new c → may_leave old c) → Only (seen old) (may_leave old) → Only (seen new) (may_leave new)
  only_read old new same leaves only c left = only c (leaves c left) ∙ sym same

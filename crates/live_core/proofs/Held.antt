-- The numbers in the slots, once a table has changed.
use Rattle.std.proofs.Common.{◌≡◌, ℕ, ◌+◌, ◌<◌, zero, suc, List, [], ◌∷◌, ◌++◌, length, Option, Some, None, refl, sym, ap, ◌∙◌, arith}
use Rattle.std.specs.Prelude.{map, replicate, slice_set, is_some}
use Rattle.queue_code.specs.Calls.{how_many}
use Rattle.std.specs.Option.{option_map}
use Rattle.std.proofs.lemmas.Option.{none-some}
use Rattle.task_table.specs.declared.seat.Seat.{Seat}
use Rattle.task_table.specs.Seats.{slot_of, IsNew}
use Rattle.live_core.specs.Said.{tasks_in}
use Rattle.live_core.specs.Empties.{held_numbers, number_in}

abbrev number_of : Option Seat → Option ℕ
number_of o = option_map (λ (x : Seat). x.number) o

-- the number in a slot is that of what it holds
pub number_at : (slots : List (Option Seat)) (i : ℕ) → number_in (held_numbers slots) i ≡ number_of (slot_of slots i)
number_at [] i = refl
number_at (o ∷ slots) zero = refl
number_at (o ∷ slots) (suc i) = number_at slots i

pub number_there : (slots : List (Option Seat)) (i : ℕ) (x : Seat) → slot_of slots i ≡ Some x → number_in (held_numbers slots) i ≡ Some x.number
number_there slots i x is = number_at slots i ∙ ap number_of is

-- a slot whose number is none is empty
pub none_there : (slots : List (Option Seat)) (i : ℕ) → number_in (held_numbers slots) i ≡ None → slot_of slots i ≡ None
none_there slots i is = by (slot_of slots i) (sym (number_at slots i) ∙ is)
  where
    by : (o : Option Seat) → number_of o ≡ None → o ≡ None
    by None q = refl
    by (Some x) q = absurd (none-some x.number (sym q))

pub held_length : (slots : List (Option Seat)) → length (held_numbers slots) ≡ length slots
held_length [] = refl
held_length (o ∷ slots) = let rest = held_length slots in omega (arith, rest)

-- a number that no slot has is new
pub new_number : (slots : List (Option Seat)) (number : ℕ) → ((slot : ℕ) → number_in (held_numbers slots) slot ≡ Some number → ⊥) → IsNew slots number
new_number slots number none i x is same = none i (number_there slots i x is ∙ ap Some same)

-- ---- a slot is written

pub held_set : (slots : List (Option Seat)) (slot : ℕ) (o : Option Seat) → held_numbers (slice_set slots slot o) ≡ slice_set (held_numbers slots) slot (number_of o)
held_set [] slot o = refl
held_set (p ∷ slots) zero o = refl
held_set (p ∷ slots) (suc slot) o = ap (λ rest. number_of p ∷ rest) (held_set slots slot o)

-- a task in a slot becomes another one of its number
pub held_put : (slots : List (Option Seat)) (slot : ℕ) (x y : Seat) → slot_of slots slot ≡ Some x → y.number ≡ x.number → held_numbers (slice_set slots slot (Some y)) ≡ held_numbers slots
held_put [] slot x y is same = refl
held_put (o ∷ slots) zero x y is same = ap (λ p. p ∷ held_numbers slots) (ap Some same ∙ sym (ap number_of is))
held_put (o ∷ slots) (suc slot) x y is same = ap (λ rest. number_of o ∷ rest) (held_put slots slot x y is same)

-- ---- all of them change, or there are more

-- what leaves each task its number leaves the numbers
pub held_mapped : (f : Seat → Seat) (slots : List (Option Seat)) → ((x : Seat) → (f x).number ≡ x.number) → held_numbers (map (option_map f) slots) ≡ held_numbers slots
held_mapped f [] keeps = refl
held_mapped f (None ∷ slots) keeps = ap (λ rest. None ∷ rest) (held_mapped f slots keeps)
held_mapped f (Some x ∷ slots) keeps = λ i. Some (keeps x i) ∷ held_mapped f slots keeps i

pub held_grown : (slots : List (Option Seat)) (n : ℕ) → held_numbers (slots ++ replicate n None) ≡ held_numbers slots ++ replicate n None
held_grown [] n = nones n
  where
    nones : (n : ℕ) → held_numbers (replicate n None) ≡ replicate n None
    nones zero = refl
    nones (suc n) = ap (λ rest. None ∷ rest) (nones n)
held_grown (o ∷ slots) n = ap (λ rest. number_of o ∷ rest) (held_grown slots n)

-- as many numbers as tasks
pub held_count : (slots : List (Option Seat)) → how_many is_some (held_numbers slots) ≡ how_many is_some slots
held_count [] = refl
held_count (None ∷ slots) = held_count slots
held_count (Some x ∷ slots) = ap (λ (n : ℕ). 1 + n) (held_count slots)

-- one task more, where a task comes into an empty slot
pub tasks_put : (slots : List (Option Seat)) (slot : ℕ) (x : Seat) → slot < length slots → slot_of slots slot ≡ None → tasks_in (slice_set slots slot (Some x)) ≡ tasks_in slots + 1
tasks_put [] slot x low empty = absurd (omega (arith, low))
tasks_put (None ∷ slots) zero x low empty = omega arith
tasks_put (Some y ∷ slots) zero x low empty = absurd (none-some y (sym empty))
tasks_put (None ∷ slots) (suc slot) x low empty = tasks_put slots slot x (omega (arith, low)) empty
tasks_put (Some y ∷ slots) (suc slot) x low empty = let rest = tasks_put slots slot x (omega (arith, low)) empty in omega (arith, rest)

-- none more, where there are more slots
pub tasks_grown : (slots : List (Option Seat)) (n : ℕ) → tasks_in (slots ++ replicate n None) ≡ tasks_in slots
tasks_grown [] n = nones n
  where
    nones : (n : ℕ) → tasks_in (replicate n None) ≡ 0
    nones zero = refl
    nones (suc n) = nones n
tasks_grown (None ∷ slots) n = tasks_grown slots n
tasks_grown (Some x ∷ slots) n = ap (λ (k : ℕ). 1 + k) (tasks_grown slots n)

-- Each table that is well formed shows a state.
use Rattle.std.proofs.Common.{◌≡◌, ℕ, zero, suc, ◌==◌, Bool, true, false, cond, List, [], ◌∷◌, Option, Some, None, refl, sym, ap, ◌∙◌, arith, subst}
use Rattle.std.specs.Prelude.{slice_index_or}
use Rattle.std.specs.Option.{option_map}
use Rattle.std.proofs.lemmas.Bool.{false≢true, eqb-true, eq-eqb}
use Rattle.std.proofs.lemmas.Option.{none-some, same_Some}
use Rattle.executor_model.specs.declared.task.Task.{Task}
use Rattle.executor_model.specs.State.{State, vacant}
use Rattle.task_table.specs.declared.seat.Seat.{Seat}
use Rattle.task_table.specs.Seats.{task_in, slot_of, is_alive}
use Rattle.task_table.specs.Tables.{TableView, WorkIs, Shows}
use Rattle.task_table.specs.Formed.{IsFormed}
use Rattle.task_table.proofs.Written.{AreApart, Holds, Knows}

-- the task of a number, by the slots
task_of : List (Option Seat) → ℕ → Task
task_of [] k = vacant
task_of (None ∷ slots) k = task_of slots k
task_of (Some x ∷ slots) k = cond (x.number == k) (task_in x) (task_of slots k)

tail_apart : (o : Option Seat) (slots : List (Option Seat)) → AreApart (o ∷ slots) → AreApart slots
tail_apart o slots apart i j x y p q e = omega (arith, apart (suc i) (suc j) x y p q e)

task_held : (slots : List (Option Seat)) → AreApart slots → Holds slots (task_of slots)
unfolding task_of
task_held [] apart i x q = absurd (none-some x q)
task_held (None ∷ slots) apart zero x q = absurd (none-some x q)
task_held (None ∷ slots) apart (suc i) x q = task_held slots (tail_apart None slots apart) i x q
task_held (Some y ∷ slots) apart zero x q = subst (λ (z : Seat). task_of (Some y ∷ slots) z.number ≡ task_in z) (same_Some y x q) (ap (λ b. cond b (task_in y) (task_of slots y.number)) (eq-eqb y.number y.number refl))
task_held (Some y ∷ slots) apart (suc i) x q = by (y.number == x.number) refl (task_held slots (tail_apart (Some y) slots apart) i x q)
  where
    by : (b : Bool) → (y.number == x.number) ≡ b → task_of slots x.number ≡ task_in x → cond (y.number == x.number) (task_in y) (task_of slots x.number) ≡ task_in x
    by true e rest = absurd (omega (arith, apart 0 (suc i) y x refl q (eqb-true y.number x.number e)))
    by false e rest = ap (λ b. cond b (task_in y) (task_of slots x.number)) e ∙ rest

task_known : (slots : List (Option Seat)) → Knows slots (task_of slots)
unfolding task_of
task_known [] k q = absurd (false≢true q)
task_known (None ∷ slots) k q = let h = task_known slots k q in (suc h.0, h.1, h.2, h.3)
task_known (Some y ∷ slots) k q = by (y.number == k) refl (task_known slots k)
  where
    by : (b : Bool) → (y.number == k) ≡ b → (is_alive (task_of slots k) ≡ true → (i : ℕ) × (x : Seat) × (slot_of slots i ≡ Some x) × (x.number ≡ k)) → (i : ℕ) × (x : Seat) × (slot_of (Some y ∷ slots) i ≡ Some x) × (x.number ≡ k)
    by true e rest = (0, y, refl, eqb-true y.number k e)
    by false e rest = let h = rest (sym (ap (λ b. is_alive (cond b (task_in y) (task_of slots k))) e) ∙ q) in (suc h.0, h.1, h.2, h.3)

number_at : List (Option Seat) → Option ℕ → Option ℕ
number_at slots None = None
number_at slots (Some i) = option_map (λ (x : Seat). x.number) (slot_of slots i)

work_known : (slots : List (Option Seat)) (o : Option ℕ) → ((i : ℕ) → o ≡ Some i → (x : Seat) × (slot_of slots i ≡ Some x)) → WorkIs slots o (number_at slots o)
unfolding number_at
work_known slots None there = refl
work_known slots (Some i) there = let h = there i refl in (h.0, h.1, ap (option_map (λ (x : Seat). x.number)) h.1)

pub shown : (m : TableView) → IsFormed m → (s : State) × Shows m s
shown m f = (
  record {
    made = 0;
    moment = m.moment;
    tasks = task_of m.slots;
    workers = λ w. number_at m.slots (slice_index_or m.work w None);
    policies = m.policies;
    shut = m.shut;
    stopped = m.stopped;
  },
  record {
    moment = refl;
    policies = refl;
    shut = refl;
    stopped = refl;
    held = task_held m.slots f.apart;
    known = task_known m.slots;
    work = λ w. work_known m.slots (slice_index_or m.work w None) (λ i q. (let at = f.staffed w i q in (at.0, at.1)));
  },
)

-- What stands in the slots of a core once one of them is written, or some tasks are kept no more, or are swept.
use Rattle.std.proofs.Common.{zero, suc, ◌≡◌, ℕ, ◌+◌, ◌<◌, ◌≤◌, ◌==◌, ◌&&◌, Bool, true, false, cond, inl, inr, List, [], ◌∷◌, length, map, Option, Some, None, refl, sym, ap, ◌∙◌, arith, subst}
use Rattle.std.specs.Prelude.{slice_index_or, not}
use Rattle.std.specs.Option.{option_map}
use Rattle.std.proofs.Math.ListN.{set}
use Rattle.std.proofs.lemmas.Option.{none-some, same_Some}
use Rattle.std.proofs.lemmas.List.{length-map}
use Rattle.queue_code.specs.Calls.{Planned}
use Rattle.executor_model.specs.declared.task.Stage.TheVariants as ph
use Rattle.executor_model.specs.declared.task.Task.{Task}
use Rattle.executor_model.specs.State.{vacant}
use Rattle.executor_model.specs.Tasks.{uncancelled_in}
use Rattle.executor_model.specs.own.Soundness.{NoneDelayed}
use Rattle.executor_model.proofs.Tables.{uncancelled_set}
use Rattle.task_table.specs.declared.seat.Seat.{Seat}
use Rattle.task_table.specs.Seats.{task_in, slot_of, waits, is_waiting_in}
use Rattle.task_table.specs.Tables.{TableView}
use Rattle.task_table.specs.Changes.{swept, after_sweep}
use Rattle.task_table.proofs.Written.{by_eqb, set_writes, read_slot}
use Rattle.task_table.proofs.Firsts.{waits_is}
use Rattle.executor_core.specs.plan_table.Numbered.{task_at, tasks_at}
use Rattle.executor_core.specs.CoreView.{state_of}
use Rattle.executor_core.specs.own.Invariants.{core_of, IsPlaced, ArePlaced}
use Rattle.executor_core.specs.own.OwnSteps.{IsUnkept, AreUnkept, NoneWaitsDelayed}
use Rattle.executor_core.proofs.Reaching.{read_task, count_tasks}

-- ---- one slot

-- one slot holds another task
pub put_placed : (taken : ℕ) (slots : List (Option Seat)) (slot : ℕ) (y : Seat) → slot < length slots → ArePlaced taken slots → IsPlaced taken slot y → ArePlaced taken (set slots slot (Some y))
put_placed taken slots slot y low placed here i x q = elim (read_slot slots (set slots slot (Some y)) slot i y x (set_writes slots slot y low) q) [
  | inl own ↦ subst (λ n. IsPlaced taken n x) own.0 (subst (IsPlaced taken slot) own.1 here)
  | inr left ↦ placed i x left.1
]

-- a slot that is empty then was so before, and is another one
pub put_empty : (slots : List (Option Seat)) (slot i : ℕ) (y : Seat) → slot < length slots → slot_of (set slots slot (Some y)) i ≡ None → ((slot == i) ≡ false) × (slot_of slots i ≡ None)
put_empty slots slot i y low q =
    let writes = set_writes slots slot y low in
    by_eqb slot i (λ same. absurd (none-some y (sym q ∙ (ap (slot_of (set slots slot (Some y))) (sym same) ∙ writes.here)))) (λ apart. (apart, sym (writes.other i apart) ∙ q))

-- the tasks of the slots once one holds this
pub put_tasks : (slots : List (Option Seat)) (slot : ℕ) (o : Option Seat) → tasks_at (set slots slot o) ≡ set (tasks_at slots) slot (task_at o)
put_tasks [] slot o = refl
put_tasks (x ∷ slots) zero o = refl
put_tasks (x ∷ slots) (suc slot) o = ap (λ l. task_at x ∷ l) (put_tasks slots slot o)

-- no more tasks are not cancelled, where that of the slot stays cancelled
pub put_uncancelled : (slots : List (Option Seat)) (slot : ℕ) (y : Seat) → slot < length slots → (y.cancelled ≡ false → (task_at (slot_of slots slot)).cancelled ≡ false) → uncancelled_in (tasks_at (set slots slot (Some y))) ≤ uncancelled_in (tasks_at slots)
put_uncancelled slots slot y low stays =
    let less = uncancelled_set (tasks_at slots) slot (task_in y) (omega (arith, low, count_tasks slots)) (λ q. ap (λ (t : Task). t.cancelled) (read_task slots slot) ∙ stays q) in
    omega (arith, less, ap uncancelled_in (put_tasks slots slot (Some y)))

-- one task fewer is not cancelled, where that of the slot is from now on
pub put_fewer : (slots : List (Option Seat)) (slot : ℕ) (x y : Seat) → slot_of slots slot ≡ Some x → x.cancelled ≡ false → y.cancelled ≡ true → uncancelled_in (tasks_at (set slots slot (Some y))) + 1 ≡ uncancelled_in (tasks_at slots)
put_fewer [] slot x y there live gone = absurd (none-some x there)
put_fewer (o ∷ slots) zero x y there live gone =
    let before : (task_at o).cancelled ≡ false = ap (λ o. (task_at o).cancelled) there ∙ live in
    let count : Bool → ℕ → ℕ = λ b n. cond (not b) (1 + n) n in
    let rest = uncancelled_in (tasks_at slots) in
    let new : count y.cancelled rest ≡ rest = ap (λ b. count b rest) gone in
    let old : count (task_at o).cancelled rest ≡ 1 + rest = ap (λ b. count b rest) before in
    omega (arith, new, old)
put_fewer (o ∷ slots) (suc slot) x y there live gone =
    let rest = put_fewer slots slot x y there live gone in
    let left = uncancelled_in (tasks_at (set slots slot (Some y))) in
    let all = uncancelled_in (tasks_at slots) in
    let pick : (b : Bool) → cond b (1 + left) left + 1 ≡ cond b (1 + all) all = elim [ true ↦ omega (arith, rest) | false ↦ rest ] in
    pick (not (task_at o).cancelled)

-- ---- tasks that are kept no more

unkept_is : (old new : Option Seat) (y : Seat) → IsUnkept old new → new ≡ Some y → (x : Seat) × (kept : Bool) × (old ≡ Some x) × (y ≡ record x { kept = kept })
unkept_is None new y is q = absurd (none-some y (sym is ∙ q))
unkept_is (Some x) new y is q = (x, is.0, refl, same_Some y (record x { kept = is.0 }) (sym q ∙ is.1))

unkept_none : (old new : Option Seat) → IsUnkept old new → new ≡ None → old ≡ None
unkept_none None new is q = refl
unkept_none (Some x) new is q = absurd (none-some (record x { kept = is.0 }) (sym q ∙ is.1))

-- a task that stands in a slot stood there
pub unkept_seat : (t u : TableView) (i : ℕ) (y : Seat) → AreUnkept t u → slot_of u.slots i ≡ Some y → (x : Seat) × (kept : Bool) × (slot_of t.slots i ≡ Some x) × (y ≡ record x { kept = kept })
unkept_seat t u i y are q = unkept_is (slot_of t.slots i) (slot_of u.slots i) y (are.each i) q

-- each stands where it stood
pub unkept_placed : (taken : ℕ) (t u : TableView) → AreUnkept t u → ArePlaced taken t.slots → ArePlaced taken u.slots
unkept_placed taken t u are placed i y q =
    let e = unkept_is (slot_of t.slots i) (slot_of u.slots i) y (are.each i) q in
    let here = placed i e.0 e.2 in
    subst (IsPlaced taken i) (sym e.3) (record { named = here.named; submitted = here.submitted; below = here.below; begun = here.begun })

-- an empty slot was empty
pub unkept_empty : (t u : TableView) (i : ℕ) → AreUnkept t u → slot_of u.slots i ≡ None → slot_of t.slots i ≡ None
unkept_empty t u i are q = unkept_none (slot_of t.slots i) (slot_of u.slots i) (are.each i) q

-- as many are not cancelled
unkept_counts : (old new : List (Option Seat)) → length new ≡ length old → ((i : ℕ) → IsUnkept (slot_of old i) (slot_of new i)) → uncancelled_in (tasks_at new) ≡ uncancelled_in (tasks_at old)
unkept_counts [] [] e each = refl
unkept_counts [] (y ∷ new) e each = absurd (omega (arith, e))
unkept_counts (x ∷ old) [] e each = absurd (omega (arith, e))
unkept_counts (x ∷ old) (y ∷ new) e each =
    let rest = unkept_counts old new (omega (arith, e)) (λ i. each (suc i)) in
    let same : (task_at y).cancelled ≡ (task_at x).cancelled = by x y (each 0) in
    λ i. cond (not (same i)) (1 + rest i) (rest i)
  where
    by : (a b : Option Seat) → IsUnkept a b → (task_at b).cancelled ≡ (task_at a).cancelled
    by None b is = ap (λ o. (task_at o).cancelled) is
    by (Some z) b is = ap (λ o. (task_at o).cancelled) is.1

pub unkept_uncancelled : (t u : TableView) → AreUnkept t u → uncancelled_in (tasks_at u.slots) ≡ uncancelled_in (tasks_at t.slots)
unkept_uncancelled t u are = unkept_counts t.slots u.slots are.count are.each

-- ---- tasks that are swept

-- what a slot holds of slots that all became something else
pub mapped_slot : (f : Seat → Seat) (slots : List (Option Seat)) (i : ℕ) → slot_of (map (option_map f) slots) i ≡ option_map f (slot_of slots i)
mapped_slot f [] i = refl
mapped_slot f (o ∷ slots) zero = refl
mapped_slot f (o ∷ slots) (suc i) = mapped_slot f slots i

pub mapped_is : (f : Seat → Seat) (o : Option Seat) (y : Seat) → option_map f o ≡ Some y → (x : Seat) × (o ≡ Some x) × (y ≡ f x)
mapped_is f None y q = absurd (none-some y q)
mapped_is f (Some x) y q = (x, refl, same_Some y (f x) (sym q))

mapped_none : (f : Seat → Seat) (o : Option Seat) → option_map f o ≡ None → o ≡ None
mapped_none f None q = refl
mapped_none f (Some x) q = absurd (none-some (f x) (sym q))

-- each stands where it stood
pub swept_placed : (taken : ℕ) (t : TableView) → ArePlaced taken t.slots → ArePlaced taken (after_sweep t).slots
swept_placed taken t placed i y q =
    let f : Seat → Seat = λ x. swept t.stopped t.policies t.moment x in
    let e = mapped_is f (slot_of t.slots i) y (sym (mapped_slot f t.slots i) ∙ q) in
    let here = placed i e.0 e.1 in
    subst (IsPlaced taken i) (sym e.2) (record { named = here.named; submitted = here.submitted; below = here.below; begun = here.begun })

-- an empty slot was empty
pub swept_empty : (t : TableView) (i : ℕ) → slot_of (after_sweep t).slots i ≡ None → slot_of t.slots i ≡ None
swept_empty t i q = let f : Seat → Seat = λ x. swept t.stopped t.policies t.moment x in mapped_none f (slot_of t.slots i) (sym (mapped_slot f t.slots i) ∙ q)

-- there are as many slots
pub swept_count : (t : TableView) → length (after_sweep t).slots ≡ length t.slots
swept_count t = length-map t.slots (option_map (λ x. swept t.stopped t.policies t.moment x))

-- ---- delayed tasks

waits_so : (x : Seat) → x.phase ≡ ph.Waiting → x.cancelled ≡ false → waits (task_in x) ≡ true
waits_so x phase live = λ i. is_waiting_in (phase i) && not (live i)

-- none waits in the state of a core where none does in its table
pub none_delayed_there : (calls : List Planned) (limit taken count : ℕ) (u : TableView) → NoneWaitsDelayed u → NoneDelayed (state_of (core_of calls limit taken count u))
none_delayed_there calls limit taken count u none k phase live once = by (slot_of u.slots k) refl (sym (read_task u.slots k) ∙ refl)
  where
    task : Task
    task = slice_index_or (tasks_at u.slots) k vacant

    by : (o : Option Seat) → slot_of u.slots k ≡ o → task_at (slot_of u.slots k) ≡ task → task.due ≤ u.moment
    by None q is = absurd (let clash : ph.Vacant ≡ ph.Waiting = ap (λ (t : Task). t.phase) (sym (ap task_at q) ∙ is) ∙ phase in cc)
    by (Some x) q is =
        let same : task_in x ≡ task = sym (ap task_at q) ∙ is in
        let due : x.due ≤ u.moment = none k x q (waits_so x (ap (λ (t : Task). t.phase) same ∙ phase) (ap (λ (t : Task). t.cancelled) same ∙ live)) (ap (λ (t : Task). t.timing) same ∙ once) in
        omega (arith, due, ap (λ (t : Task). t.due) same)

-- and the other way
pub none_delayed_here : (calls : List Planned) (limit taken count : ℕ) (t : TableView) → NoneDelayed (state_of (core_of calls limit taken count t)) → NoneWaitsDelayed t
none_delayed_here calls limit taken count t none i x q waiting once =
    let task : slice_index_or (tasks_at t.slots) i vacant ≡ task_in x = read_task t.slots i ∙ ap task_at q in
    let is = waits_is (task_in x) waiting in
    let due = none i (ap (λ (y : Task). y.phase) task ∙ is.0) (ap (λ (y : Task). y.cancelled) task ∙ is.1) (ap (λ (y : Task). y.timing) task ∙ once) in
    omega (arith, due, ap (λ (y : Task). y.due) task)

-- ---- runs

-- each run is numbered below the events taken, once one more is counted
pub placed_counted : (taken : ℕ) (slots : List (Option Seat)) (k : ℕ) → ArePlaced taken slots → (slice_index_or (tasks_at slots) k vacant).run < taken + 1
placed_counted taken slots k placed = by (slot_of slots k) refl
  where
    by : (o : Option Seat) → slot_of slots k ≡ o → (slice_index_or (tasks_at slots) k vacant).run < taken + 1
    by None q = let is : (slice_index_or (tasks_at slots) k vacant).run ≡ 0 = ap (λ (y : Task). y.run) (read_task slots k ∙ ap task_at q) in omega (arith, is)
    by (Some x) q = let is : (slice_index_or (tasks_at slots) k vacant).run ≡ x.run = ap (λ (y : Task). y.run) (read_task slots k ∙ ap task_at q) in omega (arith, is, (placed k x q).below)

-- What a sweep finds as it goes over the slots, and the table that it leaves.
use Rattle.std.proofs.Common.{◌≡◌, ℕ, ◌+◌, ◌<◌, ◌≤◌, ◌||◌, zero, suc, Bool, true, false, cond, List, [], ◌∷◌, ◌++◌, length, map, take, drop, Option, Some, None, refl, sym, ap, ◌∙◌, arith}
use Rattle.std.specs.Prelude.{slice_index_or}
use Rattle.std.specs.Option.{option_map, option_map_or}
use Rattle.std.specs.List.{All}
use Rattle.std.proofs.Math.ListN.{set}
use Rattle.std.proofs.lemmas.Bool.{false≢true}
use Rattle.std.proofs.lemmas.Option.{same_Some}
use Rattle.std.proofs.lemmas.List.{length-take}
use Rattle.std.proofs.lemmas.List.Elements.{All-nil, All-cons}
use Rattle.task_table.specs.declared.seat.Seat.{Seat}
use Rattle.task_table.specs.declared.seat.TaskRef.{TaskRef}
use Rattle.task_table.specs.Seats.{slot_of}
use Rattle.task_table.specs.Tables.{TableView}
use Rattle.task_table.specs.Ends.{ends_task, ends_at_slot}
use Rattle.task_table.specs.Changes.{put, swept, swept_in, after_sweep}
use Rattle.task_table.specs.own.Found.{ref_of, found, partly}
use Rattle.task_table.proofs.Written.{set_writes, slot_within}

-- ---- the table, as far as the sweep has come

-- an element that is read where the first ones are changed
pub read_partly : {X : Type 0} (f : X → X) (xs : List X) (k : ℕ) (d : X) → slice_index_or (map f (take k xs) ++ drop k xs) k d ≡ slice_index_or xs k d
read_partly f [] zero d = refl
read_partly f [] (suc k) d = refl
read_partly f (x ∷ xs) zero d = refl
read_partly f (x ∷ xs) (suc k) d = read_partly f xs k d

-- one more is changed
next_partly : {X : Type 0} (f : X → X) (xs : List X) (k : ℕ) (d : X) → k < length xs → map f (take (suc k) xs) ++ drop (suc k) xs ≡ set (map f (take k xs) ++ drop k xs) k (f (slice_index_or xs k d))
next_partly f [] k d low = absurd (omega (arith, low))
next_partly f (x ∷ xs) zero d low = refl
next_partly f (x ∷ xs) (suc k) d low = ap (λ ys. f x ∷ ys) (next_partly f xs k d (omega (arith, low)))

-- what is written is what was there
same_set : {X : Type 0} (xs : List X) (k : ℕ) (d : X) → set xs k (slice_index_or xs k d) ≡ xs
same_set [] zero d = refl
same_set [] (suc k) d = refl
same_set (x ∷ xs) zero d = refl
same_set (x ∷ xs) (suc k) d = ap (λ ys. x ∷ ys) (same_set xs k d)

-- the sweep comes to one more slot
pub partly_more : (m : TableView) (k : ℕ) → k < length m.slots → partly m (suc k) ≡ swept_in (slot_of (partly m k).slots k) (partly m k) k
partly_more m k low =
    let each : Option Seat → Option Seat = option_map (λ x. swept m.stopped m.policies m.moment x) in
    let was = read_partly each m.slots k None in
    (λ i. record m { slots = next_partly each m.slots k None low i })
    ∙ (by (slot_of m.slots k) refl ∙ ap (λ o. swept_in o (partly m k) k) (sym was))
  where
    same : (o : Option Seat) → slot_of m.slots k ≡ o → record m { slots = set (partly m k).slots k o } ≡ partly m k
    same o is =
        let at = read_partly (option_map (λ x. swept m.stopped m.policies m.moment x)) m.slots k None ∙ is in
        (λ i. record m { slots = set (partly m k).slots k (sym at i) }) ∙ (λ i. record m { slots = same_set (partly m k).slots k None i })

    tested : (x : Seat) (b : Bool) → slot_of m.slots k ≡ Some x → record m { slots = set (partly m k).slots k (Some (record x { cancelled = b || x.cancelled })) } ≡ cond b (put (partly m k) k (record x { cancelled = true })) (partly m k)
    tested x true is = refl
    tested x false is = same (Some x) is

    by : (o : Option Seat) → slot_of m.slots k ≡ o → record m { slots = set (partly m k).slots k (option_map (λ x. swept m.stopped m.policies m.moment x) o) } ≡ swept_in o (partly m k) k
    by None is = same None is
    by (Some x) is = tested x (ends_task m x) is

-- it has come to each
pub partly_all : (m : TableView) (k : ℕ) → k ≡ length m.slots → partly m k ≡ after_sweep m
partly_all m k all = λ i. record m { slots = whole (option_map (λ x. swept m.stopped m.policies m.moment x)) m.slots k all i }
  where
    whole : (f : Option Seat → Option Seat) (xs : List (Option Seat)) (k : ℕ) → k ≡ length xs → map f (take k xs) ++ drop k xs ≡ map f xs
    whole f [] zero q = refl
    whole f [] (suc k) q = refl
    whole f (x ∷ xs) zero q = absurd (omega (arith, q))
    whole f (x ∷ xs) (suc k) q = ap (λ ys. f x ∷ ys) (whole f xs k (omega (arith, q)))

-- ---- the tasks that it finds

no_more : {X : Type 0} (xs : List X) → xs ++ [] ≡ xs
no_more [] = refl
no_more (x ∷ xs) = ap (λ ys. x ∷ ys) (no_more xs)

regroup : {X : Type 0} (xs ys zs : List X) → xs ++ (ys ++ zs) ≡ (xs ++ ys) ++ zs
regroup [] ys zs = refl
regroup (x ∷ xs) ys zs = ap (λ l. x ∷ l) (regroup xs ys zs)

-- one more slot
pub found_more : (test : Seat → Bool) (slots : List (Option Seat)) (start k at : ℕ) → k < length slots → at ≡ start + k → found test start (take (suc k) slots) ≡ found test start (take k slots) ++ ref_of test at (slot_of slots k)
found_more test [] start k at low is = absurd (omega (arith, low))
found_more test (o ∷ slots) start zero at low is = no_more (ref_of test start o) ∙ (let same : start ≡ at = omega (arith, is) in ap (λ n. ref_of test n o) same)
found_more test (o ∷ slots) start (suc k) at low is =
    ap (λ rest. ref_of test start o ++ rest) (found_more test slots (start + 1) k at (omega (arith, low)) (omega (arith, is)))
    ∙ regroup (ref_of test start o) (found test (start + 1) (take k slots)) (ref_of test at (slot_of slots k))

-- the sweep comes to one more slot, and finds its task where it ends it
pub sweep_more : (n m new : TableView) (k : ℕ) (ends more : List TaskRef) → k < length n.slots → m ≡ partly n k → ends ≡ found (ends_task n) 0 (take k n.slots) → new ≡ swept_in (slot_of m.slots k) m k → more ≡ ends ++ ref_of (ends_task m) k (slot_of m.slots k) →
    (new ≡ partly n (k + 1)) × (more ≡ found (ends_task n) 0 (take (k + 1) n.slots))
sweep_more n m new k ends more low is all writes adds =
    let next : suc k ≡ k + 1 = omega arith in
    let each : Option Seat → Option Seat = option_map (λ x. swept n.stopped n.policies n.moment x) in
    let was = read_partly each n.slots k None in (
      writes ∙ (ap (λ (t : TableView). swept_in (slot_of t.slots k) t k) is ∙ (sym (partly_more n k low) ∙ ap (partly n) next)),
      adds
          ∙ (ap (λ es. es ++ ref_of (ends_task m) k (slot_of m.slots k)) all
          ∙ (ap (λ (t : TableView). found (ends_task n) 0 (take k n.slots) ++ ref_of (ends_task t) k (slot_of t.slots k)) is
          ∙ (ap (λ o. found (ends_task n) 0 (take k n.slots) ++ ref_of (ends_task n) k o) was
          ∙ (sym (found_more (ends_task n) n.slots 0 k k low (omega arith)) ∙ ap (λ j. found (ends_task n) 0 (take j n.slots)) next)))),
    )

-- a slot whose task the sweep does not end has none that it finds
pub none_ref : (m : TableView) (k : ℕ) (ended : Bool) (ends : List TaskRef) → ended ≡ ends_at_slot m k → ended ≡ false → ends ≡ ends ++ ref_of (ends_task m) k (slot_of m.slots k)
none_ref m k ended ends is spared = sym (no_more ends) ∙ ap (λ rest. ends ++ rest) (sym (by (slot_of m.slots k) (sym is ∙ spared)))
  where
    by : (o : Option Seat) → option_map_or (ends_task m) o false ≡ false → ref_of (ends_task m) k o ≡ []
    by None q = refl
    by (Some x) q = ap (λ b. cond b (record { number = x.number; slot = k } ∷ []) []) q

-- the task of another one is there, and is found
pub record IsSweptAt (m new : TableView) (k : ℕ) : Type 0 where
  pub task : Seat
  pub there : slot_of new.slots k ≡ Some task
  pub finds : ref_of (ends_task m) k (slot_of m.slots k) ≡ record { number = task.number; slot = k } ∷ []

pub swept_at : (m new : TableView) (k : ℕ) (ended : Bool) → ended ≡ ends_at_slot m k → ended ≡ true → new ≡ swept_in (slot_of m.slots k) m k → IsSweptAt m new k
swept_at m new k ended is did writes = by (slot_of m.slots k) refl (sym is ∙ did)
  where
    by : (o : Option Seat) → slot_of m.slots k ≡ o → option_map_or (ends_task m) o false ≡ true → IsSweptAt m new k
    by None there q = absurd (false≢true q)
    by (Some x) there q =
        let y : Seat = record x { cancelled = true } in
        let same : new ≡ put m k y = writes ∙ (ap (λ o. swept_in o m k) there ∙ ap (λ b. cond b (put m k y) m) q) in
        record {
          task = y;
          there = ap (λ (t : TableView). slot_of t.slots k) same ∙ (set_writes m.slots k y (slot_within m.slots k x there)).here;
          finds = ap (ref_of (ends_task m) k) there ∙ ap (λ b. cond b (record { number = x.number; slot = k } ∷ []) []) q;
        }

-- what is found is that of the task that is there
pub some_ref : (m new : TableView) (k : ℕ) (x : Seat) → IsSweptAt m new k → slot_of new.slots k ≡ Some x → record { number = x.number; slot = k } ∷ [] ≡ ref_of (ends_task m) k (slot_of m.slots k)
some_ref m new k x swept there = (λ i. record { number = (same_Some x swept.task (sym there ∙ swept.there) i).number; slot = k } ∷ []) ∙ sym swept.finds

-- it finds no more tasks than slots
pub found_short : (test : Seat → Bool) (slots : List (Option Seat)) (start : ℕ) → length (found test start slots) ≤ length slots
found_short test [] start = omega arith
found_short test (None ∷ slots) start = omega (arith, found_short test slots (start + 1))
found_short test (Some x ∷ slots) start = by (test x) (found_short test slots (start + 1))
  where
    by : (b : Bool) → length (found test (start + 1) slots) ≤ length slots → length (cond b (record { number = x.number; slot = start } ∷ []) [] ++ found test (start + 1) slots) ≤ length (Some x ∷ slots)
    by true few = omega (arith, few)
    by false few = omega (arith, few)

-- there is room for one more
pub room_more : (n : TableView) (k room all : ℕ) (ends : List TaskRef) → k < length n.slots → length n.slots ≤ all → room ≡ all → ends ≡ found (ends_task n) 0 (take k n.slots) → length ends < room
room_more n k room all ends low wide same is =
    omega (arith, ap length is, found_short (ends_task n) (take k n.slots) 0, length-take k n.slots, low, wide, same)

-- a task that is found
pub record IsFound (test : Seat → Bool) (start : ℕ) (slots : List (Option Seat)) (r : TaskRef) : Type 0 where
  pub place : ℕ
  pub task : Seat
  pub at : r.slot ≡ start + place
  pub there : slot_of slots place ≡ Some task
  pub named : task.number ≡ r.number
  pub passes : test task ≡ true

found_later : (test : Seat → Bool) (start : ℕ) (o : Option Seat) (slots : List (Option Seat)) (r : TaskRef) → IsFound test (start + 1) slots r → IsFound test start (o ∷ slots) r
found_later test start o slots r f = record { place = suc f.place; task = f.task; at = omega (arith, f.at); there = f.there; named = f.named; passes = f.passes }

all_later : (test : Seat → Bool) (start : ℕ) (o : Option Seat) (slots : List (Option Seat)) (rs : List TaskRef) → All (IsFound test (start + 1) slots) rs → All (IsFound test start (o ∷ slots)) rs
all_later test start o slots rs all = λ k d low. found_later test start o slots (slice_index_or rs k d) (all k d low)

-- each of them stands in a slot
pub all_found : (test : Seat → Bool) (slots : List (Option Seat)) (start : ℕ) → All (IsFound test start slots) (found test start slots)
all_found test [] start = All-nil (IsFound test start [])
all_found test (None ∷ slots) start = all_later test start None slots (found test (start + 1) slots) (all_found test slots (start + 1))
all_found test (Some x ∷ slots) start = by (test x) refl (all_later test start (Some x) slots (found test (start + 1) slots) (all_found test slots (start + 1)))
  where
    by : (b : Bool) → test x ≡ b → All (IsFound test start (Some x ∷ slots)) (found test (start + 1) slots) →
        All (IsFound test start (Some x ∷ slots)) (cond b (record { number = x.number; slot = start } ∷ []) [] ++ found test (start + 1) slots)
    by true q rest =
        All-cons (IsFound test start (Some x ∷ slots)) (record { number = x.number; slot = start }) (found test (start + 1) slots) (record { place = 0; task = x; at = omega arith; there = refl; named = refl; passes = q }) rest
    by false q rest = rest

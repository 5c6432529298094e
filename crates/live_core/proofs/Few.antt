-- How many entries of an index are left without those that are stale: no more than tasks in slots.
use Rattle.std.proofs.Common.{◌≡◌, ℕ, ◌<◌, ◌≤◌, ◌==◌, suc, Bool, true, false, cond, List, [], ◌∷◌, length, Option, Some, None, refl, sym, ap, ◌∙◌, arith}
use Rattle.std.specs.Prelude.{slice_get, is_some}
use Rattle.std.specs.List.{filter}
use Rattle.std.specs.Option.{option_map_or}
use Rattle.std.proofs.Math.ListN.{set}
use Rattle.std.proofs.lemmas.Bool.{false≢true, eqb-true, false_from_ne_true}
use Rattle.std.proofs.lemmas.Option.{same_Some}
use Rattle.queue_code.specs.Calls.{how_many}
use Rattle.task_table.specs.declared.seat.TaskRef.{TaskRef}
use Rattle.live_core.specs.Empties.{number_in}
use Rattle.live_core.specs.own.Slots.{is_held, Ascends}
use Rattle.live_core.proofs.Emptied.{count_emptied, number_stays, number_within}
use Rattle.live_core.proofs.Filtered.{rest_ascends}

-- where each entry that passes one test passes another, no more pass the one
fewer_pass : (f g : TaskRef → Bool) (entries : List TaskRef) → ((i : ℕ) (x : TaskRef) → slice_get entries i ≡ Some x → f x ≡ true → g x ≡ true) → length (filter f entries) ≤ length (filter g entries)
fewer_pass f g [] also = omega arith
fewer_pass f g (y ∷ entries) also = by (f y) (g y) refl refl (fewer_pass f g entries (λ i x p q. also (suc i) x p q))
  where
    by : (b d : Bool) → f y ≡ b → g y ≡ d → length (filter f entries) ≤ length (filter g entries) → length (cond b (y ∷ filter f entries) (filter f entries)) ≤ length (cond d (y ∷ filter g entries) (filter g entries))
    by true true p q rest = omega (arith, rest)
    by true false p q rest = absurd (false≢true (sym q ∙ also 0 y refl p))
    by false true p q rest = omega (arith, rest)
    by false false p q rest = rest

-- what is held stands in its slot
held_here : (o : Option ℕ) (n : ℕ) → option_map_or (λ k. k == n) o false ≡ true → o ≡ Some n
held_here None n q = absurd (false≢true q)
held_here (Some k) n q = ap Some (eqb-true k n q)

-- once a slot is emptied, an entry of a greater number than that of its task is held still
held_still : (held : List (Option ℕ)) (y x : TaskRef) → number_in held y.slot ≡ Some y.number → y.number < x.number → is_held held x ≡ true → is_held (set held y.slot None) x ≡ true
held_still held y x here more q =
    let there = held_here (number_in held x.slot) x.number q in
    let other : (y.slot == x.slot) ≡ false = false_from_ne_true (y.slot == x.slot) (λ e. absurd (omega (arith, more, same_Some y.number x.number (sym here ∙ (ap (number_in held) (eqb-true y.slot x.slot e) ∙ there))))) in
    ap (λ (o : Option ℕ). option_map_or (λ k. k == x.number) o false) (number_stays held y.slot x.slot None (number_within held y.slot y.number here) other) ∙ q

-- the entries that are held are no more than the tasks in slots
pub few_held : (held : List (Option ℕ)) (entries : List TaskRef) → Ascends entries → length (filter (is_held held) entries) ≤ how_many is_some held
few_held held [] rises = omega arith
few_held held (y ∷ entries) rises = by (λ h. few_held h entries (rest_ascends y entries rises)) (is_held held y) refl
  where
    by : ((h : List (Option ℕ)) → length (filter (is_held h) entries) ≤ how_many is_some h) → (b : Bool) → is_held held y ≡ b →
        length (cond b (y ∷ filter (is_held held) entries) (filter (is_held held) entries)) ≤ how_many is_some held
    by rest false q = rest held
    by rest true q =
        let here = held_here (number_in held y.slot) y.number q in
        let less = set held y.slot None in
        let fewer = fewer_pass (is_held held) (is_held less) entries (λ i x p r. held_still held y x here (rises 0 (suc i) y x (omega arith) refl p) r) in
        omega (arith, fewer, rest less, count_emptied held y.slot y.number here)

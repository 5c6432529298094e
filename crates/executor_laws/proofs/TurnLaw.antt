-- The turn of an enabled task comes.
use Rattle.std.proofs.Common.{◌≡◌, ℕ, ◌+◌, ◌<◌, ◌≤◌, ◌==◌, Bool, true, false, cond, inl, inr, ◌⊎◌, List, [], ◌∷◌, ◌++◌, Option, Some, None, refl, sym, ap, ◌∙◌, arith, subst}
use Rattle.std.specs.Prelude.{◌&&◌, ◌||◌, nat_lt, nat_le, slice_get, max}
use Rattle.std.specs.Option.{option_map_or}
use Rattle.std.specs.List.{range_with_len, list_any}
use Rattle.std.proofs.lemmas.Bool.{false≢true, and_parts, or_parts, eqb-true, eq-eqb}
use Rattle.executor_model.specs.declared.types.Happening.{Happening}
use Rattle.executor_model.specs.declared.types.Happening.TheVariants as h
use Rattle.executor_model.specs.declared.types.EventError.TheVariants as x
use Rattle.executor_model.specs.declared.types.Outcome.TheVariants as o
use Rattle.executor_model.specs.declared.types.Answer.{Answer}
use Rattle.executor_model.specs.declared.types.Answer.TheVariants as a
use Rattle.queue_code.specs.declared.call.CodeCall.{CodeCall}
use Rattle.executor_model.specs.Queues.{comes_before}
use Rattle.queue_code.specs.Calls.{Planned, how_many, numbers, task_count, IsOrderly}
use Rattle.executor_model.specs.View.{View, is_waiting, is_enabled, first_enabled}
use Rattle.executor_model.specs.Answers.{bare, reply, called, start_answer, finish_answer, effect_on}
use Rattle.executor_model.specs.Histories.{HistoryEntry, IsHistoryOf, view_of_history, due_of, is_start, cancels}
use Rattle.executor_model.proofs.Replies.{IsAnswerTo, by_answer}
use Rattle.executor_laws.specs.Laws.{Starts}
use Rattle.executor_laws.specs.Turns.{puts_ahead, serves, turns, ahead, TurnsCome}
use Rattle.executor_laws.proofs.StartLaws.{starts_are_in_order}
use Rattle.executor_laws.proofs.Places.{none_is_enabled}
use Rattle.executor_laws.proofs.Repeats.{started_so}
use Rattle.executor_laws.proofs.Waiting.{waiting_is_a_task}
use Rattle.executor_laws.proofs.TurnCounts.{counts_le, counts_apart, counts_grow, at_most_one, at_least_one}
use Rattle.executor_laws.proofs.TurnSteps.{stays_enabled, in_front, brings, front_before}

-- ---- a worker is idle only where no task is enabled

no_call_idles : (calls : List Planned) (v : View) (call : CodeCall) (w : ℕ) → (called calls v call).answer ≡ a.Idle w → ⊥
no_call_idles calls v call w = by_answer (λ y. y ≡ a.Idle w → ⊥) calls v call (idles call)
  where
    idles : (call : CodeCall) (y : Answer) → IsAnswerTo y call → y ≡ a.Idle w → ⊥
    idles call (a.Idle u) is q = is
    idles call y is q = absurd cc

idle_says : (calls : List Planned) (workers : ℕ) (v : View) (y : Happening) (w : ℕ) → (reply calls workers v y).answer ≡ a.Idle w → first_enabled v (numbers calls) ≡ None
idle_says calls workers v h.Call w q = by (slice_get calls v.made) q
  where
    by : (x : Option Planned) → (option_map_or (λ (p : Planned). called calls (record v { moment = max v.moment p.0 }) p.1) x (bare a.Clock)).answer ≡ a.Idle w → first_enabled v (numbers calls) ≡ None
    by None q = absurd cc
    by (Some p) q = absurd (no_call_idles calls (record v { moment = max v.moment p.0 }) p.1 w q)
idle_says calls workers v (h.Clock t) w q = by (nat_lt t v.moment) _ q
  where
    by : (b d : Bool) → cond b (a.Error x.Backward) (cond d (a.Error x.TooFar) a.Clock) ≡ a.Idle w → first_enabled v (numbers calls) ≡ None
    by true d q = absurd cc
    by false true q = absurd cc
    by false false q = absurd cc
idle_says calls workers v (h.Start u) w q = by (nat_lt u workers) (v.work u) (first_enabled v (numbers calls)) q
  where
    by : (b : Bool) (work first : Option ℕ) → cond b (option_map_or (λ _. a.Error x.Busy) work (start_answer v u first)) (a.Error x.NoWorker) ≡ a.Idle w → first ≡ None
    by true None None q = refl
    by true None (Some k) q = absurd cc
    by true (Some j) first q = absurd cc
    by false work first q = absurd cc
idle_says calls workers v (h.Finish u ending) w q = by (nat_lt u workers) (v.work u) q
  where
    by : (b : Bool) (work : Option ℕ) → cond b (finish_answer calls v u ending work) (a.Error x.NoWorker) ≡ a.Idle w → first_enabled v (numbers calls) ≡ None
    by true None q = absurd cc
    by true (Some k) q = absurd cc
    by false work q = absurd cc
idle_says calls workers v (h.Cancel k) w q = by (nat_lt k (task_count calls)) q
  where
    by : (b : Bool) → cond b (a.Outside k (effect_on (v.fate k))) (a.Error x.NoTask) ≡ a.Idle w → first_enabled v (numbers calls) ≡ None
    by true q = absurd cc
    by false q = absurd cc
idle_says calls workers v h.Purge w q = absurd cc

-- ---- one entry

-- what an entry's answer does to the tasks that stand before task k, by those that stand there before it and after
line_moves : (answer : Answer) (due k count : ℕ) (v v_next : View) →
    ((j : ℕ) → in_front v_next due k j ≡ true → ((in_front v due k j ≡ true) × (is_start j answer ≡ false)) ⊎ (brings due k answer j ≡ true)) →
    ((w i run at : ℕ) → answer ≡ a.Start w i run at → (i < count) × (in_front v due k i ≡ true)) →
    ((w : ℕ) → answer ≡ a.Idle w → ⊥) →
    cond (serves answer) 1 0 + how_many (in_front v_next due k) (range_with_len 0 count) ≤ how_many (in_front v due k) (range_with_len 0 count) + cond (puts_ahead due k answer) 1 0
line_moves (a.Start w i run at) due k count v v_next before starts idles =
    let first = starts w i run at refl in
    let less = counts_apart (in_front v_next due k) (in_front v due k) (λ j. i == j) (range_with_len 0 count)
    (λ j q. elim (before j q) [ inl both ↦ both.0 | inr brought ↦ absurd (false≢true brought) ])
    (λ j q. subst (λ n. in_front v due k n ≡ true) (eqb-true i j q) first.1)
    (λ j q is. elim (before j q) [ inl both ↦ false≢true (sym both.1 ∙ is) | inr brought ↦ false≢true brought ])
    in
    let once = at_least_one i 0 count (omega arith) (omega (arith, first.0)) in
    omega (arith, less, once)
line_moves (a.Idle w) due k count v v_next before starts idles = absurd (idles w refl)
line_moves (a.Finish w i run (o.Again next)) due k count v v_next before starts idles = by (comes_before next i due k) refl
  where
    was : ℕ
    was = how_many (in_front v due k) (range_with_len 0 count)

    is : ℕ
    is = how_many (in_front v_next due k) (range_with_len 0 count)

    by : (b : Bool) → comes_before next i due k ≡ b → 0 + is ≤ was + cond b 1 0
    by true q =
        let more = counts_le (in_front v_next due k) (in_front v due k) (λ j. i == j) (range_with_len 0 count)
        (λ j front. elim (before j front) [ inl both ↦ inl both.0 | inr brought ↦ inr (and_parts (i == j) (comes_before next i due k) brought).0 ])
        in
        let once = at_most_one i 0 count in
        omega (arith, more, once)
    by false q =
        let same = counts_grow (in_front v_next due k) (in_front v due k) (range_with_len 0 count)
        (λ j front. elim (before j front) [ inl both ↦ both.0 | inr brought ↦ absurd (false≢true (sym q ∙ (and_parts (i == j) (comes_before next i due k) brought).1)) ])
        in
        omega (arith, same)
line_moves answer due k count v v_next before starts idles = plain answer before
  where
    plain : (answer : Answer) → ((j : ℕ) → in_front v_next due k j ≡ true → ((in_front v due k j ≡ true) × (is_start j answer ≡ false)) ⊎ (false ≡ true)) →
        0 + how_many (in_front v_next due k) (range_with_len 0 count) ≤ how_many (in_front v due k) (range_with_len 0 count) + 0
    plain answer before =
        let same = counts_grow (in_front v_next due k) (in_front v due k) (range_with_len 0 count)
        (λ j front. elim (before j front) [ inl both ↦ both.0 | inr brought ↦ absurd (false≢true brought) ])
        in
        omega (arith, same)

-- ---- a history

-- task k is still enabled, due as before, and each start that was not refused took one of the tasks before it
record InTurn (calls : List Planned) (later past : List HistoryEntry) (k : ℕ) : Type 0 where
  enabled : is_enabled (view_of_history calls (later ++ past)) k ≡ true
  due : due_of calls (later ++ past) k ≡ due_of calls past k
  served : turns later + how_many (in_front (view_of_history calls (later ++ past)) (due_of calls past k) k) (numbers calls)
      ≤ ahead calls past k + how_many (λ e. puts_ahead (due_of calls past k) k e.answer) later

one_more : (calls : List Planned) (workers : ℕ) (past : List HistoryEntry) (e : HistoryEntry) (k due : ℕ) → IsOrderly calls → IsHistoryOf calls workers (e ∷ past) →
    is_enabled (view_of_history calls past) k ≡ true → due_of calls past k ≡ due → is_start k e.answer ≡ false →
    cond (serves e.answer) 1 0 + how_many (in_front (view_of_history calls (e ∷ past)) due k) (numbers calls) ≤ how_many (in_front (view_of_history calls past) due k) (numbers calls) + cond (puts_ahead due k e.answer) 1 0
one_more calls workers past e k due o m enabled is_due unstarted =
    line_moves e.answer due k (task_count calls) v (view_of_history calls (e ∷ past)) (λ j. front_before calls workers past e k due j o m enabled is_due) first never
  where
    v : View
    v = view_of_history calls past

    below : k < task_count calls
    below = (waiting_is_a_task calls workers past k o m.0 (and_parts (is_waiting (v.fate k)) (nat_le (v.fate k).due v.moment) enabled).0).0

    first : (w i run at : ℕ) → e.answer ≡ a.Start w i run at → (i < task_count calls) × (in_front v due k i ≡ true)
    first w i run at is =
        let start : Starts calls workers past e w i run at = record { later = []; means = m; start = is } in
        let waits = (started_so calls workers past e w i run at start).waiting in (
          (waiting_is_a_task calls workers past i o m.0 waits).0,
          elim (starts_are_in_order calls workers past e w i run at k start below enabled) [
            | inl same ↦ absurd (false≢true (sym unstarted ∙ (ap (is_start k) is ∙ eq-eqb i k (sym same))))
            | inr before ↦ (λ n. waits n && comes_before (v.fate i).due i (sym is_due n) k) ∙ before
          ],
        )

    never : (w : ℕ) → e.answer ≡ a.Idle w → ⊥
    never w is = false≢true (sym ((none_is_enabled calls v).0 (idle_says calls workers v e.happening w (sym m.2 ∙ is)) k below) ∙ enabled)

in_turn : (calls : List Planned) (workers : ℕ) (later past : List HistoryEntry) (k : ℕ) → IsOrderly calls → IsHistoryOf calls workers (later ++ past) → is_enabled (view_of_history calls past) k ≡ true →
    list_any (λ e. is_start k e.answer || cancels k e.answer e.ends) later ≡ false → InTurn calls later past k
in_turn calls workers [] past k o m enabled none = record { enabled = enabled; due = refl; served = omega arith }
in_turn calls workers (e ∷ later) past k o m enabled none =
    let parts = or_parts (is_start k e.answer || cancels k e.answer e.ends) (list_any (λ e. is_start k e.answer || cancels k e.answer e.ends) later) none in
    let here = or_parts (is_start k e.answer) (cancels k e.answer e.ends) parts.0 in
    let before = in_turn calls workers later past k o m.0 enabled parts.1 in
    let still = stays_enabled calls workers (later ++ past) e k m before.enabled here.0 here.1 in
    let step = one_more calls workers (later ++ past) e k (due_of calls past k) o m before.enabled before.due here.0 in
    record { enabled = still.enabled; due = still.due ∙ before.due; served = adds (serves e.answer) (puts_ahead (due_of calls past k) k e.answer) (turns later) (front (later ++ past)) (front (e ∷ later ++ past)) (ahead calls past k) (how_many (λ e. puts_ahead (due_of calls past k) k e.answer) later) before.served step }
  where
    front : List HistoryEntry → ℕ
    front so_far = how_many (in_front (view_of_history calls so_far) (due_of calls past k) k) (numbers calls)

    adds : (b c : Bool) (turned front front_next was put : ℕ) → turned + front ≤ was + put → cond b 1 0 + front_next ≤ front + cond c 1 0 → cond b (1 + turned) turned + front_next ≤ was + cond c (1 + put) put
    adds true true turned front front_next was put one two = omega (arith, one, two)
    adds true false turned front front_next was put one two = omega (arith, one, two)
    adds false true turned front front_next was put one two = omega (arith, one, two)
    adds false false turned front front_next was put one two = omega (arith, one, two)

-- the law
pub turns_come : TurnsCome
turns_come calls workers later past k o m enabled more = by (list_any (λ e. is_start k e.answer || cancels k e.answer e.ends) later) refl
  where
    by : (b : Bool) → list_any (λ e. is_start k e.answer || cancels k e.answer e.ends) later ≡ b → b ≡ true
    by true none = refl
    by false none = let line = (in_turn calls workers later past k o m enabled none).served in absurd (omega (arith, line, more))

-- Facts on the plain program.
use Rattle.std.proofs.Common.{◌≡◌, ℕ, ◌+◌, ◌<◌, ◌≤◌, zero, suc, ◌-◌, Bool, true, false, cond, List, [], ◌∷◌, ◌++◌, length, take, get_or, Option, Some, sym, ap, ◌∙◌, arith, add-one}
use Rattle.std.specs.Prelude.{slice_get, max, reverse, replicate}
use Rattle.std.specs.List.{filter, range_with_len}
use Rattle.std.specs.Option.{option_map_or}
use Rattle.std.proofs.lemmas.List.{length-map, take_more, reverse-append}
use Rattle.queue_code.specs.declared.call.CodeCall.{CodeCall}
use Rattle.executor_model.specs.declared.types.Event.{Event}
use Rattle.executor_model.specs.declared.types.Happening.{Happening}
use Rattle.executor_model.specs.declared.types.Happening.TheVariants as h
use Rattle.executor_model.specs.declared.types.Answer.TheVariants as a
use Rattle.queue_code.specs.Calls.{Planned, how_many, task_count, submits_task}
use Rattle.executor_model.specs.Answers.{bare, called}
use Rattle.executor_model.specs.Histories.{HistoryEntry, happenings, made, is_call, is_start, is_finish, starts, finishes, view_of_history, now_of, answer}
use Rattle.executor_model.specs.Flows.{history_from, history_of, part_of, calls_before}
use Rattle.executor_model.proofs.Flowing.{how_many-le, history_more}

-- what is counted is at most as long as the history

-- no more calls were made than there are entries
pub made_le : (past : List HistoryEntry) → made (happenings past) ≤ length past
made_le past = omega (arith, how_many-le is_call (happenings past), length-map past (λ (e : HistoryEntry). e.happening))

-- a task has started no more often than there are entries
pub starts_le : (k : ℕ) (past : List HistoryEntry) → starts k past ≤ length past
starts_le k past = how_many-le (λ (e : HistoryEntry). is_start k e.answer) past

-- a task has finished no more often than there are entries
pub finishes_le : (k : ℕ) (past : List HistoryEntry) → finishes k past ≤ length past
finishes_le k past = how_many-le (λ (e : HistoryEntry). is_finish k e.answer) past

-- no more tasks are submitted than there are calls
pub task_count_le : (calls : List Planned) → task_count calls ≤ length calls
task_count_le calls = how_many-le (λ (p : Planned). submits_task p.1) calls

-- counts and lists of numbers

-- a count over a number more in front
pub count_more : (test : ℕ → Bool) (from count rest : ℕ) (b : Bool) → 0 < count → rest ≡ how_many test (range_with_len (from + 1) (count - 1)) → b ≡ test from →
    cond b (1 + rest) rest ≡ how_many test (range_with_len from count)
count_more test from zero rest b l is tests = absurd (omega (arith, l))
count_more test from (suc n) rest b l is tests =
    let less : suc n - 1 ≡ n = omega arith in
    let same : rest ≡ how_many test (range_with_len (from + 1) n) = is ∙ ap (λ (m : ℕ). how_many test (range_with_len (from + 1) m)) less in
    λ i. cond (tests i) (1 + same i) (same i)

-- a filtered list of a number more at the end
filter_more : (test : ℕ → Bool) (a n j : ℕ) → a + n ≡ j → filter test (range_with_len a (suc n)) ≡ filter test (range_with_len a n) ++ cond (test j) (j ∷ []) []
filter_more test a zero j at = let same : a ≡ j = omega (arith, at) in ap (λ (k : ℕ). cond (test k) (k ∷ []) []) same
filter_more test a (suc n) j at = by (test a) _ _ _ (filter_more test (a + 1) n j (omega (arith, at)))
  where
    by : (b : Bool) (xs ys zs : List ℕ) → xs ≡ ys ++ zs → cond b (a ∷ xs) xs ≡ cond b (a ∷ ys) ys ++ zs
    by true xs ys zs same = ap (λ (l : List ℕ). a ∷ l) same
    by false xs ys zs same = same

-- the numbers below one more that pass a test, where it was told whether the last one does
pub filter_next : (test : ℕ → Bool) (n : ℕ) (b : Bool) → b ≡ test n → filter test (range_with_len 0 n) ++ cond b (n ∷ []) [] ≡ filter test (range_with_len 0 (n + 1))
filter_next test n b tests =
    ap (λ (c : Bool). filter test (range_with_len 0 n) ++ cond c (n ∷ []) []) tests
    ∙ sym (ap (λ (j : ℕ). filter test (range_with_len 0 j)) (add-one n) ∙ filter_more test 0 n n (omega arith))

-- the reply to a call that is made
pub call_replies : (calls : List Planned) (workers n moment : ℕ) (past : List HistoryEntry) (happening : Happening) (call : CodeCall) →
    happening ≡ h.Call → n ≡ made (happenings past) → Some (moment, call) ≡ slice_get calls n →
    answer calls workers past happening ≡ called calls (record (view_of_history calls past) { moment = max (now_of calls (happenings past)) moment }) call
call_replies calls workers n moment past happening call is count found =
    let v = view_of_history calls past in
    ap (λ (x : Happening). answer calls workers past x) is
    ∙ ap (λ (q : Option Planned). option_map_or (λ (p : Planned). called calls (record v { moment = max v.moment p.0 }) p.1) q (bare a.Clock)) (sym (found ∙ ap (slice_get calls) count))

-- one call more in a history
pub one_call : (calls : List Planned) (workers n : ℕ) (start past new : List HistoryEntry) →
    past ≡ history_from calls workers start (replicate n h.Call) → new ≡ history_from calls workers past (h.Call ∷ []) →
    new ≡ history_from calls workers start (replicate (n + 1) h.Call)
one_call calls workers n start past new is next =
    let same : suc n ≡ n + 1 = omega arith in
    next ∙ (ap (λ (p : List HistoryEntry). history_from calls workers p (h.Call ∷ [])) is ∙ ap (λ (m : ℕ). history_from calls workers start (replicate m h.Call)) same)

-- one event more in a history
pub one_event : (calls : List Planned) (workers i : ℕ) (events : List Event) (d : Event) (past new : List HistoryEntry) → i < length events →
    past ≡ history_of calls workers (reverse (take i events)) →
    new ≡ history_from calls workers past (part_of calls (made (happenings past)) (now_of calls (happenings past)) (get_or events i d)) →
    new ≡ history_of calls workers (reverse (take (i + 1) events))
one_event calls workers i events d past new l is next =
    let turned : reverse (take (i + 1) events) ≡ get_or events i d ∷ reverse (take i events) = ap reverse (take_more events i d l) ∙ reverse-append (take i events) (get_or events i d ∷ []) in
    next
    ∙ (ap (λ (p : List HistoryEntry). history_from calls workers p (part_of calls (made (happenings p)) (now_of calls (happenings p)) (get_or events i d))) is
    ∙ (sym (history_more calls workers (reverse (take i events)) (get_or events i d)) ∙ ap (history_of calls workers) (sym turned)))

-- one happening more in a history
pub one_happening : (calls : List Planned) (workers i : ℕ) (happened : List Happening) (d : Happening) (past new : List HistoryEntry) → i < length happened →
    past ≡ history_from calls workers [] (reverse (take i happened)) →
    new ≡ history_from calls workers past (get_or happened i d ∷ []) →
    new ≡ history_from calls workers [] (reverse (take (i + 1) happened))
one_happening calls workers i happened d past new l is next =
    let turned : reverse (take (i + 1) happened) ≡ get_or happened i d ∷ reverse (take i happened) = ap reverse (take_more happened i d l) ∙ reverse-append (take i happened) (get_or happened i d ∷ []) in
    next
    ∙ (ap (λ (p : List HistoryEntry). history_from calls workers p (get_or happened i d ∷ [])) is
    ∙ ap (history_from calls workers []) (sym turned))

-- how many calls come before an event of a history
pub count_before : (calls : List Planned) (count n now : ℕ) (event : Event) (past made_in now_in : List HistoryEntry) →
    count ≡ calls_before calls n now event → n ≡ made (happenings made_in) → now ≡ now_of calls (happenings now_in) → made_in ≡ past → now_in ≡ past →
    count ≡ calls_before calls (made (happenings past)) (now_of calls (happenings past)) event
count_before calls count n now event past made_in now_in is n_is now_is m_same n_same =
    let n_there = n_is ∙ ap (λ (p : List HistoryEntry). made (happenings p)) m_same in
    let now_there = now_is ∙ ap (λ (p : List HistoryEntry). now_of calls (happenings p)) n_same in
    is ∙ (λ i. calls_before calls (n_there i) (now_there i) event)

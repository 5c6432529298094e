-- The ranges of the numbers in the lines of a history.
use Rattle.std.proofs.Common.{zero, suc, ◌≡◌, ℕ, ◌+◌, ◌<◌, ◌≤◌, ◌==◌, nat_lt, Bool, true, false, cond, List, [], ◌∷◌, ◌++◌, length, map, Option, Some, None, refl, sym, ap, ◌∙◌, arith, subst}
use Rattle.std.specs.Prelude.{slice_get, max, ◌^◌}
use Rattle.std.specs.Option.{option_map_or}
use Rattle.std.proofs.lemmas.Bool.{eq-eqb, ltb-true, or_left, or_right}
use Rattle.std.proofs.lemmas.Option.{none-some, same_Some}
use Rattle.std.proofs.lemmas.List.FromFn.{length-range_with_len}
use Rattle.sched_time.specs.declared.timing.Timing.{Timing}
use Rattle.sched_time.specs.declared.timing.Timing.TheVariants as t
use Rattle.sched_time.specs.declared.timing.Ending.{Ending}
use Rattle.sched_time.specs.declared.timing.Ending.TheVariants as e
use Rattle.queue_code.specs.declared.call.CodeCall.{CodeCall}
use Rattle.queue_code.specs.declared.call.CodeCall.TheVariants as c
use Rattle.queue_code.specs.Calls.{Planned, IsOrderly, IsOrderlyCall, IsOrderlyFrom, submits_task, count_after, how_many, numbers, task_count, terms_of}
use Rattle.executor_model.specs.declared.types.EventError.TheVariants as x
use Rattle.executor_model.specs.declared.types.Happening.{Happening}
use Rattle.executor_model.specs.declared.types.Happening.TheVariants as h
use Rattle.executor_model.specs.declared.types.Outcome.{Outcome}
use Rattle.executor_model.specs.declared.types.Outcome.TheVariants as o
use Rattle.executor_model.specs.declared.types.Answer.{Answer}
use Rattle.executor_model.specs.declared.types.Answer.TheVariants as a
use Rattle.executor_model.specs.declared.types.Line.{Line}
use Rattle.executor_model.specs.declared.types.Message.{Message}
use Rattle.executor_model.specs.declared.types.Message.TheVariants as m
use Rattle.executor_model.specs.View.{View, is_running, first_enabled}
use Rattle.executor_model.specs.Answers.{bare, reply, called, start_answer, finish_answer, is_queued, due_next, outcome_in, stops_periodic, effect_on}
use Rattle.executor_model.specs.Histories.{HistoryEntry, IsHistoryOf, view_of_history, happenings, now_of, is_start, is_end}
use Rattle.executor_model.specs.State.{was_submitted}
use Rattle.executor_model.specs.Flows.{end_line, lines_of, lines_at, reply_in}
use Rattle.executor_model.proofs.Agree.{after_agrees}
use Rattle.executor_model.proofs.First.{first_is_in, range_below}
use Rattle.executor_model.proofs.Flowing.{how_many-le}
use Rattle.executor_model.proofs.Within.{now_within, dues_within, next_within, none_within}
use Rattle.executor_laws.specs.Lines.{RunEnded, IsOutcomeInRange, IsAnswerInRange, IsMessageInRange, LinesAreInRange}
use Rattle.executor_laws.proofs.Replies.{ends_say}
use Rattle.executor_laws.proofs.Waiting.{waiting_is_a_task}
use Rattle.executor_laws.proofs.Termination.{submitted_is_a_task}

-- ---- what is in range stays so in a longer history

ended_behind : (past : List HistoryEntry) (y : HistoryEntry) (ending : Ending) → RunEnded past ending → RunEnded (y ∷ past) ending
ended_behind past y ending r = record { later = y ∷ r.later; entry = r.entry; before = r.before; parts = ap (λ l. y ∷ l) r.parts; worker = r.worker; finish = r.finish }

outcome_behind : (past : List HistoryEntry) (y : HistoryEntry) (outcome : Outcome) → IsOutcomeInRange past outcome → IsOutcomeInRange (y ∷ past) outcome
outcome_behind past y (o.Done value) r = ended_behind past y (e.Value value) r
outcome_behind past y (o.Failed code) r = ended_behind past y (e.Fault code) r
outcome_behind past y (o.Again due) r = r
outcome_behind past y o.Dropped r = r
outcome_behind past y o.Ended r = r

answer_behind : (calls : List Planned) (workers : ℕ) (past : List HistoryEntry) (y : HistoryEntry) (answer : Answer) → IsAnswerInRange calls workers past answer → IsAnswerInRange calls workers (y ∷ past) answer
answer_behind calls workers past y (a.Start worker task run due) r = (r.0, r.1, omega (arith, r.2), r.3)
answer_behind calls workers past y (a.Finish worker task run outcome) r = (r.0, r.1, omega (arith, r.2), outcome_behind past y outcome r.3)
answer_behind calls workers past y _ r = r

message_behind : (calls : List Planned) (workers : ℕ) (past : List HistoryEntry) (y : HistoryEntry) (message : Message) → IsMessageInRange calls workers past message → IsMessageInRange calls workers (y ∷ past) message
message_behind calls workers past y (m.Answer answer) r = answer_behind calls workers past y answer r
message_behind calls workers past y (m.End task) r = r

-- ---- the tasks that calls name

counts_on : (count : ℕ) (call : CodeCall) (n : ℕ) → count_after count call + n ≡ count + cond (submits_task call) (1 + n) n
counts_on count (c.Submit task timing delay) n = omega arith
counts_on count (c.Illegal task) n = omega arith
counts_on count call n = refl

-- a call stands behind this many submissions, and with its own there are no more of them than tasks
call_in_order : (calls : List Planned) (count moment n : ℕ) (p : Planned) → IsOrderlyFrom count moment calls → slice_get calls n ≡ Some p → (before : ℕ) × (count_after before p.1 ≤ count + task_count calls) × IsOrderlyCall before p.1
call_in_order [] count moment n p orderly is = absurd (none-some p is)
call_in_order (q ∷ calls) count moment zero p orderly is =
    let same = same_Some q p is in
    (count, subst (λ (r : Planned). count_after count r.1 ≤ count + task_count (q ∷ calls)) same (omega (arith, counts_on count q.1 (task_count calls))), subst (λ (r : Planned). IsOrderlyCall count r.1) same orderly.2)
call_in_order (q ∷ calls) count moment (suc n) p orderly is =
    let there = call_in_order calls (count_after count q.1) q.0 n p orderly.3 is in
    (there.0, omega (arith, there.1, counts_on count q.1 (task_count calls)), there.2)

-- ---- answers

-- the numbers that a view shows are in range, where the history with the next entry is this one
record IsSeenInRange (calls : List Planned) (past : List HistoryEntry) (view : View) : Type 0 where
  due : (k : ℕ) → (view.fate k).due ≤ 2 ^ 63
  next : (k : ℕ) → due_next calls view k ≤ 2 ^ 63
  runs : (k : ℕ) → (view.fate k).starts < length past
  work : (w k : ℕ) → view.work w ≡ Some k → k < task_count calls

-- of all tasks, no more are counted than there are
counted : (calls : List Planned) (test : ℕ → Bool) → how_many test (numbers calls) ≤ task_count calls
counted calls test = omega (arith, how_many-le test (numbers calls), length-range_with_len 0 (task_count calls))

called_in_range : (calls : List Planned) (workers : ℕ) (past : List HistoryEntry) (view : View) (before : ℕ) (call : CodeCall) → IsOrderly calls → count_after before call ≤ task_count calls → IsOrderlyCall before call →
    IsAnswerInRange calls workers past (called calls view call).answer
called_in_range calls workers past view before call orderly = by view.shut call
  where
    by : (shut : Bool) (call : CodeCall) → count_after before call ≤ task_count calls → IsOrderlyCall before call → IsAnswerInRange calls workers past (called calls (record view { shut = shut }) call).answer
    by true (c.Submit task timing delay) few is = omega (arith, is.0, few)
    by false (c.Submit task timing delay) few is = (omega (arith, is.0, few), omega (arith, none_within calls task orderly))
    by shut (c.Illegal task) few is = omega (arith, is, few)
    by shut (c.Cancel task) few is = omega (arith, is, few)
    by shut c.Ask few is = (counted calls (λ k. is_queued (view.fate k)), counted calls (λ k. is_running (view.fate k)))
    by shut call few is = tt

outcome_in_range : (past : List HistoryEntry) (cancelled stops : Bool) (timing : Timing) (due : ℕ) (ending : Ending) → due ≤ 2 ^ 63 → RunEnded past ending → IsOutcomeInRange past (outcome_in cancelled stops timing due ending)
outcome_in_range past true stops timing due ending within ended = tt
outcome_in_range past false stops t.Once due (e.Value value) within ended = ended
outcome_in_range past false true (t.Rate period) due (e.Value value) within ended = tt
outcome_in_range past false false (t.Rate period) due (e.Value value) within ended = omega (arith, within)
outcome_in_range past false true (t.Fixed delay) due (e.Value value) within ended = tt
outcome_in_range past false false (t.Fixed delay) due (e.Value value) within ended = omega (arith, within)
outcome_in_range past false stops timing due (e.Fault code) within ended = ended

started_in_range : (calls : List Planned) (workers : ℕ) (past : List HistoryEntry) (view : View) (w : ℕ) (first : Option ℕ) → IsSeenInRange calls past view → w < workers → first_enabled view (numbers calls) ≡ first → IsAnswerInRange calls workers past (start_answer view w first)
started_in_range calls workers past view w None seen low is = low
started_in_range calls workers past view w (Some k) seen low is = (low, omega (arith, range_below 0 (task_count calls) k (first_is_in view (numbers calls) k is)), seen.runs k, omega (arith, seen.due k))

finished_in_range : (calls : List Planned) (workers : ℕ) (past : List HistoryEntry) (view : View) (w : ℕ) (ending : Ending) (work : Option ℕ) → IsSeenInRange calls past view → w < workers → RunEnded past ending → view.work w ≡ work →
    IsAnswerInRange calls workers past (finish_answer calls view w ending work)
finished_in_range calls workers past view w ending None seen low ended is = tt
finished_in_range calls workers past view w ending (Some k) seen low ended is = (
  low,
  seen.work w k is,
  omega (arith, seen.runs k),
  outcome_in_range past (view.fate k).cancelled (stops_periodic view.shut view.stopped view.policies) (terms_of calls k).timing (due_next calls view k) ending (seen.next k) ended,
)

-- an answer of the table is in range
reply_in_range : (calls : List Planned) (workers : ℕ) (past : List HistoryEntry) (view : View) (happening : Happening) → IsOrderly calls → IsSeenInRange calls past view → ((w : ℕ) (ending : Ending) → happening ≡ h.Finish w ending → RunEnded past ending) →
    IsAnswerInRange calls workers past (reply calls workers view happening).answer
reply_in_range calls workers past view h.Call orderly seen ended = by (slice_get calls view.made) refl
  where
    by : (found : Option Planned) → slice_get calls view.made ≡ found → IsAnswerInRange calls workers past (option_map_or (λ p. called calls (record view { moment = max view.moment p.0 }) p.1) found (bare a.Clock)).answer
    by (Some p) is =
        let order = call_in_order calls 0 0 view.made p orderly is in
        called_in_range calls workers past (record view { moment = max view.moment p.0 }) order.0 p.1 orderly (omega (arith, order.1)) order.2
    by None is = tt
reply_in_range calls workers past view (h.Clock moment) orderly seen ended = by _ _
  where
    by : (back far : Bool) → IsAnswerInRange calls workers past (cond back (a.Error x.Backward) (cond far (a.Error x.TooFar) a.Clock))
    by true far = tt
    by false true = tt
    by false false = tt
reply_in_range calls workers past view (h.Start w) orderly seen ended = by (nat_lt w workers) refl (view.work w)
  where
    by : (b : Bool) → nat_lt w workers ≡ b → (work : Option ℕ) → IsAnswerInRange calls workers past (cond b (option_map_or (λ _. a.Error x.Busy) work (start_answer view w (first_enabled view (numbers calls)))) (a.Error x.NoWorker))
    by true is None = started_in_range calls workers past view w (first_enabled view (numbers calls)) seen (ltb-true w workers is) refl
    by true is (Some k) = tt
    by false is work = tt
reply_in_range calls workers past view (h.Finish w ending) orderly seen ended = by (nat_lt w workers) refl
  where
    by : (b : Bool) → nat_lt w workers ≡ b → IsAnswerInRange calls workers past (cond b (finish_answer calls view w ending (view.work w)) (a.Error x.NoWorker))
    by true is = finished_in_range calls workers past view w ending (view.work w) seen (ltb-true w workers is) (ended w ending refl) refl
    by false is = tt
reply_in_range calls workers past view (h.Cancel k) orderly seen ended = by (nat_lt k (task_count calls)) refl
  where
    by : (b : Bool) → nat_lt k (task_count calls) ≡ b → IsAnswerInRange calls workers past (cond b (a.Outside k (effect_on (view.fate k))) (a.Error x.NoTask))
    by true is = ltb-true k (task_count calls) is
    by false is = tt
reply_in_range calls workers past view h.Purge orderly seen ended = tt

-- ---- lines

-- a line of a history is in range
abbrev InRange : List Planned → ℕ → List HistoryEntry → Line → Type 0
InRange calls workers past line = (line.moment ≤ 2 ^ 62) × IsMessageInRange calls workers past line.message

-- each of some lines is
abbrev AreInRange : List Planned → ℕ → List HistoryEntry → List Line → Type 0
AreInRange calls workers past lines = (n : ℕ) (line : Line) → slice_get lines n ≡ Some line → InRange calls workers past line

first_in_range : (calls : List Planned) (workers : ℕ) (past : List HistoryEntry) (first : Line) (lines : List Line) → InRange calls workers past first → AreInRange calls workers past lines → AreInRange calls workers past (first ∷ lines)
first_in_range calls workers past first lines is rest zero line q = subst (InRange calls workers past) (same_Some first line q) is
first_in_range calls workers past first lines is rest (suc n) line q = rest n line q

both_in_range : (calls : List Planned) (workers : ℕ) (past : List HistoryEntry) (ls rs : List Line) → AreInRange calls workers past ls → AreInRange calls workers past rs → AreInRange calls workers past (ls ++ rs)
both_in_range calls workers past [] rs first rest = rest
both_in_range calls workers past (l ∷ ls) rs first rest = first_in_range calls workers past l (ls ++ rs) (first 0 l refl) (both_in_range calls workers past ls rs (λ n line q. first (suc n) line q) rest)

ends_in_range : (calls : List Planned) (workers : ℕ) (past : List HistoryEntry) (moment : ℕ) (ends : List ℕ) → moment ≤ 2 ^ 62 → ((k : ℕ) → is_end k ends ≡ true → k < task_count calls) → AreInRange calls workers past (map (end_line moment) ends)
ends_in_range calls workers past moment [] within tasks = λ n line q. absurd (none-some line q)
ends_in_range calls workers past moment (k ∷ ends) within tasks =
    first_in_range calls workers past (end_line moment k) (map (end_line moment) ends) (within, tasks k (or_left (k == k) (is_end k ends) (eq-eqb k k refl)))
    (ends_in_range calls workers past moment ends within (λ j q. tasks j (or_right (k == j) (is_end j ends) q)))

seen_in_range : (calls : List Planned) (workers : ℕ) (past : List HistoryEntry) (y : HistoryEntry) → IsOrderly calls → IsHistoryOf calls workers past → IsSeenInRange calls (y ∷ past) (view_of_history calls past)
seen_in_range calls workers past y orderly means =
    let within = dues_within calls workers past orderly means in
    let agrees = after_agrees calls workers past means in
    record {
      due = within;
      next = λ k. next_within calls past k orderly within;
      runs = λ k. omega (arith, how_many-le (λ (e : HistoryEntry). is_start k e.answer) past);
      work = λ w k q. submitted_is_a_task calls workers past k orderly means (ap was_submitted (agrees.sound.at_work w k (ap (λ (v : View). v.work w) agrees.view ∙ q)));
    }

lines_in_range : (calls : List Planned) (workers : ℕ) (past : List HistoryEntry) → IsOrderly calls → IsHistoryOf calls workers past → AreInRange calls workers past (lines_of calls past)
lines_in_range calls workers [] orderly means = λ n line q. absurd (none-some line q)
lines_in_range calls workers (y ∷ past) orderly means =
    let now = now_of calls (happenings (y ∷ past)) in
    let view = view_of_history calls past in
    let within = now_within calls (happenings (y ∷ past)) orderly in
    let before : AreInRange calls workers (y ∷ past) (lines_of calls past) =
    λ n line q. let old = lines_in_range calls workers past orderly means.0 n line q in (old.0, message_behind calls workers past y line.message old.1)
    in
    let ended : (w : ℕ) (ending : Ending) → y.happening ≡ h.Finish w ending → RunEnded (y ∷ past) ending = λ w ending is. record { later = []; entry = y; before = past; parts = refl; worker = w; finish = is } in
    let said = subst (IsAnswerInRange calls workers (y ∷ past)) (sym means.2) (reply_in_range calls workers (y ∷ past) view y.happening orderly (seen_in_range calls workers past y orderly means.0) ended) in
    let tasks : (k : ℕ) → is_end k y.ends ≡ true → k < task_count calls = λ k q.
    (waiting_is_a_task calls workers past k orderly means.0 (ends_say calls workers view y.happening k (sym (ap (is_end k) means.3) ∙ q)).waited).0
    in
    both_in_range calls workers (y ∷ past) (lines_of calls past) (lines_at now (reply_in y)) before
    (first_in_range calls workers (y ∷ past) _ (map (end_line now) y.ends) (within, said) (ends_in_range calls workers (y ∷ past) now y.ends within tasks))

-- the law that each line is in range
pub lines_are_in_range : LinesAreInRange
lines_are_in_range calls workers past n line orderly means q = lines_in_range calls workers past orderly means n line q

-- LineCounts: how many lines a history has.
use Rattle.std.proofs.Common.{ℕ, ◌+◌, ◌*◌, ◌≤◌, cond, List, [], ◌∷◌, length, Option, Some, None, ap, arith, length-append}
use Rattle.std.specs.Prelude.{slice_get, max}
use Rattle.std.specs.Option.{option_map_or}
use Rattle.std.proofs.lemmas.List.{length-map}
use Rattle.std.proofs.lemmas.List.FromFn.{length-range_with_len}
use Rattle.std.proofs.lemmas.List.Sums.{length-filter, count_by-le-length}
use Rattle.queue_code.specs.declared.CodeCall.{CodeCall}
use Rattle.queue_code.specs.Calls.{Planned, AreFew, submits_task, task_count, numbers}
use Rattle.executor_model.specs.declared.Happening.{Happening}
use Rattle.executor_model.specs.declared.Happening.TheVariants as h
use Rattle.executor_model.specs.declared.Answer.TheVariants as a
use Rattle.executor_model.specs.View.{View}
use Rattle.executor_model.specs.Answers.{bare, called, reply}
use Rattle.executor_model.specs.Histories.{HistoryEntry, happenings, made, now_of, is_call, view_of_history, IsHistoryOf}
use Rattle.executor_model.specs.Flows.{end_line, lines_at, lines_of, reply_in}
use Rattle.executor_model.proofs.Flowing.{how_many-le}
use Rattle.executor_model.proofs.Replies.{call_ends_waiting}

-- there are no more tasks than calls
tasks_few : (calls : List Planned) → task_count calls ≤ length calls
tasks_few calls = how_many-le (λ (p : Planned). submits_task p.1) calls

-- a call ends no more tasks than there are, since it ends each once at most
called_few : (calls : List Planned) (v : View) (call : CodeCall) → length (called calls v call).ends ≤ task_count calls
called_few calls v call =
    let ended = call_ends_waiting calls v call in
    omega (arith, ap length ended.are, length-filter ended.test (numbers calls), count_by-le-length ended.test (numbers calls), length-range_with_len 0 (task_count calls))

-- a reply to a call ends no more tasks than there are, and one to an event ends none
reply_few : (calls : List Planned) (workers : ℕ) (v : View) (happening : Happening) → length (reply calls workers v happening).ends ≤ cond (is_call happening) (task_count calls) 0
reply_few calls workers v h.Call = by (slice_get calls v.made)
  where
    by : (found : Option Planned) → length (option_map_or (λ p. called calls (record v { moment = max v.moment p.0 }) p.1) found (bare a.Clock)).ends ≤ task_count calls
    by (Some p) = called_few calls (record v { moment = max v.moment p.0 }) p.1
    by None = omega arith
reply_few calls workers v (h.Clock moment) = omega arith
reply_few calls workers v (h.Start w) = omega arith
reply_few calls workers v (h.Finish w ending) = omega arith
reply_few calls workers v (h.Cancel k) = omega arith
reply_few calls workers v h.Purge = omega arith

-- a happening more, and what it ends
ends_more : (calls : List Planned) (happening : Happening) (past : List Happening) (n : ℕ) → task_count calls ≤ 65536 → n ≤ cond (is_call happening) (task_count calls) 0 → n + made past * 65536 ≤ made (happening ∷ past) * 65536
ends_more calls h.Call past n few l = omega (arith, few, l)
ends_more calls (h.Clock moment) past n few l = omega (arith, l)
ends_more calls (h.Start w) past n few l = omega (arith, l)
ends_more calls (h.Finish w ending) past n few l = omega (arith, l)
ends_more calls (h.Cancel k) past n few l = omega (arith, l)
ends_more calls h.Purge past n few l = omega (arith, l)

-- a history has a line for each happening, and for each call at most one for each task
pub lines_by_calls : (calls : List Planned) (workers : ℕ) (past : List HistoryEntry) → AreFew calls → IsHistoryOf calls workers past → length (lines_of calls past) ≤ length past + made (happenings past) * 65536
lines_by_calls calls workers [] few means = omega arith
lines_by_calls calls workers (e ∷ past) few means =
    let now = now_of calls (happenings (e ∷ past)) in
    omega (
      arith,
      lines_by_calls calls workers past few means.0,
      length-append (lines_of calls past) (lines_at now (reply_in e)),
      length-map e.ends (end_line now),
      ends_more calls e.happening (happenings past) (length e.ends) (omega (arith, tasks_few calls, few)) (omega (arith, ap length means.3, reply_few calls workers (view_of_history calls past) e.happening)),
    )

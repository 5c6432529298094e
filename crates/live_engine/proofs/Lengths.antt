-- Lengths: how many lines the answer to a line adds to a trace.
use Rattle.std.proofs.Common.{◌≡◌, ℕ, ◌+◌, ◌-◌, ◌<◌, ◌≤◌, true, List, [], ◌∷◌, ◌++◌, length, ◌⊎◌, inl, inr, refl, ap, ◌∙◌, arith, length-append}
use Rattle.std.specs.Prelude.{max}
use Rattle.std.specs.Option.{option_map_or}
use Rattle.std.proofs.lemmas.Bool.{false≢true}
use Rattle.std.proofs.lemmas.List.{length-map}
use Rattle.queue_code.specs.Calls.{Planned, submits_task}
use Rattle.executor_model.specs.declared.Answer.{Answer}
use Rattle.executor_model.specs.declared.Answer.TheVariants as a
use Rattle.executor_model.specs.declared.Happening.TheVariants as h
use Rattle.executor_model.specs.Answers.{Reply, bare, called}
use Rattle.executor_model.specs.Histories.{HistoryEntry, answer, entry_of, happenings, made, now_of, view_of_history}
use Rattle.executor_model.specs.Flows.{end_line, lines_at, lines_of, reply_in}
use Rattle.executor_model.specs.View.{View}
use Rattle.call_text.specs.declared.call.CallLine.{CallLine}
use Rattle.call_text.specs.declared.call.CallLine.TheVariants as call
use Rattle.task_table.specs.declared.seat.TaskRef.{TaskRef}
use Rattle.live_core.specs.Lives.{LiveView}
use Rattle.live_core.specs.Said.{ending}
use Rattle.live_engine.specs.declared.live_line.LiveLine.{LiveLine}
use Rattle.live_engine.specs.declared.live_line.LiveLine.TheVariants as l
use Rattle.live_engine.specs.declared.stops.PieceEnd.TheVariants as e
use Rattle.call_journal.specs.MadeCalls.{code_of}
use Rattle.live_engine.specs.LiveLines.{LiveHistory, IsBeyond, IsCallLine, after_meant, most_lines, planned_of, trace_length}
use Rattle.live_engine.specs.own.LiveSteps.{IsAt, IsNotTaken, Refuses, TakesLine}
use Rattle.live_engine.proofs.Steps.{behind_all}

-- an answer has a line, and one of each task that it ends
lines_many : (moment : ℕ) (r : Reply) → length (lines_at moment r) ≡ length r.ends + 1
lines_many moment r = omega (arith, length-map r.ends (end_line moment))

-- how many lines a history has does not go by its calls
lines_whatever : (calls more : List Planned) (past : List HistoryEntry) → length (lines_of calls past) ≡ length (lines_of more past)
lines_whatever calls more [] = refl
lines_whatever calls more (x ∷ past) =
    let here = lines_at (now_of calls (happenings (x ∷ past))) (reply_in x) in
    let there = lines_at (now_of more (happenings (x ∷ past))) (reply_in x) in
    omega (
      arith,
      length-append (lines_of calls past) here,
      length-append (lines_of more past) there,
      lines_many (now_of calls (happenings (x ∷ past))) (reply_in x),
      lines_many (now_of more (happenings (x ∷ past))) (reply_in x),
      lines_whatever calls more past,
    )

-- a line that is taken adds those of its reply
taken_adds : (old new : LiveView) (line : LiveLine) (r : Reply) → TakesLine old new line r → (workers : ℕ) (so_far : LiveHistory) → IsAt workers old so_far →
    trace_length (after_meant workers so_far line) ≡ trace_length so_far + (length r.ends + 1)
taken_adds old new line r takes workers so_far at =
    let front = lines_of so_far.calls so_far.past in
    let more = lines_at new.table.moment r in
    ap length (takes workers so_far at).longer.lines ∙ (length-append front more ∙ ap (λ n. length front + n) (lines_many new.table.moment r))

-- ---- submissions

-- one ends no task
submits_no_end : (calls : List Planned) (v : View) (number : ℕ) (asked : CallLine) → submits_task (code_of number asked) ≡ true → (called calls v (code_of number asked)).ends ≡ []
submits_no_end calls v number (call.Schedule delay) is = refl
submits_no_end calls v number call.Execute is = refl
submits_no_end calls v number (call.Rate first period) is = refl
submits_no_end calls v number (call.Fixed first delay) is = refl
submits_no_end calls v number (call.Cancel task) is = absurd (false≢true is)
submits_no_end calls v number (call.Policy which value) is = absurd (false≢true is)
submits_no_end calls v number call.Shutdown is = absurd (false≢true is)
submits_no_end calls v number call.ShutdownNow is = absurd (false≢true is)
submits_no_end calls v number call.Ask is = absurd (false≢true is)

-- so it adds one line
pub submission_adds : (workers : ℕ) (so_far : LiveHistory) (asked : CallLine) → made (happenings so_far.past) ≡ length so_far.calls → submits_task (planned_of so_far asked).1 ≡ true →
    trace_length (after_meant workers so_far (l.Call asked)) ≡ trace_length so_far + 1
submission_adds workers so_far asked all is =
    let p = planned_of so_far asked in
    let calls = so_far.calls ++ p ∷ [] in
    let past = so_far.past in
    let v = view_of_history calls past in
    let r = answer calls workers past h.Call in
    let x = entry_of h.Call r in
    let told : List Planned → View → Planned → Reply = λ calls v q. called calls (record v { moment = max v.moment q.0 }) q.1 in
    let none : r.ends ≡ [] =
    ap (λ o. (option_map_or (told calls v) o (bare a.Clock)).ends) (behind_all so_far.calls p v.made all)
    ∙ submits_no_end calls (record v { moment = max v.moment p.0 }) _ asked is in
    let more = lines_at (now_of calls (happenings (x ∷ past))) (reply_in x) in
    omega (
      arith,
      length-append (lines_of calls past) more,
      lines_many (now_of calls (happenings (x ∷ past))) (reply_in x),
      ap length none,
      lines_whatever calls so_far.calls past,
    )

-- ---- room

-- memory is wanting for a call that the executor would take, and that ends no task
pub wants_memory : (old new : LiveView) (line : LiveLine) (r : Reply) → IsCallLine line → TakesLine old new line r → r.ends ≡ [] → Refuses e.Memory old line
wants_memory old new line r calls takes none workers so_far at =
    let after = takes workers so_far at in
    let adds = taken_adds old new line r takes workers so_far at in
    (calls, after.within, omega (arith, adds, ap length none))

ends_many : (given : Answer) (ended : List TaskRef) → length (ending given ended).ends ≡ length ended
ends_many given ended = length-map ended (λ (r : TaskRef). r.number)

-- the trace has no room for the lines of a line that the executor took
pub no_room : (old new : LiveView) (line : LiveLine) (given : Answer) (written : ℕ) → TakesLine old new line (ending given new.ended) → most_lines - written ≤ length new.ended →
    (workers : ℕ) (so_far : LiveHistory) → IsAt workers old so_far → written ≡ trace_length so_far → IsNotTaken e.Full workers so_far line
no_room old new line given written takes many workers so_far at counted =
    let adds = taken_adds old new line (ending given new.ended) takes workers so_far at in
    inr (omega (arith, adds, many, counted, ends_many given new.ended))

neither : (A B : Type 0) → (A → ⊥) → (B → ⊥) → A ⊎ B → ⊥
neither A B not_a not_b (inl x) = not_a x
neither A B not_a not_b (inr y) = not_b y

-- or it has
pub has_room : (old new : LiveView) (line : LiveLine) (given : Answer) (written : ℕ) → TakesLine old new line (ending given new.ended) → length new.ended < most_lines - written →
    (workers : ℕ) (so_far : LiveHistory) → IsAt workers old so_far → written ≡ trace_length so_far → IsBeyond workers so_far line → ⊥
has_room old new line given written takes few workers so_far at counted =
    let adds = taken_adds old new line (ending given new.ended) takes workers so_far at in
    neither _ _ (takes workers so_far at).within (λ many. omega (arith, adds, many, few, counted, ends_many given new.ended))

-- a line that ended tasks by a sweep makes a call
pub ends_some : (line : LiveLine) (ended : List TaskRef) → (ended ≡ []) ⊎ IsCallLine line → (ended ≡ [] → ⊥) → IsCallLine line
ends_some line ended (inl none) some = absurd (some none)
ends_some line ended (inr calls) some = calls

-- so where it makes a call, nothing is wanting for it but memory
pub some_room : (old new : LiveView) (line : LiveLine) (given : Answer) (written : ℕ) → IsCallLine line → TakesLine old new line (ending given new.ended) → length new.ended < most_lines - written →
    (workers : ℕ) (so_far : LiveHistory) → IsAt workers old so_far → written ≡ trace_length so_far → IsNotTaken e.Memory workers so_far line
some_room old new line given written calls takes few workers so_far at counted =
    (calls, has_room old new line given written takes few workers so_far at counted)

-- The lines of a history fit: each number is in the range that a line can spell. So the text of a history conforms.
use Rattle.std.proofs.Common.{ℕ, ◌^◌, ◌≤◌, List, [], ◌∷◌, ◌++◌, get_or, length, refl, subst, arith}
use Rattle.std.specs.Prelude.{All}
use Rattle.std.proofs.lemmas.Option.{slice_get-get_or}
use Rattle.std.proofs.lemmas.List.Elements.{All-head, All-tail}
use Rattle.sched_time.specs.declared.timing.Ending.{Ending}
use Rattle.sched_time.specs.declared.timing.Ending.TheVariants as e
use Rattle.queue_code.specs.Calls.{Planned, task_count}
use Rattle.executor_model.specs.declared.types.Outcome.{Outcome}
use Rattle.executor_model.specs.declared.types.Outcome.TheVariants as o
use Rattle.executor_model.specs.declared.types.Answer.{Answer}
use Rattle.executor_model.specs.declared.types.Answer.TheVariants as a
use Rattle.executor_model.specs.declared.types.Message.{Message}
use Rattle.executor_model.specs.declared.types.Message.TheVariants as m
use Rattle.executor_model.specs.Histories.{HistoryEntry, happenings}
use Rattle.executor_model.specs.Flows.{lines_of}
use Rattle.executor_model.proofs.Swept.{few_tasks}
use Rattle.executor_laws.specs.Lines.{RunEnded, IsOutcomeInRange, IsAnswerInRange, IsMessageInRange}
use Rattle.executor_laws.proofs.Lines.{lines_are_in_range}
use Rattle.trace_text.specs.Spelling.{FitsEnding, FitsOutcome, FitsAnswer, FitsMessage, lines_text}
use Rattle.trace_check.specs.Laws.{FitsHappening, HistoriesFit, HistoriesConform}
use Rattle.trace_check.proofs.TextLaws.{traces_conform}

-- where happenings fit, that of an entry among them does
entry_fits : (later : List HistoryEntry) (entry : HistoryEntry) (before : List HistoryEntry) → All FitsHappening (happenings (later ++ entry ∷ before)) → FitsHappening entry.happening
entry_fits [] entry before fit = All-head FitsHappening entry.happening (happenings before) fit
entry_fits (y ∷ later) entry before fit = entry_fits later entry before (All-tail FitsHappening y.happening (happenings (later ++ entry ∷ before)) fit)

-- how a run ended fits
ending_fits : (past : List HistoryEntry) (ending : Ending) → All FitsHappening (happenings past) → RunEnded past ending → FitsEnding ending
ending_fits past ending fit r =
    let there = entry_fits r.later r.entry r.before (subst (λ (l : List HistoryEntry). All FitsHappening (happenings l)) r.parts fit) in
    subst FitsHappening r.finish there

outcome_fits : (past : List HistoryEntry) (outcome : Outcome) → All FitsHappening (happenings past) → IsOutcomeInRange past outcome → FitsOutcome outcome
outcome_fits past (o.Done value) fit r = ending_fits past (e.Value value) fit r
outcome_fits past (o.Failed code) fit r = ending_fits past (e.Fault code) fit r
outcome_fits past (o.Again due) fit r = omega (arith, r)
outcome_fits past o.Dropped fit r = tt
outcome_fits past o.Ended fit r = tt

-- an answer fits whose numbers are in range
answer_fits : (calls : List Planned) (workers : ℕ) (past : List HistoryEntry) (answer : Answer) → task_count calls ≤ 65536 → workers ≤ 64 → All FitsHappening (happenings past) → length past ≤ 2 ^ 64 →
    IsAnswerInRange calls workers past answer → FitsAnswer answer
answer_fits calls workers past (a.Submit task kind due) tasks few fit short r = (omega (arith, r.0, tasks), omega (arith, r.1))
answer_fits calls workers past (a.Refuse task refusal) tasks few fit short r = omega (arith, r, tasks)
answer_fits calls workers past (a.Cancel task effect) tasks few fit short r = omega (arith, r, tasks)
answer_fits calls workers past (a.Outside task effect) tasks few fit short r = omega (arith, r, tasks)
answer_fits calls workers past (a.Ask queue running shut terminated) tasks few fit short r = (omega (arith, r.0, tasks), omega (arith, r.1, tasks))
answer_fits calls workers past (a.Start worker task run due) tasks few fit short r = (omega (arith, r.0, few), omega (arith, r.1, tasks), omega (arith, r.2, short), omega (arith, r.3))
answer_fits calls workers past (a.Idle worker) tasks few fit short r = omega (arith, r, few)
answer_fits calls workers past (a.Finish worker task run outcome) tasks few fit short r =
    (omega (arith, r.0, few), omega (arith, r.1, tasks), omega (arith, r.2, short), outcome_fits past outcome fit r.3)
answer_fits calls workers past answer tasks few fit short r = tt

message_fits : (calls : List Planned) (workers : ℕ) (past : List HistoryEntry) (message : Message) → task_count calls ≤ 65536 → workers ≤ 64 → All FitsHappening (happenings past) → length past ≤ 2 ^ 64 →
    IsMessageInRange calls workers past message → FitsMessage message
message_fits calls workers past (m.Answer answer) tasks few fit short r = answer_fits calls workers past answer tasks few fit short r
message_fits calls workers past (m.End task) tasks few fit short r = omega (arith, r, tasks)

-- each line of a history fits
pub histories_fit : HistoriesFit
histories_fit calls workers past orderly count means fit short = λ n line within.
    let lines = lines_of calls past in
    let there = get_or lines n line in
    let range = lines_are_in_range calls workers past n there orderly.1 means (slice_get-get_or lines n line within) in
    (omega (arith, range.0), message_fits calls workers past there.message (few_tasks calls orderly.0) count.1 fit short range.1)

-- the text of a history conforms
pub histories_conform : HistoriesConform
histories_conform calls workers past orderly count means fit short =
    (traces_conform calls workers (lines_text (lines_of calls past)) orderly count).1 (record {
      past = past;
      means = means;
      fit = histories_fit calls workers past orderly count means fit short;
      spelled = refl;
    })

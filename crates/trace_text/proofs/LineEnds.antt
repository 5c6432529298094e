-- A line has one newline, at its end.
use Rattle.std.proofs.Common.{ℕ, ◌-◌, ◌^◌, ◌<◌, true, false, Some, None, List, ◌++◌, length, refl, arith, rules, codes, Bool}
use Rattle.std.specs.Prelude.{take}
use Rattle.std.specs.Fmt.{decimal}
use Rattle.sched_time.specs.declared.policies.Which.{Which}
use Rattle.executor_model.specs.declared.Kind.{Kind}
use Rattle.executor_model.specs.declared.Refusal.{Refusal}
use Rattle.executor_model.specs.declared.EventError.{EventError}
use Rattle.executor_model.specs.declared.CancelEffect.{CancelEffect}
use Rattle.executor_model.specs.declared.Outcome.{Outcome}
use Rattle.executor_model.specs.declared.Answer.TheVariants as a
use Rattle.sched_time.specs.declared.policies.Which.TheVariants as which
use Rattle.executor_model.specs.declared.Kind.TheVariants as kind
use Rattle.executor_model.specs.declared.Refusal.TheVariants as refusal
use Rattle.executor_model.specs.declared.EventError.TheVariants as error
use Rattle.executor_model.specs.declared.CancelEffect.TheVariants as effect
use Rattle.executor_model.specs.declared.Outcome.TheVariants as outcome
use Rattle.executor_model.specs.declared.Message.{Message}
use Rattle.executor_model.specs.declared.Message.TheVariants.{Answer, End}
use Rattle.trace_text.specs.Spelling.{IsLine, message_text, error_text, outcome_text, kind_text, refusal_text, effect_text, whether_text, cancel_text, FitsMessage, FitsOutcome}
use Rattle.sched_time.specs.Policies.{policy_text, truth_text}
use Rattle.trace_text.specs.Reading.{LinesEndOnce}
use Rattle.trace_text.proofs.EventTexts.{IsEnded, ended_number, ended_behind, number_is_line}
use Rattle.trace_text.proofs.LineForms.{start_text, submit_text, refuse_text, set_text, ask_text, run_text, due_text, kind_due_text, running_text, ends_text}

-- a number, a word and what is behind them
numbered_ended : (n : ℕ) (word behind : List ℕ) → n < 2 ^ 64 → IsLine word → IsEnded behind → IsEnded (decimal n ++ (word ++ behind))
numbered_ended n word behind small plain end = ended_behind (decimal n) (word ++ behind) (number_is_line n small) (ended_behind word behind plain end)

space_line : IsLine (codes " ")
space_line = search rules

task_line : IsLine (codes " task ")
task_line = search rules

run_line : IsLine (codes " run ")
run_line = search rules

due_line : IsLine (codes " due ")
due_line = search rules

running_line : IsLine (codes " running ")
running_line = search rules

shutdown_line : IsLine (codes " shutdown ")
shutdown_line = search rules

terminated_line : IsLine (codes " terminated ")
terminated_line = search rules

start_line : IsLine (codes " start ")
start_line = search rules

finish_line : IsLine (codes " finish ")
finish_line = search rules

submit_line : IsLine (codes " submit ")
submit_line = search rules

refuse_line : IsLine (codes " refuse ")
refuse_line = search rules

cancel_line : IsLine (codes " cancel ")
cancel_line = search rules

outside_line : IsLine (codes " outside ")
outside_line = search rules

policy_line : IsLine (codes " policy ")
policy_line = search rules

ask_line : IsLine (codes " ask queue ")
ask_line = search rules

error_line : IsLine (codes " error ")
error_line = search rules

end_line : IsLine (codes " end ")
end_line = search rules

kind_line : (k : Kind) → IsLine (kind_text k)
kind_line kind.Schedule = search rules
kind_line kind.Rate = search rules
kind_line kind.Fixed = search rules

refusal_line : (r : Refusal) → IsLine (refusal_text r)
refusal_line refusal.Illegal = search rules
refusal_line refusal.Rejected = search rules

effect_line : (e : CancelEffect) → IsLine (effect_text e)
effect_line effect.Yes = search rules
effect_line effect.No = search rules
effect_line effect.Absent = search rules

which_line : (w : Which) → IsLine (policy_text w)
which_line which.Continue = search rules
which_line which.Execute = search rules
which_line which.Remove = search rules

truth_line : (b : Bool) → IsLine (truth_text b)
truth_line true = search rules
truth_line false = search rules

whether_line : (b : Bool) → IsLine (whether_text b)
whether_line true = search rules
whether_line false = search rules

reason_line : (e : EventError) → IsLine (error_text e)
reason_line error.Backward = search rules
reason_line error.TooFar = search rules
reason_line error.NoWorker = search rules
reason_line error.Busy = search rules
reason_line error.NotRunning = search rules
reason_line error.NoTask = search rules

last_word : (word : List ℕ) → IsLine word → IsEnded (word ++ codes "\n")
last_word word plain = record { front = word; is = refl; plain = plain }

done_line : IsLine (codes " done ")
done_line = search rules

failed_line : IsLine (codes " failed ")
failed_line = search rules

again_line : IsLine (codes " again due ")
again_line = search rules

dropped_line : IsLine (codes " dropped")
dropped_line = search rules

over_line : IsLine (codes " ended")
over_line = search rules

outcome_ended : (o : Outcome) → FitsOutcome o → IsEnded (outcome_text o)
outcome_ended (outcome.Done v) f = ended_behind (codes " done ") (decimal v ++ codes "\n") done_line (ended_number v f)
outcome_ended (outcome.Failed c) f = ended_behind (codes " failed ") (decimal c ++ codes "\n") failed_line (ended_number c (omega (arith, f)))
outcome_ended (outcome.Again d) f = ended_behind (codes " again due ") (decimal d ++ codes "\n") again_line (ended_number d f)
outcome_ended outcome.Dropped f = last_word (codes " dropped") dropped_line
outcome_ended outcome.Ended f = last_word (codes " ended") over_line

idle_line : IsLine (codes " idle")
idle_line = search rules

-- a text without its last byte
abbrev before_last : List ℕ → List ℕ
before_last text = take (length text - 1) text

message_ended : (m : Message) → FitsMessage m → IsEnded (message_text m)
message_ended (Answer (a.Start w k n d)) f =
    ended_behind (codes " start ") (start_text (w, Some (k, (n, d)))) start_line
    (numbered_ended w (codes " task ") (run_text (k, (n, d))) (omega (arith, f.0)) task_line
    (numbered_ended k (codes " run ") (due_text (n, d)) (omega (arith, f.1)) run_line (numbered_ended n (codes " due ") (decimal d ++ codes "\n") f.2 due_line (ended_number d f.3))))
message_ended (Answer (a.Idle w)) f =
    ended_behind (codes " start ") (start_text (w, None)) start_line (ended_behind (decimal w) (codes " idle\n") (number_is_line w (omega (arith, f))) (last_word (codes " idle") idle_line))
message_ended (Answer (a.Finish w k n o)) f =
    ended_behind (codes " finish ") (decimal w ++ (codes " task " ++ (decimal k ++ (codes " run " ++ (decimal n ++ outcome_text o))))) finish_line
    (numbered_ended w (codes " task ") (decimal k ++ (codes " run " ++ (decimal n ++ outcome_text o))) (omega (arith, f.0)) task_line
    (numbered_ended k (codes " run ") (decimal n ++ outcome_text o) (omega (arith, f.1)) run_line (ended_behind (decimal n) (outcome_text o) (number_is_line n f.2) (outcome_ended o f.3))))
message_ended (Answer (a.Submit k kind d)) f =
    ended_behind (codes " submit ") (submit_text (k, (kind, d))) submit_line
    (numbered_ended k (codes " ") (kind_due_text (kind, d)) (omega (arith, f.0)) space_line
    (ended_behind (kind_text kind) (codes " due " ++ (decimal d ++ codes "\n")) (kind_line kind) (ended_behind (codes " due ") (decimal d ++ codes "\n") due_line (ended_number d f.1))))
message_ended (Answer (a.Refuse k reason)) f =
    ended_behind (codes " refuse ") (refuse_text (k, reason)) refuse_line
    (numbered_ended k (codes " ") (refusal_text reason ++ codes "\n") (omega (arith, f)) space_line (last_word (refusal_text reason) (refusal_line reason)))
message_ended (Answer (a.Cancel k e)) f =
    ended_behind (codes " cancel ") (cancel_text (k, e)) cancel_line (numbered_ended k (codes " ") (effect_text e ++ codes "\n") (omega (arith, f)) space_line (last_word (effect_text e) (effect_line e)))
message_ended (Answer (a.Outside k e)) f =
    ended_behind (codes " outside ") (cancel_text (k, e)) outside_line (numbered_ended k (codes " ") (effect_text e ++ codes "\n") (omega (arith, f)) space_line (last_word (effect_text e) (effect_line e)))
message_ended (Answer (a.Policy which value)) f =
    ended_behind (codes " policy ") (set_text (which, value)) policy_line
    (ended_behind (policy_text which) (codes " " ++ (truth_text value ++ codes "\n")) (which_line which)
    (ended_behind (codes " ") (truth_text value ++ codes "\n") space_line (last_word (truth_text value) (truth_line value))))
message_ended (Answer (a.Ask q r shut over)) f =
    ended_behind (codes " ask queue ") (ask_text (q, (r, (shut, over)))) ask_line
    (numbered_ended q (codes " running ") (running_text (r, (shut, over))) (omega (arith, f.0)) running_line
    (numbered_ended r (codes " shutdown ") (ends_text (shut, over)) (omega (arith, f.1)) shutdown_line
    (ended_behind (whether_text shut) (codes " terminated " ++ (whether_text over ++ codes "\n")) (whether_line shut)
    (ended_behind (codes " terminated ") (whether_text over ++ codes "\n") terminated_line (last_word (whether_text over) (whether_line over))))))
message_ended (Answer (a.Error e)) f = ended_behind (codes " error ") (error_text e ++ codes "\n") error_line (last_word (error_text e) (reason_line e))
message_ended (End k) f = ended_behind (codes " end ") (decimal k ++ codes "\n") end_line (ended_number k (omega (arith, f)))
message_ended m f = last_word (before_last (message_text m)) (search rules)

-- a line has one newline, and it is its last byte
pub line_ended : LinesEndOnce
line_ended line f =
    let end = ended_behind (decimal line.moment) (message_text line.message) (number_is_line line.moment f.0) (message_ended line.message f.1) in
    (end.front, end.plain, end.is)

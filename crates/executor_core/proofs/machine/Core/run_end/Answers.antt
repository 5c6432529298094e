-- The end of a run, as the table tells it.
use Rattle.std.proofs.Common.{ℕ, Some, ap, sym, ◌∙◌}
use Rattle.std.proofs.lemmas.Option.{same_Some}
use Rattle.executor_model.specs.Answers.{Reply}
use Rattle.executor_model.specs.State.{reply_of}
use Rattle.executor_model.specs.declared.types.Answer.TheVariants as a
use Rattle.executor_model.specs.declared.types.Happening.TheVariants as h
use Rattle.executor_core.specs.declared.foreseen.RunEnd.{RunEnd}
use Rattle.executor_core.specs.Foresight.{end_in}
use Rattle.executor_core.specs.CoreView.{CoreView, workers_of, state_of}
use Rattle.executor_core.proofs.Ending.{core_end, end_is_told, end_said, end_below}
use Rattle.executor_core.proofs.Needing.{finished_needs}
use Rattle.executor_core.proofs.machine.Core.run_end.Goals as goal

pub run_number-requires : goal.run_number-requires
run_number-requires g c =
    let m = c.self.inside in
    end_below m.calls.items m.limit m.taken m.calls.made m.table m.sought c.args.worker c.args.ending c.in-Ok.end c.self.invariant c.in-Ok.ensures.end

pub returns-in-Ok-clause-end : goal.returns-in-Ok-clause-end
returns-in-Ok-clause-end g c =
    let m = c.self.inside in
    ap (λ (run : ℕ). Some (record (core_end c.in-Ok.end) { run = run })) c.run_number.ensures
    ∙ (end_is_told m.calls.items m.limit m.taken m.calls.made m.table c.args.worker c.args.ending c.in-Ok.end c.in-Ok.ensures.end ∙ ap (λ (x : CoreView). end_in x (h.Finish c.args.worker c.args.ending)) c.self.view_is)

pub returns-in-Ok-clause-answer : goal.returns-in-Ok-clause-answer
returns-in-Ok-clause-answer g c = λ end told.
    let m = c.self.inside in
    let e = c.in-Ok.end in
    ap (λ (x : CoreView). (reply_of x.calls (workers_of x) (state_of x) (h.Finish c.args.worker c.args.ending)).answer) (sym c.self.view_is)
    ∙ (ap (λ (r : Reply). r.answer) (end_said m.calls.items m.limit m.taken m.calls.made m.table m.sought c.args.worker c.args.ending e c.self.invariant c.in-Ok.ensures.end)
    ∙ ap (λ (y : RunEnd). a.Finish c.args.worker y.task y.run y.outcome) (same_Some (core_end e) end (ap (λ (run : ℕ). Some (record (core_end e) { run = run })) (sym c.run_number.ensures) ∙ told)))

pub returns-in-Ok-clause-need : goal.returns-in-Ok-clause-need
returns-in-Ok-clause-need g c =
    let m = c.self.inside in
    finished_needs m.calls.items m.limit m.taken m.calls.made m.table m.sought c.args.worker c.args.ending c.in-Ok.end c.args.self.now c.self.invariant c.self.view_is c.in-Ok.ensures.end

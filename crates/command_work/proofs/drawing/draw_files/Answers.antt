use Rattle.std.proofs.Common.{ap, ◌≡◌, ℕ, Result, Err, rules}
use Rattle.command_work.specs.declared.error.ProgramError.{ProgramError}
use Rattle.command_work.proofs.Orders.{both_no_trace, both_wrong_plan, draw_both}
use Rattle.command_work.proofs.drawing.draw_files.Goals as goal

pub returns-in-Err-clause-answers : goal.returns-in-Err-clause-answers
returns-in-Err-clause-answers g c =
    both_wrong_plan c.in_ok-text.text.items c.in-Err.fault c.from.result _ _ c.args.asked.now.check.workers (g.W.Sink.contents c.args.writer.now) _
    (rw c.deref.ensures.value at c.in-Err.ensures.fault) c.from.ensures c.in_ok-text.ensures.text

pub returns-in_err-trace-clause-answers : goal.returns-in_err-trace-clause-answers
returns-in_err-trace-clause-answers g c =
    let e = c.in_err-trace.field-0.0 in
    let fault : Result ℕ ProgramError = Err e in
    let told : fault ≡ c.from_residual-in_err-trace.result = search rules in
    rw (← told) (both_no_trace c.in_ok-text.text.items _ e _ _ _ c.args.asked.now.check.workers _ _ (rw c.deref.ensures.value at c.in-Ok.ensures.plan) c.in_ok-text.ensures.text
    (λ trace r. (c.open_file.result, c.open_file.ensures, r)) c.in_err-trace.ensures.fault (λ q. c.in_err-trace.ensures.long (ap Err q)))

pub returns-clause-answers : goal.returns-clause-answers
returns-clause-answers g c =
    draw_both c.in_ok-text.text.items _ c.in_ok-trace.trace.items c.write_drawing.result _ _ c.args.asked.now.check.workers c.args.asked.now.view _ _
    (rw c.deref.ensures.value at c.in-Ok.ensures.plan) c.in_ok-text.ensures.text (c.open_file.result, c.open_file.ensures, c.in_ok-trace.ensures.text) c.in_ok-trace.ensures.size
    (λ few. c.write_drawing.ensures.workers.1 few) (rw c.deref-2.ensures.value at c.write_drawing.ensures.drawn)

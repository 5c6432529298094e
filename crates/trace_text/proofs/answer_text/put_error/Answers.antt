use Rattle.std.proofs.Common.{take, sym, subst}
use Rattle.executor_model.specs.declared.types.Answer.TheVariants as a
use Rattle.executor_model.specs.declared.types.EventError.{EventError}
use Rattle.trace_text.specs.Spelling.{answer_text}
use Rattle.trace_text.specs.Writing.{Puts}
use Rattle.trace_text.proofs.answer_text.put_error.Goals as goal

pub returns-in-NotRunning-clause-put : goal.returns-in-NotRunning-clause-put
returns-in-NotRunning-clause-put c =
    subst (λ (error : EventError). Puts (take c.args.at c.args.buffer.now) (take c.put_text-in-NotRunning.result c.put_text-in-NotRunning.new.buffer) (answer_text (a.Error error))) (sym c.in-NotRunning.is) c.put_text-in-NotRunning.ensures.put

use Rattle.std.proofs.Common.{◌∙◌, take, sym, subst}
use Rattle.std.proofs.lemmas.Bool.{false≢true}
use Rattle.executor_model.specs.declared.said.Said.{Said}
use Rattle.executor_model.specs.Said.{message_of}
use Rattle.trace_text.specs.Spelling.{message_text}
use Rattle.trace_text.specs.Writing.{Puts}
use Rattle.trace_text.proofs.Messages.{common}
use Rattle.trace_text.proofs.message_text.put_rare.Goals as goal

pub unreachable-requires : goal.unreachable-requires
unreachable-requires c =
    let not = c.in_default in
    false≢true (sym c.requires.rare ∙ common c.args.said.now not.not-Refuse not.not-Purge not.not-Policy not.not-Shutdown not.not-ShutdownAgain not.not-ShutdownNow not.not-Ask not.not-Failed not.not-Dropped not.not-Ended not.not-End)

pub returns-in-ShutdownAgain-clause-put : goal.returns-in-ShutdownAgain-clause-put
returns-in-ShutdownAgain-clause-put c =
    subst (λ (x : Said). Puts (take c.args.at c.args.buffer.now) (take c.put_text-in-ShutdownAgain.result c.put_text-in-ShutdownAgain.new.buffer) (message_text (message_of x))) (sym c.in-ShutdownAgain.is) c.put_text-in-ShutdownAgain.ensures.put

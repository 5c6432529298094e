use Rattle.std.proofs.Common.{ap, sym, Some, ◌∙◌}
use Rattle.command_work.specs.Linting.{asked_of}
use Rattle.command_work.proofs.Lints.{asked_calls}
use Rattle.command_work.proofs.lint.find_wrong.Goals as goal

pub returns-in-Some-Calls-clause-finds : goal.returns-in-Some-Calls-clause-finds
returns-in-Some-Calls-clause-finds g c =
    asked_calls _ _ (asked_of c.args.asked.now) c.in-Some-Calls.name c.open_file.result c.calls_wrong.result
    (sym c.looked_at.ensures ∙ c.in-Some-Calls.is ∙ ap Some c.in-Some-Calls.field-0-is) c.open_file.ensures c.calls_wrong.ensures.finds

use Rattle.std.proofs.Common.{length}
use Rattle.command_work.specs.Fronts.{IsReadOf}
use Rattle.command_work.specs.Linting.{asked_of}
use Rattle.command_work.specs.declared.lint.Found.TheVariants.{Fine}
use Rattle.sched_program.proofs.FineLints.{answers_fine, fine_found}
use Rattle.sched_program.proofs.linting.lint_files.Goals as goal

pub returns-in-Fine-clause-answers : goal.returns-in-Fine-clause-answers
returns-in-Fine-clause-answers g c =
    let asked = c.args.asked.now in
    let warnings = c.in-Fine.warnings in
    let finds = rw c.in-Fine.is at c.in_ok-refusal.ensures.finds in
    answers_fine c.tell_fine.result (IsReadOf g.P.Source.remaining g.P.Source.failed g.P.Source.fruitless) _ asked (length warnings.items) _ _
    (fine_found _ _ (asked_of asked) (length warnings.items) (Fine warnings) (λ looked found. found) finds) c.tell_fine.ensures.told

-- The file is not created: the text is told, and that nothing of it was written.
use Rattle.std.proofs.Common.{List, false, inr, Err, refl, sym, ◌∙◌, subst, string_bytes}
use Rattle.toml.specs.Text.{IsDocumentText}
use Rattle.call_journal.specs.declared.journal.MadeCall.{MadeCall}
use Rattle.call_journal.specs.Plans.{tree_of_calls}
use Rattle.call_journal.specs.MadeCalls.{MayBePlanned, WritesPlanOf}
use Rattle.command_work.proofs.live.write_plan.Goals as goal

pub returns-clause-written : goal.returns-clause-written
returns-clause-written g c =
    let text = string_bytes c.in-Ok.text in
    let calls = c.calls.ensures.calls in
    inr (
      sym c.is_over.ensures ∙ c.if-is_over.false,
      inr (record {
        text = text;
        prints = subst (λ (made : List MadeCall). IsDocumentText false (tree_of_calls made) text) calls c.in-Ok.ensures.text;
        plan = subst (λ (made : List MadeCall). MayBePlanned made → WritesPlanOf text made) calls c.in-Ok.ensures.plan;
        short = c.in-Ok.ensures.short;
        file = Err c.in-Err-create_file.error;
        creates = c.in-Err-create_file.ensures;
        writes = (c.of_system.result, c.of_system.ensures.kind, refl);
      }),
    )

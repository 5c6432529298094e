use Rattle.std.proofs.Common.{sym, ◌∙◌}
use Rattle.std.proofs.lemmas.List.{at_drop_all}
use Rattle.toml.specs.View.{items_view}
use Rattle.plan_read.proofs.MigratingTables.{joined}
use Rattle.call_journal.specs.Plans.{call_items}
use Rattle.call_journal.proofs.Values.{one_call, joined_nothing, few_after}
use Rattle.call_journal.proofs.calls.call_values.Goals as goal

pub loop-made-preserved : goal.loop-made-preserved
loop-made-preserved c =
    let l = c.loop-made in
    let cs = c.args.calls.now in
    record {
      few = few_after l.task c.args.first l.made-index c.task_after-task.result _ c.task_after-task.ensures l.invariant.few;
      kept = rw (c.in_ok-push.ensures.items, c.task_after-task.ensures)
          (one_call c.args.begin l.task (call_items c.args.begin c.args.first cs) cs l.made-index _ l.values.items c.in_ok-call_table.field-0 c.loop-made-test.true c.in_ok-call_table.ensures l.invariant.kept);
    }

pub returns : goal.returns
returns c =
    let l = c.loop-made in
    sym (joined_nothing (items_view l.values.items))
    ∙ sym (at_drop_all (λ rest. joined (items_view l.values.items) (call_items c.args.begin l.task rest)) c.args.calls.now l.made-index c.loop-made-test.false)
    ∙ l.invariant.kept

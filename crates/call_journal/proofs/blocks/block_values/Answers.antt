use Rattle.std.proofs.Common.{◌≡◌, ◌+◌, ◌-◌, ℕ, suc, take, drop, sym, ap, ◌∙◌, subst, arith}
use Rattle.std.proofs.lemmas.List.{take_min, drop_min}
use Rattle.toml.specs.View.{items_view, table_view}
use Rattle.plan_read.specs.Plans.{most_block_calls}
use Rattle.plan_read.proofs.MigratingTables.{joined}
use Rattle.call_journal.specs.Plans.{block_items, block_members}
use Rattle.call_journal.proofs.Values.{one_block, joined_nothing}
use Rattle.call_journal.proofs.blocks.block_values.Goals as goal

pub loop-block-preserved : goal.loop-block-preserved
loop-block-preserved c =
    let l = c.loop-block in
    let rest = l.rest.now in
    let count = c.div_ceil-count.result in
    let all = block_items count 0 0 c.args.calls.now in
    let front : c.split_at.result.0.now ≡ take most_block_calls rest =
    c.split_at.ensures.front ∙ ap (λ (n : ℕ). take n rest) c.min.ensures ∙ take_min most_block_calls rest in
    let back : c.split_at.result.1.now ≡ drop most_block_calls rest =
    c.split_at.ensures.back ∙ ap (λ (n : ℕ). drop n rest) c.min.ensures ∙ drop_min most_block_calls rest in
    let left : count - l._block ≡ suc (count - (l._block + 1)) = omega (arith, c.loop-block-test.true) in
    let so_far = subst (λ (n : ℕ). joined (items_view l.values.items) (block_items n l.begin l.task rest) ≡ all) left l.invariant.kept in
    let made : table_view c.in_ok-block_table.field-0 ≡ block_members l.begin l.task (take most_block_calls rest) =
    c.in_ok-block_table.ensures ∙ ap (block_members l.begin l.task) front in
    record {
      few = omega (arith, c.tasks_after-task.ensures.few, c.split_at.ensures.front_len, c.split_at.ensures.back_len, l.invariant.few);
      kept = rw (c.in_ok-push.ensures.items, c.first_moment-begin.ensures, c.tasks_after-task.ensures.value, front, back)
          (one_block (count - (l._block + 1)) l.begin l.task all rest l.values.items c.in_ok-block_table.field-0 made so_far);
    }

pub returns : goal.returns
returns c =
    let l = c.loop-block in
    let count = c.div_ceil-count.result in
    let none : count - l._block ≡ 0 = omega (arith, c.loop-block-test.false) in
    let whole = subst (λ (n : ℕ). joined (items_view l.values.items) (block_items n l.begin l.task l.rest.now) ≡ block_items count 0 0 c.args.calls.now) none l.invariant.kept in
    sym (joined_nothing (items_view l.values.items))
    ∙ whole
    ∙ ap (λ (n : ℕ). block_items n 0 0 c.args.calls.now) c.div_ceil-count.ensures

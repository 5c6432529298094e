use Rattle.std.proofs.Common.{◌≡◌, ◌+◌, ◌*◌, ◌∙◌, ◌∷◌, sym, subst, Option, Some, None, drop, length, refl, rules}
use Rattle.std.proofs.lemmas.Result.{err_from_is_err_and}
use Rattle.toml.specs.Data.{as_table}
use Rattle.toml.specs.View.{view, table_view, items_view}
use Rattle.plan_read.specs.declared.faults.PlanFault.{PlanFault}
use Rattle.plan_read.specs.own.Reads.{FailsWith}
use Rattle.plan_read.specs.own.Values.{tables_in}
use Rattle.plan_read.proofs.PlainReads.{plain_turn}
use Rattle.plan_read.proofs.Turns.{turn, is_table, block_turn, block_halts}
use Rattle.plan_read.proofs.Accepted.{end_from_one_more, made_from_one_more}
use Rattle.plan_read.proofs.reading.read_blocks.Goals as goal

pub unreachable-requires : goal.unreachable-requires
unreachable-requires g c =
    let none : as_table (view c.value-item.result) ≡ None = sym (rw c.in_default.is at c.as_table.ensures) in
    let some = is_table c.args.tables.now c.loop-value.value-index c.value-item.result c.loop-value-test.true c.requires.tables in
    let e = rw (← c.value-item.is, none) at some in
    cc

pub loop-value-preserved : goal.loop-value-preserved
loop-value-preserved g c =
    let i = c.loop-value.value-index in
    let vs = c.args.tables.now in
    let earlier = c.loop-value.blocks.items in
    let ms = table_view c.in-Some.table.now in
    let b = c.in_ok-block.block in
    let table : as_table (view c.value-item.result) ≡ Some ms = sym (rw c.in-Some.is at c.as_table.ensures) in
    let next : tables_in (items_view (drop i vs)) ≡ ms ∷ tables_in (items_view (drop (i + 1) vs)) = turn vs i c.value-item.result ms c.loop-value-test.true c.value-item.is table in
    let t = block_turn c.args.lists.now.version earlier _ _ ms b next (rw c.as_slice-earlier.ensures.value at c.in_ok-block.ensures.block.0) (rw c.as_slice-earlier.ensures.value at c.in_ok-block.ensures.block.1) in
    let product : c.from.result * length c.calls.result.now ≡ b.header.times * length b.calls = rw (c.from.ensures, c.times.ensures, c.calls.ensures) refl in
    record {
      count = search rules;
      end = rw (c.in_ok-push.ensures.items, end_from_one_more 0 earlier b, ← c.loop-value.invariant.end) c.end_of_block-end.ensures;
      made = rw (c.in_ok-push.ensures.items, made_from_one_more 0 earlier b, ← c.loop-value.invariant.made, product) refl;
      few = rw product c.in_ok-block.ensures.few;
      names = rw c.in_ok-push.ensures.items (rw c.as_slice-earlier.ensures.value at c.in_ok-block.ensures.names);
      plain = plain_turn 2 vs i c.value-item.result ms c.loop-value-test.true c.value-item.is table c.in_ok-block.ensures.plain c.loop-value.invariant.plain;
      fault = rw c.in_ok-push.ensures.items (t.0 ∙ c.loop-value.invariant.fault);
      blocks = rw c.in_ok-push.ensures.items (t.1 ∙ c.loop-value.invariant.blocks);
    }

pub returns-in_err-block-clause-blocks : goal.returns-in_err-block-clause-blocks
returns-in_err-block-clause-blocks g c =
    let q = err_from_is_err_and c.from_residual-in_err-block.result c.from_residual-in_err-block.ensures.1 in
    let e = c.in_err-block.field-0.0 in
    let i = c.loop-value.value-index in
    let vs = c.args.tables.now in
    let ms = table_view c.in-Some.table.now in
    let table : as_table (view c.value-item.result) ≡ Some ms = sym (rw c.in-Some.is at c.as_table.ensures) in
    let next : tables_in (items_view (drop i vs)) ≡ ms ∷ tables_in (items_view (drop (i + 1) vs)) = turn vs i c.value-item.result ms c.loop-value-test.true c.value-item.is table in
    let halts = block_halts e c.args.lists.now.version c.loop-value.blocks.items _ _ ms next (rw c.as_slice-earlier.ensures.value at c.in_err-block.ensures.block) in
    rw (q.1, q.2) (subst (λ (fault : Option PlanFault). FailsWith e fault) c.loop-value.invariant.fault halts)

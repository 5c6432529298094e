use Rattle.std.proofs.Common.{◌≡◌, ◌≤◌, ◌+◌, ◌∙◌, ◌∷◌, sym, subst, Option, Some, None, drop, arith, rules}
use Rattle.std.proofs.lemmas.Result.{err_from_is_err_and}
use Rattle.toml.specs.Data.{as_table}
use Rattle.toml.specs.View.{view, table_view, items_view}
use Rattle.plan_read.specs.Plans.{tasks_after_calls}
use Rattle.plan_read.specs.declared.faults.PlanFault.{PlanFault}
use Rattle.plan_read.specs.own.Reads.{FailsWith}
use Rattle.plan_read.specs.own.Values.{tables_in}
use Rattle.plan_read.proofs.Naming.{tasks_after-one_more}
use Rattle.plan_read.proofs.PlainReads.{plain_turn}
use Rattle.plan_read.proofs.Turns.{turn, is_table, call_turn, call_halts}
use Rattle.plan_read.proofs.reading.read_calls.Goals as goal
use Rattle.plan_read.proofs.reading.read_calls.Goals.{then-is_submission, else-is_submission}

pub unreachable-requires : goal.unreachable-requires
unreachable-requires g c =
    let none : as_table (view c.value-item.result) ≡ None = sym (rw c.in_default.is at c.as_table.ensures) in
    let some = is_table c.args.tables.now c.loop-value.value-index c.value-item.result c.loop-value-test.true c.requires.tables in
    let e = rw (← c.value-item.is, none) at some in
    cc

pub loop-value-preserved : goal.loop-value-preserved
loop-value-preserved g c =
    let i = c.loop-value.value-index in
    let vs = c.args.tables.now in
    let earlier = c.args.earlier.now in
    let before = c.loop-value.calls.items in
    let ms = table_view c.in-Some.table.now in
    let table : as_table (view c.value-item.result) ≡ Some ms = sym (rw c.in-Some.is at c.as_table.ensures) in
    let next : tables_in (items_view (drop i vs)) ≡ ms ∷ tables_in (items_view (drop (i + 1) vs)) = turn vs i c.value-item.result ms c.loop-value-test.true c.value-item.is table in
    let t = call_turn c.args.lists.now.version earlier c.args.header before _ _ ms c.in_ok-call.call next (rw c.as_slice.ensures.value at c.in_ok-call.ensures.call.0) (rw c.as_slice.ensures.value at c.in_ok-call.ensures.call.1) in
    let more = tasks_after-one_more 0 before c.in_ok-call.call in
    let sub : (c.if-is_submission.sub ≡ tasks_after_calls 0 c.push.new.self.items) × (c.if-is_submission.sub ≤ i + 1) =
    elim c.if-is_submission.branch [
      | then-is_submission w ↦ (rw (c.in_ok-push.ensures.items, more, ← w.if-is_submission.ensures) (omega arith), omega arith)
      | else-is_submission w ↦ (rw (c.in_ok-push.ensures.items, more, ← w.if-is_submission.ensures) (omega arith), omega arith)
    ] in
    record {
      count = search rules;
      small = sub.1;
      sub = sub.0;
      names = rw c.in_ok-push.ensures.items (rw c.as_slice.ensures.value at c.in_ok-call.ensures.names);
      plain = plain_turn 0 vs i c.value-item.result ms c.loop-value-test.true c.value-item.is table c.in_ok-call.ensures.plain c.loop-value.invariant.plain;
      fault = rw c.in_ok-push.ensures.items (t.0 ∙ c.loop-value.invariant.fault);
      calls = rw c.in_ok-push.ensures.items (t.1 ∙ c.loop-value.invariant.calls);
    }

pub returns-in_err-call-clause-calls : goal.returns-in_err-call-clause-calls
returns-in_err-call-clause-calls g c =
    let q = err_from_is_err_and c.from_residual-in_err-call.result c.from_residual-in_err-call.ensures.1 in
    let e = c.in_err-call.field-0.0 in
    let i = c.loop-value.value-index in
    let vs = c.args.tables.now in
    let ms = table_view c.in-Some.table.now in
    let table : as_table (view c.value-item.result) ≡ Some ms = sym (rw c.in-Some.is at c.as_table.ensures) in
    let next : tables_in (items_view (drop i vs)) ≡ ms ∷ tables_in (items_view (drop (i + 1) vs)) = turn vs i c.value-item.result ms c.loop-value-test.true c.value-item.is table in
    let halts = call_halts e c.args.lists.now.version c.args.earlier.now c.args.header c.loop-value.calls.items _ _ ms next (rw c.as_slice.ensures.value at c.in_err-call.ensures.call) in
    rw (q.1, q.2) (subst (λ (fault : Option PlanFault). FailsWith e fault) c.loop-value.invariant.fault halts)

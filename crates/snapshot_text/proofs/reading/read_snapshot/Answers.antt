use Rattle.std.proofs.Common.{◌≡◌, ◌==◌, ℕ, List, [], ◌^◌, ◌∙◌, sym, subst, ap, arith, length}
use Rattle.std.proofs.lemmas.Bool.{false≢true}
use Rattle.trace_text.specs.Reading.{IsRead}
use Rattle.snapshot_text.specs.Snapshots.{SnapshotView}
use Rattle.snapshot_text.specs.Spelling.{FitTwo, body_text, end_text}
use Rattle.snapshot_text.specs.Sums.{sum_from, sum_of}
use Rattle.snapshot_text.proofs.Wholes.{ReadsBody, body_taken, no_end, none_left, one_end, snapshot_read}
use Rattle.snapshot_text.proofs.Fronts.{no_front}
use Rattle.snapshot_text.proofs.reading.read_snapshot.Goals as goal

pub returns-in_default-clause-none : goal.returns-in_default-clause-none
returns-in_default-clause-none g c = λ other s fits is. no_front c.args.text.now s c.in_default.ensures fits is

pub returns-in_default-split_two-clause-none : goal.returns-in_default-split_two-clause-none
returns-in_default-split_two-clause-none g c = λ other s fits is.
    let reads : ReadsBody c.args.text.now (record { head = c.in-Some.head; tasks = c.in_ok-tasks.tasks.items; given = c.in_ok-given.given.items; empty = c.in_ok-empty.empty.items }) c.in_ok-empty.last.now = record {
      from_head = c.in-Some.rest.now;
      from_tasks = c.in_ok-tasks.rest.now;
      from_given = c.in_ok-given.rest.now;
      head = c.in-Some.ensures;
      tasks = c.in_ok-tasks.ensures;
      given = c.in_ok-given.ensures;
      empty = c.in_ok-empty.ensures;
    } in
    no_end c.args.text.now c.in_ok-empty.last.now _ reads c.in_default-split_two.ensures s fits is

pub returns-then-not-is_empty-clause-none : goal.returns-then-not-is_empty-clause-none
returns-then-not-is_empty-clause-none g c = λ other s fits is.
    let reads : ReadsBody c.args.text.now (record { head = c.in-Some.head; tasks = c.in_ok-tasks.tasks.items; given = c.in_ok-given.given.items; empty = c.in_ok-empty.empty.items }) c.in_ok-empty.last.now = record {
      from_head = c.in-Some.rest.now;
      from_tasks = c.in_ok-tasks.rest.now;
      from_given = c.in_ok-given.rest.now;
      head = c.in-Some.ensures;
      tasks = c.in_ok-tasks.ensures;
      given = c.in_ok-given.ensures;
      empty = c.in_ok-empty.ensures;
    } in
    let one = one_end c.args.text.now c.in_ok-empty.last.now c.in-Some-split_two.behind.now _ (c.in-Some-split_two.count, c.in-Some-split_two.sum) reads c.in-Some-split_two.ensures s fits is in
    false≢true (c.if-not-is_empty.ensures ∙ ap (λ l. length l == 0) one.1)

pub returns-then-count-len-clause-none : goal.returns-then-count-len-clause-none
returns-then-count-len-clause-none g c = λ other s fits is.
    let reads : ReadsBody c.args.text.now (record { head = c.in-Some.head; tasks = c.in_ok-tasks.tasks.items; given = c.in_ok-given.given.items; empty = c.in_ok-empty.empty.items }) c.in_ok-empty.last.now = record {
      from_head = c.in-Some.rest.now;
      from_tasks = c.in_ok-tasks.rest.now;
      from_given = c.in_ok-given.rest.now;
      head = c.in-Some.ensures;
      tasks = c.in_ok-tasks.ensures;
      given = c.in_ok-given.ensures;
      empty = c.in_ok-empty.ensures;
    } in
    let one = one_end c.args.text.now c.in_ok-empty.last.now c.in-Some-split_two.behind.now _ (c.in-Some-split_two.count, c.in-Some-split_two.sum) reads c.in-Some-split_two.ensures s fits is in
    omega (arith, c.if-count-len.true, c.len.ensures, ap (λ (v : ℕ × ℕ). v.0) one.0)

pub returns-then-sum-add_to_sum-clause-none : goal.returns-then-sum-add_to_sum-clause-none
returns-then-sum-add_to_sum-clause-none g c = λ other s fits is.
    let reads : ReadsBody c.args.text.now (record { head = c.in-Some.head; tasks = c.in_ok-tasks.tasks.items; given = c.in_ok-given.given.items; empty = c.in_ok-empty.empty.items }) c.in_ok-empty.last.now = record {
      from_head = c.in-Some.rest.now;
      from_tasks = c.in_ok-tasks.rest.now;
      from_given = c.in_ok-given.rest.now;
      head = c.in-Some.ensures;
      tasks = c.in_ok-tasks.ensures;
      given = c.in_ok-given.ensures;
      empty = c.in_ok-empty.ensures;
    } in
    let one = one_end c.args.text.now c.in_ok-empty.last.now c.in-Some-split_two.behind.now _ (c.in-Some-split_two.count, c.in-Some-split_two.sum) reads c.in-Some-split_two.ensures s fits is in
    omega (arith, c.if-sum-add_to_sum.true, c.add_to_sum.ensures, ap (sum_from 1) (body_taken c.args.text.now c.in_ok-empty.last.now _ reads), ap (λ (v : ℕ × ℕ). v.1) one.0)

pub returns-clause-reads : goal.returns-clause-reads
returns-clause-reads g c =
    let reads : ReadsBody c.args.text.now (record { head = c.in-Some.head; tasks = c.in_ok-tasks.tasks.items; given = c.in_ok-given.given.items; empty = c.in_ok-empty.empty.items }) c.in_ok-empty.last.now = record {
      from_head = c.in-Some.rest.now;
      from_tasks = c.in_ok-tasks.rest.now;
      from_given = c.in_ok-given.rest.now;
      head = c.in-Some.ensures;
      tasks = c.in_ok-tasks.ensures;
      given = c.in_ok-given.ensures;
      empty = c.in_ok-empty.ensures;
    } in
    let body : SnapshotView = record { head = c.in-Some.head; tasks = c.in_ok-tasks.tasks.items; given = c.in_ok-given.given.items; empty = c.in_ok-empty.empty.items } in
    let none : c.in-Some-split_two.behind.now ≡ [] = none_left c.in-Some-split_two.behind.now (sym c.is_empty.ensures ∙ c.if-not-is_empty.false) in
    let sum : c.in-Some-split_two.sum ≡ sum_of (body_text body) =
    omega (arith, c.if-sum-add_to_sum.false, c.add_to_sum.ensures, ap (sum_from 1) (body_taken c.args.text.now c.in_ok-empty.last.now _ reads)) in
    let count : c.in-Some-split_two.count ≡ length body.tasks = omega (arith, c.if-count-len.false, c.len.ensures) in
    let whole = snapshot_read c.args.text.now c.in_ok-empty.last.now body (c.in-Some-split_two.count, c.in-Some-split_two.sum) reads
    (subst (λ (l : List ℕ). IsRead end_text (FitTwo (2 ^ 64) (2 ^ 64)) c.in_ok-empty.last.now (c.in-Some-split_two.count, c.in-Some-split_two.sum) l) none c.in-Some-split_two.ensures)
    (λ i. (count i, sum i)) in
    rw c.new.ensures whole

use Rattle.std.proofs.Common.{◌≡◌, ◌∙◌, length, None, codes, ap, subst}
use Rattle.std.proofs.lemmas.Result.{err_from_is_err_and}
use Rattle.toml.specs.View.{table_view}
use Rattle.sched_time.specs.Times.{delay_units}
use Rattle.sched_time.specs.declared.unit.Unit.{Unit as TimeUnit}
use Rattle.plan_read.specs.declared.units.Units.{Units}
use Rattle.plan_read.specs.own.Reads.{FailsWith}
use Rattle.plan_read.specs.own.Values.{tables_at, times_at, unit_at, header_units}
use Rattle.plan_read.specs.own.Walk.{place_fault, header_key_tests, times_tests, moment_tests, header_tests}
use Rattle.plan_read.proofs.Failing.{first, second, third, fourth, last}
use Rattle.plan_read.proofs.HeaderReads.{header_is}
use Rattle.plan_read.proofs.PlainReads.{head_plain}
use Rattle.plan_read.proofs.headers.read_head.Goals as goal

pub returns-in_err-unit-clause-header : goal.returns-in_err-unit-clause-header
unfolding header_tests
returns-in_err-unit-clause-header g c =
    let q = err_from_is_err_and c.from_residual.result c.from_residual.ensures.1 in
    let ms = table_view c.args.table.now in
    rw (q.1, q.2) (first c.in_err-unit.field-0.0 c.args.place (header_key_tests c.args.lists.now.version ms) _ _ _ (rw c.new-row.ensures.table at c.in_err-unit.ensures))

pub returns-in_err-times-clause-header : goal.returns-in_err-times-clause-header
unfolding header_tests
returns-in_err-times-clause-header g c =
    let q = err_from_is_err_and c.from_residual-in_err-times.result c.from_residual-in_err-times.ensures.1 in
    let ms = table_view c.args.table.now in
    rw (q.1, q.2) (second c.in_err-times.field-0.0 c.args.place (header_key_tests c.args.lists.now.version ms) (times_tests ms) _ _ (rw c.new-row.ensures.table at c.in_ok-unit.ensures.0) (rw c.new-row.ensures.table at c.in_err-times.ensures.times))

pub returns-in_err-header-clause-header : goal.returns-in_err-header-clause-header
unfolding header_tests
returns-in_err-header-clause-header g c =
    let q = err_from_is_err_and c.from_residual-in_err-header.result c.from_residual-in_err-header.ensures.1 in
    let ms = table_view c.args.table.now in
    let units : c.in_ok-unit.units ≡ header_units c.args.lists.now.version ms = ap (λ (u : TimeUnit × Units). u.1) (rw c.new-row.ensures.table at c.in_ok-unit.ensures.1) in
    let fails = subst (λ (u : Units). FailsWith c.in_err-header.field-0.0 (place_fault c.args.place (moment_tests c.args.end u ms))) units (rw c.new-row.ensures.table at c.in_err-header.ensures) in
    rw (q.1, q.2) (third c.in_err-header.field-0.0 c.args.place (header_key_tests c.args.lists.now.version ms) (times_tests ms) (moment_tests c.args.end (header_units c.args.lists.now.version ms) ms) _ (rw c.new-row.ensures.table at c.in_ok-unit.ensures.0) (rw c.new-row.ensures.table at c.in_ok-times.ensures.times.0) fails)

pub returns-in_err-check_count-clause-header : goal.returns-in_err-check_count-clause-header
unfolding header_tests
returns-in_err-check_count-clause-header g c =
    let q = err_from_is_err_and c.from_residual-in_err-check_count.result c.from_residual-in_err-check_count.ensures.1 in
    let ms = table_view c.args.table.now in
    let units : c.in_ok-unit.units ≡ header_units c.args.lists.now.version ms = ap (λ (u : TimeUnit × Units). u.1) (rw c.new-row.ensures.table at c.in_ok-unit.ensures.1) in
    let moments = subst (λ (u : Units). place_fault c.args.place (moment_tests c.args.end u ms) ≡ None) units (rw c.new-row.ensures.table at c.in_ok-header.ensures.0) in
    let times : c.in_ok-times.times ≡ delay_units (times_at ms) = rw c.new-row.ensures.table at c.in_ok-times.ensures.times.1 in
    let calls : length c.tables-tables.result.now ≡ length (tables_at (codes "call") ms) = rw c.new-row.ensures.table at c.tables-tables.ensures.count in
    rw (q.1, q.2) (fourth c.in_err-check_count.field-0.0 c.args.place (header_key_tests c.args.lists.now.version ms) (times_tests ms) (moment_tests c.args.end (header_units c.args.lists.now.version ms) ms) _ (rw c.new-row.ensures.table at c.in_ok-unit.ensures.0) (rw c.new-row.ensures.table at c.in_ok-times.ensures.times.0) moments (rw (times, calls) at c.in_err-check_count.ensures))

pub returns-clause-header : goal.returns-clause-header
unfolding header_tests
returns-clause-header g c =
    let ms = table_view c.args.table.now in
    let unit : c.in_ok-unit.unit ≡ unit_at c.args.lists.now.version ms = ap (λ (u : TimeUnit × Units). u.0) (rw c.new-row.ensures.table at c.in_ok-unit.ensures.1) in
    let units : c.in_ok-unit.units ≡ header_units c.args.lists.now.version ms = ap (λ (u : TimeUnit × Units). u.1) (rw c.new-row.ensures.table at c.in_ok-unit.ensures.1) in
    let moments = subst (λ (u : Units). place_fault c.args.place (moment_tests c.args.end u ms) ≡ None) units (rw c.new-row.ensures.table at c.in_ok-header.ensures.0) in
    let times : c.in_ok-times.times ≡ delay_units (times_at ms) = rw c.new-row.ensures.table at c.in_ok-times.ensures.times.1 in
    let calls : length c.tables-tables.result.now ≡ length (tables_at (codes "call") ms) = rw c.new-row.ensures.table at c.tables-tables.ensures.count in (
      last c.args.place (header_key_tests c.args.lists.now.version ms) (times_tests ms) (moment_tests c.args.end (header_units c.args.lists.now.version ms) ms) _ (rw c.new-row.ensures.table at c.in_ok-unit.ensures.0) (rw c.new-row.ensures.table at c.in_ok-times.ensures.times.0) moments
          ∙ rw (times, calls) at c.in_ok-check_count.ensures.0,
      rw c.new-row.ensures.table at c.in_ok-header.ensures.1 ∙ header_is c.args.lists.now.version ms c.in_ok-unit.unit c.in_ok-unit.units c.in_ok-times.times unit units times,
    )

pub returns-clause-plain : goal.returns-clause-plain
returns-clause-plain g c = λ items.
    head_plain c.args.place c.args.lists.now.version c.args.table.now.entries c.new-row.ensures.ordered (rw c.new-row.ensures.table at c.in_ok-unit.ensures.0) (rw (c.tables-tables.ensures.items, c.new-row.ensures.table) at items)

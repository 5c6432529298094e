use Rattle.std.proofs.Common.{ℕ, List, codes, refl}
use Rattle.std.proofs.lemmas.Result.{err_from_is_err_and}
use Rattle.toml.specs.View.{table_view}
use Rattle.plan_read.specs.declared.versions.Version.TheVariants.{Two}
use Rattle.plan_read.specs.own.Walk.{is_unit, are_units}
use Rattle.plan_read.proofs.HeaderReads.{passes}
use Rattle.plan_read.proofs.UnitReads.{halts, if_second, if_third, if_fourth, if_fifth}
use Rattle.plan_read.proofs.units.Units.read.Goals as goal

pub returns-in_err-every : goal.returns-in_err-every
returns-in_err-every c =
    let q = err_from_is_err_and c.from_residual-in_err-every.result c.from_residual-in_err-every.ensures.1 in
    let unit = λ (key : List ℕ). is_unit Two key (table_view c.args.row.now.table.now) in
    let fails = if_second (unit (codes "at_unit")) (unit (codes "every_unit")) (unit (codes "delay_unit")) (unit (codes "first_unit")) (unit (codes "period_unit")) in
    rw (q.1, q.2) (halts c.in_err-every.field-0.0 c.args.place (unit (codes "every_unit")) (are_units Two (table_view c.args.row.now.table.now)) fails c.in_err-every.ensures)

pub returns-in_err-delay : goal.returns-in_err-delay
returns-in_err-delay c =
    let q = err_from_is_err_and c.from_residual-in_err-delay.result c.from_residual-in_err-delay.ensures.1 in
    let unit = λ (key : List ℕ). is_unit Two key (table_view c.args.row.now.table.now) in
    let fails = if_third (unit (codes "at_unit")) (unit (codes "every_unit")) (unit (codes "delay_unit")) (unit (codes "first_unit")) (unit (codes "period_unit")) in
    rw (q.1, q.2) (halts c.in_err-delay.field-0.0 c.args.place (unit (codes "delay_unit")) (are_units Two (table_view c.args.row.now.table.now)) fails c.in_err-delay.ensures)

pub returns-in_err-first : goal.returns-in_err-first
returns-in_err-first c =
    let q = err_from_is_err_and c.from_residual-in_err-first.result c.from_residual-in_err-first.ensures.1 in
    let unit = λ (key : List ℕ). is_unit Two key (table_view c.args.row.now.table.now) in
    let fails = if_fourth (unit (codes "at_unit")) (unit (codes "every_unit")) (unit (codes "delay_unit")) (unit (codes "first_unit")) (unit (codes "period_unit")) in
    rw (q.1, q.2) (halts c.in_err-first.field-0.0 c.args.place (unit (codes "first_unit")) (are_units Two (table_view c.args.row.now.table.now)) fails c.in_err-first.ensures)

pub returns-in_err-period : goal.returns-in_err-period
returns-in_err-period c =
    let q = err_from_is_err_and c.from_residual-in_err-period.result c.from_residual-in_err-period.ensures.1 in
    let unit = λ (key : List ℕ). is_unit Two key (table_view c.args.row.now.table.now) in
    let fails = if_fifth (unit (codes "at_unit")) (unit (codes "every_unit")) (unit (codes "delay_unit")) (unit (codes "first_unit")) (unit (codes "period_unit")) in
    rw (q.1, q.2) (halts c.in_err-period.field-0.0 c.args.place (unit (codes "period_unit")) (are_units Two (table_view c.args.row.now.table.now)) fails c.in_err-period.ensures)

pub returns : goal.returns
returns c =
    let at = c.in_ok-at.ensures in
    let every = c.in_ok-every.ensures in
    let delay = c.in_ok-delay.ensures in
    let first = c.in_ok-first.ensures in
    let period = c.in_ok-period.ensures in
    (rw (passes _ _ at.0, passes _ _ every.0, passes _ _ delay.0, passes _ _ first.0, passes _ _ period.0) refl, rw (at.1, every.1, delay.1, first.1, period.1) refl)

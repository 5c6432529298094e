use Rattle.plan_read.specs.declared.key_names.KeyName.TheVariants as names
use Rattle.plan_read.specs.own.Rows.{word_of}
use Rattle.std.proofs.Common.{◌≢◌}
use Rattle.plan_read.proofs.RowLaw.{names_key, names_none}
use Rattle.plan_read.proofs.key_names.KeyName.of_word.Goals as goal

pub returns-in-op : goal.returns-in-op
returns-in-op c = names_key c.args.word.now names.Op c.in-op.is

pub returns-in-at : goal.returns-in-at
returns-in-at c = names_key c.args.word.now names.At c.in-at.is

pub returns-in-name : goal.returns-in-name
returns-in-name c = names_key c.args.word.now names.Name c.in-name.is

pub returns-in-delay : goal.returns-in-delay
returns-in-delay c = names_key c.args.word.now names.Delay c.in-delay.is

pub returns-in-first : goal.returns-in-first
returns-in-first c = names_key c.args.word.now names.First c.in-first.is

pub returns-in-period : goal.returns-in-period
returns-in-period c = names_key c.args.word.now names.Period c.in-period.is

pub returns-in-which : goal.returns-in-which
returns-in-which c = names_key c.args.word.now names.Which c.in-which.is

pub returns-in-value : goal.returns-in-value
returns-in-value c = names_key c.args.word.now names.Value c.in-value.is

pub returns-in-version : goal.returns-in-version
returns-in-version c = names_key c.args.word.now names.Version c.in-version.is

pub returns-in-block : goal.returns-in-block
returns-in-block c = names_key c.args.word.now names.Block c.in-block.is

pub returns-in-unit : goal.returns-in-unit
returns-in-unit c = names_key c.args.word.now names.Unit c.in-unit.is

pub returns-in-times : goal.returns-in-times
returns-in-times c = names_key c.args.word.now names.Times c.in-times.is

pub returns-in-every : goal.returns-in-every
returns-in-every c = names_key c.args.word.now names.Every c.in-every.is

pub returns-in-call : goal.returns-in-call
returns-in-call c = names_key c.args.word.now names.Call c.in-call.is

pub returns-in-at_unit : goal.returns-in-at_unit
returns-in-at_unit c = names_key c.args.word.now names.AtUnit c.in-at_unit.is

pub returns-in-every_unit : goal.returns-in-every_unit
returns-in-every_unit c = names_key c.args.word.now names.EveryUnit c.in-every_unit.is

pub returns-in-delay_unit : goal.returns-in-delay_unit
returns-in-delay_unit c = names_key c.args.word.now names.DelayUnit c.in-delay_unit.is

pub returns-in-first_unit : goal.returns-in-first_unit
returns-in-first_unit c = names_key c.args.word.now names.FirstUnit c.in-first_unit.is

pub returns-in-period_unit : goal.returns-in-period_unit
returns-in-period_unit c = names_key c.args.word.now names.PeriodUnit c.in-period_unit.is

pub returns-in_default : goal.returns-in_default
returns-in_default c =
    let w = c.args.word.now in
    names_none w (λ k. elim k as (λ k. w ≢ word_of k) [ names.Op ↦ c.in_default.not-op | names.At ↦ c.in_default.not-at | names.Name ↦ c.in_default.not-name | names.Delay ↦ c.in_default.not-delay | names.First ↦ c.in_default.not-first | names.Period ↦ c.in_default.not-period | names.Which ↦ c.in_default.not-which | names.Value ↦ c.in_default.not-value | names.Version ↦ c.in_default.not-version | names.Block ↦ c.in_default.not-block | names.Unit ↦ c.in_default.not-unit | names.Times ↦ c.in_default.not-times | names.Every ↦ c.in_default.not-every | names.Call ↦ c.in_default.not-call | names.AtUnit ↦ c.in_default.not-at_unit | names.EveryUnit ↦ c.in_default.not-every_unit | names.DelayUnit ↦ c.in_default.not-delay_unit | names.FirstUnit ↦ c.in_default.not-first_unit | names.PeriodUnit ↦ c.in_default.not-period_unit ])

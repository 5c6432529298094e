use Rattle.toml.specs.View.{table_view}
use Rattle.plan_read.proofs.GivenKeys.{schedule_delay, rate_first, rate_period, fixed_first, fixed_delay, policy_which, policy_value}
use Rattle.plan_read.proofs.calls.read_op.Goals as goal

pub required_integer-requires : goal.required_integer-requires
required_integer-requires c = schedule_delay (table_view c.args.row.now.table.now) (rw c.in-Schedule.is at c.requires)

pub required_integer-requires-in-Rate : goal.required_integer-requires-in-Rate
required_integer-requires-in-Rate c = rate_first (table_view c.args.row.now.table.now) (rw c.in-Rate.is at c.requires)

pub required_integer-requires-in-Rate-2 : goal.required_integer-requires-in-Rate-2
required_integer-requires-in-Rate-2 c = rate_period (table_view c.args.row.now.table.now) (rw c.in-Rate.is at c.requires)

pub required_integer-requires-in-Fixed : goal.required_integer-requires-in-Fixed
required_integer-requires-in-Fixed c = fixed_first (table_view c.args.row.now.table.now) (rw c.in-Fixed.is at c.requires)

pub required_integer-requires-in-Fixed-2 : goal.required_integer-requires-in-Fixed-2
required_integer-requires-in-Fixed-2 c = fixed_delay (table_view c.args.row.now.table.now) (rw c.in-Fixed.is at c.requires)

pub read_policy-requires-clause-which : goal.read_policy-requires-clause-which
read_policy-requires-clause-which c = policy_which (table_view c.args.row.now.table.now) (rw c.in-Policy.is at c.requires)

pub read_policy-requires-clause-value : goal.read_policy-requires-clause-value
read_policy-requires-clause-value c = policy_value (table_view c.args.row.now.table.now) (rw c.in-Policy.is at c.requires)

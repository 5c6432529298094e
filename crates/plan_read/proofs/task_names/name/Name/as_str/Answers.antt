use Rattle.std.proofs.Common.{take}
use Rattle.plan_read.proofs.task_names.NameText.{name_utf8}
use Rattle.plan_read.proofs.task_names.name.Name.as_str.Goals as goal

pub unreachable-requires : goal.unreachable-requires
unreachable-requires c = c.in-Err.ensures.cases.0 (name_utf8 (take c.self.inside.len c.self.inside.bytes) c.self.invariant.1)

use Rattle.std.proofs.Common.{◌≡◌, ◌++◌, drop}
use Rattle.plan_read.specs.own.Rows.{standing}
use Rattle.plan_read.proofs.key_lists.standing.Given as goal

abbrev pub invariant-loop-key : goal.invariant-loop-key
invariant-loop-key g l = l.those.items ++ standing l.version l.role (drop l.key-index l.keys) ≡ standing l.version l.role l.keys
